-- The answer that tells a nonce: it can be sent, and its nonce is read back.
use Rattle.std.proofs.Common.{◌≡◌, ℕ, zero, suc, ◌+◌, ◌≤◌, ◌==◌, Bool, true, false, cond, List, [], ◌∷◌, length, codes, Some, None, option_and_then, refl, sym, ap, ◌∙◌, arith, length-append}
use Rattle.std.specs.Prelude.{Contains}
use Rattle.std.specs.List.{AllByRecursion}
use Rattle.std.proofs.lemmas.Bool.{cond-true, eq-eqb}
use Rattle.hex.specs.Hex.{lower_digits}
use Rattle.mode6_frame.specs.declared.items.Item.{Item}
use Rattle.mode6_frame.specs.declared.message.TheConstants.{MAX_BODY}
use Rattle.mode6_frame.specs.Groups.{is_tagged}
use Rattle.mode6_frame.specs.Items.{Quoted, Bare, is_name_octet, is_quoted_octet, quote, value_octets}
use Rattle.mode6_frame.specs.ItemTexts.{IsWritable, has_quotes, item_text, plain_text, written_value}
use Rattle.mode6_frame.specs.Readings.{items_read}
use Rattle.mode6_frame.proofs.CutLemmas.{length-plain_text}
use Rattle.mode6_frame.proofs.ItemLemmas.{all_pass}
use Rattle.mode6_frame.proofs.ReadingLemmas.{items_read_complete}
use Rattle.mode6_frame.proofs.WrittenLemmas.{IsItemText-plain, IsWritableValue-quotable}
use Rattle.mru_items.specs.declared.answer.TheConstants.{NONCE_OCTETS}
use Rattle.mru_items.specs.Answers.{nonce_in, nonce_told}
use Rattle.mru_items.specs.Names.{valued}
use Rattle.mru_items.proofs.BackLemmas.{names-pass}
use Rattle.mru_items.proofs.RoomLemmas.{digits-names}
use Rattle.mrulist_coverage.specs.Tellings.{IsNonce}

-- the item of a nonce
abbrev pub nonce_item : List ℕ → Item
nonce_item nonce = valued (codes "nonce") nonce

-- what passes for all of a list passes for each that it contains
pub passes_among : (test : ℕ → Bool) (digits : List ℕ) → AllByRecursion (λ digit. test digit ≡ true) digits → (octet : ℕ) → Contains digits octet → test octet ≡ true
passes_among test [] all octet (k, within, there) = absurd (omega arith)
passes_among test (digit ∷ digits) all octet (zero, within, there) = ap test (sym there) ∙ all.0
passes_among test (digit ∷ digits) all octet (suc k, within, there) = passes_among test digits all.1 octet (k, omega arith, there)

-- digits may stand in quotes
quoted_digits : (nonce : List ℕ) → AllByRecursion (λ digit. Contains lower_digits digit) nonce → AllByRecursion (λ octet. is_quoted_octet octet ≡ true) nonce
quoted_digits [] all = tt
quoted_digits (digit ∷ nonce) all =
    (passes_among is_quoted_octet lower_digits (all_pass is_quoted_octet lower_digits refl) digit all.0, quoted_digits nonce all.1)

-- the item of a nonce is read back
nonce-writable : (nonce : List ℕ) → IsNonce nonce → IsWritable (nonce_item nonce)
nonce-writable nonce is = record {
  some = omega arith;
  name = all_pass is_name_octet (codes "nonce") refl;
  value = IsWritableValue-quotable (codes "nonce") nonce refl (quoted_digits nonce is.digits);
  no_tag = λ same. absurd (cc same);
}

value_octets-most : (quoted : Bool) (value : List ℕ) → length (value_octets (cond quoted (Quoted value) (Bare value))) ≤ length value + 2
value_octets-most true value = omega (arith, length-append value (quote ∷ []))
value_octets-most false value = omega arith

-- the answer that tells a nonce fits into a datagram
pub nonce-short : (nonce : List ℕ) → IsNonce nonce → length (plain_text (nonce_item nonce ∷ [])) ≤ MAX_BODY
nonce-short nonce is =
    let octets = value_octets (written_value (codes "nonce") nonce) in
    let item : length (item_text (nonce_item nonce)) ≡ 6 + length octets = length-append (codes "nonce=") octets in
    omega (arith, length-plain_text (nonce_item nonce ∷ []), item, is.length_is, value_octets-most (has_quotes (codes "nonce") nonce) nonce)

-- it has no tag
pub nonce-untagged : (nonce : List ℕ) → is_tagged (plain_text (nonce_item nonce ∷ [])) ≡ false
nonce-untagged nonce = refl

-- the nonce of its one item
nonce_in-item : (nonce : List ℕ) → IsNonce nonce → nonce_in (nonce_item nonce ∷ []) ≡ Some nonce
unfolding nonce_in
nonce_in-item nonce is = rw (eq-eqb (length nonce) NONCE_OCTETS is.length_is, names-pass nonce (digits-names nonce is.digits)) refl

-- its nonce is the one that is read
pub nonce-told : (nonce : List ℕ) → IsNonce nonce → nonce_told (plain_text (nonce_item nonce ∷ [])) ≡ Some nonce
unfolding nonce_told
nonce-told nonce is =
    let items = nonce_item nonce ∷ [] in
    let read : items_read (plain_text items) ≡ Some items = items_read_complete (plain_text items) items (IsItemText-plain items (nonce-writable nonce is, tt)) in
    ap (option_and_then nonce_in) read ∙ nonce_in-item nonce is
