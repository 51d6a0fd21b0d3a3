-- The items that are written are read back, and each fits into a datagram.
use Rattle.std.proofs.Common.{◌≡◌, ◌≢◌, inl, inr, ℕ, suc, ◌+◌, ◌<◌, ◌≤◌, ◌^◌, true, false, Option, Some, None, List, [], ◌∷◌, ◌++◌, length, decimal, bytes_eq, refl, arith, length-append, Contains}
use Rattle.std.specs.List.{AllByRecursion, list_all}
use Rattle.std.specs.Net.Text.{hex}
use Rattle.std.specs.Prelude.{codes}
use Rattle.std.proofs.lemmas.Bool.{and_parts, both_ways, cases_eq, ne_eqb}
use Rattle.std.proofs.lemmas.Fmt.{length-decimal-le}
use Rattle.std.proofs.lemmas.Slice.Eq.{bytes_eq-Decides}
use Rattle.hex.specs.Hex.{lower_digits}
use Rattle.mode6_frame.specs.Cuts.{AreShort}
use Rattle.mode6_frame.specs.Items.{AreNameOctets, is_name_octet}
use Rattle.mode6_frame.specs.ItemTexts.{IsWritable, item_text}
use Rattle.mode6_frame.specs.Stamps.{stamp_text}
use Rattle.mode6_frame.specs.declared.items.Item.{Item}
use Rattle.net_addr.specs.Spelling.{IsAddr, text_of}
use Rattle.mru_items.specs.Answers.{IsAnswer, IsOlder, IsShownRow, answer_items, older_items, row_items, rows_items, time_items}
use Rattle.mru_items.specs.Names.{numbered, valued}
use Rattle.mru_items.specs.Queries.{IsLimit, IsQuery, limit_items, mask_items, mincount_items, pair_items, read_of, request_items}
use Rattle.mru_items.specs.Values.{flags_text, mask_text}
use Rattle.mru_items.specs.declared.answer.PageAnswer.{PageAnswer}
use Rattle.mru_items.specs.declared.pair.Pair.{Pair}
use Rattle.mru_items.specs.declared.query.Query.{Query}
use Rattle.mru_items.specs.declared.shown.ShownRow.{ShownRow}
use Rattle.mru_items.proofs.LenLemmas.{length-numbered, width-plain}
use Rattle.mru_items.proofs.RoomLemmas.{digits-names, length-hex, length-text_of}
use Rattle.mru_items.proofs.TextLemmas.{addr-names, decimal-names, flags-names, length-mask_text, length-stamp_text, mask-names, names-append, stamp-names, writable-plain}

-- an item that is read back, and fits
pub record IsGood (item : Item) : Type 0 where
  pub writable : IsWritable item
  pub short : length (item_text item) ≤ 440

-- items that are
abbrev pub AreGood : List Item → Type 0
AreGood = AllByRecursion IsGood

-- octets that pass the test of names are octets of names
names-test : (octets : List ℕ) → list_all is_name_octet octets ≡ true → AreNameOctets octets
names-test [] all = tt
names-test (x ∷ octets) all = ((and_parts _ _ all).0, names-test octets (and_parts _ _ all).1)

-- names that a test tells apart differ
differ : (one other : List ℕ) → bytes_eq one other ≡ false → one ≢ other
differ one other apart same = both_ways _ apart ((bytes_eq-Decides one other).1 same)

-- a plain item is
good-plain : (name value : List ℕ) → 0 < length name → AreNameOctets name → bytes_eq name (codes "resp") ≡ false → AreNameOctets value
    → length name + length value ≤ 400 → IsGood (valued name value)
good-plain name value some names other are few = record {
  writable = writable-plain name value some names (differ name (codes "resp") other) are;
  short = let width = width-plain name value are in omega (arith, width, few);
}

-- so is one with a numbered name
good-numbered : (word value : List ℕ) (number : ℕ) → number < 2 ^ 64 → list_all is_name_octet (word ++ codes ".") ≡ true → length word ≤ 5
    → bytes_eq (numbered word number) (codes "resp") ≡ false → AreNameOctets value → length value ≤ 60 → IsGood (valued (numbered word number) value)
good-numbered word value number fits test few other are short =
    let digits = length-decimal-le 20 number (omega arith) (omega (arith, fits)) fits in
    let long = length-numbered word number in
    good-plain (numbered word number) value (omega (arith, long)) (names-append (word ++ codes ".") (decimal number) (names-test (word ++ codes ".") test) (decimal-names number fits))
    other are (omega (arith, long, digits, few, short))

-- the values
good-decimal : (name : List ℕ) (number : ℕ) → 0 < length name → length name ≤ 20 → list_all is_name_octet name ≡ true → bytes_eq name (codes "resp") ≡ false → number < 2 ^ 32
    → IsGood (valued name (decimal number))
good-decimal name number some few test other fits =
    let digits = length-decimal-le 10 number (omega arith) (omega (arith, fits)) (omega (arith, fits)) in
    good-plain name (decimal number) some (names-test name test) other (decimal-names number (omega (arith, fits))) (omega (arith, digits, few))

-- times and addresses
good-stamp : (name : List ℕ) (time : ℕ) → 0 < length name → length name ≤ 20 → list_all is_name_octet name ≡ true → bytes_eq name (codes "resp") ≡ false
    → IsGood (valued name (stamp_text time))
good-stamp name time some few test other =
    good-plain name (stamp_text time) some (names-test name test) other (stamp-names time) (omega (arith, few, length-stamp_text time))

-- items and more of them
good-append : (items more : List Item) → AreGood items → AreGood more → AreGood (items ++ more)
good-append [] more first second = second
good-append (item ∷ items) more first second = (first.0, good-append items more first.1 second)

-- the items of a client
good-older : (older : Option Pair) → IsOlder older → AreGood (older_items older)
good-older None is = tt
good-older (Some pair) is = (
  good-plain (codes "addr.older") (text_of pair.addr) (omega arith) (names-test (codes "addr.older") refl) refl (addr-names pair.addr is.0)
      (let long = length-text_of pair.addr is.0 in omega (arith, long)),
  (good-stamp (codes "last.older") pair.last (omega arith) (omega arith) refl refl, tt),
)

-- the item of a time
good-time : (name : List ℕ) (time : Option ℕ) → 0 < length name → length name ≤ 20 → list_all is_name_octet name ≡ true → bytes_eq name (codes "resp") ≡ false
    → AreGood (time_items name time)
good-time name None some few test other = tt
good-time name (Some time) some few test other = (good-stamp name time some few test other, tt)

-- the text of flags is short
length-flags : (flags : ℕ) → length (flags_text flags) ≤ 6
length-flags flags = omega (arith, length-hex flags, length-append (codes "0x") (hex flags))

-- the items of a row
good-row : (number : ℕ) (row : ShownRow) → number < 2 ^ 64 → IsShownRow row → AreGood (row_items number row)
good-row number row fits is =
    let addr = length-text_of row.addr is.addr in
    let count = length-decimal-le 10 row.count (omega arith) (omega (arith, is.count)) (omega (arith, is.count)) in
    let mv = length-decimal-le 3 row.mv (omega arith) (omega (arith, is.mv)) (omega (arith, is.mv)) in
    let flags = length-flags row.flags in (
      good-numbered (codes "addr") (text_of row.addr) number fits refl (omega arith) refl (addr-names row.addr is.addr) (omega (arith, addr)),
      (
        good-numbered (codes "last") (stamp_text row.last) number fits refl (omega arith) refl (stamp-names row.last) (omega (arith, length-stamp_text row.last)),
        (
          good-numbered (codes "first") (stamp_text row.first) number fits refl (omega arith) refl (stamp-names row.first) (omega (arith, length-stamp_text row.first)),
          (
            good-numbered (codes "ct") (decimal row.count) number fits refl (omega arith) refl (decimal-names row.count (omega (arith, is.count))) (omega (arith, count)),
            (
              good-numbered (codes "mv") (decimal row.mv) number fits refl (omega arith) refl (decimal-names row.mv (omega (arith, is.mv))) (omega (arith, mv)),
              (good-numbered (codes "rs") (flags_text row.flags) number fits refl (omega arith) refl (flags-names row.flags is.flags) (omega (arith, flags)), tt),
            ),
          ),
        ),
      ),
    )

-- and of rows
good-rows : (number : ℕ) (rows : List ShownRow) → number + length rows ≤ 2 ^ 64 → AllByRecursion IsShownRow rows → AreGood (rows_items number rows)
good-rows number [] fits are = tt
good-rows number (row ∷ rows) fits are =
    good-append (row_items number row) (rows_items (suc number) rows) (good-row number row (omega (arith, fits)) are.0) (good-rows (suc number) rows (omega (arith, fits)) are.1)

-- the item of a nonce
good-nonce : (nonce : List ℕ) → length nonce ≡ 24 → AllByRecursion (Contains lower_digits) nonce → IsGood (valued (codes "nonce") nonce)
good-nonce nonce long digits = good-plain (codes "nonce") nonce (omega arith) (names-test (codes "nonce") refl) refl (digits-names nonce digits) (omega (arith, long))

-- the items of an answer
pub good-answer : (answer : PageAnswer) → IsAnswer answer → length answer.rows < 2 ^ 64 → AllByRecursion (Contains lower_digits) answer.nonce → AreGood (answer_items answer)
unfolding answer_items
good-answer answer is few digits =
    let n = valued (codes "nonce") answer.nonce ∷ [] in
    let o = older_items answer.older in
    let r = rows_items 0 answer.rows in
    let e = time_items (codes "now") answer.ended in
    let w = time_items (codes "last.newest") answer.newest in
    good-append (n ++ o ++ r ++ e) w
    (good-append (n ++ o ++ r) e
    (good-append (n ++ o) r (good-append n o (good-nonce answer.nonce is.nonce digits, tt) (good-older answer.older is.older)) (good-rows 0 answer.rows (omega (arith, few)) is.rows))
    (good-time (codes "now") answer.ended (omega arith) (omega arith) refl refl))
    (good-time (codes "last.newest") answer.newest (omega arith) (omega arith) refl refl)

-- good items are read back
pub good-writable : (items : List Item) → AreGood items → AllByRecursion IsWritable items
good-writable [] are = tt
good-writable (item ∷ items) are = (are.0.writable, good-writable items are.1)

-- and fit
pub good-short : (items : List Item) → AreGood items → AreShort items
good-short [] are = tt
good-short (item ∷ items) are = (are.0.short, good-short items are.1)

-- the items of pairs
good-pairs : (number : ℕ) (pairs : List Pair) → number + length pairs ≤ 2 ^ 64 → AllByRecursion (λ pair. IsAddr pair.addr) pairs → AreGood (pair_items number pairs)
good-pairs number [] fits are = tt
good-pairs number (pair ∷ pairs) fits are =
    let addr = length-text_of pair.addr are.0 in (
      good-numbered (codes "addr") (text_of pair.addr) number (omega (arith, fits)) refl (omega arith) refl (addr-names pair.addr are.0) (omega (arith, addr)),
      (
        good-numbered (codes "last") (stamp_text pair.last) number (omega (arith, fits)) refl (omega arith) refl (stamp-names pair.last) (omega (arith, length-stamp_text pair.last)),
        good-pairs (suc number) pairs (omega (arith, fits)) are.1,
      ),
    )

-- the item of a limit
good-limit : (limit : Option ℕ) → IsLimit limit → AreGood (limit_items limit)
good-limit None is = tt
good-limit (Some limit) is = (good-decimal (codes "limit") limit (omega arith) (omega arith) refl refl (omega (arith, is.1)), tt)

-- that of a least count
good-mincount : (mincount : ℕ) → mincount < 2 ^ 32 → AreGood (mincount_items mincount)
good-mincount mincount fits =
    elim (cases_eq mincount 1) [
      | inl same ↦ rw same tt
      | inr other ↦ rw (ne_eqb mincount 1 other) (good-decimal (codes "mincount") mincount (omega arith) (omega arith) refl refl fits, tt)
    ]

-- that of a mask
good-mask : (name : List ℕ) (mask : ℕ) → 0 < length name → length name ≤ 20 → list_all is_name_octet name ≡ true → bytes_eq name (codes "resp") ≡ false → AreGood (mask_items name mask)
good-mask name mask some few test other =
    elim (cases_eq mask 0) [
      | inl same ↦ rw same tt
      | inr differs ↦
          rw (ne_eqb mask 0 differs)
          (good-plain name (mask_text mask) some (names-test name test) other (mask-names mask) (omega (arith, few, length-mask_text mask)), tt)
    ]

-- the items of a read
pub good-request : (nonce : List ℕ) (query : Query) (pairs : List Pair) → length nonce ≡ 24 → AllByRecursion (Contains lower_digits) nonce → IsQuery query
    → length pairs ≤ 16 → AllByRecursion (λ pair. IsAddr pair.addr) pairs → AreGood (request_items nonce (read_of query pairs))
unfolding request_items
good-request nonce query pairs long digits is few are =
    let h = valued (codes "nonce") nonce ∷ valued (codes "frags") (decimal query.frags) ∷ [] in
    let l = limit_items query.limit in
    let m = mincount_items query.filter.mincount in
    let a = mask_items (codes "resall") query.filter.resall in
    let b = mask_items (codes "resany") query.filter.resany in
    let p = pair_items 0 pairs in
    let head : AreGood h = (good-nonce nonce long digits, (good-decimal (codes "frags") query.frags (omega arith) (omega arith) refl refl (omega (arith, is.most)), tt)) in
    good-append (h ++ l ++ m ++ a ++ b) p
    (good-append (h ++ l ++ m ++ a) b
    (good-append (h ++ l ++ m) a
    (good-append (h ++ l) m (good-append h l head (good-limit query.limit is.limit)) (good-mincount query.filter.mincount is.mincount_fits))
    (good-mask (codes "resall") query.filter.resall (omega arith) (omega arith) refl refl))
    (good-mask (codes "resany") query.filter.resany (omega arith) (omega arith) refl refl))
    (good-pairs 0 pairs (omega (arith, few)) are)
