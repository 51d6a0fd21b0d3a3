use Rattle.std.proofs.Common.{◌≡◌, ◌+◌, ◌<◌, ◌^◌, ℕ, List, ◌∷◌, true, bytes_eq, codes, subst, sym, ◌∙◌, arith}
use Rattle.text_words.specs.Words.{begins_with}
use Rattle.conf_file.proofs.AddressLineLemmas.{flags_read, mask_bad, mask_missing, mask_read}
use Rattle.conf_file.proofs.restrict_lines.address_line.Goals as goal

is_mask : (all : List (List ℕ)) (word : List ℕ) (words : List (List ℕ)) → all ≡ word ∷ words → begins_with all (codes "mask") ≡ true → bytes_eq word (codes "mask") ≡ true
is_mask all word words cut begins =
    let P : List (List ℕ) → Type 0 = λ ws. begins_with ws (codes "mask") ≡ true in
    subst P cut begins

pub returns-then-not-is_next : goal.returns-then-not-is_next
returns-then-not-is_next c =
    flags_read c.args.number c.args.ip.now c.whole_of-whole.result c.args.words.now c.flags_line.result c.whole_of-whole.ensures (sym c.is_next.ensures ∙ c.if-not-is_next.true) c.flags_line.ensures

pub returns-in_default-next : goal.returns-in_default-next
returns-in_default-next c =
    let low : c.args.number + 1 < 2 ^ 32 = omega arith in
    mask_missing c.args.number c.args.ip.now c.whole_of-whole.result _ c.in-Some.field-0.now _ c.whole_of-whole.ensures c.in-Some.ensures.word
    (is_mask _ c.in-Some.field-0.now _ c.in-Some.ensures.word (sym c.is_next.ensures ∙ c.if-not-is_next.false)) c.in_default-next.ensures.ended low

pub returns-in_default-length_in : goal.returns-in_default-length_in
returns-in_default-length_in c =
    let low : c.args.number + 1 < 2 ^ 32 = omega arith in
    mask_bad c.args.number c.args.ip.now c.whole_of-whole.result _ c.in-Some.field-0.now _ c.in-Some-next.mask.now _ c.whole_of-whole.ensures c.in-Some.ensures.word
    (is_mask _ c.in-Some.field-0.now _ c.in-Some.ensures.word (sym c.is_next.ensures ∙ c.if-not-is_next.false)) c.in-Some-next.ensures.word c.in_default-length_in.ensures.only low

pub returns : goal.returns
returns c =
    mask_read c.args.number c.args.ip.now _ c.in-Some.field-0.now _ c.in-Some-next.mask.now _ c.in-Some-length_in.length c.prefix_of.result c.flags_line-2.result c.in-Some.ensures.word
    (is_mask _ c.in-Some.field-0.now _ c.in-Some.ensures.word (sym c.is_next.ensures ∙ c.if-not-is_next.false)) c.in-Some-next.ensures.word c.in-Some-length_in.ensures.found c.in-Some-length_in.ensures.only
    (record { same_ip = c.prefix_of.ensures.ip; same_length = c.prefix_of.ensures.length }) c.flags_line-2.ensures
