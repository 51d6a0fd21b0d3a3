-- Parts of a text, and what their octets pass where a reader stops.
use Rattle.std.proofs.Common.{◌≡◌, ℕ, zero, suc, ◌+◌, ◌-◌, ◌<◌, ◌≤◌, ◌==◌, Bool, true, false, cond, List, [], ◌∷◌, ◌++◌, length, take, drop, slice_index, refl, sym, ap, subst, ◌∙◌, take-add, length-take, length-drop, length-append, arith}
use Rattle.std.proofs.lemmas.List.{drop-drop, drop_more, take_more, get_or-drop, same_from_push}
use Rattle.std.proofs.lemmas.Bool.{both_ways, eqb-true}
use Rattle.std.specs.List.{AllByRecursion, prefix_len}
use Rattle.mode6_frame.specs.Items.{is_white, AreWhite, IsTrimmed}
use Rattle.mode6_frame.specs.ItemReader.{part, is_octet_at, IsTrimmedAt}

-- the first of the octets, if there is one, does not pass
abbrev pub FirstFails : (ℕ → Bool) → List ℕ → Type 0
FirstFails p [] = Unit {0}
FirstFails p (x ∷ xs) = p x ≡ false

-- what passes, and what comes next
passes-prefix : (p : ℕ → Bool) (xs : List ℕ) → AllByRecursion (λ x. p x ≡ true) (take (prefix_len p xs) xs) × FirstFails p (drop (prefix_len p xs) xs)
passes-prefix p [] = (tt, tt)
passes-prefix p (x ∷ xs) =
    let Split : ℕ → Type 0 = λ n. AllByRecursion (λ y. p y ≡ true) (take n (x ∷ xs)) × FirstFails p (drop n (x ∷ xs)) in
    let one_more : suc (prefix_len p xs) ≡ 1 + prefix_len p xs = omega arith in
    let by : (b : Bool) → p x ≡ b → Split (cond b (1 + prefix_len p xs) 0) =
    λ b. elim b as (λ v. p x ≡ v → Split (cond v (1 + prefix_len p xs) 0)) [
      | true ↦ λ is. subst Split one_more ((is, (passes-prefix p xs).0), (passes-prefix p xs).1)
      | false ↦ λ is. (tt, is)
    ] in
    by (p x) refl

-- the same from a place on
pub passes-part : (p : ℕ → Bool) (text : List ℕ) (at end : ℕ) → end ≡ at + prefix_len p (drop at text)
    → AllByRecursion (λ x. p x ≡ true) (part text at end) × FirstFails p (drop end text)
passes-part p text at end is =
    let split = passes-prefix p (drop at text) in
    let len : prefix_len p (drop at text) ≡ end - at = omega arith in
    let rest : drop (prefix_len p (drop at text)) (drop at text) ≡ drop end text =
    drop-drop (prefix_len p (drop at text)) at text ∙ ap (λ i. drop i text) (sym is) in (
      subst (λ n. AllByRecursion (λ x. p x ≡ true) (take n (drop at text))) len split.0,
      subst (FirstFails p) rest split.1,
    )

-- two parts of a text, end to end
pub part-then : (text : List ℕ) (at mid end : ℕ) → at ≤ mid → mid ≤ end → part text at end ≡ part text at mid ++ part text mid end
part-then text at mid end below above =
    let len : end - at ≡ (mid - at) + (end - mid) = omega arith in
    let there : at + (mid - at) ≡ mid = omega arith in
    ap (λ n. take n (drop at text)) len
    ∙ take-add (mid - at) (end - mid) (drop at text)
    ∙ ap (λ xs. take (mid - at) (drop at text) ++ take (end - mid) xs) (drop-drop (mid - at) at text ∙ ap (λ i. drop i text) there)

-- how many octets a part has
pub length-part : (text : List ℕ) (at end : ℕ) → end ≤ length text → length (part text at end) ≡ end - at
length-part text at end within = omega (arith, length-take (end - at) (drop at text), length-drop at text)

-- the first octet, where it is this one
first-octet : (wanted : ℕ) (xs : List ℕ) → is_octet_at wanted xs ≡ true → (0 < length xs) × (take 1 xs ≡ wanted ∷ [])
first-octet wanted [] is = absurd cc
first-octet wanted (x ∷ xs) is = (omega arith, ap (λ y. y ∷ []) (eqb-true x wanted is))

-- the part of one octet, where it is this one
pub part-octet : (wanted : ℕ) (text : List ℕ) (at : ℕ) → is_octet_at wanted (drop at text) ≡ true → (at < length text) × (part text at (at + 1) ≡ wanted ∷ [])
part-octet wanted text at is =
    let first = first-octet wanted (drop at text) is in
    let one : at + 1 - at ≡ 1 = omega arith in
    (omega (arith, first.0, length-drop at text), ap (λ n. take n (drop at text)) one ∙ first.1)

-- the first octet is another
pub FirstFails-other : (wanted : ℕ) (xs : List ℕ) → is_octet_at wanted xs ≡ false → FirstFails (λ x. x == wanted) xs
FirstFails-other wanted [] is = tt
FirstFails-other wanted (x ∷ xs) is = is

-- none pass where the first fails
none_pass : (p : ℕ → Bool) (n : ℕ) (xs : List ℕ) → AllByRecursion (λ x. p x ≡ true) (take n xs) → FirstFails p xs → n ≤ length xs → n ≡ 0
none_pass p zero xs all fails within = refl
none_pass p (suc n) [] all fails within = absurd (omega arith)
none_pass p (suc n) (x ∷ xs) all fails within = absurd (both_ways (p x) fails all.0)

-- so a part whose octets pass is empty where the first fails
pub part-none : (p : ℕ → Bool) (text : List ℕ) (at end : ℕ) → at ≤ end → end ≤ length text → AllByRecursion (λ x. p x ≡ true) (part text at end) → FirstFails p (drop at text) → end ≡ at
part-none p text at end below within all fails =
    let none = none_pass p (end - at) (drop at text) all fails (omega (arith, length-drop at text)) in
    omega (arith, none)

-- the first octet of a front fails where that of the whole does
FirstFails-taken : (p : ℕ → Bool) (n : ℕ) (xs : List ℕ) (octet : ℕ) (rest : List ℕ) → take n xs ≡ octet ∷ rest → FirstFails p xs → p octet ≡ false
FirstFails-taken p zero xs octet rest is fails = absurd cc
FirstFails-taken p (suc n) [] octet rest is fails = absurd cc
FirstFails-taken p (suc n) (x ∷ xs) octet rest is fails =
    let same : x ≡ octet = cc in
    subst (λ y. p y ≡ false) same fails

-- the last octet of a part
last-part : (text : List ℕ) (begin end : ℕ) (before : List ℕ) (last : ℕ) → end ≤ length text → part text begin end ≡ before ++ last ∷ []
    → (begin < end) × (last ≡ slice_index text (end - 1))
last-part text begin end before last within is =
    let long : begin < end = omega (arith, length-part text begin end within, ap length is, length-append before (last ∷ [])) in
    let more : end - begin ≡ (end - 1 - begin) + 1 = omega arith in
    let there : begin + (end - 1 - begin) ≡ end - 1 = omega arith in
    let pushed = ap (λ n. take n (drop begin text)) (sym more) ∙ is in
    let cut = sym (take_more (drop begin text) (end - 1 - begin) 0 (omega (arith, length-drop begin text))) ∙ pushed in (
      long,
      sym (same_from_push _ before _ last cut).1 ∙ get_or-drop begin text (end - 1 - begin) 0 ∙ ap (slice_index text) there,
    )

-- what is trimmed has no white space at its ends
pub IsTrimmed-part : (text : List ℕ) (begin cut end : ℕ) → IsTrimmedAt text begin cut end → end ≤ length text → FirstFails is_white (drop begin text) → IsTrimmed (part text begin cut)
IsTrimmed-part text begin cut end trimmed within fails = record {
  begins = λ octet behind is. FirstFails-taken is_white (cut - begin) (drop begin text) octet behind is fails;
  ends = λ before octet is.
      let last = last-part text begin cut before octet (omega (arith, trimmed.within)) is in
      subst (λ x. is_white x ≡ false) (sym last.1) (trimmed.visible last.0);
}

-- one more octet of white space
pub AreWhite-before : (text : List ℕ) (cut end : ℕ) → 0 < cut → cut ≤ end → end ≤ length text → is_white (slice_index text (cut - 1)) ≡ true → AreWhite (part text cut end)
    → AreWhite (part text (cut - 1) end)
AreWhite-before text cut end some below within is are =
    let here : drop (cut - 1) text ≡ slice_index text (cut - 1) ∷ drop (cut - 1 + 1) text = drop_more text (cut - 1) 0 (omega arith) in
    let back : cut - 1 + 1 ≡ cut = omega arith in
    let len : end - (cut - 1) ≡ suc (end - cut) = omega arith in
    let spelled : part text (cut - 1) end ≡ slice_index text (cut - 1) ∷ part text cut end =
    ap (λ xs. take (end - (cut - 1)) xs) here
    ∙ ap (λ n. take n (slice_index text (cut - 1) ∷ drop (cut - 1 + 1) text)) len
    ∙ ap (λ i. slice_index text (cut - 1) ∷ take (end - cut) (drop i text)) back in
    subst AreWhite (sym spelled) (is, are)
