-- The first word of a line.
use Rattle.std.proofs.Common.{◌≡◌, ℕ, suc, ◌+◌, ◌<◌, ◌≤◌, length-take-le, subst, Bool, true, false, List, [], ◌∷◌, length, take, drop, filter, refl, sym, ap, ◌∙◌, arith, inl, inr, ◌⊎◌}
use Rattle.std.specs.List.{prefix_len, before_first, slice_split, onto_first}
use Rattle.std.proofs.lemmas.Bool.Decides.{nat_tests}
use Rattle.text_words.specs.Words.{words_of, is_blank, is_number_sign, is_word_octet, is_some_octets}

-- the parts between the blanks before the first number sign
abbrev pub parts_of : List ℕ → List (List ℕ)
parts_of line = slice_split is_blank (before_first is_number_sign line)

one_more : (n : ℕ) → 1 + n ≡ suc n
one_more n = omega arith

-- an octet other than a number sign stands before the first of them
before_sign : (x : ℕ) (xs : List ℕ) → is_number_sign x ≡ false → before_first is_number_sign (x ∷ xs) ≡ x ∷ before_first is_number_sign xs
before_sign x xs sign = rw sign (ap (λ n. take n (x ∷ xs)) (one_more _))

-- a blank adds an empty part
parts_of-blank : (x : ℕ) (xs : List ℕ) → is_blank x ≡ true → is_number_sign x ≡ false → parts_of (x ∷ xs) ≡ [] ∷ parts_of xs
parts_of-blank x xs blank sign = ap (slice_split is_blank) (before_sign x xs sign) ∙ rw blank refl

-- a number sign ends the parts
parts_of-sign : (x : ℕ) (xs : List ℕ) → is_number_sign x ≡ true → parts_of (x ∷ xs) ≡ [] ∷ []
parts_of-sign x xs sign = rw sign refl

-- an octet of a word stands in front of the first part
parts_of-octet : (x : ℕ) (xs : List ℕ) → is_blank x ≡ false → is_number_sign x ≡ false → parts_of (x ∷ xs) ≡ onto_first x (parts_of xs)
parts_of-octet x xs blank sign = ap (slice_split is_blank) (before_sign x xs sign) ∙ rw blank refl

-- the first part is a word or empty; the words behind it are those of what follows it
record IsFirstPart (line : List ℕ) (len : ℕ) : Type 0 where
  behind : List (List ℕ)
  parts : parts_of line ≡ take len line ∷ behind
  words : filter is_some_octets behind ≡ words_of (drop len line)

no_octet : (x : ℕ) (xs : List ℕ) → is_word_octet x ≡ false → prefix_len is_word_octet (x ∷ xs) ≡ 0
no_octet x xs other = rw other refl

one_octet : (x : ℕ) (xs : List ℕ) → is_word_octet x ≡ true → prefix_len is_word_octet (x ∷ xs) ≡ suc (prefix_len is_word_octet xs)
one_octet x xs is = rw is (one_more _)

first_at_blank : (x : ℕ) (xs : List ℕ) → is_blank x ≡ true → is_number_sign x ≡ false → IsFirstPart (x ∷ xs) 0
first_at_blank x xs blank sign = record {
  behind = parts_of xs;
  parts = parts_of-blank x xs blank sign;
  words = sym (ap (filter is_some_octets) (parts_of-blank x xs blank sign));
}

first_at_sign : (x : ℕ) (xs : List ℕ) → is_number_sign x ≡ true → IsFirstPart (x ∷ xs) 0
first_at_sign x xs sign = record {
  behind = [];
  parts = parts_of-sign x xs sign;
  words = sym (ap (filter is_some_octets) (parts_of-sign x xs sign));
}

first_at_octet : (x : ℕ) (xs : List ℕ) (len : ℕ) → is_blank x ≡ false → is_number_sign x ≡ false → IsFirstPart xs len → IsFirstPart (x ∷ xs) (suc len)
first_at_octet x xs len blank sign first = record {
  behind = first.behind;
  parts = parts_of-octet x xs blank sign ∙ ap (onto_first x) first.parts;
  words = first.words;
}

cases_of : (b : Bool) → (b ≡ true) ⊎ (b ≡ false)
cases_of true = inl refl
cases_of false = inr refl

blank_is_no_sign : (x : ℕ) → is_blank x ≡ true → is_number_sign x ≡ false
blank_is_no_sign x blank = grind (arith, nat_tests)

-- a line begins with a part as long as the octets of a word are
first_part : (line : List ℕ) → IsFirstPart line (prefix_len is_word_octet line)
first_part [] = record { behind = []; parts = refl; words = refl }
first_part (x ∷ xs) =
    elim (cases_of (is_blank x)) as (λ _. IsFirstPart (x ∷ xs) (prefix_len is_word_octet (x ∷ xs))) [
      | inl blank ↦
          let sign = blank_is_no_sign x blank in
          let other : is_word_octet x ≡ false = rw blank refl in
          subst (IsFirstPart (x ∷ xs)) (sym (no_octet x xs other)) (first_at_blank x xs blank sign)
      | inr blank ↦ elim (cases_of (is_number_sign x)) as (λ _. IsFirstPart (x ∷ xs) (prefix_len is_word_octet (x ∷ xs))) [
        | inl sign ↦
            let other : is_word_octet x ≡ false = rw (blank, sign) refl in
            subst (IsFirstPart (x ∷ xs)) (sym (no_octet x xs other)) (first_at_sign x xs sign)
        | inr sign ↦
            let is : is_word_octet x ≡ true = rw (blank, sign) refl in
            subst (IsFirstPart (x ∷ xs)) (sym (one_octet x xs is)) (first_at_octet x xs (prefix_len is_word_octet xs) blank sign (first_part xs))
      ]
    ]

-- blanks at the beginning of a line change no words
pub words_of-past_blanks : (line : List ℕ) → words_of (drop (prefix_len is_blank line) line) ≡ words_of line
words_of-past_blanks [] = refl
words_of-past_blanks (x ∷ xs) =
    elim (cases_of (is_blank x)) as (λ _. words_of (drop (prefix_len is_blank (x ∷ xs)) (x ∷ xs)) ≡ words_of (x ∷ xs)) [
      | inl blank ↦
          let sign = blank_is_no_sign x blank in
          let skip : prefix_len is_blank (x ∷ xs) ≡ suc (prefix_len is_blank xs) = rw blank (one_more _) in
          ap (λ n. words_of (drop n (x ∷ xs))) skip ∙ words_of-past_blanks xs ∙ sym (ap (filter is_some_octets) (parts_of-blank x xs blank sign))
      | inr blank ↦
          let skip : prefix_len is_blank (x ∷ xs) ≡ 0 = rw blank refl in
          ap (λ n. words_of (drop n (x ∷ xs))) skip
    ]

-- the first word is that long, where there is one
pub words_of-first : (line : List ℕ) (len : ℕ) → len ≡ prefix_len is_word_octet line → 0 < len → len ≤ length line → words_of line ≡ take len line ∷ words_of (drop len line)
words_of-first line len long some within =
    let first : IsFirstPart line len = subst (IsFirstPart line) (sym long) (first_part line) in
    let kept : is_some_octets (take len line) ≡ true = grind (arith, nat_tests, length-take-le) in
    ap (filter is_some_octets) first.parts ∙ rw (kept, first.words) refl

-- where a line begins neither with a blank nor with an octet of a word, it has no words
pub words_of-none : (line : List ℕ) → prefix_len is_word_octet (drop (prefix_len is_blank line) line) ≡ 0 → words_of line ≡ []
words_of-none [] none = refl
words_of-none (x ∷ xs) none =
    elim (cases_of (is_blank x)) as (λ _. words_of (x ∷ xs) ≡ []) [
      | inl blank ↦
          let sign = blank_is_no_sign x blank in
          let skip : prefix_len is_blank (x ∷ xs) ≡ suc (prefix_len is_blank xs) = rw blank (one_more _) in
          let deeper : prefix_len is_word_octet (drop (prefix_len is_blank xs) xs) ≡ 0 = sym (ap (λ n. prefix_len is_word_octet (drop n (x ∷ xs))) skip) ∙ none in
          ap (filter is_some_octets) (parts_of-blank x xs blank sign) ∙ words_of-none xs deeper
      | inr blank ↦ elim (cases_of (is_number_sign x)) as (λ _. words_of (x ∷ xs) ≡ []) [
        | inl sign ↦ ap (filter is_some_octets) (parts_of-sign x xs sign)
        | inr sign ↦
            let skip : prefix_len is_blank (x ∷ xs) ≡ 0 = rw blank refl in
            let here : prefix_len is_word_octet (x ∷ xs) ≡ 0 = sym (ap (λ n. prefix_len is_word_octet (drop n (x ∷ xs))) skip) ∙ none in
            let is : is_word_octet x ≡ true = rw (blank, sign) refl in
            absurd (omega (arith, one_octet x xs is, here))
      ]
    ]

-- the next word, as a line is cut after its blanks and then after the octets of a word
pub next_word : (line text word rest : List ℕ) (blanks len : ℕ) → blanks ≡ prefix_len is_blank line → text ≡ drop blanks line → len ≡ prefix_len is_word_octet text
    → word ≡ take len text → rest ≡ drop len text → 0 < len → len ≤ length text → words_of line ≡ word ∷ words_of rest
next_word line text word rest blanks len skipped cut long front back some within =
    let same : words_of line ≡ words_of text = sym (words_of-past_blanks line) ∙ ap (λ n. words_of (drop n line)) (sym skipped) ∙ ap words_of (sym cut) in
    same ∙ words_of-first text len long some within ∙ rw (front, back) refl

-- no word is left where none stands after the blanks
pub no_word : (line text rest : List ℕ) (blanks len : ℕ) → blanks ≡ prefix_len is_blank line → text ≡ drop blanks line → len ≡ prefix_len is_word_octet text
    → rest ≡ drop len text → len ≡ 0 → (words_of line ≡ []) × (words_of rest ≡ [])
no_word line text rest blanks len skipped cut long back none =
    let here : prefix_len is_word_octet (drop (prefix_len is_blank line) line) ≡ 0 = ap (λ n. prefix_len is_word_octet (drop n line)) (sym skipped) ∙ ap (prefix_len is_word_octet) (sym cut) ∙ sym long ∙ none in
    let ended : words_of line ≡ [] = words_of-none line here in
    let same : words_of line ≡ words_of text = sym (words_of-past_blanks line) ∙ ap (λ n. words_of (drop n line)) (sym skipped) ∙ ap words_of (sym cut) in
    let whole : rest ≡ text = back ∙ ap (λ n. drop n text) none in
    (ended, ap words_of whole ∙ sym same ∙ ended)
