-- The first line of a text.
use Rattle.std.proofs.Common.{◌≡◌, ℕ, ◌+◌, ◌<◌, ◌≤◌, Bool, true, false, not, List, [], ◌∷◌, length, length-drop, take_all, drop-drop, take, drop, refl, sym, ap, ◌∙◌, arith, inl, inr, ◌⊎◌}
use Rattle.std.specs.List.{position_or_len, before_first, after_first, slice_split, onto_first}
use Rattle.std.proofs.lemmas.List.Splits.{slice_split_first, slice_split_none}
use Rattle.std.proofs.lemmas.List.Sums.{prefix_len_passes}
use Rattle.text_words.specs.Lines.{lines_of, ended_by_line_feeds, is_line_feed, without_return}

-- there is a first part
abbrev IsCut : List ℕ → Type 0
IsCut text = (part : List ℕ) × (parts : List (List ℕ)) × (slice_split is_line_feed text ≡ part ∷ parts)

onto_cut : (x : ℕ) (xs : List ℕ) → IsCut xs → IsCut (x ∷ xs)
onto_cut x xs (part, parts, is) =
    elim (cases_of (is_line_feed x)) as (λ _. IsCut (x ∷ xs)) [
      | inl feed ↦ ([], slice_split is_line_feed xs, rw feed refl)
      | inr other ↦ (x ∷ part, parts, rw other (ap (onto_first x) is))
    ]
  where
    cases_of : (b : Bool) → (b ≡ true) ⊎ (b ≡ false)
    cases_of true = inl refl
    cases_of false = inr refl

is_cut : (text : List ℕ) → IsCut text
is_cut [] = ([], [], refl)
is_cut (x ∷ xs) = onto_cut x xs (is_cut xs)

-- a line that a line feed ends comes first
pub lines_of-first : (text : List ℕ) → position_or_len is_line_feed text < length text
    → lines_of text ≡ without_return (before_first is_line_feed text) ∷ lines_of (after_first is_line_feed text)
lines_of-first text within =
    let (part, parts, is) = is_cut (after_first is_line_feed text) in
    let cut = slice_split_first is_line_feed text 0 within in
    ap ended_by_line_feeds (cut ∙ ap (λ rest. before_first is_line_feed text ∷ rest) is) ∙ sym (ap (λ rest. without_return (before_first is_line_feed text) ∷ ended_by_line_feeds rest) is)

fails : (b : Bool) → not b ≡ true → b ≡ false
fails true test = cc
fails false test = refl

-- without a line feed, the text is one line
pub lines_of-last : (text : List ℕ) → position_or_len is_line_feed text ≡ length text → lines_of text ≡ text ∷ []
lines_of-last text whole =
    let one_part : slice_split is_line_feed text ≡ text ∷ [] =
    slice_split_none is_line_feed text (λ k d within. fails _ (prefix_len_passes (λ (x : ℕ). not (is_line_feed x)) text k d (omega arith))) in
    ap ended_by_line_feeds one_part

-- the next line, as a text is cut before and after its first line feed
pub next_line : (text line rest behind : List ℕ) (len first : ℕ) → len ≡ position_or_len is_line_feed text → line ≡ take len text → rest ≡ drop len text → rest ≡ first ∷ behind
    → lines_of text ≡ without_return line ∷ lines_of behind
next_line text line rest behind len first long front back is =
    let within : position_or_len is_line_feed text < length text = omega (arith, length-drop len text, ap length back, ap length is, long) in
    let after : behind ≡ after_first is_line_feed text = sym (ap (drop 1) is) ∙ ap (drop 1) back ∙ drop-drop 1 len text ∙ ap (λ n. drop (n + 1) text) long in
    let before : line ≡ before_first is_line_feed text = front ∙ ap (λ n. take n text) long in
    lines_of-first text within ∙ rw (before, after) refl

-- the last line, where no line feed is left
pub last_line : (text line rest : List ℕ) (len : ℕ) → len ≡ position_or_len is_line_feed text → len ≤ length text → line ≡ take len text → rest ≡ drop len text → length rest ≡ 0
    → lines_of text ≡ line ∷ []
last_line text line rest len long within front back none =
    let whole : position_or_len is_line_feed text ≡ length text = omega (arith, length-drop len text, ap length back, none, long) in
    let all : line ≡ text = front ∙ ap (λ n. take n text) (long ∙ whole) ∙ take_all (length text) text (omega arith) in
    lines_of-last text whole ∙ rw all refl
