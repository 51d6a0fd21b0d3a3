-- Key files: what lines leave to read, and the answer that is due.
use Rattle.std.proofs.Common.{◌≡◌, ℕ, ◌+◌, ◌-◌, ◌^◌, min, map, List, [], ◌∷◌, Result, Ok, Err, IsErr, IfErr, refl, sym, ap, subst, ◌∙◌, inl, inr}
use Rattle.text_words.specs.Words.{lines_as_words, words_of}
use Rattle.refusals.specs.Lines.{IsTaken}
use Rattle.refusals.specs.Told.{IsUnless}
use Rattle.refusals.proofs.LineLemmas.{IsReadTo, read_more, read_refused, read_refused_once, read_refused_untaken, refused_alone, taken_alone}
use Rattle.mac_keys.specs.declared.keys.Key.{Key}
use Rattle.mac_keys.specs.declared.key_files.KeysFault.{KeysFault}
use Rattle.mac_keys.specs.declared.key_files.KeysFault.TheVariants.{At, NoMemory}
use Rattle.mac_keys.specs.KeyTexts.{IsFault, IsKeyText, IsLineFault, IsRefusedText, key_grammar}
use Rattle.mac_keys.proofs.OneAnswerLemmas.{key_grammar_is_one}

-- so many lines of a text are read, and made this table
abbrev pub AreReadTo : List ℕ → List (List ℕ) → ℕ → List Key → Type 0
AreReadTo text lines number keys = IsReadTo key_grammar [] (lines_as_words text) (map words_of lines) number keys

-- a line more is read
pub take_more : (text line : List ℕ) (lines rest : List (List ℕ)) (number more : ℕ) (keys table : List Key) → AreReadTo text lines number keys → lines ≡ line ∷ rest
    → more ≡ min (number + 1) (2 ^ 32 - 1) → IsTaken key_grammar keys (words_of line) table → AreReadTo text rest more table
take_more text line lines rest number more keys table read is one taken =
    read_more key_grammar [] (lines_as_words text) (map words_of lines) (map words_of rest) (words_of line) number more keys table read (ap (map words_of) is) one
    (taken_alone key_grammar key_grammar_is_one keys (words_of line) table taken)

-- a fault of the next line is the text's
due_fault : (text line : List ℕ) (lines rest : List (List ℕ)) (number more : ℕ) (keys : List Key) (fault : KeysFault) → AreReadTo text lines number keys → lines ≡ line ∷ rest
    → more ≡ min (number + 1) (2 ^ 32 - 1) → IsLineFault keys (words_of line) more fault → IsFault text fault
due_fault text line lines rest number more keys (At at word) read is one (same, place, refused, told) =
    let P : ℕ → Type 0 = λ l. IsRefusedText text l word in
    subst P (sym same) (read_refused key_grammar [] (lines_as_words text) (map words_of lines) (map words_of rest) (words_of line) number more place word keys read (ap (map words_of) is) one
    (refused_alone key_grammar key_grammar_is_one keys (words_of line) place refused) told)
due_fault text line lines rest number more keys NoMemory read is one fault = tt

-- and the only one
due_once : (text line : List ℕ) (lines rest : List (List ℕ)) (number more at_line at_word : ℕ) (keys : List Key) (fault : KeysFault) → AreReadTo text lines number keys → lines ≡ line ∷ rest
    → more ≡ min (number + 1) (2 ^ 32 - 1) → IsLineFault keys (words_of line) more fault → IsRefusedText text at_line at_word → IsUnless {V = List Key} NoMemory (Err fault) (Err (At at_line at_word))
due_once text line lines rest number more at_line at_word keys (At at word) read is one (same, place, refused, told) other =
    let (lines_same, words_same) = read_refused_once key_grammar [] (lines_as_words text) (map words_of lines) (map words_of rest) (words_of line) number more place word at_line at_word keys read
    (ap (map words_of) is) one (refused_alone key_grammar key_grammar_is_one keys (words_of line) place refused) told other in
    inl (ap (λ l. Err (At l word)) (same ∙ lines_same) ∙ ap (λ w. Err (At at_line w)) words_same)
due_once text line lines rest number more at_line at_word keys NoMemory read is one fault other = inr refl

-- and the text spells no table
due_no_keys : (text line : List ℕ) (lines rest : List (List ℕ)) (number more : ℕ) (keys others : List Key) (fault : KeysFault) → AreReadTo text lines number keys → lines ≡ line ∷ rest
    → IsLineFault keys (words_of line) more fault → IsKeyText text others → IsUnless NoMemory (Err fault) (Ok others)
due_no_keys text line lines rest number more keys others (At at word) read is (same, place, refused, told) spelled =
    absurd (read_refused_untaken key_grammar [] (lines_as_words text) (map words_of lines) (map words_of rest) (words_of line) number place keys others read (ap (map words_of) is)
    (refused_alone key_grammar key_grammar_is_one keys (words_of line) place refused) spelled)
due_no_keys text line lines rest number more keys others NoMemory read is fault spelled = inr refl

-- the same of an answer that is such a fault
pub due_fault_in : (text line : List ℕ) (lines rest : List (List ℕ)) (number more : ℕ) (keys : List Key) (result : Result (List Key) KeysFault) → AreReadTo text lines number keys → lines ≡ line ∷ rest
    → more ≡ min (number + 1) (2 ^ 32 - 1) → IsErr result → IfErr result (IsLineFault keys (words_of line) more) → IfErr result (IsFault text)
due_fault_in text line lines rest number more keys (Ok table) read is one bad fault = cc
due_fault_in text line lines rest number more keys (Err why) read is one bad fault = due_fault text line lines rest number more keys why read is one fault

pub due_once_in : (text line : List ℕ) (lines rest : List (List ℕ)) (number more at_line at_word : ℕ) (keys : List Key) (result : Result (List Key) KeysFault) → AreReadTo text lines number keys
    → lines ≡ line ∷ rest → more ≡ min (number + 1) (2 ^ 32 - 1) → IsErr result → IfErr result (IsLineFault keys (words_of line) more) → IsRefusedText text at_line at_word
    → IsUnless NoMemory result (Err (At at_line at_word))
due_once_in text line lines rest number more at_line at_word keys (Ok table) read is one bad fault other = cc
due_once_in text line lines rest number more at_line at_word keys (Err why) read is one bad fault other = due_once text line lines rest number more at_line at_word keys why read is one fault other

pub due_no_keys_in : (text line : List ℕ) (lines rest : List (List ℕ)) (number more : ℕ) (keys others : List Key) (result : Result (List Key) KeysFault) → AreReadTo text lines number keys
    → lines ≡ line ∷ rest → IsErr result → IfErr result (IsLineFault keys (words_of line) more) → IsKeyText text others → IsUnless NoMemory result (Ok others)
due_no_keys_in text line lines rest number more keys others (Ok table) read is bad fault spelled = cc
due_no_keys_in text line lines rest number more keys others (Err why) read is bad fault spelled = due_no_keys text line lines rest number more keys others why read is fault spelled
