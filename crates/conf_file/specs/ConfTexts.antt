-- Configuration files, line after line: our own rule.
use Rattle.std.specs.Prelude.{◌≡◌, ℕ, ◌+◌, false, List, length, ◌⊎◌}
use Rattle.text_words.specs.Words.{lines_as_words}
use Rattle.refusals.specs.Lines.{Lines, IsAfter, IsFirstRefused, IsRefusedAlone}
use Rattle.refusals.specs.Told.{told_number}
use Rattle.conf_file.specs.ConfLines.{IsConfLine}
use Rattle.conf_file.specs.Drafts.{IsConfOf, IsOpening, IsTakenInto, IsUntaken, is_closed_to}
use Rattle.conf_file.specs.declared.conf.Conf.{Conf}
use Rattle.conf_file.specs.declared.confs.ConfFault.{ConfFault}
use Rattle.conf_file.specs.declared.confs.ConfFault.TheVariants.{At, NoMemory}
use Rattle.conf_file.specs.declared.drafts.Draft.{Draft}
use Rattle.conf_file.specs.declared.drafts.Untaken.{Untaken}
use Rattle.conf_file.specs.declared.drafts.Untaken.TheVariants.{Full, Unfit}
use Rattle.conf_file.specs.declared.drafts.Untaken.TheVariants as untaken
use Rattle.conf_file.specs.declared.lines.Line.{Line}
use Rattle.conf_file.specs.declared.tails.Refusal.{Refusal}
use Rattle.conf_file.specs.declared.tails.Refusal.TheVariants as refusal

-- what the words of a line mean where a draft stands: a line of whose kind no more are taken means nothing
abbrev pub IsLineIn : Draft → List (List ℕ) → Line → Type 0
IsLineIn draft words line = (is_closed_to draft words ≡ false) × IsConfLine words line

-- where a line is refused whose meaning is not taken: one rule too many at its first word, and limits that do not fit each
-- other after its last one
abbrev pub IsUntakenAt : Draft → Line → List (List ℕ) → ℕ → Type 0
IsUntakenAt draft line words place = (IsUntaken draft line Full × (place ≡ 0)) ⊎ (IsUntaken draft line Unfit × (place ≡ length words))

-- the grammar of a configuration file, line by line, each in the draft that those before it made
abbrev pub conf_grammar : Lines Draft (List ℕ) Line
conf_grammar = record { means = IsLineIn; takes = IsTakenInto; refuses = IsUntakenAt }

-- the configuration that a text means
abbrev pub IsConfText : List ℕ → Conf → Type 0
IsConfText text conf = (opening final : Draft) × IsOpening opening × IsAfter conf_grammar opening (lines_as_words text) final × IsConfOf final conf

-- the first refused line of a text and its first refused word, both counted from 1
abbrev pub IsRefusedText : List ℕ → ℕ → ℕ → Type 0
IsRefusedText text line word = (opening : Draft) × IsOpening opening × IsFirstRefused conf_grammar opening (lines_as_words text) line word

-- a fault that is due: want of memory comes freely
abbrev pub IsFault : List ℕ → ConfFault → Type 0
IsFault text (At line word) = IsRefusedText text line word
IsFault text NoMemory = Unit {0}

-- a refusal of a line that is due: it is refused at this word and no other, and not taken
abbrev pub IsDue : Draft → List (List ℕ) → Refusal → Type 0
IsDue draft words (refusal.At word) = (place : ℕ) × IsRefusedAlone conf_grammar draft words place × (word ≡ told_number (place + 1))
IsDue draft words refusal.NoMemory = Unit {0}

-- where a line is refused that is not taken
abbrev pub refusal_of : Untaken → List (List ℕ) → Refusal
refusal_of Full words = refusal.At 1
refusal_of Unfit words = refusal.At (told_number (length words + 1))
refusal_of untaken.NoMemory words = refusal.NoMemory

-- the fault of a file whose line of this number is refused
abbrev pub fault_of : ℕ → Refusal → ConfFault
fault_of number (refusal.At word) = At number word
fault_of number refusal.NoMemory = NoMemory
