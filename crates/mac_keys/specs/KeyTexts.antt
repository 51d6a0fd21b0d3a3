-- Key files, line after line: our own rule.
use Rattle.std.specs.Prelude.{◌≡◌, ℕ, ◌+◌, ◌<◌, List, [], length, Option, Some, None}
use Rattle.text_words.specs.Words.{lines_as_words}
use Rattle.refusals.specs.Lines.{Lines, IsAfter, IsFirstRefused, IsRefusedIn}
use Rattle.refusals.specs.Told.{told_number}
use Rattle.mac_keys.specs.declared.keys.Key.{Key}
use Rattle.mac_keys.specs.declared.tables.TheConstants.{MAX_KEYS}
use Rattle.mac_keys.specs.declared.key_files.KeysFault.{KeysFault}
use Rattle.mac_keys.specs.declared.key_files.KeysFault.TheVariants.{At, NoMemory}
use Rattle.mac_keys.specs.KeyLines.{IsKeyLine}
use Rattle.mac_keys.specs.Tables.{key_of, with_key}

-- a table takes a key: it has none of that id, and it has room
pub record IsAdmitted (keys : List Key) (key : Key) : Type 0 where
  pub new : key_of keys key.id ≡ None
  pub room : length keys < MAX_KEYS

-- a table after what a line means
abbrev pub IsAdded : List Key → Option Key → List Key → Type 0
IsAdded keys None table = table ≡ keys
IsAdded keys (Some key) table = IsAdmitted keys key × (table ≡ with_key keys key)

-- a line whose key a table does not take is refused at its first word
abbrev pub IsUnadmitted : List Key → Option Key → List (List ℕ) → ℕ → Type 0
IsUnadmitted keys None line place = ⊥
IsUnadmitted keys (Some key) line place = (¬ IsAdmitted keys key) × (place ≡ 0)

-- the grammar of a key file, line by line, each in the table that those before it made
abbrev pub key_grammar : Lines (List Key) (List ℕ) (Option Key)
key_grammar = record {
  means = λ keys line meaning. IsKeyLine line meaning;
  takes = IsAdded;
  refuses = IsUnadmitted;
}

-- the keys that a text spells: its lines, taken one after another into a table without keys, give them
abbrev pub IsKeyText : List ℕ → List Key → Type 0
IsKeyText text keys = IsAfter key_grammar [] (lines_as_words text) keys

-- the first refused line of a text and its first refused word, both counted from 1
abbrev pub IsRefusedText : List ℕ → ℕ → ℕ → Type 0
IsRefusedText text line word = IsFirstRefused key_grammar [] (lines_as_words text) line word

-- a fault that is due: want of memory comes freely
abbrev pub IsFault : List ℕ → KeysFault → Type 0
IsFault text (At line word) = IsRefusedText text line word
IsFault text NoMemory = Unit {0}

-- a fault that is due at a line of this number
abbrev pub IsLineFault : List Key → List (List ℕ) → ℕ → KeysFault → Type 0
IsLineFault keys line number (At at word) = (at ≡ number) × (place : ℕ) × IsRefusedIn key_grammar keys line place × (word ≡ told_number (place + 1))
IsLineFault keys line number NoMemory = Unit {0}
