-- Lines of a configuration file: our own rule, after the configuration of NTPsec.
use Rattle.std.specs.Prelude.{◌≡◌, ℕ, List, [], ◌∷◌, Some, Result, Ok, Err}
use Rattle.conf_file.specs.Kinds.{kind_of}
use Rattle.conf_file.specs.OptionLines.{IsLimitTail, IsMruTail, IsServerTail}
use Rattle.conf_file.specs.Options.{IsReadAs}
use Rattle.conf_file.specs.RestrictLines.{IsRestrictTail}
use Rattle.conf_file.specs.ShortLines.{IsOnly, SpellsFrequency, SpellsKeys, SpellsListen, SpellsLocal}
use Rattle.conf_file.specs.declared.kinds.Kind.{Kind}
use Rattle.conf_file.specs.declared.kinds.Kind.TheVariants.{Listen, Server, Restrict, Limit, Mru, Keys, Local, Frequency, Ignored}
use Rattle.conf_file.specs.declared.lines.Line.{Line}
use Rattle.conf_file.specs.declared.lines.Line.TheVariants.{Nothing}
use Rattle.conf_file.specs.declared.tails.Refusal.{Refusal}
use Rattle.conf_file.specs.declared.tails.Refusal.TheVariants.{At, NoMemory}

-- what the words after the first mean in a line of this kind
abbrev pub IsTail : Kind → List (List ℕ) → Line → Type 0
IsTail Listen words line = IsOnly SpellsListen words line
IsTail Server words line = IsServerTail words line
IsTail Restrict words line = IsRestrictTail words line
IsTail Limit words line = IsLimitTail words line
IsTail Mru words line = IsMruTail words line
IsTail Keys words line = IsOnly SpellsKeys words line
IsTail Local words line = IsOnly SpellsLocal words line
IsTail Frequency words line = IsOnly SpellsFrequency words line
IsTail Ignored words line = line ≡ Nothing

-- what the words of a line mean: a line without words, and one of a known first word
abbrev pub IsConfLine : List (List ℕ) → Line → Type 0
IsConfLine [] line = line ≡ Nothing
IsConfLine (word ∷ words) line = (kind : Kind) × (kind_of word ≡ Some kind) × IsTail kind words line

-- a reading that want of memory may end as well
abbrev pub IsReadOr : ℕ → (List (List ℕ) → Line → Type 0) → List (List ℕ) → Result Line Refusal → Type 0
IsReadOr number means words (Ok line) = IsReadAs number means words (Ok line)
IsReadOr number means words (Err (At word)) = IsReadAs number means words (Err word)
IsReadOr number means words (Err NoMemory) = Unit {0}

-- a reading that want of memory did not end
abbrev pub placed : Result Line ℕ → Result Line Refusal
placed (Ok line) = Ok line
placed (Err word) = Err (At word)
