-- Lines of one word after their first: our own rule.
use Rattle.std.specs.Prelude.{◌≡◌, ℕ, ℤ, Bool, true, List, [], ◌∷◌}
use Rattle.std.specs.Fmt.{signed_decimal}
use Rattle.std.specs.List.{list_all}
use Rattle.std.specs.Int.{is_in_range}
use Rattle.discipline.specs.Frequency.{IsFrequency}
use Rattle.net_addr.specs.Spelling.{IsAddr, Spells}
use Rattle.net_addr.specs.declared.addr.Addr.{Addr}
use Rattle.text_words.specs.Numbers.{SpellsNumber}
use Rattle.conf_file.specs.declared.lines.Line.{Line}
use Rattle.conf_file.specs.declared.lines.Line.TheVariants.{Listen, Keys, Local, Frequency}
use Rattle.conf_file.specs.declared.short_lines.TheConstants.{MAX_LOCAL_STRATUM}

-- one word stands there, and the line means what it spells
abbrev pub IsOnly : (List ℕ → Line → Type 0) → List (List ℕ) → Line → Type 0
IsOnly spells [] line = ⊥
IsOnly spells (word ∷ []) line = spells word line
IsOnly spells (word ∷ more ∷ words) line = ⊥

-- the word of a `listen` line spells an address with its port
abbrev pub SpellsListen : List ℕ → Line → Type 0
SpellsListen word line = (addr : Addr) × IsAddr addr × Spells word addr × (line ≡ Listen addr)

-- an octet of a file's name: visible ASCII
abbrev pub is_name_octet : ℕ → Bool
is_name_octet octet = is_in_range 33 126 octet

-- the word of a `keys` line is a file's name
abbrev pub SpellsKeys : List ℕ → Line → Type 0
SpellsKeys word line = (list_all is_name_octet word ≡ true) × (line ≡ Keys word)

-- the word of a `local` line is a stratum
abbrev pub SpellsLocal : List ℕ → Line → Type 0
SpellsLocal word line = (stratum : ℕ) × SpellsNumber 1 MAX_LOCAL_STRATUM word stratum × (line ≡ Local stratum)

-- the word is a frequency in decimal, which may have a minus, without leading zeros, since `signed_decimal` writes each number
-- in one way
abbrev pub IsFrequencyWord : List ℕ → ℤ → Type 0
IsFrequencyWord word frequency = (word ≡ signed_decimal frequency) × IsFrequency frequency

-- the word of a `frequency` line is one
abbrev pub SpellsFrequency : List ℕ → Line → Type 0
SpellsFrequency word line = (frequency : ℤ) × IsFrequencyWord word frequency × (line ≡ Frequency frequency)
