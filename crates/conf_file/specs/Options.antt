-- Options of a line, in any order and each at most once: our own rule.
use Rattle.std.specs.Prelude.{◌≡◌, ◌≢◌, ℕ, ◌≤◌, List, [], ◌∷◌, length, find, bytes_eq, Option, Some, Result, Ok, IfOk, IfErr, ◌+◌}
use Rattle.std.specs.Option.{option_map}
use Rattle.text_words.specs.Numbers.{SpellsNumber}
use Rattle.refusals.specs.Refusals.{IsRefusedAt}
use Rattle.refusals.specs.Told.{told_number}
use Rattle.conf_file.specs.OptionRules.{Given, OptionWords}
use Rattle.conf_file.specs.declared.options.Value.{Value}
use Rattle.conf_file.specs.declared.options.Value.TheVariants.{Number, Alone}

-- the rule of the option with this name, in a table of them
abbrev pub rule_of : List OptionWords → List ℕ → Option OptionWords
rule_of rules name = find (λ rule. bytes_eq name rule.name) rules

-- what stands behind the name of an option: a number within its bounds, and the words after it, or these words alone
abbrev pub IsBehind : Value → List (List ℕ) → ℕ → List (List ℕ) → Type 0
IsBehind (Number least most) words number rest = (word : List ℕ) × (words ≡ word ∷ rest) × SpellsNumber least most word number
IsBehind (Alone own) words number rest = (words ≡ rest) × (number ≡ own)

-- a number's bounds leave one
abbrev pub IsSound : Value → Type 0
IsSound (Number least most) = least ≤ most
IsSound (Alone own) = Unit {0}

-- the words are options, one after another, each by the rule of its name
abbrev pub AreOptions : List OptionWords → List (List ℕ) → List Given → Type 0
AreOptions rules words [] = words ≡ []
AreOptions rules words (given ∷ others) =
    (rule : OptionWords) × (behind rest : List (List ℕ)) × (rule_of rules given.name ≡ Some rule) × (words ≡ given.name ∷ behind)
    × IsBehind rule.value behind given.number rest × AreOptions rules rest others

-- no option of these has the name
abbrev pub IsNew : List ℕ → List Given → Type 0
IsNew name [] = Unit {0}
IsNew name (option ∷ others) = (name ≢ option.name) × IsNew name others

-- the options that are given are those of a table
abbrev pub IsGivenBy : List OptionWords → List Given → Type 0
IsGivenBy rules given = (words : List (List ℕ)) × AreOptions rules words given

-- each name stands once
abbrev pub AreOnce : List Given → Type 0
AreOnce [] = Unit {0}
AreOnce (option ∷ others) = IsNew option.name others × AreOnce others

-- the words are options of a table, in any order, each at most once, and so many at least
pub record IsOptionList (fewest : ℕ) (rules : List OptionWords) (words : List (List ℕ)) (given : List Given) : Type 0 where
  pub options : AreOptions rules words given
  pub once : AreOnce given
  pub enough : fewest ≤ length given

-- the bounds of each rule leave a number
abbrev pub AreSoundRules : List OptionWords → Type 0
AreSoundRules [] = Unit {0}
AreSoundRules (rule ∷ rules) = IsSound rule.value × AreSoundRules rules

-- a table is sound: each number's bounds leave one, and a line of so few options there is
pub record AreSound (fewest : ℕ) (rules : List OptionWords) : Type 0 where
  pub bounds : AreSoundRules rules
  pub some : (words : List (List ℕ)) × (given : List Given) × IsOptionList fewest rules words given

-- the number of the option with this name, if it is given
abbrev pub number_of : List Given → List ℕ → Option ℕ
number_of given name = option_map (λ (option : Given). option.number) (find (λ (option : Given). bytes_eq name option.name) given)

-- the word of this number is the first one that is refused, where the words are counted from `first` on
abbrev pub IsRefusedFrom : {M : Type 0} → ℕ → (List (List ℕ) → M → Type 0) → List (List ℕ) → ℕ → Type 0
IsRefusedFrom first means words told = (place : ℕ) × IsRefusedAt means words place × (told ≡ told_number (first + place))

-- a reading of words, counted from `number` on: what they mean, and nothing else where they mean it, or the number of
-- their first word that is refused
pub record IsReadAs {M : Type 0} (number : ℕ) (means : List (List ℕ) → M → Type 0) (words : List (List ℕ)) (result : Result M ℕ) : Type 0 where
  pub found : IfOk result (means words)
  pub only : (meaning : M) → means words meaning → result ≡ Ok meaning
  pub refused : IfErr result (IsRefusedFrom number means words)
