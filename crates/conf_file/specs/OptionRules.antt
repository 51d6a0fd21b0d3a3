-- Rules of options, and options that are given: our own words.
use Rattle.std.specs.Prelude.{ℕ, List}
use Rattle.conf_file.specs.declared.options.Value.{Value}

-- an option that a line may have: its name, and its value
pub record OptionWords : Type 0 where
  pub name : List ℕ
  pub value : Value

-- an option that is given: its name, and its number
pub record Given : Type 0 where
  pub name : List ℕ
  pub number : ℕ
