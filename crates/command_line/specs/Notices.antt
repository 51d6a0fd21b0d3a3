-- What a program says of itself, where one word alone asks for it: our own rule.
use Rattle.std.specs.Prelude.{ℕ, List, codes}
use Rattle.command_line.specs.declared.notices.Notice.{Notice}
use Rattle.command_line.specs.declared.notices.Notice.TheVariants.{Help, Version}

-- the word that asks for a notice
abbrev pub word_of : Notice → List ℕ
word_of Help = codes "--help"
word_of Version = codes "--version"
