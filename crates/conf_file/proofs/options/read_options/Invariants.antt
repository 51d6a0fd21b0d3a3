use Rattle.std.proofs.Common.{◌<◌, ◌^◌, length}
use Rattle.conf_file.specs.Options.{AreOnce}
use Rattle.conf_file.proofs.OptionLemmas.{AreKnown}
use Rattle.conf_file.proofs.OptionStepLemmas.{IsReadTo}
use Rattle.conf_file.proofs.options.read_options.Given as goal

-- the options so far stand once, and what is left is read as the whole is
abbrev pub invariant-words : goal.invariant-words
invariant-words l = record {
  low : l.number < 2 ^ 32;
  once : AreOnce l.given;
  known : AreKnown l.rules l.given;
  read : IsReadTo l.fewest l.rules l.fn.first l.fn.words l.number l.given l.words;
}

abbrev pub decreases-words : goal.decreases-words
decreases-words l = length l.words
