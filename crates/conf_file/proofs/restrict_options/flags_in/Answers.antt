use Rattle.std.proofs.Common.{arith}
use Rattle.conf_file.proofs.OptionLineLemmas.{flags_fit}
use Rattle.conf_file.proofs.restrict_options.flags_in.Goals as goal

pub overflow_cast-result : goal.overflow_cast-result
overflow_cast-result c = omega (arith, c.joined.ensures, flags_fit c.args.given.now c.requires)
