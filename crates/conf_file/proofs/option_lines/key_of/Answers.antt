use Rattle.std.proofs.Common.{codes, refl, lit≤}
use Rattle.conf_file.specs.OptionLines.{server_rules}
use Rattle.conf_file.specs.declared.options.Value.TheVariants.{Number}
use Rattle.conf_file.proofs.OptionLineLemmas.{number_or_within}
use Rattle.conf_file.proofs.option_lines.key_of.Goals as goal

pub returns-clause-at_most : goal.returns-clause-at_most
returns-clause-at_most c =
    rw (c.unwrap_or.ensures, c.number.ensures) (number_or_within server_rules c.args.given.now (codes "key") (record { name = codes "key"; value = Number 1 65535 }) 1 65535 0 c.requires refl refl (lit≤ tt))
