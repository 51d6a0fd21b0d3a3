use Rattle.std.proofs.Common.{◌≡◌, ◌≤◌, ℕ, List, Some, codes, refl, sym, ◌∙◌, arith}
use Rattle.conf_file.specs.OptionLines.{server_rules}
use Rattle.conf_file.specs.OptionRules.{Given}
use Rattle.conf_file.specs.Options.{IsGivenBy, number_of}
use Rattle.conf_file.specs.declared.options.Value.TheVariants.{Number}
use Rattle.conf_file.proofs.OptionLineLemmas.{number_within}
use Rattle.conf_file.proofs.option_lines.poll_of.Goals as goal

poll_within : (given : List Given) (poll : ℕ) → IsGivenBy server_rules given → number_of given (codes "minpoll") ≡ Some poll → (4 ≤ poll) × (poll ≤ 17)
poll_within given poll (words, are) found = number_within server_rules given words (codes "minpoll") (record { name = codes "minpoll"; value = Number 4 17 }) 4 17 poll are refl refl found

pub overflow_cast-result : goal.overflow_cast-result
overflow_cast-result c = omega (arith, poll_within c.args.given.now c.in-Some.poll c.requires (sym c.number.ensures ∙ c.in-Some.is))

pub returns-in-Some-clause-at_least : goal.returns-in-Some-clause-at_least
returns-in-Some-clause-at_least c = (poll_within c.args.given.now c.in-Some.poll c.requires (sym c.number.ensures ∙ c.in-Some.is)).0

pub returns-in-Some-clause-at_most : goal.returns-in-Some-clause-at_most
returns-in-Some-clause-at_most c = (poll_within c.args.given.now c.in-Some.poll c.requires (sym c.number.ensures ∙ c.in-Some.is)).1
