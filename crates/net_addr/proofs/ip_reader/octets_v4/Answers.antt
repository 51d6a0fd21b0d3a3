use Rattle.std.proofs.Common.{Some, ap, ◌∙◌}
use Rattle.net_addr.proofs.SpellingLemmas.{dotted-one}
use Rattle.net_addr.proofs.ip_reader.octets_v4.Goals as goal

pub returns-in-Ok-clause-only : goal.returns-in-Ok-clause-only
returns-in-Ok-clause-only c = λ octets h. ap Some (c.octets.ensures ∙ dotted-one c.args.text.now _ octets c.in-Ok.ensures h)

pub returns-in-Err-clause-only : goal.returns-in-Err-clause-only
returns-in-Err-clause-only c = λ octets h. absurd (c.in-Err.ensures (record { octets = octets }) h)
