use Rattle.std.proofs.Common.{rules, ◌∙◌}
use Rattle.std.proofs.lemmas.List.{take_at}
use Rattle.ntp_packet.proofs.writing.write.Goals as goal

pub returns-clause-read_back : goal.returns-clause-read_back
returns-clause-read_back c version mode rest = record {
  fits = c.octets_of.ensures.fits;
  version = version;
  mode = mode;
  spelled = take_at c.octets_of.result rest 48 (search rules) ∙ c.octets_of.ensures.spelled;
}
