use Rattle.std.proofs.Common.{ap, length, ◌∙◌}
use Rattle.mode6_nonce.proofs.DigitLemmas.{digits-nonce, length-nonce}
use Rattle.mode6_nonce.proofs.laws.good_nonces_are_24_digits.Goals as goal

pub returns : goal.returns
returns c = record {
  length = ap length c.requires.made ∙ length-nonce c.args.salt.now c.args.ip.now c.requires.time;
  digits = rw c.requires.made (digits-nonce c.args.salt.now c.args.ip.now c.requires.time);
}
