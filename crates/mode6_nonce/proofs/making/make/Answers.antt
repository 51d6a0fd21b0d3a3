use Rattle.std.proofs.Common.{rules}
use Rattle.mode6_nonce.proofs.making.make.Goals as goal
use Rattle.mode6_nonce.specs.Nonces.{nonce_of}

pub returns : goal.returns
unfolding nonce_of
returns c = search rules
