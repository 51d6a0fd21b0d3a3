use Rattle.std.proofs.Common.{sym, ap, ◌∙◌}
use Rattle.mode6_nonce.proofs.NonceLemmas.{take-good}
use Rattle.mode6_nonce.proofs.checking.check.Goals as goal
use Rattle.mode6_nonce.specs.Nonces.{nonce_of}

pub returns-then-is_alive : goal.returns-then-is_alive
returns-then-is_alive c = (
  λ same. record {
    time = c.in-Some.time.0;
    in_era = c.in-Some.ensures.fits;
    made = c.is_same.ensures.0 same ∙ c.make.ensures;
    alive = c.is_alive.ensures.0 c.if-is_alive.true;
  },
  λ good.
      let named = c.in-Some.ensures.named good.time good.in_era (take-good c.args.salt.now c.args.ip.now c.args.nonce.now c.args.now.0 good) in
      c.is_same.ensures.1 (good.made ∙ ap (nonce_of c.args.salt.now c.args.ip.now) (sym named) ∙ sym c.make.ensures),
)

pub returns-else-is_alive : goal.returns-else-is_alive
returns-else-is_alive c = (
  λ alive. cc (sym c.if-is_alive.false ∙ alive),
  λ good.
      let named = c.in-Some.ensures.named good.time good.in_era (take-good c.args.salt.now c.args.ip.now c.args.nonce.now c.args.now.0 good) in
      c.is_alive.ensures.1 (rw named good.alive),
)

pub returns-in-None : goal.returns-in-None
returns-in-None c = (
  λ impossible. cc impossible,
  λ good. absurd (c.in-None.ensures.named good.time good.in_era (take-good c.args.salt.now c.args.ip.now c.args.nonce.now c.args.now.0 good)),
)
