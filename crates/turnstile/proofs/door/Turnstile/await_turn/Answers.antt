use Rattle.std.proofs.Common.{rules, subst, sym}
use Rattle.turnstile.proofs.Keeps.{looks}
use Rattle.turnstile.specs.Turns.{IsWaiting}
use Rattle.turnstile.proofs.door.Turnstile.await_turn.Goals as goal

pub load-requires : goal.load-requires
load-requires g c = (search rules, search rules, looks _ _ _ _ _ _ c.args.ticket _ (subst (λ m. IsWaiting c.args.ticket m) (sym c.loop.invariant.1) c.requires.waits))
