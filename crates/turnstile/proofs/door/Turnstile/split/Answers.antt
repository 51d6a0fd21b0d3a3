use Rattle.std.proofs.Common.{rules}
use Rattle.turnstile.proofs.Keeps.{splits}
use Rattle.turnstile.proofs.door.Turnstile.split.Goals as goal

pub split_seat-inner-requires : goal.split_seat-inner-requires
split_seat-inner-requires g c = (search rules, search rules, splits _ _ _ _ _ _ c.seat.invariant.1.is_out (search rules))
