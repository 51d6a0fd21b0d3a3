-- What contracts see of a worker: our own words.
use Rattle.std.specs.Prelude.{ℕ, Bool, true, false, Option, Some, None, List}
use Rattle.worker.specs.declared.act.Act.{Act}
use Rattle.worker.specs.declared.carry.Carry.{Carry}

-- its number, its port and its clock, the datagram that it carries, and its acts, oldest first, for which so much room is
-- there
pub record WorkerView (P C : Type 0) : Type 0 where
  pub who : ℕ
  pub port : P
  pub clock : C
  pub carry : Option Carry
  pub acts : List Act
  pub room : ℕ

-- what is held is carried, or is what is left of the last datagram
abbrev pub carry_of : Bool → Carry → Option Carry
carry_of true held = Some held
carry_of false held = None
