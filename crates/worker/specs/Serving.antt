-- How the datagram that a worker holds becomes an act: our own words.
use Rattle.std.specs.Prelude.{◌≡◌, ◌⊎◌, ◌<◌, ℕ, false, Some, List, ◌++◌, length}
use mathlib.Core.List.{IsPrefix, Sublist}
use Rattle.server_core.specs.declared.step.Reply.{Reply}
use Rattle.server_core.specs.States.{ServerState}
use Rattle.shared_book.specs.declared.common.Common.{Common}
use Rattle.shared_book.specs.Entries.{View}
use Rattle.worker.specs.declared.act.Act.{Act}
use Rattle.worker.specs.declared.act.ActKind.TheVariants.{Dropped}
use Rattle.worker.specs.declared.carry.Carry.{Carry}
use Rattle.worker.specs.Acts.{Climbs, HasGiven, IsAct, kind_by, place_in, readings_in}

-- so much of this answer was given, at this time, to a datagram that was entered at this place and got this reply there; or
-- memory was wanting before its end
abbrev pub IsGivenAs : ℕ → ℕ → Reply → List (List ℕ) → Act → Type 0
IsGivenAs place xmt reply answer act =
    ((act.kind ≡ kind_by place xmt reply) × HasGiven act.failed act.given answer)
    ⊎ ((act.kind ≡ Dropped (Some place)) × (act.given < length answer) × (act.failed ≡ false))

-- The datagram that was held became this act, with this answer, while these were read of the clock: the seat has seen a
-- longer front, and its calls are one more where the act names a place.
pub record Becomes (common : Common) (opening : ServerState) (held : Carry) (act : Act) (answer : List (List ℕ)) (readings : List ℕ) (old new : View) : Type 0 where
  pub is_act : IsAct common opening new.front act held.bytes answer
  pub from_is : act.from ≡ held.from
  pub read : Sublist (readings_in act.moment act.kind) readings
  pub longer : IsPrefix old.front new.front
  pub places : Climbs (length old.front) (place_in act.kind) (length new.front)
  pub counted : new.own ≡ old.own ++ place_in act.kind
