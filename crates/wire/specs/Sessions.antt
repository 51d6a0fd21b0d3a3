-- Over which sessions a listing may count on what it is told: our own words.
use Rattle.std.specs.Prelude.{◌≡◌, ◌≤◌, ◌<◌, ◌^◌, ℕ, zero, suc, List, [], ◌∷◌}
use Rattle.std.specs.List.{AllByRecursion}
use Rattle.edge_traits.specs.declared.port.Event.{Event}
use Rattle.list_telling.specs.Histories.{AreTellableOps, HaveFlags}
use Rattle.mru_read.specs.Pages.{IsTellableRow}
use Rattle.recency.specs.Rows.{IsClientList}
use Rattle.responders.specs.Flown.{Flown}
use Rattle.responders.specs.Parts.{IsPart, Part}
use Rattle.server_core.specs.declared.op.Op.{Op}
use Rattle.server_core.specs.Moves.{HaveMoments}
use Rattle.server_core.specs.States.{ServerState}
use Rattle.shared_book.specs.declared.common.Common.{Common}

-- A book opens so: its rows are a client list, and they and the rules have numbers of their widths.
pub record IsOpening (opening : ServerState) : Type 0 where
  pub list : IsClientList opening.limits opening.rows opening.stamp
  pub rows : AllByRecursion IsTellableRow opening.rows
  pub flags : HaveFlags opening.published.rules
  pub stamp : opening.stamp < 2 ^ 64
  pub origin : opening.origin.0 < 2 ^ 64

-- the numbers of operations have their widths, as those of a journal do
pub record IsJournal (ops : List Op) : Type 0 where
  pub moments : HaveMoments ops
  pub tellable : AreTellableOps ops

-- a pilot began a session with a number not below that of the record that was published then
abbrev pub IsReadied : ServerState → Flown → Type 0
IsReadied opening flown = opening.published.epoch ≤ flown.before.steering.epoch

-- this is the part of that number, counted from 0, and this happened at its worker's port
abbrev pub HappenedAt : (common : Common) (opening : ServerState) (history : List Op) → ℕ → (parts : List Part) → AllByRecursion (IsPart common opening history) parts → Part → List Event → Type 0
HappenedAt common opening history number [] worked part events = ⊥
HappenedAt common opening history zero (first ∷ parts) worked part events = (part ≡ first) × (worked.0.did.events ≡ events)
HappenedAt common opening history (suc number) (first ∷ parts) worked part events = HappenedAt common opening history number parts worked.1 part events
