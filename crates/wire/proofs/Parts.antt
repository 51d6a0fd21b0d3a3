-- What a worker did in its part of a session is what the worker of a wire did.
use Rattle.std.proofs.Common.{◌≡◌, ℕ, ◌+◌, ◌≤◌, Option, Some, None, List, [], ◌∷◌, ◌++◌, length, sym, ap, subst, ◌∙◌, arith}
use Rattle.std.specs.List.{AllByRecursion}
use Rattle.edge_traits.specs.declared.port.Event.{Event}
use Rattle.responders.specs.Parts.{IsPart, Part}
use Rattle.server_core.specs.declared.op.Op.{Op}
use Rattle.server_core.specs.States.{ServerState}
use Rattle.shared_book.specs.declared.common.Common.{Common}
use Rattle.shared_book.proofs.EntryLemmas.{prefix_length}
use Rattle.wire.specs.Wires.{IsTake, IsWorkers, worker_events}
use Rattle.wire.specs.declared.wire.WireEvent.{WireEvent}
use Rattle.worker.specs.declared.act.Act.{Act}
use Rattle.worker.specs.declared.carry.Carry.{Carry}
use Rattle.worker.specs.Acts.{AreActs, Climbs, places_of}
use Rattle.worker.specs.Doings.{carried, heard}

-- what is carried was taken
carried-takes : (carry : Option Carry) → AllByRecursion IsTake (carried carry)
carried-takes None = tt
carried-takes (Some carry) = (tt, tt)

-- places that climb to a length climb to each greater one
Climbs-higher : (low : ℕ) (places : List ℕ) (high higher : ℕ) → high ≤ higher → Climbs low places high → Climbs low places higher
Climbs-higher low [] high higher more climbs = omega (arith, more, climbs)
Climbs-higher low (place ∷ places) high higher more climbs = (climbs.0, Climbs-higher (place + 1) places high higher more climbs.1)

-- the events of a part
part-heard : (carry : Option Carry) (events told later : List Event) → carry ≡ None → carried carry ++ heard events ≡ told ++ later → heard events ≡ told ++ later
part-heard carry events told later none same = subst (λ (one : Option Carry). carried one ++ heard events ≡ told ++ later) none same

pub workers-part : (common : Common) (opening : ServerState) (history : List Op) (part : Part) (wire : List WireEvent) → (is : IsPart common opening history part) → part.before.carry ≡ None
    → is.did.events ≡ worker_events wire → IsWorkers common opening history part.after.acts wire
workers-part common opening history part wire is none events =
    let did = is.did in
    let acts : part.after.acts ≡ did.more = did.acts_are ∙ ap (λ (acts : List Act). acts ++ did.more) is.idle in
    let begun : length part.before.seat.front ≡ 0 = ap length is.new_seat.unseen in
    let climb : Climbs 0 (places_of did.more) (length history) =
    Climbs-higher 0 (places_of did.more) (length part.after.seat.front) (length history) (prefix_length part.after.seat.front history did.seen)
    (subst (λ (low : ℕ). Climbs low (places_of did.more) (length part.after.seat.front)) begun did.places) in
    record {
      told = did.told;
      carried = carried part.after.carry;
      answered = subst (λ (those : List Act). AreActs common opening history those did.told) (sym acts) did.answered;
      heard_are = subst (λ (those : List Event). heard those ≡ did.told ++ carried part.after.carry) events
          (part-heard part.before.carry did.events did.told (carried part.after.carry) none did.heard_are);
      takes = carried-takes part.after.carry;
      climb = subst (λ (those : List Act). Climbs 0 (places_of those) (length history)) (sym acts) climb;
    }
