-- The history of a session is one that a server can have.
use Rattle.std.proofs.Common.{◌≡◌, ℕ, ◌+◌, ◌-◌, ◌^◌, ◌<◌, ◌≤◌, max, true, Option, Some, None, List, [], ◌∷◌, ◌++◌, map, refl, sym, ap, subst, ◌∙◌, arith, append_assoc}
use Rattle.std.proofs.lemmas.Bool.Decides.{nat_tests}
use Rattle.std.specs.List.{filter}
use Rattle.list_telling.specs.Histories.{IsServersHistory}
use Rattle.pilot.specs.Calls.{Climb}
use Rattle.pilot.specs.Flights.{readied_for}
use Rattle.pilot.specs.Promises.{epochs_of, stood_in}
use Rattle.pilot.specs.Views.{PilotParts}
use Rattle.pilot.proofs.PromiseLemmas.{numbers_of_flight}
use Rattle.responders.specs.Flown.{Flown, IsPiloted}
use Rattle.responders.specs.Laws.{Session}
use Rattle.responders.specs.Parts.{Part}
use Rattle.responders.specs.Sessions.{IsServed, IsSession}
use Rattle.responders.proofs.LawLemmas.{pilots_publications}
use Rattle.server_core.specs.declared.op.Op.{Op}
use Rattle.server_core.specs.declared.op.Op.TheVariants.{Publish, Arrive, Look, Read, Sweep, Stop}
use Rattle.server_core.specs.declared.op.Stop.{Stop as Stopping}
use Rattle.server_core.specs.Histories.{IsLegal, IsLegalAt, records_in, state_after_all}
use Rattle.server_core.specs.States.{ServerState, is_publish, may_draw, refusal_after, refusal_of, state_after, stop_in}
use Rattle.shared_book.specs.declared.common.Common.{Common}
use Rattle.shared_book.specs.Entries.{View}
use Rattle.worker.specs.Doings.{Doing}
use Rattle.worker.specs.Workers.{WorkerView}
use Rattle.sys_vars.specs.declared.published.Record.{Record}
use Rattle.turnstile.specs.Histories.{IsHistory}
use Rattle.wire.specs.Sessions.{IsJournal, IsOpening, IsReadied}

-- operations were taken, one after another
abbrev AreTaken : ServerState → List Op → Type 0
AreTaken opening history = IsHistory state_after (λ s before op. refusal_of before s.stamp op) opening history

-- an operation that may draw a stamp, and was not refused, does not stand at the greatest stamp
taken-draws : (stop : Option Stopping) (journal : List Op) (stamp : ℕ) (op : Op) → may_draw op ≡ true → refusal_after stop journal stamp op ≡ None → stamp < 2 ^ 64 - 1
taken-draws (Some stop) journal stamp op draws taken = absurd (cc taken)
taken-draws None journal stamp op draws taken = grind (arith, nat_tests)

-- an operation that was not refused, whose number is over that of the last record, may stand
taken-legal : (s : ServerState) (journal : List Op) (op : Op) (most : ℕ) (ops : List Op) → refusal_of journal s.stamp op ≡ None
    → Climb (s.published.epoch + 1) (epochs_of (op ∷ ops)) most → IsLegalAt s op
taken-legal s journal (Publish boxed) most ops taken climb = omega (arith, climb.0)
taken-legal s journal (Arrive ask moment) most ops taken climb = taken-draws (stop_in journal) journal s.stamp (Arrive ask moment) refl taken
taken-legal s journal (Read ask moment) most ops taken climb = taken-draws (stop_in journal) journal s.stamp (Read ask moment) refl taken
taken-legal s journal (Look asked context) most ops taken climb = tt
taken-legal s journal (Sweep moment) most ops taken climb = tt
taken-legal s journal (Stop stop) most ops taken climb = tt

-- the numbers that are left climb from that of the record which is published then
climb-after : (s : ServerState) (op : Op) (most : ℕ) (ops : List Op) → Climb (s.published.epoch + 1) (epochs_of (op ∷ ops)) most
    → Climb ((state_after s op).published.epoch + 1) (epochs_of ops) most
climb-after s (Publish boxed) most ops climb = climb.1
climb-after s (Arrive ask moment) most ops climb = climb
climb-after s (Read ask moment) most ops climb = climb
climb-after s (Look asked context) most ops climb = climb
climb-after s (Sweep moment) most ops climb = climb
climb-after s (Stop stop) most ops climb = climb

-- the server after one operation more
state-more : (s : ServerState) (front : List Op) (op : Op) → state_after_all s (front ++ op ∷ []) ≡ state_after (state_after_all s front) op
state-more s [] op = refl
state-more s (first ∷ front) op = state-more (state_after s first) front op

-- what was taken, with records whose numbers climb, is legal
legal-from : (opening : ServerState) (history front rest : List Op) (most : ℕ) → AreTaken opening history → history ≡ front ++ rest
    → Climb ((state_after_all opening front).published.epoch + 1) (epochs_of rest) most → IsLegal (state_after_all opening front) rest
legal-from opening history front [] most taken whole climb = tt
legal-from opening history front (op ∷ rest) most taken whole climb =
    let s = state_after_all opening front in
    let next : state_after_all opening (front ++ op ∷ []) ≡ state_after s op = state-more opening front op in (
      taken-legal s front op most rest (taken front op rest whole) climb,
      subst (λ (t : ServerState). IsLegal t rest) next
          (legal-from opening history (front ++ op ∷ []) rest most taken (whole ∙ sym (append_assoc front (op ∷ []) rest))
          (subst (λ (t : ServerState). Climb (t.published.epoch + 1) (epochs_of rest) most) (sym next) (climb-after s op most rest climb))),
    )

-- publications alone have all records
records-kept : (ops : List Op) → records_in (filter is_publish ops) ≡ records_in ops
records-kept [] = refl
records-kept (Publish boxed ∷ ops) = ap (λ (records : List Record). boxed.value ∷ records) (records-kept ops)
records-kept (Arrive ask moment ∷ ops) = records-kept ops
records-kept (Look asked context ∷ ops) = records-kept ops
records-kept (Read ask moment ∷ ops) = records-kept ops
records-kept (Sweep moment ∷ ops) = records-kept ops
records-kept (Stop stop ∷ ops) = records-kept ops

-- numbers that climb from a number climb from each lower one
climb-lower : (low least : ℕ) (numbers : List ℕ) (most : ℕ) → low ≤ least → Climb least numbers most → Climb low numbers most
climb-lower low least [] most lower climb = omega (arith, lower, climb)
climb-lower low least (number ∷ numbers) most lower climb = (omega (arith, lower, climb.0), climb.1)

-- the history of a session is a server's
pub sessions-history : (common : Common) (opening : ServerState) (history : List Op) (parts : List Part) (flown : Flown) → IsOpening opening → IsReadied opening flown → IsJournal history
    → IsSession common opening history parts flown → IsServersHistory opening history
sessions-history common opening history parts flown opens readied journal is =
    let flight = is.piloted.flight in
    let session : Session = record { common = common; opening = opening; history = history; parts = parts; flown = flown } in
    let published : filter is_publish history ≡ stood_in flight.turns flight.last = pilots_publications session is in
    let epochs : epochs_of history ≡ epochs_of (stood_in flight.turns flight.last) =
    ap (map (λ (rec : Record). rec.epoch)) (sym (records-kept history)) ∙ ap epochs_of published in
    let climb = numbers_of_flight common.keys flown.basis flown.before.steering flown.after.steering flight.turns flight.last flown.end flight.script in
    let most = flown.after.steering.epoch + 1 in
    let from_opening : Climb (opening.published.epoch + 1) (epochs_of history) most =
    climb-lower (opening.published.epoch + 1) (flown.before.steering.epoch + 1) (epochs_of history) most (omega (arith, readied))
    (subst (λ (numbers : List ℕ). Climb (flown.before.steering.epoch + 1) numbers most) (sym epochs) climb) in
    record {
      list = opens.list;
      rows = opens.rows;
      flags = opens.flags;
      stamp = opens.stamp;
      origin = opens.origin;
      legal = legal-from opening history [] history most is.legal refl from_opening;
      moments = journal.moments;
      tellable = journal.tellable;
    }

-- a pilot that was made ready for a session begins it so
pub readied-begins : (opening : ServerState) (pilot : PilotParts) (flown : Flown) (new : PilotParts) → IsPiloted (readied_for opening.published pilot) flown new → IsReadied opening flown
readied-begins opening pilot flown new is =
    let same : max pilot.helm.steering.epoch opening.published.epoch ≡ flown.before.steering.epoch =
    ap (λ (p : PilotParts). p.helm.steering.epoch) is.before_is in
    omega (arith, same)

-- the history of a session that was served is a server's
pub served-history : {P C : Type 0} (doing : WorkerView P C → View → Doing) (common : Common) (opening : ServerState) (history : List Op) (olds news : List (WorkerView P C)) (pilot new : PilotParts) → IsOpening opening → IsJournal history
    → IsServed doing common opening history olds news (readied_for opening.published pilot) new → IsServersHistory opening history
served-history doing common opening history olds news pilot new opens journal is =
    sessions-history common opening history is.parts is.flown opens (readied-begins opening pilot is.flown new is.piloted) journal is.is_session
