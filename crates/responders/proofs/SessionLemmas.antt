-- What the jobs of a session make of it.
use Rattle.std.proofs.Common.{◌≡◌, ◌∙◌, ◌+◌, ◌^◌, ◌≤◌, ℕ, suc, Bool, Option, None, Some, List, [], ◌∷◌, length, refl, sym, ap, subst, arith}
use Rattle.std.specs.Prelude.{IsSome, IsTrue}
use Rattle.std.specs.List.{All, AllByRecursion}
use Rattle.std.proofs.lemmas.Bool.Decides.{nat_tests}
use Rattle.std.proofs.lemmas.List.Elements.{All-cons, All-head, All-tail}
use mathlib.Core.List.{IsPrefix}
use Rattle.atomic_table.specs.Seated.{TableId}
use Rattle.server_core.specs.Books.{BookParts}
use Rattle.server_core.specs.Histories.{state_after_all}
use Rattle.server_core.specs.States.{ServerState, refusal_of, state_after, stop_in}
use Rattle.server_core.specs.declared.op.Op.{Op}
use Rattle.server_core.specs.declared.op.Stop.{Stop}
use Rattle.turnstile.specs.Histories.{IsHistory, once_below, shares_of, times, times_of_all}
use Rattle.shared_book.specs.Entries.{IsSameSeat, View}
use Rattle.shared_book.specs.declared.common.Common.{Common}
use Rattle.worker.specs.declared.working.WorkEnd.{WorkEnd}
use Rattle.worker.specs.declared.working.WorkEnd.TheVariants.{Closed, Ended}
use Rattle.worker.specs.Doings.{Doing}
use Rattle.worker.specs.Workers.{WorkerView}
use Rattle.worker.proofs.DidLemmas.{Did-longer}
use Rattle.pilot.specs.Flights.{Flies, IsFlight}
use Rattle.pilot.specs.Views.{PilotParts}
use Rattle.pilot.specs.declared.flight.FlightEnd.{FlightEnd}
use Rattle.pilot.specs.declared.flight.FlightEnd.TheVariants.{Closed as PortClosed, Ended as Stopped}
use Rattle.pilot.specs.declared.steering.Basis.{Basis}
use Rattle.pilot.proofs.CallLemmas.{stop_in-longer}
use Rattle.responders.specs.Flown.{Flown, HasFlown, IsPiloted, StandsAfter}
use Rattle.responders.specs.Jobs.{AreSeated, EachBecame, HasFlownHere, IsClosedAfter, IsDoneAtEnd, IsReadyJob, IsWorked, seats_of, workers_of}
use Rattle.responders.specs.Outcomes.{IsDone, outcome_of}
use Rattle.responders.specs.Parts.{IsNewSeat, IsPart, Part, StandsAtEnd}
use Rattle.responders.specs.Prepared.{IsPrepared}
use Rattle.responders.specs.Sessions.{AreTheirs, IsServed, seats_after}
use Rattle.responders.specs.Workers.{AreNumbered, AreWorkers, reopened}
use Rattle.responders.specs.declared.jobs.Flight.{Flight}
use Rattle.responders.specs.declared.jobs.Job.{Job}
use Rattle.responders.specs.declared.opening.Prepared.{Prepared}
use Rattle.responders.specs.declared.session.Outcome.{Outcome}
use Rattle.responders.specs.declared.session.Outcome.TheVariants.{AllClosed}

-- books of the same parts are one
same_book : (s t : ServerState) (xs ys : List Op) → s ≡ t → xs ≡ ys → ◌≡◌ {A = BookParts} (record { state = s; journal = xs }) (record { state = t; journal = ys })
same_book s t xs ys state journal =
    ap (λ (u : ServerState). let book : BookParts = record { state = u; journal = xs } in book) state
    ∙ ap (λ (ops : List Op). let book : BookParts = record { state = t; journal = ops } in book) journal

-- a book whose only seat made no call is as it was
pub unused : (book back : BookParts) → book.journal ≡ [] → 0 ≡ once_below 0 (length back.journal) → back.state ≡ state_after_all book.state back.journal → back ≡ book
unused book back empty none after =
    let nothing : back.journal ≡ [] = no_ops back.journal none in
    let journal : back.journal ≡ book.journal = nothing ∙ sym empty in
    let state : back.state ≡ book.state = after ∙ ap (state_after_all book.state) nothing in
    same_book back.state book.state back.journal book.journal state journal
  where
    no_ops : (ops : List Op) → 0 ≡ once_below 0 (length ops) → ops ≡ []
    no_ops [] none = refl
    no_ops (op ∷ ops) none = absurd (grind (arith, nat_tests))

-- a stop that stands goes on to stand
StandsAtEnd-longer : (front history : List Op) (end : WorkEnd) → IsPrefix front history → StandsAtEnd front end → StandsAtEnd history end
StandsAtEnd-longer front history Closed longer stands = tt
StandsAtEnd-longer front history (Ended stop) longer stands = stop_in-longer front history stop longer stands

StandsAfter-longer : (front history : List Op) (end : FlightEnd) → IsPrefix front history → StandsAfter front end → StandsAfter history end
StandsAfter-longer front history PortClosed longer stands = tt
StandsAfter-longer front history (Stopped stop) longer stands = stop_in-longer front history stop longer stands

-- by the clauses of a flight
stands_after : (front : List Op) (end : FlightEnd) → ((stop : Stop) → end ≡ Stopped stop → stop_in front ≡ Some stop) → StandsAfter front end
stands_after front PortClosed stood = tt
stands_after front (Stopped stop) stood = stood stop refl

closed_after : (pilot : PilotParts) (end : FlightEnd) → (end ≡ PortClosed → IsTrue pilot.helm.outside.closed) → IsClosedAfter pilot end
closed_after pilot PortClosed closed = closed refl
closed_after pilot (Stopped stop) closed = tt

-- a flight of a pilot that was made ready, by its parts
pub record FliesHere (common : Common) (opening : ServerState) (who : ℕ) (end : FlightEnd) (old new : PilotParts) (from to : View) : Type 0 where
  pub basis : Basis
  pub basis_is : old.basis ≡ Some basis
  pub flight : IsFlight opening common.keys basis who end old.helm from new.helm to

pub flies_here : (common : Common) (opening : ServerState) (who : ℕ) (end : FlightEnd) (old new : PilotParts) (from to : View) → IsSome old.basis
    → Flies opening common.keys old.basis who end old.helm from new.helm to → FliesHere common opening who end old new from to
flies_here common opening who end old new from to some flies = by_basis old.basis refl some flies where
  by_basis : (basis : Option Basis) → old.basis ≡ basis → IsSome basis → Flies opening common.keys basis who end old.helm from new.helm to → FliesHere common opening who end old new from to
  by_basis None is some flies = absurd flies
  by_basis (Some basis) is some flies = record { basis = basis; basis_is = is; flight = flies }

pub HasFlownHere-by : {P C : Type 0} (common : Common) (opening : ServerState) (old new : Flight P C) (end : FlightEnd) → new.end ≡ Some end → IsSome old.pilot.basis
    → Flies opening common.keys old.pilot.basis old.who end old.pilot.helm old.seat new.pilot.helm new.seat
    → ((stop : Stop) → end ≡ Stopped stop → stop_in new.seat.front ≡ Some stop) → (end ≡ PortClosed → IsTrue new.pilot.helm.outside.closed)
    → new.pilot.basis ≡ old.pilot.basis → new.who ≡ old.who → IsSameSeat old.seat new.seat → HasFlownHere common opening old new
HasFlownHere-by common opening old new end is some flies stood closed basis who seat =
    let here = flies_here common opening old.who end old.pilot new.pilot old.seat new.seat some flies in record {
      end = end;
      end_is = is;
      basis = here.basis;
      basis_is = here.basis_is;
      basis_kept = basis ∙ here.basis_is;
      flight = here.flight;
      stands = stands_after new.seat.front end stood;
      closed = closed_after new.pilot end closed;
      who_kept = who;
      seat_kept = seat;
    }

module _ {P C : Type 0} where
  -- there are as many jobs as workers, before and after
  length_seated : (first : View) (workers : List (WorkerView P C)) (jobs : List (Job P C)) → AreSeated first workers jobs → length jobs ≡ length workers
  length_seated first [] [] seated = refl
  length_seated first [] (job ∷ jobs) seated = absurd seated
  length_seated first (worker ∷ workers) [] seated = absurd seated
  length_seated first (worker ∷ workers) (job ∷ jobs) (is, split, seated) = ap suc (length_seated first workers jobs seated)

  length_became : (became : Job P C → Job P C → Type 0) (olds news : List (Job P C)) → EachBecame became olds news → length news ≡ length olds
  length_became became [] [] each = refl
  length_became became [] (new ∷ news) each = absurd each
  length_became became (old ∷ olds) [] each = absurd each
  length_became became (old ∷ olds) (new ∷ news) (is, each) = ap suc (length_became became olds news each)

  -- jobs at splits of a seat of this turnstile are ready
  pub ready_jobs : (most : P → ℕ) (door : TableId) (opening : ServerState) (first : View) (workers : List (WorkerView P C)) (jobs : List (Job P C))
      → first.door ≡ door → first.opening ≡ Some opening → AllByRecursion (λ (worker : WorkerView P C). 1024 ≤ most worker.port) workers → AreSeated first workers jobs
      → AllByRecursion (IsReadyJob most door opening) jobs
  ready_jobs most door opening first [] [] own opened gives seated = tt
  ready_jobs most door opening first [] (job ∷ jobs) own opened gives seated = absurd seated
  ready_jobs most door opening first (worker ∷ workers) [] own opened gives seated = absurd seated
  ready_jobs most door opening first (worker ∷ workers) (job ∷ jobs) own opened (here, gives) (is, split, seated) = (
    record {
      own = split.door_is ∙ own;
      opened = split.opening_is ∙ opened;
      gives = subst (λ (w : WorkerView P C). 1024 ≤ most w.port) (sym is) here;
    },
    ready_jobs most door opening first workers jobs own opened gives seated,
  )

-- the jobs of a session, before and after they were done
module _ {P C : Type 0} (doing : WorkerView P C → View → Doing) (seat_is : (worker : WorkerView P C) (seat : View) → (doing worker seat).seat ≡ seat) (acts_are : (worker : WorkerView P C) (seat : View) → (doing worker seat).acts ≡ worker.acts) (is_closed : P → Bool) (common : Common) (opening : ServerState) where
  abbrev Worked : Job P C → Job P C → Type 0
  Worked = IsWorked doing is_closed common opening

  pub length_of_all : (first : View) (workers : List (WorkerView P C)) (olds news : List (Job P C)) → AreSeated first workers olds → EachBecame Worked olds news → length news ≡ length workers
  length_of_all first workers olds news seated each = length_became Worked olds news each ∙ length_seated first workers olds seated

  -- the seats stay seats of their turnstile, with their shares
  doors_kept : (door : TableId) (first : View) (workers : List (WorkerView P C)) (olds news : List (Job P C)) → first.door ≡ door → AreSeated first workers olds → EachBecame Worked olds news
      → All (λ (seat : View). seat.door ≡ door) (seats_of news)
  doors_kept door first [] [] [] own seated each = λ k d below. absurd (omega (arith, below))
  doors_kept door first [] [] (new ∷ news) own seated each = absurd each
  doors_kept door first [] (old ∷ olds) news own seated each = absurd seated
  doors_kept door first (worker ∷ workers) [] news own seated each = absurd seated
  doors_kept door first (worker ∷ workers) (old ∷ olds) [] own seated each = absurd each
  doors_kept door first (worker ∷ workers) (old ∷ olds) (new ∷ news) own (is, split, seated) (done, each) =
      All-cons (λ (seat : View). seat.door ≡ door) new.seat (seats_of news) (done.seat_kept.door_kept ∙ split.door_is ∙ own) (doors_kept door first workers olds news own seated each)

  shares_kept : (olds news : List (Job P C)) → EachBecame Worked olds news → shares_of (seats_of news) ≡ shares_of (seats_of olds)
  shares_kept [] [] each = refl
  shares_kept [] (new ∷ news) each = absurd each
  shares_kept (old ∷ olds) [] each = absurd each
  shares_kept (old ∷ olds) (new ∷ news) (done, each) = omega (arith, done.seat_kept.share_kept, shares_kept olds news each)

  -- the workers stay as many, in their order
  numbered_still : (low : ℕ) (first : View) (workers : List (WorkerView P C)) (olds news : List (Job P C)) → AreNumbered low workers → AreSeated first workers olds → EachBecame Worked olds news
      → AreNumbered low (workers_of news)
  numbered_still low first [] [] [] numbered seated each = tt
  numbered_still low first [] [] (new ∷ news) numbered seated each = absurd each
  numbered_still low first [] (old ∷ olds) news numbered seated each = absurd seated
  numbered_still low first (worker ∷ workers) [] news numbered seated each = absurd seated
  numbered_still low first (worker ∷ workers) (old ∷ olds) [] numbered seated each = absurd each
  numbered_still low first (worker ∷ workers) (old ∷ olds) (new ∷ news) (here, numbered) (is, split, seated) (done, each) =
      (done.who_kept ∙ ap (λ (w : WorkerView P C). w.who) is ∙ here, numbered_still (low + 1) first workers olds news numbered seated each)

  length_workers : (jobs : List (Job P C)) → length (workers_of jobs) ≡ length jobs
  length_workers [] = refl
  length_workers (job ∷ jobs) = ap suc (length_workers jobs)

  pub workers_still : (first : View) (workers : List (WorkerView P C)) (olds news : List (Job P C)) → AreWorkers workers → AreSeated first workers olds → EachBecame Worked olds news → AreWorkers (workers_of news)
  workers_still first workers olds news are seated each =
      let same : length (workers_of news) ≡ length workers = length_workers news ∙ length_of_all first workers olds news seated each in record {
        some = omega (arith, are.some, same);
        few = omega (arith, are.few, same);
        numbered = numbered_still 0 first workers olds news are.numbered seated each;
      }

  -- all seats are one turnstile's, and their shares are the whole
  pub all_doors : (door : TableId) (first second : View) (workers : List (WorkerView P C)) (olds news : List (Job P C)) (seats : List View) → first.door ≡ door → second.door ≡ door → seats ≡ seats_of news
      → AreSeated first workers olds → EachBecame Worked olds news → All (λ (seat : View). seat.door ≡ door) (second ∷ seats)
  all_doors door first second workers olds news seats own also are seated each =
      All-cons (λ (seat : View). seat.door ≡ door) second seats also
      (subst (All (λ (seat : View). seat.door ≡ door)) (sym are) (doors_kept door first workers olds news own seated each))

  pub all_shares : (second : View) (whole share : ℕ) (olds news : List (Job P C)) (seats : List View) → second.share ≡ share → shares_of (seats_of olds) + share ≡ whole → seats ≡ seats_of news
      → EachBecame Worked olds news → shares_of (second ∷ seats) ≡ whole
  all_shares second whole share olds news seats kept sum are each = omega (arith, kept, sum, ap shares_of are, shares_kept olds news each)

  -- the parts of the jobs
  abbrev parts_of : (olds news : List (Job P C)) → EachBecame Worked olds news → List Part
  parts_of [] [] each = []
  parts_of [] (new ∷ news) each = []
  parts_of (old ∷ olds) [] each = []
  parts_of (old ∷ olds) (new ∷ news) (done, each) =
      record { before = doing old.worker old.seat; after = doing new.worker new.seat; end = done.end; lacking = done.lacking } ∷ parts_of olds news each

  seats_of_parts : (olds news : List (Job P C)) (each : EachBecame Worked olds news) → seats_after (parts_of olds news each) ≡ seats_of news
  seats_of_parts [] [] each = refl
  seats_of_parts [] (new ∷ news) each = absurd each
  seats_of_parts (old ∷ olds) [] each = absurd each
  seats_of_parts (old ∷ olds) (new ∷ news) (done, each) = ap (λ (seat : View). seat ∷ seats_after (parts_of olds news each)) (seat_is new.worker new.seat) ∙ ap (λ (seats : List View). new.seat ∷ seats) (seats_of_parts olds news each)

  length_parts : (olds news : List (Job P C)) (each : EachBecame Worked olds news) → length (parts_of olds news each) ≡ length olds
  length_parts [] [] each = refl
  length_parts [] (new ∷ news) each = absurd each
  length_parts (old ∷ olds) [] each = absurd each
  length_parts (old ∷ olds) (new ∷ news) (done, each) = ap suc (length_parts olds news each)

  -- they are those of the workers
  theirs : (first : View) (workers : List (WorkerView P C)) (olds news : List (Job P C)) → AreSeated first workers olds → (each : EachBecame Worked olds news)
      → AreTheirs doing workers (parts_of olds news each) (workers_of news)
  theirs first [] [] [] seated each = tt
  theirs first [] [] (new ∷ news) seated each = absurd each
  theirs first [] (old ∷ olds) news seated each = absurd seated
  theirs first (worker ∷ workers) [] news seated each = absurd seated
  theirs first (worker ∷ workers) (old ∷ olds) [] seated each = absurd each
  theirs first (worker ∷ workers) (old ∷ olds) (new ∷ news) (is, split, seated) (done, each) = (
    record {
      began = ap (λ (w : WorkerView P C). doing w old.seat) is ∙ ap (doing (reopened worker)) (sym (seat_is old.worker old.seat));
      left = ap (doing new.worker) (sym (seat_is new.worker new.seat));
    },
    theirs first workers olds news seated each,
  )

  -- over a history that the seats have seen fronts of
  done_parts : (history : List Op) (first : View) (workers : List (WorkerView P C)) (olds news : List (Job P C)) → IsNewSeat opening first → All (λ (seat : View). IsPrefix seat.front history) (seats_of news)
      → AreSeated first workers olds → (each : EachBecame Worked olds news) → AllByRecursion (IsPart common opening history) (parts_of olds news each)
  done_parts history first [] [] [] new_seat fronts seated each = tt
  done_parts history first [] [] (new ∷ news) new_seat fronts seated each = absurd each
  done_parts history first [] (old ∷ olds) news new_seat fronts seated each = absurd seated
  done_parts history first (worker ∷ workers) [] news new_seat fronts seated each = absurd seated
  done_parts history first (worker ∷ workers) (old ∷ olds) [] new_seat fronts seated each = absurd each
  done_parts history first (worker ∷ workers) (old ∷ olds) (new ∷ news) new_seat fronts (is, split, seated) (done, each) =
      let front : IsPrefix new.seat.front history = All-head (λ (seat : View). IsPrefix seat.front history) new.seat (seats_of news) fronts in (
        record {
          new_seat = record {
            opened = ap (λ (seat : View). seat.opening) (seat_is old.worker old.seat) ∙ split.opening_is ∙ new_seat.opened;
            unseen = ap (λ (seat : View). seat.front) (seat_is old.worker old.seat) ∙ split.front_is ∙ new_seat.unseen;
            uncalled = ap (λ (seat : View). seat.own) (seat_is old.worker old.seat) ∙ split.uncalled;
          };
          idle = acts_are old.worker old.seat ∙ ap (λ (w : WorkerView P C). w.acts) is;
          did = Did-longer common opening new.seat.front history done.lacking (doing old.worker old.seat) (doing new.worker new.seat) front done.did;
          may_lack = done.may_lack;
          stands = StandsAtEnd-longer new.seat.front history done.end front done.stands;
        },
        done_parts history first workers olds news new_seat (All-tail (λ (seat : View). IsPrefix seat.front history) new.seat (seats_of news) fronts) seated each,
      )

  -- the flight of the pilot
  abbrev flown_by : (old new : Flight P C) → HasFlownHere common opening old new → Flown
  flown_by old new here = record {
    basis = here.basis;
    before = old.pilot.helm;
    from = old.seat;
    after = new.pilot.helm;
    to = new.seat;
    end = here.end;
  }

  has_flown : (history : List Op) (who : ℕ) (old new : Flight P C) (here : HasFlownHere common opening old new) → IsNewSeat opening old.seat → old.who ≡ who → IsPrefix new.seat.front history
      → HasFlown common opening history who (flown_by old new here)
  has_flown history who old new here new_seat is front = record {
    new_seat = new_seat;
    flight = subst (λ (number : ℕ). IsFlight opening common.keys here.basis number here.end old.pilot.helm old.seat new.pilot.helm new.seat) is here.flight;
    seen = front;
    stands = StandsAfter-longer new.seat.front history here.end front here.stands;
  }

  piloted_by : (old new : Flight P C) (here : HasFlownHere common opening old new) → IsPiloted old.pilot (flown_by old new here) new.pilot
  piloted_by old new here = record {
    before_is = ap (λ (basis : Option Basis). record { helm = old.pilot.helm; basis = basis }) here.basis_is;
    after_is = ap (λ (basis : Option Basis). record { helm = new.pilot.helm; basis = basis }) here.basis_kept;
  }

  -- the session that the jobs and the flight are
  pub is_served : (history : List Op) (first : View) (workers : List (WorkerView P C)) (olds news : List (Job P C)) (old new : Flight P C) (seats : List View) (list : List (WorkerView P C))
      → IsNewSeat opening first → IsNewSeat opening old.seat → old.who ≡ length workers
      → AreSeated first workers olds → EachBecame Worked olds news → HasFlownHere common opening old new → seats ≡ seats_of news → list ≡ workers_of news
      → IsHistory state_after (λ s before op. refusal_of before s.stamp op) opening history
      → All (λ (seat : View). IsPrefix seat.front history) (new.seat ∷ seats)
      → ((place : ℕ) → times_of_all place (new.seat ∷ seats) ≡ once_below place (length history))
      → IsServed doing common opening history workers list old.pilot new.pilot
  is_served history first workers olds news old new seats list first_new second_new who seated each here are lists legal fronts once =
      let parts = parts_of olds news each in
      let same : seats ≡ seats_after parts = are ∙ sym (seats_of_parts olds news each) in
      let count : old.who ≡ length parts = who ∙ sym (length_parts olds news each ∙ length_seated first workers olds seated) in
      let flew : HasFlown common opening history (length parts) (flown_by old new here) =
      has_flown history (length parts) old new here second_new count (All-head (λ (seat : View). IsPrefix seat.front history) new.seat seats fronts) in
      let others = subst (All (λ (seat : View). IsPrefix seat.front history)) are (All-tail (λ (seat : View). IsPrefix seat.front history) new.seat seats fronts) in
      record {
        parts = parts;
        flown = flown_by old new here;
        is_session = record {
          legal = legal;
          worked = done_parts history first workers olds news first_new others seated each;
          piloted = flew;
          once = λ place. subst (λ (all : List View). times_of_all place (new.seat ∷ all) ≡ once_below place (length history)) same (once place);
        };
        theirs = subst (AreTheirs doing workers parts) (sym lists) (theirs first workers olds news seated each);
        piloted = piloted_by old new here;
      }

  -- where no stop stands, all are done
  worker_done : (history : List Op) (end : WorkEnd) (front : List Op) (worker : WorkerView P C) → stop_in history ≡ None → IsPrefix front history → StandsAtEnd front end → IsDoneAtEnd is_closed worker end → IsDone is_closed worker
  worker_done history Closed front worker none longer stands done = done
  worker_done history (Ended stop) front worker none longer stands done = let stood = stop_in-longer front history stop longer stands in absurd (cc (none, stood))

  all_done : (history : List Op) (olds news : List (Job P C)) → stop_in history ≡ None → All (λ (seat : View). IsPrefix seat.front history) (seats_of news) → EachBecame Worked olds news
      → AllByRecursion (IsDone is_closed) (workers_of news)
  all_done history [] [] none fronts each = tt
  all_done history [] (new ∷ news) none fronts each = absurd each
  all_done history (old ∷ olds) [] none fronts each = absurd each
  all_done history (old ∷ olds) (new ∷ news) none fronts (done, each) = (
    worker_done history done.end new.seat.front new.worker none (All-head (λ (seat : View). IsPrefix seat.front history) new.seat (seats_of news) fronts) done.stands done.done,
    all_done history olds news none (All-tail (λ (seat : View). IsPrefix seat.front history) new.seat (seats_of news) fronts) each,
  )

  no_stop : (stop : Option Stop) → AllClosed ≡ outcome_of stop → stop ≡ None
  no_stop None is = refl
  no_stop (Some stop) is = absurd (cc is)

  pub closed_all : (history : List Op) (olds news : List (Job P C)) (second : View) (seats : List View) (list : List (WorkerView P C)) (outcome : Outcome) → outcome ≡ outcome_of (stop_in history) → outcome ≡ AllClosed
      → All (λ (seat : View). IsPrefix seat.front history) (second ∷ seats) → seats ≡ seats_of news → list ≡ workers_of news → EachBecame Worked olds news → AllByRecursion (IsDone is_closed) list
  closed_all history olds news second seats list outcome is all fronts are lists each =
      subst (AllByRecursion (IsDone is_closed)) (sym lists)
      (all_done history olds news (no_stop (stop_in history) (sym all ∙ is)) (subst (All (λ (seat : View). IsPrefix seat.front history)) are (All-tail (λ (seat : View). IsPrefix seat.front history) second seats fronts)) each)

  pilot_done : (history : List Op) (end : FlightEnd) (front : List Op) (pilot : PilotParts) → stop_in history ≡ None → IsPrefix front history → StandsAfter front end → IsClosedAfter pilot end → IsTrue pilot.helm.outside.closed
  pilot_done history PortClosed front pilot none longer stands closed = closed
  pilot_done history (Stopped stop) front pilot none longer stands closed = let stood = stop_in-longer front history stop longer stands in absurd (cc (none, stood))

  pub closed_pilot : (history : List Op) (old new : Flight P C) (seats : List View) (outcome : Outcome) → outcome ≡ outcome_of (stop_in history) → outcome ≡ AllClosed
      → All (λ (seat : View). IsPrefix seat.front history) (new.seat ∷ seats) → HasFlownHere common opening old new → IsTrue new.pilot.helm.outside.closed
  closed_pilot history old new seats outcome is all fronts here =
      pilot_done history here.end new.seat.front new.pilot (no_stop (stop_in history) (sym all ∙ is)) (All-head (λ (seat : View). IsPrefix seat.front history) new.seat seats fronts) here.stands here.closed

-- a seat that made no call and the only one leaves none
pub no_calls : (first : View) (rest : List View) (count : ℕ) → first.own ≡ [] → rest ≡ [] → times_of_all 0 (first ∷ rest) ≡ once_below 0 count → 0 ≡ once_below 0 count
no_calls first rest count uncalled none once = omega (arith, ap (times 0) uncalled, ap (times_of_all 0) none, once)

-- a session has begun: its first seat before and after each worker got its own, and the jobs at these
pub record HasBegun {P C : Type 0} (opening : ServerState) (door : TableId) (first second : View) (workers : List (WorkerView P C)) (olds : List (Job P C)) : Type 0 where
  pub own : first.door ≡ door
  pub new_seat : IsNewSeat opening first
  pub second_own : second.door ≡ door
  pub second_new : IsNewSeat opening second
  pub seated : AreSeated first workers olds
  pub sum : shares_of (seats_of olds) + second.share ≡ 2 ^ 32

pub has_begun : {P C : Type 0} (prepared : Prepared P C) (listed workers : List (WorkerView P C)) (second : View) (olds : List (Job P C))
    → (given : (book : BookParts) × (book.journal ≡ []) × IsPrepared book (length workers) prepared) → listed ≡ workers → AreSeated prepared.first listed olds
    → second ≡ record prepared.first { share = second.share } → shares_of (seats_of olds) + second.share ≡ prepared.first.share
    → HasBegun given.0.state prepared.door prepared.first second workers olds
has_begun prepared listed workers second olds (book, empty, is) same seated left sum =
    let first = is.first_is in
    let door : prepared.first.door ≡ prepared.door = ap (λ (seat : View). seat.door) first in
    let opened : prepared.first.opening ≡ Some book.state = ap (λ (seat : View). seat.opening) first in
    let unseen : prepared.first.front ≡ [] = ap (λ (seat : View). seat.front) first in
    let uncalled : prepared.first.own ≡ [] = ap (λ (seat : View). seat.own) first in
    let share : prepared.first.share ≡ 2 ^ 32 = ap (λ (seat : View). seat.share) first in
    record {
      own = door;
      new_seat = record { opened = opened; unseen = unseen; uncalled = uncalled };
      second_own = ap (λ (seat : View). seat.door) left ∙ door;
      second_new = record {
        opened = ap (λ (seat : View). seat.opening) left ∙ opened;
        unseen = ap (λ (seat : View). seat.front) left ∙ unseen;
        uncalled = ap (λ (seat : View). seat.own) left ∙ uncalled;
      };
      seated = subst (λ (ws : List _). AreSeated prepared.first ws olds) same seated;
      sum = sum ∙ share;
    }

-- its jobs are ready
pub jobs_ready : {P C : Type 0} (most : P → ℕ) (opening : ServerState) (door : TableId) (first second : View) (workers : List (WorkerView P C)) (olds : List (Job P C))
    → HasBegun opening door first second workers olds → AllByRecursion (λ (worker : WorkerView P C). 1024 ≤ most worker.port) workers → AllByRecursion (IsReadyJob most door opening) olds
jobs_ready most opening door first second workers olds begun gives = ready_jobs most door opening first workers olds begun.own begun.new_seat.opened gives begun.seated

-- the state in which it opened is the one that its first seat has
pub same_opening : {P C : Type 0} (opening other : ServerState) (door : TableId) (first second : View) (workers : List (WorkerView P C)) (olds : List (Job P C))
    → HasBegun opening door first second workers olds → first.opening ≡ Some other → opening ≡ other
same_opening opening other door first second workers olds begun is = let opened = begun.new_seat.opened in cc
