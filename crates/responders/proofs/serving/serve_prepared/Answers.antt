use Rattle.std.proofs.Common.{◌∙◌, ◌^◌, None, ap, arith, refl, subst, sym}
use Rattle.server_core.specs.States.{ServerState}
use Rattle.shared_book.specs.Entries.{View}
use Rattle.worker.specs.Doings.{doing_of}
use Rattle.responders.specs.Outcomes.{outcome_of}
use Rattle.responders.specs.Sessions.{IsServed}
use Rattle.responders.specs.Workers.{AreWorkers}
use Rattle.responders.specs.declared.jobs.Flight.{Flight}
use Rattle.responders.proofs.SessionLemmas.{all_doors, all_shares, closed_all, closed_pilot, has_begun, is_served, jobs_ready, length_of_all, same_opening, workers_still}
use Rattle.responders.proofs.serving.serve_prepared.Goals as goal

pub run_beside-jobs-requires-clause-ready : goal.run_beside-jobs-requires-clause-ready
run_beside-jobs-requires-clause-ready g c κs within =
    let begun = has_begun c.args.prepared c.workers.inside.list.items c.args.workers c.board-jobs.new.first c.board-jobs.result.items c.requires.prepared c.workers.view_is
    c.board-jobs.ensures.seated c.board-jobs.ensures.first c.board-jobs.ensures.shares in
    let ready = jobs_ready g.P.Port.most c.requires.prepared.0.state c.args.prepared.door c.args.prepared.first c.board-jobs.new.first c.args.workers c.board-jobs.result.items begun c.requires.most in (
      c.requires.prepared.0.state,
      ready,
      record { own = begun.second_own; opened = begun.second_new.opened; gives = c.requires.pilot_most; ready = c.requires.ready },
    )

pub part-list-requires-clause-room_for_workers : goal.part-list-requires-clause-room_for_workers
part-list-requires-clause-room_for_workers g c =
    let begun = has_begun c.args.prepared c.workers.inside.list.items c.args.workers c.board-jobs.new.first c.board-jobs.result.items c.requires.prepared c.workers.view_is
    c.board-jobs.ensures.seated c.board-jobs.ensures.first c.board-jobs.ensures.shares in
    let ready = jobs_ready g.P.Port.most c.requires.prepared.0.state c.args.prepared.door c.args.prepared.first c.board-jobs.new.first c.args.workers c.board-jobs.result.items begun c.requires.most in
    let opening = c.requires.prepared.0.state in
    let doing = doing_of g.P.Port.trace g.P.Port.faults g.P.Port.quiets g.P.Port.address g.P.Port.most g.C.Clock.readings in
    let worked = c.run_beside-jobs.ensures.worked opening begun.second_new.opened ready in
    omega (arith, length_of_all doing (λ worker seat. refl) (λ worker seat. refl) g.P.Port.is_closed c.args.common opening c.args.prepared.first c.args.workers c.board-jobs.result.items c.run_beside-jobs.result.0.items begun.seated worked, c.requires.prepared.2.room_for_workers)

pub part-list-requires-clause-room_for_seats : goal.part-list-requires-clause-room_for_seats
part-list-requires-clause-room_for_seats g c =
    let begun = has_begun c.args.prepared c.workers.inside.list.items c.args.workers c.board-jobs.new.first c.board-jobs.result.items c.requires.prepared c.workers.view_is
    c.board-jobs.ensures.seated c.board-jobs.ensures.first c.board-jobs.ensures.shares in
    let ready = jobs_ready g.P.Port.most c.requires.prepared.0.state c.args.prepared.door c.args.prepared.first c.board-jobs.new.first c.args.workers c.board-jobs.result.items begun c.requires.most in
    let opening = c.requires.prepared.0.state in
    let doing = doing_of g.P.Port.trace g.P.Port.faults g.P.Port.quiets g.P.Port.address g.P.Port.most g.C.Clock.readings in
    let worked = c.run_beside-jobs.ensures.worked opening begun.second_new.opened ready in
    omega (arith, length_of_all doing (λ worker seat. refl) (λ worker seat. refl) g.P.Port.is_closed c.args.common opening c.args.prepared.first c.args.workers c.board-jobs.result.items c.run_beside-jobs.result.0.items begun.seated worked, c.requires.prepared.2.room_for_seats)

pub close-book-requires-clause-own : goal.close-book-requires-clause-own
close-book-requires-clause-own g c =
    let begun = has_begun c.args.prepared c.workers.inside.list.items c.args.workers c.board-jobs.new.first c.board-jobs.result.items c.requires.prepared c.workers.view_is
    c.board-jobs.ensures.seated c.board-jobs.ensures.first c.board-jobs.ensures.shares in
    let ready = jobs_ready g.P.Port.most c.requires.prepared.0.state c.args.prepared.door c.args.prepared.first c.board-jobs.new.first c.args.workers c.board-jobs.result.items begun c.requires.most in
    let opening = c.requires.prepared.0.state in
    let doing = doing_of g.P.Port.trace g.P.Port.faults g.P.Port.quiets g.P.Port.address g.P.Port.most g.C.Clock.readings in
    let worked = c.run_beside-jobs.ensures.worked opening begun.second_new.opened ready in
    let flown = c.run_beside-jobs.ensures.flown opening begun.second_new.opened in
    all_doors doing (λ worker seat. refl) (λ worker seat. refl) g.P.Port.is_closed c.args.common opening c.args.prepared.door c.args.prepared.first c.run_beside-jobs.result.1.seat c.args.workers c.board-jobs.result.items c.run_beside-jobs.result.0.items c.part-list.result.1.items
    begun.own (flown.seat_kept.door_kept ∙ begun.second_own) c.part-list.ensures.seats begun.seated worked

pub close-book-requires-clause-whole : goal.close-book-requires-clause-whole
close-book-requires-clause-whole g c =
    let begun = has_begun c.args.prepared c.workers.inside.list.items c.args.workers c.board-jobs.new.first c.board-jobs.result.items c.requires.prepared c.workers.view_is
    c.board-jobs.ensures.seated c.board-jobs.ensures.first c.board-jobs.ensures.shares in
    let ready = jobs_ready g.P.Port.most c.requires.prepared.0.state c.args.prepared.door c.args.prepared.first c.board-jobs.new.first c.args.workers c.board-jobs.result.items begun c.requires.most in
    let opening = c.requires.prepared.0.state in
    let doing = doing_of g.P.Port.trace g.P.Port.faults g.P.Port.quiets g.P.Port.address g.P.Port.most g.C.Clock.readings in
    let worked = c.run_beside-jobs.ensures.worked opening begun.second_new.opened ready in
    let flown = c.run_beside-jobs.ensures.flown opening begun.second_new.opened in
    all_shares doing (λ worker seat. refl) (λ worker seat. refl) g.P.Port.is_closed c.args.common opening c.run_beside-jobs.result.1.seat (2 ^ 32) c.board-jobs.new.first.share c.board-jobs.result.items c.run_beside-jobs.result.0.items c.part-list.result.1.items
    flown.seat_kept.share_kept begun.sum c.part-list.ensures.seats worked

pub of-requires : goal.of-requires
of-requires g c =
    let begun = has_begun c.args.prepared c.workers.inside.list.items c.args.workers c.board-jobs.new.first c.board-jobs.result.items c.requires.prepared c.workers.view_is
    c.board-jobs.ensures.seated c.board-jobs.ensures.first c.board-jobs.ensures.shares in
    let ready = jobs_ready g.P.Port.most c.requires.prepared.0.state c.args.prepared.door c.args.prepared.first c.board-jobs.new.first c.args.workers c.board-jobs.result.items begun c.requires.most in
    let opening = c.requires.prepared.0.state in
    let doing = doing_of g.P.Port.trace g.P.Port.faults g.P.Port.quiets g.P.Port.address g.P.Port.most g.C.Clock.readings in
    let worked = c.run_beside-jobs.ensures.worked opening begun.second_new.opened ready in
    let were = subst AreWorkers c.workers.view_is c.workers.invariant in
    subst AreWorkers (sym c.part-list.ensures.workers) (workers_still doing (λ worker seat. refl) (λ worker seat. refl) g.P.Port.is_closed c.args.common opening c.args.prepared.first c.args.workers c.board-jobs.result.items c.run_beside-jobs.result.0.items were begun.seated worked)

pub returns-clause-served : goal.returns-clause-served
returns-clause-served g c = λ other opened.
    let begun = has_begun c.args.prepared c.workers.inside.list.items c.args.workers c.board-jobs.new.first c.board-jobs.result.items c.requires.prepared c.workers.view_is
    c.board-jobs.ensures.seated c.board-jobs.ensures.first c.board-jobs.ensures.shares in
    let ready = jobs_ready g.P.Port.most c.requires.prepared.0.state c.args.prepared.door c.args.prepared.first c.board-jobs.new.first c.args.workers c.board-jobs.result.items begun c.requires.most in
    let opening = c.requires.prepared.0.state in
    let doing = doing_of g.P.Port.trace g.P.Port.faults g.P.Port.quiets g.P.Port.address g.P.Port.most g.C.Clock.readings in
    let worked = c.run_beside-jobs.ensures.worked opening begun.second_new.opened ready in
    let flown = c.run_beside-jobs.ensures.flown opening begun.second_new.opened in
    let old : Flight g.row.P.Denot g.row.C.Denot = record { pilot = c.args.pilot; seat = c.board-jobs.new.first; who = c.len-who.result; end = None } in
    let same = same_opening opening other c.args.prepared.door c.args.prepared.first c.board-jobs.new.first c.args.workers c.board-jobs.result.items begun opened in
    let journal = c.close-book.result.journal in
    let closed = c.close-book.ensures in
    let kept = flown.seat_kept.opening_kept ∙ begun.second_new.opened in
    subst (λ (state : ServerState). IsServed doing c.args.common state journal c.args.workers c.of.result c.args.pilot c.run_beside-jobs.result.1.pilot) same
    (is_served doing (λ worker seat. refl) (λ worker seat. refl) g.P.Port.is_closed c.args.common opening journal c.args.prepared.first c.args.workers c.board-jobs.result.items c.run_beside-jobs.result.0.items old c.run_beside-jobs.result.1 c.part-list.result.1.items c.of.result
    begun.new_seat begun.second_new c.len-who.ensures.len begun.seated worked flown c.part-list.ensures.seats (c.of.ensures ∙ c.part-list.ensures.workers)
    (closed.history opening kept) closed.fronts closed.once)

pub returns-clause-state : goal.returns-clause-state
returns-clause-state g c = λ other opened.
    let begun = has_begun c.args.prepared c.workers.inside.list.items c.args.workers c.board-jobs.new.first c.board-jobs.result.items c.requires.prepared c.workers.view_is
    c.board-jobs.ensures.seated c.board-jobs.ensures.first c.board-jobs.ensures.shares in
    let ready = jobs_ready g.P.Port.most c.requires.prepared.0.state c.args.prepared.door c.args.prepared.first c.board-jobs.new.first c.args.workers c.board-jobs.result.items begun c.requires.most in
    let opening = c.requires.prepared.0.state in
    let doing = doing_of g.P.Port.trace g.P.Port.faults g.P.Port.quiets g.P.Port.address g.P.Port.most g.C.Clock.readings in
    let worked = c.run_beside-jobs.ensures.worked opening begun.second_new.opened ready in
    let flown = c.run_beside-jobs.ensures.flown opening begun.second_new.opened in
    let left = ap (λ (seat : View). seat.opening) c.board-jobs.ensures.first in
    c.close-book.ensures.state other (flown.seat_kept.opening_kept ∙ left ∙ opened)

pub returns-clause-closed : goal.returns-clause-closed
returns-clause-closed g c = λ all.
    let begun = has_begun c.args.prepared c.workers.inside.list.items c.args.workers c.board-jobs.new.first c.board-jobs.result.items c.requires.prepared c.workers.view_is
    c.board-jobs.ensures.seated c.board-jobs.ensures.first c.board-jobs.ensures.shares in
    let ready = jobs_ready g.P.Port.most c.requires.prepared.0.state c.args.prepared.door c.args.prepared.first c.board-jobs.new.first c.args.workers c.board-jobs.result.items begun c.requires.most in
    let opening = c.requires.prepared.0.state in
    let doing = doing_of g.P.Port.trace g.P.Port.faults g.P.Port.quiets g.P.Port.address g.P.Port.most g.C.Clock.readings in
    let worked = c.run_beside-jobs.ensures.worked opening begun.second_new.opened ready in
    let flown = c.run_beside-jobs.ensures.flown opening begun.second_new.opened in
    let is = c.outcome_of-outcome.ensures ∙ ap outcome_of c.stop.ensures in
    closed_all doing (λ worker seat. refl) (λ worker seat. refl) g.P.Port.is_closed c.args.common opening c.close-book.result.journal c.board-jobs.result.items c.run_beside-jobs.result.0.items c.run_beside-jobs.result.1.seat c.part-list.result.1.items c.of.result
    c.outcome_of-outcome.result is all c.close-book.ensures.fronts c.part-list.ensures.seats (c.of.ensures ∙ c.part-list.ensures.workers) worked

pub returns-clause-pilot_closed : goal.returns-clause-pilot_closed
returns-clause-pilot_closed g c = λ all.
    let begun = has_begun c.args.prepared c.workers.inside.list.items c.args.workers c.board-jobs.new.first c.board-jobs.result.items c.requires.prepared c.workers.view_is
    c.board-jobs.ensures.seated c.board-jobs.ensures.first c.board-jobs.ensures.shares in
    let ready = jobs_ready g.P.Port.most c.requires.prepared.0.state c.args.prepared.door c.args.prepared.first c.board-jobs.new.first c.args.workers c.board-jobs.result.items begun c.requires.most in
    let opening = c.requires.prepared.0.state in
    let doing = doing_of g.P.Port.trace g.P.Port.faults g.P.Port.quiets g.P.Port.address g.P.Port.most g.C.Clock.readings in
    let worked = c.run_beside-jobs.ensures.worked opening begun.second_new.opened ready in
    let flown = c.run_beside-jobs.ensures.flown opening begun.second_new.opened in
    let old : Flight g.row.P.Denot g.row.C.Denot = record { pilot = c.args.pilot; seat = c.board-jobs.new.first; who = c.len-who.result; end = None } in
    let is = c.outcome_of-outcome.ensures ∙ ap outcome_of c.stop.ensures in
    closed_pilot doing (λ worker seat. refl) (λ worker seat. refl) g.P.Port.is_closed c.args.common opening c.close-book.result.journal old c.run_beside-jobs.result.1 c.part-list.result.1.items
    c.outcome_of-outcome.result is all c.close-book.ensures.fronts flown
