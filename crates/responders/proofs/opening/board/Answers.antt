use Rattle.std.proofs.Common.{rules, ◌≡◌, ◌∙◌, ◌≤◌, ◌+◌, ◌-◌, ◌/◌, ◌^◌, List, [], ◌∷◌, ap, subst, arith, length}
use Rattle.std.proofs.lemmas.Grind.{common_steps}
use Rattle.std.specs.Vec.Iter.{into_iter_items}
use Rattle.turnstile.specs.Histories.{shares_of}
use Rattle.shared_book.specs.Entries.{View}
use Rattle.worker.specs.Workers.{WorkerView}
use Rattle.responders.specs.Jobs.{seats_of}
use Rattle.responders.specs.declared.jobs.Job.{Job}
use Rattle.responders.proofs.JobLemmas.{AreSeated-all, AreSeated-push, IsSplitOf-given, can_halve, half_enough, shares-push, still_first}
use Rattle.responders.proofs.opening.board.Goals as goal

pub split-seat-requires-clause-enough : goal.split-seat-requires-clause-enough
split-seat-requires-clause-enough g c =
    let next : into_iter_items c.loop-worker.worker-iterator ≡ c.in-Some.worker ∷ into_iter_items c.next.new.self = c.in-Some.ensures.steps.0 in
    can_halve (length (into_iter_items c.next.new.self)) c.loop-worker.first.share
    (subst (λ (ws : List (WorkerView g.row.P.Denot g.row.C.Denot)). 2 ^ (length ws + 1) ≤ c.loop-worker.first.share) next c.loop-worker.invariant.enough)

pub loop-worker-preserved : goal.loop-worker-preserved
loop-worker-preserved g c =
    let next : into_iter_items c.loop-worker.worker-iterator ≡ c.in-Some.worker ∷ into_iter_items c.next.new.self = c.in-Some.ensures.steps.0 in
    let old = c.loop-worker.invariant in
    let first = c.args.first.now in
    let job = c.job_at.result in
    let left = c.split-seat.ensures.left in
    let given = c.job_at.ensures.seat ∙ c.split-seat.ensures.given in
    let pushed = c.push_reserved.ensures.items in
    let share : c.split-seat.new.seat.share ≡ c.loop-worker.first.share - c.loop-worker.first.share / 2 = ap (λ (seat : View). seat.share) left in
    let half : job.seat.share ≡ c.loop-worker.first.share / 2 = ap (λ (seat : View). seat.share) given in record {
      seated = AreSeated-push first c.in-Some.worker (into_iter_items c.loop-worker.worker-iterator) (into_iter_items c.next.new.self) (into_iter_items c.into_iter-worker-iterator.result)
          c.loop-worker.jobs.items c.push_reserved.new.self.items job next pushed c.job_at.ensures.worker
          (IsSplitOf-given first c.loop-worker.first job.seat (c.loop-worker.first.share / 2) old.first given) old.seated;
      first = still_first first c.loop-worker.first c.split-seat.new.seat old.first left;
      shares = omega (arith, old.shares, share, half, ap (λ (jobs : List (Job g.row.P.Denot g.row.C.Denot)). shares_of (seats_of jobs)) pushed ∙ shares-push c.loop-worker.jobs.items job);
      enough = omega (
        arith,
        share,
        half_enough (length (into_iter_items c.next.new.self)) c.loop-worker.first.share
            (subst (λ (ws : List (WorkerView g.row.P.Denot g.row.C.Denot)). 2 ^ (length ws + 1) ≤ c.loop-worker.first.share) next old.enough),
      );
      room = search rules;
    }

pub returns-clause-seated : goal.returns-clause-seated
returns-clause-seated g c =
    let whole : into_iter_items c.into_iter-worker-iterator.result ≡ c.args.workers.items = c.into_iter-worker-iterator.ensures.into_iter_gives.0 in
    let none : into_iter_items c.loop-worker.worker-iterator ≡ [] = grind (arith, common_steps) in
    AreSeated-all c.args.first.now (into_iter_items c.loop-worker.worker-iterator) (into_iter_items c.into_iter-worker-iterator.result) c.args.workers.items c.loop-worker.jobs.items
    none whole c.loop-worker.invariant.seated
