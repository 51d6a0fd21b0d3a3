use Rattle.std.proofs.Common.{◌∙◌, ap, sym, subst}
use Rattle.std.specs.List.{AllByRecursion}
use Rattle.std.proofs.lemmas.List.Elements.{All-from_recursion}
use Rattle.std.specs.Prelude.{slice_index_or}
use Rattle.worker.specs.Doings.{doing_of}
use Rattle.responders.specs.Jobs.{IsReadyJob, IsWorked}
use Rattle.responders.specs.declared.jobs.Job.{Job}
use Rattle.responders.proofs.JobLemmas.{EachBecame-written, changed_at}
use Rattle.responders.proofs.jobs.work_all.Goals as goal

pub returns : goal.returns
returns g c = λ opening ready.
    let slice = c.as_mut_slice.ensures in
    let is_ready = IsReadyJob g.P.Port.most c.args.door.now opening in
    let worked = IsWorked {P = g.row.P.Denot} {C = g.row.C.Denot} (doing_of g.P.Port.trace g.P.Port.faults g.P.Port.quiets g.P.Port.address g.P.Port.most g.C.Clock.readings) g.P.Port.is_closed c.args.common.now opening in
    let old = c.as_mut_slice.result.now in
    let new = c.for_each_mut.new.s in
    let each = subst (AllByRecursion is_ready) (sym slice.value) ready in
    EachBecame-written worked c.args.jobs.items old new c.args.jobs.len slice.value c.for_each_mut.auto.s slice.len
    (λ i d below.
    let change = (c.for_each_mut.ensures i d below).1 in
    let opened = All-from_recursion is_ready old each i d below in
    changed_at worked (slice_index_or old i d) (slice_index_or new i d) change.argument.now change.after_call.now change.argument_is change.left
    (change.call opening (ap (λ (job : Job g.row.P.Denot g.row.C.Denot). job.seat.opening) change.argument_is ∙ opened.opened)))

pub for_each_mut-requires-clause-accepts : goal.for_each_mut-requires-clause-accepts
for_each_mut-requires-clause-accepts g c κs within = λ i p below is.
    let opening = c.requires.ready.0 in
    let is_ready = IsReadyJob g.P.Port.most c.args.door.now opening in
    let slice = c.as_mut_slice.ensures in
    let each = subst (AllByRecursion is_ready) (sym slice.value) c.requires.ready.1 in
    (opening, subst is_ready (sym is) (All-from_recursion is_ready c.as_mut_slice.result.now each i p.now below))
