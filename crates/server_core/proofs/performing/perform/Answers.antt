use Rattle.std.proofs.Common.{List, [], ◌∷◌, ◌++◌, length, arith, refl, sym, ap, ◌∙◌, append_assoc}
use Rattle.server_core.specs.declared.op.Op.{Op}
use Rattle.server_core.proofs.HistoryLemmas.{AreSteps-append, AreSteps-ended, IsStep-from, journal-AreSteps, length-one, state-AreSteps}
use Rattle.server_core.proofs.performing.perform.Goals as goal

pub loop-op-init : goal.loop-op-init
loop-op-init c =
    let none = c.in_ok-answers.ensures.items in
    let gives = c.into_iter-op-iterator.ensures.into_iter_gives in
    record {
      steps = rw none refl;
      rest = sym gives.0;
      room = omega (arith, ap length none, ap length gives.0, c.args.ops.ok.0, c.len.ensures, c.in_ok-answers.ensures.capacity);
    }

pub push_reserved-requires : goal.push_reserved-requires
push_reserved-requires c =
    omega (arith, c.loop-op.answers.ok.0, ap length c.in-Some.ensures.steps.0, c.loop-op.invariant.room)

pub loop-op-preserved : goal.loop-op-preserved
loop-op-preserved c =
    let ensures = c.step.ensures in
    let step = IsStep-from _ _ _ c.step.result ensures.answered ensures.next ensures.entered ensures.kept in
    let more = AreSteps-append _ _ _ _ _ _ _ c.loop-op.invariant.steps step in
    record {
      steps = rw c.push_reserved.ensures.items more;
      rest = c.loop-op.invariant.rest ∙ ap (λ (left : List Op). c.loop-op.yielded ++ left) c.in-Some.ensures.steps.0 ∙ sym (append_assoc c.loop-op.yielded (c.in-Some.op ∷ []) _);
      room = omega (arith, ap length c.in-Some.ensures.steps.0, ap length c.push_reserved.ensures.items, length-one c.loop-op.answers.items c.step.result, c.push_reserved.ensures.capacity, c.loop-op.invariant.room);
    }

pub returns-clause-steps : goal.returns-clause-steps
returns-clause-steps c =
    AreSteps-ended _ _ _ _ _ _ _ c.loop-op.invariant.steps c.loop-op.invariant.rest c.loop-op.op-iterator.rest.ok.0 c.in-None.ensures.steps.0

pub returns-clause-state : goal.returns-clause-state
returns-clause-state c = state-AreSteps _ _ _ _ (
    AreSteps-ended _ _ _ _ _ _ _ c.loop-op.invariant.steps c.loop-op.invariant.rest c.loop-op.op-iterator.rest.ok.0 c.in-None.ensures.steps.0
    )

pub returns-clause-journal : goal.returns-clause-journal
returns-clause-journal c = journal-AreSteps _ _ _ _ (
    AreSteps-ended _ _ _ _ _ _ _ c.loop-op.invariant.steps c.loop-op.invariant.rest c.loop-op.op-iterator.rest.ok.0 c.in-None.ensures.steps.0
    )
