use Rattle.std.proofs.Common.{sym, subst, arith}
use Rattle.select_cluster.specs.Selecting.{IsAccepted}
use Rattle.select_cluster.proofs.SelectingLemmas.{none_accepted_more}
use Rattle.select_cluster.proofs.selection.select.Goals as goal

pub returns-in-Some-clause-selected : goal.returns-in-Some-clause-selected
returns-in-Some-clause-selected c =
    let found = c.in-Some.ensures.found in
    record {
      accepted = subst (λ f. IsAccepted c.args.candidates.now f c.in-Some.i.lo c.in-Some.i.hi) (sym found.0) found.1;
      no_fewer = λ f lo hi below. c.loop-f.invariant f lo hi (omega arith);
    }

pub loop-f-preserved : goal.loop-f-preserved
loop-f-preserved c = none_accepted_more c.args.candidates.now c.loop-f.f c.loop-f.invariant c.in_default.ensures.none

pub returns-clause-none : goal.returns-clause-none
returns-clause-none c = λ f lo hi accepted. c.loop-f.invariant f lo hi (omega (arith, accepted.minority)) accepted
