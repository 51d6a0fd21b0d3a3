use Rattle.std.proofs.Common.{ℕ, arith}
use Rattle.associations.specs.Marks.{marked_one}
use Rattle.associations.specs.declared.association.Association.{Association}
use Rattle.associations.proofs.NumberLemmas.{changed_all, changed_more}
use Rattle.associations.proofs.TakingLemmas.{All-changed}
use Rattle.associations.proofs.choosing.mark.Goals as goal

pub returns-clause-value : goal.returns-clause-value
returns-clause-value c =
    changed_all (λ (np : ℕ × Association). marked_one c.args.choice.now c.args.moment np.0 np.1)
    c.args.list.now c.loop-place.list c.loop-place.place (omega arith) c.loop-place.invariant.so_far

pub loop-place-preserved : goal.loop-place-preserved
loop-place-preserved c = record {
  so_far =
      changed_more (λ (np : ℕ × Association). marked_one c.args.choice.now c.args.moment np.0 np.1)
      c.args.list.now c.loop-place.list c.loop-place.place c.index-list-place.result c.mark_one.new.server
      c.loop-place-test.true c.loop-place.invariant.so_far
      c.mark_one.ensures.value;
  sound = λ all.
      All-changed c.loop-place.list c.loop-place.place c.index-list-place.result c.mark_one.new.server
      (omega arith) c.mark_one.ensures.sound (c.loop-place.invariant.sound all);
}
