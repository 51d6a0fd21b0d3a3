use Rattle.std.proofs.Common.{◌<◌, ℕ, ◌+◌, length, sym, ap, ◌∙◌, arith}
use Rattle.std.specs.List.{filter_map}
use Rattle.std.proofs.lemmas.List.FromFn.{length-enumerate_from}
use Rattle.sys_vars.proofs.VariableLemmas.{filter_map-step}
use Rattle.associations.specs.Candidates.{candidate_of, numbered}
use Rattle.associations.specs.declared.association.Association.{Association}
use Rattle.associations.proofs.NumberLemmas.{number_at, numbered_all}
use Rattle.associations.proofs.candidates.gather.Goals as goal

pub returns : goal.returns
returns c =
    c.loop-place.invariant.so_far
    ∙ ap (filter_map (λ (np : ℕ × Association). candidate_of c.args.moment np.0 np.1)) (numbered_all c.args.list.now c.loop-place.place (omega arith))

pub loop-place-preserved : goal.loop-place-preserved
loop-place-preserved c = record {
  so_far =
      let list = c.args.list.now in
      let i = c.loop-place.place in
      let d = c.index-list-place.result in
      let inside : i < length (numbered list) = omega (arith, c.loop-place-test.true, length-enumerate_from 1 list) in
      let kept = λ (np : ℕ × Association). candidate_of c.args.moment np.0 np.1 in
      filter_map-step kept (numbered list) i (0, d) c.loop-place.candidates.items _ c.candidate_of.result
      c.loop-place.invariant.so_far inside
      (c.candidate_of.ensures ∙ ap (candidate_of c.args.moment (i + 1)) c.index-list-place.is ∙ ap kept (sym (number_at list i d c.loop-place-test.true)))
      c.keep.ensures.items;
  few = omega (arith, c.keep.ensures.len, c.loop-place.invariant.few);
}
