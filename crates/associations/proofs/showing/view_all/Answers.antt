use Rattle.std.proofs.Common.{◌≡◌, ◌+◌, [], ◌∷◌, length, length-append, ap, ◌∙◌, arith}
use Rattle.associations.proofs.ShowingLemmas.{views_more}
use Rattle.associations.proofs.showing.view_all.Goals as goal

pub loop-place-preserved : goal.loop-place-preserved
loop-place-preserved c = record {
  as_many =
      let grown : length c.push.new.self ≡ length c.loop-place.views + 1 =
      ap length c.push.ensures ∙ length-append c.loop-place.views (c.view.result ∷ []) in
      omega arith;
  each =
      views_more c.args.list.now c.loop-place.views c.push.new.self c.loop-place.place c.index-list-place.result c.view.result
      c.loop-place.invariant.as_many c.loop-place.invariant.each c.loop-place-test.true c.index-list-place.is c.view.ensures c.push.ensures;
}
