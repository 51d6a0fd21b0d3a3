use Rattle.std.proofs.Common.{sym, ap, ◌∙◌, arith}
use Rattle.std.proofs.Math.ListN.{set}
use Rattle.std.proofs.lemmas.List.Edits.{map_over_more}
use Rattle.associations.specs.Settling.{forgotten}
use Rattle.associations.proofs.TakingLemmas.{All-changed}
use Rattle.associations.proofs.settling.forget_all.Goals as goal

pub loop-server-preserved : goal.loop-server-preserved
loop-server-preserved c = record {
  so_far =
      ap (set c.loop-server.list c.loop-server.server-index) (c.forget.ensures.value ∙ ap forgotten (sym c.server-item.is))
      ∙ map_over_more forgotten c.args.list.now c.loop-server.list c.loop-server.server-index c.server-item.result
      (omega arith) c.loop-server.invariant.so_far c.server-item.is;
  sound = λ all.
      All-changed c.loop-server.list c.loop-server.server-index c.server-item.result c.forget.new.server
      (omega arith) c.forget.ensures.sound (c.loop-server.invariant.sound all);
}
