use Rattle.std.proofs.Common.{List, sym, subst, arith}
use Rattle.mode6_frame.specs.declared.items.Item.{Item}
use Rattle.mode6_frame.specs.Cuts.{IsCuttable}
use Rattle.sys_vars.proofs.CutLemmas.{IsCuttable-short}
use Rattle.sys_vars.proofs.variables.variables.Goals as goal

pub returns-clause-cuttable : goal.returns-clause-cuttable
returns-clause-cuttable c = λ few.
    subst (λ (items : List Item). IsCuttable c.args.rec.now.epoch items) (sym c.of.ensures)
    (IsCuttable-short c.args.rec.now.epoch _ c.in_ok-listed.ensures.short (omega (arith, c.in_ok-listed.ensures.few, c.asked.ensures.few few)))
