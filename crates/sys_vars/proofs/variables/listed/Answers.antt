use Rattle.std.proofs.Common.{◌≤◌, ◌+◌, List, length, sym, subst, arith}
use Rattle.std.specs.List.{AllByRecursion}
use Rattle.mode6_frame.specs.declared.items.Item.{Item}
use Rattle.mode6_frame.specs.ItemTexts.{IsWritable}
use Rattle.sys_vars.specs.Variables.{IsShort, variable_of}
use Rattle.sys_vars.proofs.VariableLemmas.{filter_map-step}
use Rattle.sys_vars.proofs.WritableLemmas.{writable-kept}
use Rattle.sys_vars.proofs.ShortLemmas.{few-kept, short-kept}
use Rattle.sys_vars.proofs.variables.listed.Goals as goal

pub loop-number-preserved : goal.loop-number-preserved
loop-number-preserved c =
    let kept = c.loop-number.items.items in
    let item = c.in_ok-variable.field-0 in (
      filter_map-step (variable_of c.args.rec.now c.args.subject.now) c.args.numbers.now c.loop-number.number-index 0 kept _ _
          c.loop-number.invariant.0 (omega arith) c.in_ok-variable.ensures.value c.in_ok-keep.ensures,
      subst (λ (items : List Item). AllByRecursion IsShort items) (sym c.in_ok-keep.ensures) (short-kept kept item c.loop-number.invariant.1 c.in_ok-variable.ensures.short),
      subst (λ (items : List Item). length items ≤ c.loop-number.number-index + 1) (sym c.in_ok-keep.ensures) (omega (arith, few-kept kept item, c.loop-number.invariant.2)),
      subst (λ (items : List Item). AllByRecursion IsWritable items) (sym c.in_ok-keep.ensures) (writable-kept kept item c.loop-number.invariant.3 c.in_ok-variable.ensures.writable),
    )
