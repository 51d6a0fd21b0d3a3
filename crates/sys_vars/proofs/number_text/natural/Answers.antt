use Rattle.std.proofs.Common.{◌≡◌, decimal, sym, subst, ◌∙◌, arith}
use Rattle.sys_vars.specs.Variables.{IsPlainValue}
use Rattle.sys_vars.proofs.ValueLemmas.{IsPlainValue-names, decimal-names}
use Rattle.sys_vars.proofs.number_text.natural.Goals as goal

pub returns-clause-plain : goal.returns-clause-plain
returns-clause-plain c =
    let is : c.as_bytes.result.now ≡ decimal c.args.number = c.as_bytes.ensures.value ∙ c.format.ensures.text in
    c.fixed.ensures.plain (subst IsPlainValue (sym is) (IsPlainValue-names (decimal c.args.number) (decimal-names c.args.number (omega (arith, c.ranges.number)))))
