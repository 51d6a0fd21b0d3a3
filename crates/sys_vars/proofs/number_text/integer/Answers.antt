use Rattle.std.proofs.Common.{◌≡◌, sym, subst, rules}
use Rattle.sys_vars.specs.Variables.{IsPlainValue}
use Rattle.std.specs.Fmt.{signed_decimal}
use Rattle.sys_vars.proofs.ValueLemmas.{IsPlainValue-names, signed-names}
use Rattle.sys_vars.proofs.number_text.integer.Goals as goal

pub returns-clause-plain : goal.returns-clause-plain
returns-clause-plain c =
    let is : c.as_bytes.result.now ≡ signed_decimal c.args.number = search rules in
    c.fixed.ensures.plain (subst IsPlainValue (sym is) (IsPlainValue-names (signed_decimal c.args.number) (signed-names c.args.number (search (rules, c.ranges.number)))))
