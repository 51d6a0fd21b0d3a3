use Rattle.std.proofs.Common.{◌≡◌, sym, subst, rules}
use Rattle.sys_vars.specs.Variables.{IsPlainValue}
use Rattle.sys_vars.specs.Texts.{before_zero}
use Rattle.sys_vars.proofs.ValueLemmas.{IsPlainValue-names, letters-names}
use Rattle.sys_vars.proofs.ShortLemmas.{both}
use Rattle.sys_vars.proofs.refid_text.code.Goals as goal

pub returns-clause-plain : goal.returns-clause-plain
returns-clause-plain c =
    let is : c.of.result ≡ before_zero c.args.octets.now = search rules in
    subst IsPlainValue (sym is) (IsPlainValue-names (before_zero c.args.octets.now) (letters-names (before_zero c.args.octets.now) (both _ _ c.requires).1))
