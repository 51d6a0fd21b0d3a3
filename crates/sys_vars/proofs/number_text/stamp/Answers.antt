use Rattle.std.proofs.Common.{◌≡◌, sym, subst, rules}
use Rattle.sys_vars.specs.Variables.{IsPlainValue}
use Rattle.mode6_frame.specs.Stamps.{stamp_text}
use Rattle.sys_vars.proofs.ValueLemmas.{IsPlainValue-names, stamp-names}
use Rattle.sys_vars.proofs.number_text.stamp.Goals as goal

pub returns-clause-plain : goal.returns-clause-plain
unfolding stamp_text
returns-clause-plain c =
    let is : c.of.result ≡ stamp_text c.args.time.0 = search rules in
    subst IsPlainValue (sym is) (IsPlainValue-names (stamp_text c.args.time.0) (stamp-names c.args.time.0))
