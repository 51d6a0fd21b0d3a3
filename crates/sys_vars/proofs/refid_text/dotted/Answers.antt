use Rattle.std.proofs.Common.{◌≡◌, sym, subst, rules}
use Rattle.sys_vars.specs.Variables.{IsPlainValue}
use Rattle.std.specs.Net.Text.{ipv4_text}
use Rattle.sys_vars.proofs.ValueLemmas.{IsPlainValue-names, ipv4-names}
use Rattle.sys_vars.proofs.refid_text.dotted.Goals as goal

pub returns-clause-plain : goal.returns-clause-plain
returns-clause-plain c =
    let is : c.of.result ≡ ipv4_text c.args.octets.now = search rules in
    subst IsPlainValue (sym is) (IsPlainValue-names (ipv4_text c.args.octets.now) (ipv4-names c.args.octets.now c.fits-octets))
