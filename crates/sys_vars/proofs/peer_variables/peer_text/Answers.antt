use Rattle.std.proofs.Common.{◌≡◌, sym, subst, ◌∙◌}
use Rattle.sys_vars.specs.Variables.{IsPlainValue}
use Rattle.net_addr.specs.Spelling.{ip_text}
use Rattle.sys_vars.proofs.ValueLemmas.{IsPlainValue-names, ip-names}
use Rattle.sys_vars.proofs.peer_variables.peer_text.Goals as goal

pub returns-in-0-clause-plain : goal.returns-in-0-clause-plain
returns-in-0-clause-plain c =
    let is : c.as_slice.result.now ≡ ip_text c.args.peer.now.addr.ip = c.as_slice.ensures.value ∙ c.write_ip.ensures.text in
    c.fixed.ensures.plain (subst IsPlainValue (sym is) (IsPlainValue-names (ip_text c.args.peer.now.addr.ip) (ip-names c.args.peer.now.addr.ip c.write_ip.ensures.fits)))
