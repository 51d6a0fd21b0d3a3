use Rattle.std.proofs.Common.{arith}
use Rattle.hex.proofs.HexLemmas.{length-encode_with}
use Rattle.std.proofs.Common.{◌≡◌, ◌++◌, codes, sym, subst, rules, refl, arith}
use Rattle.sys_vars.specs.Variables.{IsPlainValue}
use Rattle.hex.specs.Hex.{encode_lower}
use Rattle.sys_vars.proofs.ValueLemmas.{IsPlainValue-names, bytes-all, encode-names, names-append}
use Rattle.sys_vars.proofs.refid_text.hexadecimal.Goals as goal

pub returns-clause-short : goal.returns-clause-short
returns-clause-short c = grind (arith, length-encode_with)

pub returns-clause-plain : goal.returns-clause-plain
returns-clause-plain c =
    let is : c.of.result ≡ codes "0x" ++ encode_lower c.args.octets.now = search rules in
    subst IsPlainValue (sym is) (IsPlainValue-names (codes "0x" ++ encode_lower c.args.octets.now) (names-append (codes "0x") (encode_lower c.args.octets.now) (refl, (refl, tt)) (encode-names c.args.octets.now (bytes-all c.args.octets.now c.fits-octets))))
