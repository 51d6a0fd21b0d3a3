use Rattle.std.proofs.Common.{arith, ◌≡◌, ◌+◌, ◌*◌, ◌%◌, [], ◌∷◌, ◌∙◌, ap, bit_or}
use Rattle.std.proofs.lemmas.Nat.{or_shifted}
use Rattle.ntp_packet.specs.FirstOctet.{leap_of, version_of, mode_of}
use Rattle.ntp_packet.proofs.FirstOctetLemmas.{leap_of-first_octet, version_of-first_octet, mode_of-first_octet}
use Rattle.ntp_packet.proofs.leap_version_mode.first_octet.Goals as goal

pub returns-clause-spelled : goal.returns-clause-spelled
returns-clause-spelled c =
    let leap = c.args.leap in
    let version = c.args.version in
    let mode = c.args.mode in
    let leap_fits : leap * 64 % 256 ≡ leap * 64 = omega arith in
    let version_fits : version * 8 % 256 ≡ version * 8 = omega arith in
    let high : bit_or (leap * 64) (version * 8) ≡ leap * 64 + version * 8 = or_shifted leap 6 (version * 8) (omega arith) in
    let low : bit_or ((leap * 8 + version) * 8) mode ≡ (leap * 8 + version) * 8 + mode = or_shifted (leap * 8 + version) 3 mode (omega arith) in
    let joined : leap * 64 + version * 8 ≡ (leap * 8 + version) * 8 = omega arith in
    rw (leap_fits, version_fits, high, joined, low) (omega arith)

pub returns-clause-leap : goal.returns-clause-leap
returns-clause-leap c =
    ap (λ octet. leap_of (octet ∷ [])) (returns-clause-spelled c)
    ∙ leap_of-first_octet c.args.leap c.args.version c.args.mode [] (omega arith) (omega arith)

pub returns-clause-version : goal.returns-clause-version
returns-clause-version c =
    ap (λ octet. version_of (octet ∷ [])) (returns-clause-spelled c)
    ∙ version_of-first_octet c.args.leap c.args.version c.args.mode [] (omega arith) (omega arith)

pub returns-clause-mode : goal.returns-clause-mode
returns-clause-mode c =
    ap (λ octet. mode_of (octet ∷ [])) (returns-clause-spelled c)
    ∙ mode_of-first_octet c.args.leap c.args.version c.args.mode [] (omega arith)
