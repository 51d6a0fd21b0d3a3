use Rattle.std.proofs.Common.{ℕ, Option, IsSomeAnd, sym, subst}
use Rattle.mac_keys.specs.declared.checking.Auth.TheVariants.{Absent, Good, Bad}
use Rattle.ntp_trailer.specs.declared.parts.Mac.{Mac}
use Rattle.ntp_trailer.specs.Authentic.{IsAuthenticMac}
use Rattle.ntp_trailer.proofs.AuthenticLemmas.{mac-within}
use Rattle.ntp_trailer.proofs.checking.auth.Goals as goal

pub auth_of-requires : goal.auth_of-requires
auth_of-requires c = mac-within c.args.bytes.now c.args.trailer.now c.in-Some.mac c.requires c.in-Some.is

pub returns-in-Some-clause-only : goal.returns-in-Some-clause-only
returns-in-Some-clause-only c Absent none = absurd cc
returns-in-Some-clause-only c (Good id) authentic =
    let IsGood : Option Mac → Type 0 = λ found. IsSomeAnd found (λ mac. IsAuthenticMac c.args.keys.now c.args.bytes.now mac id) in
    (c.auth_of.ensures.good id).1 (subst IsGood c.in-Some.is authentic)
returns-in-Some-clause-only c Bad others =
    let IsGood : ℕ → Option Mac → Type 0 = λ id found. IsSomeAnd found (λ mac. IsAuthenticMac c.args.keys.now c.args.bytes.now mac id) in
    c.auth_of.ensures.bad.1 (λ id authentic. others.1 id (subst (IsGood id) (sym c.in-Some.is) authentic))
