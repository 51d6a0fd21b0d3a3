-- When two addresses are the same.
use Rattle.std.proofs.Common.{◌≡◌, true, false, refl, sym, ap, subst}
use Rattle.std.proofs.lemmas.Bool.{both_ways, false_from_ne_true}
use Rattle.std.proofs.lemmas.Slice.Eq.{bytes_eq-Decides}
use Rattle.net_addr.specs.Addresses.{same_ip}
use Rattle.net_addr.specs.declared.addr.Ip.{Ip}
use Rattle.net_addr.specs.declared.addr.Ip.TheVariants.{V4, V6}

-- addresses that are the same are equal
pub same_ip-eq : (one other : Ip) → same_ip one other ≡ true → one ≡ other
same_ip-eq (V4 these) (V4 those) same = ap (λ octets. V4 octets) ((bytes_eq-Decides these those).0 same)
same_ip-eq (V6 these) (V6 those) same = ap (λ octets. V6 octets) ((bytes_eq-Decides these those).0 same)
same_ip-eq (V4 these) (V6 those) same = cc
same_ip-eq (V6 these) (V4 those) same = cc

-- an address is the same as itself
pub same_ip-refl : (ip : Ip) → same_ip ip ip ≡ true
same_ip-refl (V4 octets) = (bytes_eq-Decides octets octets).1 refl
same_ip-refl (V6 octets) = (bytes_eq-Decides octets octets).1 refl

-- where one address is not another, the other is not the one
pub same_ip-sym : (one other : Ip) → same_ip one other ≡ false → same_ip other one ≡ false
same_ip-sym one other differ =
    let P : Ip → Type 0 = λ ip. same_ip one ip ≡ true in
    false_from_ne_true _ (λ same. both_ways _ differ (subst P (sym (same_ip-eq other one same)) (same_ip-refl one)))
