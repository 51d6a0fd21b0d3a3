-- Where a MAC stands in the octets that have it, and that a spelled one is read back.
use Rattle.std.proofs.Common.{ℕ, ◌≡◌, ◌+◌, ◌≤◌, ◌++◌, ◌⊎◌, inl, inr, List, [], length, drop, Some, sym, ◌∙◌, ap, subst, arith, length-append, length-drop}
use Rattle.std.specs.List.{concat}
use Rattle.std.proofs.lemmas.Bool.Decides.{nat_tests}
use Rattle.std.proofs.Math.Seq.{drop-append_seam}
use Rattle.mac_keys.specs.declared.keys.Key.{Key}
use Rattle.mac_keys.specs.Digests.{digest_of}
use Rattle.ntp_packet.specs.declared.packet.TheConstants.{HEADER_LEN}
use Rattle.ntp_trailer.specs.declared.parts.TheConstants.{KEY_ID_LEN}
use Rattle.ntp_trailer.specs.declared.parts.Mac.{Mac}
use Rattle.ntp_trailer.specs.declared.parts.Trailer.{Trailer}
use Rattle.ntp_trailer.specs.Trailers.{HasTrailer, IsTrailer, IsEnd, mac_at, mac_from, place_after}
use Rattle.ntp_trailer.specs.Authentic.{spelled_mac}

-- a MAC that octets of some length give begins at their place
mac_from-start : (octets : List ℕ) (mac : Mac) (place : ℕ) → KEY_ID_LEN ≤ length octets → mac_from place octets ≡ Some mac → mac.start ≡ place
mac_from-start octets mac place some given =
    let from : mac_from place octets ≡ Some (mac_at place octets) = grind (arith, nat_tests) in
    let both : Some (mac_at place octets) ≡ Some mac = sym from ∙ given in
    let same : mac_at place octets ≡ mac = cc in
    sym (ap (λ (m : Mac). m.start) same)

-- octets that give a MAC have a key id
key_id-within : (fields : List (List ℕ)) (octets : List ℕ) (mac : Mac) (place : ℕ) → IsEnd fields octets → mac_from place octets ≡ Some mac → KEY_ID_LEN ≤ length octets
key_id-within fields octets mac place (inl (none, first)) given =
    let bare : mac_from place [] ≡ Some mac = ap (λ (read : List ℕ). mac_from place read) (sym none) ∙ given in
    absurd (cc)
key_id-within fields octets mac place (inr (inl long)) given = omega arith
key_id-within fields octets mac place (inr (inr (inl long))) given = omega arith
key_id-within fields octets mac place (inr (inr (inr long))) given = omega arith

-- the key id of a MAC is within the octets
pub mac-within : (octets : List ℕ) (trailer : Trailer) (mac : Mac) → HasTrailer octets trailer → trailer.mac ≡ Some mac → mac.start + KEY_ID_LEN ≤ length octets
mac-within octets trailer mac has given =
    let from : mac_from (place_after has.fields) has.mac ≡ Some mac = sym (ap (λ (t : Trailer). t.mac) has.places) ∙ given in
    let some = key_id-within has.fields has.mac mac (place_after has.fields) has.is.end from in
    let starts = mac_from-start has.mac mac (place_after has.fields) some from in
    omega (arith, starts, some, ap length has.is.division.joined, length-append (concat has.fields) has.mac, length-drop HEADER_LEN octets)

-- a MAC behind a header alone is its trailer
pub IsTrailer-spelled_mac : (key : Key) (octets : List ℕ) → ((length (digest_of key octets) ≡ 16) ⊎ (length (digest_of key octets) ≡ 20)) → length octets ≡ HEADER_LEN
    → IsTrailer (octets ++ spelled_mac key octets) [] (spelled_mac key octets)
IsTrailer-spelled_mac key octets sizes header = record {
  division = record {
    joined = subst (λ n. drop n (octets ++ spelled_mac key octets) ≡ spelled_mac key octets) header (drop-append_seam octets (spelled_mac key octets));
    are_fields = tt;
  };
  end = elim sizes [ inl small ↦ inr (inr (inl (omega arith))) | inr large ↦ inr (inr (inr (omega arith))) ];
}
