-- The MAC that ends a reply shows what the request's MAC showed.
use Rattle.std.proofs.Common.{◌≡◌, ℕ, ◌+◌, ◌<◌, ◌^◌, ◌==◌, ◌++◌, Bool, true, false, cond, ◌⊎◌, List, [], ◌∷◌, length, take, drop, replicate, Option, Some, IsSomeAnd, refl, sym, ap, subst, ◌∙◌, inl, inr, arith, append_assoc, length-append}
use Rattle.std.proofs.lemmas.Bool.Decides.{nat_tests}
use Rattle.std.proofs.lemmas.List.{append-nil}
use Rattle.std.proofs.Math.Seq.{take-append_seam, drop-append_seam}
use Rattle.byteorder.specs.Endian.{big_bytes}
use Rattle.byteorder.specs.Numbers.{big_number-reads_back}
use Rattle.mac_keys.specs.declared.checking.Auth.TheVariants.{Absent, Good, Bad}
use Rattle.mac_keys.specs.declared.keys.Key.{Key}
use Rattle.mac_keys.specs.Digests.{digest_of}
use Rattle.mac_keys.specs.Tables.{key_of}
use Rattle.mac_keys.specs.Checks.{IsAuthentic}
use Rattle.ntp_packet.specs.declared.packet.TheConstants.{HEADER_LEN}
use Rattle.ntp_trailer.specs.declared.parts.TheConstants.{KEY_ID_LEN}
use Rattle.ntp_trailer.specs.declared.parts.Mac.{Mac}
use Rattle.ntp_trailer.specs.Trailers.{IsTrailer, mac_at, mac_from, trailer_of}
use Rattle.ntp_trailer.specs.Authentic.{IsAuthenticMac, spelled_mac}
use Rattle.server_core.specs.Reply.{Shows}

-- a key that a table has for an id has that id
key_of-id : (keys : List Key) (id : ℕ) (key : Key) → key_of keys id ≡ Some key → key.id ≡ id
key_of-id [] id key found = absurd (cc found)
key_of-id (first ∷ keys) id key found = by_test (key_of-id keys id key) (first.id == id) refl found
  where
    by_test : (key_of keys id ≡ Some key → key.id ≡ id) → (is : Bool) → (first.id == id) ≡ is → cond is (Some first) (key_of keys id) ≡ Some key → key.id ≡ id
    by_test later true is here =
        let same : first ≡ key = cc in
        let first_is : first.id ≡ id = grind (arith, nat_tests) in
        sym (ap (λ (k : Key). k.id) same) ∙ first_is
    by_test later false is there = later there

-- octets that are some give a MAC
mac_from-some : (octets : List ℕ) → 0 < length octets → mac_from HEADER_LEN octets ≡ Some (mac_at HEADER_LEN octets)
mac_from-some octets some = grind (arith, nat_tests)

-- octets begin with a header, and behind its id stands the digest of a MAC
header_of : (header mac : List ℕ) → length header ≡ HEADER_LEN → take HEADER_LEN (header ++ mac) ≡ header
header_of header mac long = subst (λ n. take n (header ++ mac) ≡ header) long (take-append_seam header mac)

digest_behind : (header id digest : List ℕ) → length header ≡ HEADER_LEN → length id ≡ KEY_ID_LEN → drop (HEADER_LEN + KEY_ID_LEN) (header ++ (id ++ digest)) ≡ digest
digest_behind header id digest long four =
    let front : length (header ++ id) ≡ HEADER_LEN + KEY_ID_LEN = omega (arith, length-append header id) in
    let there : drop (HEADER_LEN + KEY_ID_LEN) ((header ++ id) ++ digest) ≡ digest = subst (λ n. drop n ((header ++ id) ++ digest) ≡ digest) front (drop-append_seam (header ++ id) digest) in
    subst (λ octets. drop (HEADER_LEN + KEY_ID_LEN) octets ≡ digest) (append_assoc header id digest) there

-- a MAC that was spelled behind a header is good
IsAuthenticMac-spelled : (keys : List Key) (key : Key) (header : List ℕ) → length header ≡ HEADER_LEN → key.id < 2 ^ 32 → key_of keys key.id ≡ Some key → KEY_ID_LEN < length (spelled_mac key header)
    → IsAuthenticMac keys (header ++ spelled_mac key header) (mac_at HEADER_LEN (spelled_mac key header)) key.id
IsAuthenticMac-spelled keys key header long fits has some =
    let octets = header ++ spelled_mac key header in
    let digest : drop (HEADER_LEN + KEY_ID_LEN) octets ≡ digest_of key (take HEADER_LEN octets) =
    digest_behind header (big_bytes KEY_ID_LEN key.id) (digest_of key header) long refl ∙ ap (digest_of key) (sym (header_of header (spelled_mac key header) long)) in
    let authentic : IsAuthentic keys key.id (take HEADER_LEN octets) (drop (HEADER_LEN + KEY_ID_LEN) octets) =
    subst (λ (found : Option Key). IsSomeAnd found (λ k. drop (HEADER_LEN + KEY_ID_LEN) octets ≡ digest_of k (take HEADER_LEN octets))) (sym has) digest in
    (big_number-reads_back KEY_ID_LEN key.id (digest_of key header) fits, some, authentic)

-- what is more than a key id longer has more than a key id behind it
longer_than_id : (header mac reply : List ℕ) → reply ≡ header ++ mac → (length reply ≡ length header + KEY_ID_LEN + 16) ⊎ (length reply ≡ length header + KEY_ID_LEN + 20) → KEY_ID_LEN < length mac
longer_than_id header mac reply is (inl count) = omega (arith, ap length is, length-append header mac)
longer_than_id header mac reply is (inr count) = omega (arith, ap length is, length-append header mac)

-- a reply with a MAC shows that it is good
pub Shows-good : (keys : List Key) (key : Key) (id : ℕ) (header reply : List ℕ) → length header ≡ HEADER_LEN → id < 2 ^ 32 → key_of keys id ≡ Some key → reply ≡ header ++ spelled_mac key header
    → (length reply ≡ length header + KEY_ID_LEN + 16) ⊎ (length reply ≡ length header + KEY_ID_LEN + 20) → IsTrailer reply [] (spelled_mac key header) → Shows keys (Good id) reply
Shows-good keys key id header reply long fits has is sizes read_back =
    let same : key.id ≡ id = key_of-id keys id key has in
    let mac = spelled_mac key header in
    let some : KEY_ID_LEN < length mac = longer_than_id header mac reply is sizes in
    let authentic : IsAuthenticMac keys (header ++ mac) (mac_at HEADER_LEN mac) key.id =
    IsAuthenticMac-spelled keys key header long (omega arith) (subst (λ n. key_of keys n ≡ Some key) (sym same) has) some in
    let of_reply : IsAuthenticMac keys reply (mac_at HEADER_LEN mac) key.id = subst (λ octets. IsAuthenticMac keys octets (mac_at HEADER_LEN mac) key.id) (sym is) authentic in
    let under : IsAuthenticMac keys reply (mac_at HEADER_LEN mac) id = subst (λ n. IsAuthenticMac keys reply (mac_at HEADER_LEN mac) n) same of_reply in
    let found : mac_from HEADER_LEN mac ≡ Some (mac_at HEADER_LEN mac) = mac_from-some mac (omega arith) in
    record {
      trailer = trailer_of [] mac;
      has = record { fields = []; mac = mac; is = read_back; places = refl };
      shown = subst (λ (m : Option Mac). IsSomeAnd m (λ n. IsAuthenticMac keys reply n id)) (sym found) under;
    }

-- a header alone shows that there is no MAC
pub Shows-absent : (keys : List Key) (header : List ℕ) → length header ≡ HEADER_LEN → Shows keys Absent header
Shows-absent keys header long = record {
  trailer = trailer_of [] [];
  has = record {
    fields = [];
    mac = [];
    is = record {
      division = record { joined = subst (λ n. drop n header ≡ []) long (subst (λ octets. drop (length header) octets ≡ []) (append-nil header) (drop-append_seam header [])); are_fields = tt };
      end = inl (refl, refl);
    };
    places = refl;
  };
  shown = refl;
}

-- a crypto-NAK shows that a MAC is bad
pub Shows-bad : (keys : List Key) (header : List ℕ) → length header ≡ HEADER_LEN → Shows keys Bad (header ++ replicate KEY_ID_LEN 0)
Shows-bad keys header long = record {
  trailer = trailer_of [] (replicate KEY_ID_LEN 0);
  has = record {
    fields = [];
    mac = replicate KEY_ID_LEN 0;
    is = record {
      division = record { joined = subst (λ n. drop n (header ++ replicate KEY_ID_LEN 0) ≡ replicate KEY_ID_LEN 0) long (drop-append_seam header (replicate KEY_ID_LEN 0)); are_fields = tt };
      end = inr (inl refl);
    };
    places = refl;
  };
  shown = (λ none. cc, λ id authentic. omega (arith, authentic.1));
}
