-- What `specs/Readings.antt` reads is what `specs/Spelling.antt` spells.
use Rattle.std.proofs.Common.{◌≡◌, ℕ, zero, suc, ◌+◌, ◌-◌, ◌<◌, ◌≤◌, ◌^◌, Bool, true, false, List, [], ◌∷◌, ◌++◌, All, length, replicate, Option, Some, None, codes, decimal, refl, sym, ap, ◌∙◌, subst, arith, lit≤, lt-ltb, inl, inr, append_assoc}
use Rattle.std.proofs.lemmas.Bool.{and_parts, ltb-true}
use Rattle.std.proofs.lemmas.Fmt.{decimal_is_IsNumeral}
use Rattle.std.proofs.lemmas.List.{length-append, length-replicate}
use Rattle.std.proofs.lemmas.List.Elements.{All-cons, All-nil}
use Rattle.std.proofs.lemmas.Int.Digits.{digits_value-lt}
use Rattle.std.proofs.lemmas.Option.{same_Some}
use Rattle.std.proofs.lemmas.Slice.Eq.{bytes_eq-Decides}
use Rattle.std.proofs.Math.Nat.{pow-le-pow_right}
use Rattle.std.specs.Net.Addr.{segments_of, octets_of}
use Rattle.std.specs.Net.Grammar.{IsDotted, IsGroup, IsGroupsAfter, IsColonHex}
use Rattle.std.specs.Net.Reader.{read_byte, read_ipv4, read_ipv6}
use Rattle.std.specs.Str.Parse.{digits_value}
use Rattle.std.proofs.NetLemmas.Numbers.{NoDigit}
use Rattle.std.proofs.NetLemmas.Options.{and_then_some, cond_some, same_parts}
use Rattle.std.proofs.NetLemmas.Ipv4.{read_byte_sound, read_ipv4_complete, read_ipv4_sound, read_ipv4_none}
use Rattle.std.proofs.NetLemmas.Ipv6.{read_ipv6_complete, read_ipv6_sound}
use Rattle.net_addr.proofs.GroupLemmas.{AllSegments, All-octets_of, AllSegments-segments_of, length-octets_of, octets_of-segments_of, segments_of-octets_of}
use Rattle.net_addr.specs.declared.addr.Addr.{Addr}
use Rattle.net_addr.specs.declared.addr.Ip.{Ip}
use Rattle.net_addr.specs.declared.addr.Ip.TheVariants.{V4, V6}
use Rattle.net_addr.specs.Readings.{addr_in, bracketed_in, host_in, port_in, v4_or}
use Rattle.net_addr.specs.Spelling.{IsAddr, IsIp, Spells, SpellsHost}

-- the digits of a port are read, and nothing else
port_in_complete : (port : ℕ) → port < 2 ^ 16 → port_in (decimal port) ≡ Some port
port_in_complete port small =
    let value : digits_value 10 (decimal port) ≡ port = (decimal_is_IsNumeral port (omega arith)).1 in
    rw (value, lt-ltb port (2 ^ 16) small, (bytes_eq-Decides (decimal port) (decimal port)).1 refl) refl

port_in_sound : (digits : List ℕ) (port : ℕ) → port_in digits ≡ Some port → (port < 2 ^ 16) × (digits ≡ decimal port)
port_in_sound digits port read =
    let (test, value) = cond_some _ _ _ read in
    let (small, same) = and_parts _ _ test in
    (rw (← value) (ltb-true _ _ small), rw (← value) ((bytes_eq-Decides _ _).0 same))

-- octets, one after another
abbrev AreOctets : List ℕ → Type 0
AreOctets octets = All (λ octet. octet < 2 ^ 8) octets

AreOctets-cons : (octet : ℕ) (octets : List ℕ) → octet < 2 ^ 8 → AreOctets octets → AreOctets (octet ∷ octets)
AreOctets-cons octet octets first rest = All-cons (λ x. x < 2 ^ 8) octet octets first rest

-- the octets of dotted decimal are those of an address
IsIp-dotted : (text octets : List ℕ) → IsDotted text octets → IsIp (V4 octets)
IsIp-dotted text octets h =
    let last = AreOctets-cons h.d [] h.fit.3 (All-nil (λ x. x < 2 ^ 8)) in
    let all = AreOctets-cons h.a (h.b ∷ h.c ∷ h.d ∷ []) h.fit.0 (AreOctets-cons h.b (h.c ∷ h.d ∷ []) h.fit.1 (AreOctets-cons h.c (h.d ∷ []) h.fit.2 last)) in
    rw h.value (refl, all)

-- a segment before others
AllSegments-cons : (segment : ℕ) (segments : List ℕ) → segment < 2 ^ 16 → AllSegments segments → AllSegments (segment ∷ segments)
AllSegments-cons segment segments first rest zero = first
AllSegments-cons segment segments first rest (suc k) = rest k

AllSegments-append : (these those : List ℕ) → AllSegments these → AllSegments those → AllSegments (these ++ those)
AllSegments-append [] those front rest k = rest k
AllSegments-append (segment ∷ these) those front rest zero = front zero
AllSegments-append (segment ∷ these) those front rest (suc k) = AllSegments-append these those (λ i. front (suc i)) rest k

AllSegments-zeros : (n : ℕ) → AllSegments (replicate n 0)
AllSegments-zeros zero k = omega arith
AllSegments-zeros (suc n) zero = omega arith
AllSegments-zeros (suc n) (suc k) = AllSegments-zeros n k

-- a group has 16 bits
group-small : (group : List ℕ) (segment : ℕ) → IsGroup group segment → segment < 2 ^ 16
group-small group segment h =
    let below = digits_value-lt 16 group h.0.0.1 in
    let most : 16 ^ length group ≤ 16 ^ 4 = pow-le-pow_right (lit≤ tt) h.1 in
    omega (arith, h.0.1)

AllSegments-groups : (ipv4 : Bool) (before text segments : List ℕ) → IsGroupsAfter ipv4 before text segments → AllSegments segments
AllSegments-groups ipv4 before text [] h = λ k. omega arith
AllSegments-groups ipv4 before text (s ∷ segments) (inl h) =
    AllSegments-cons s segments (group-small h.0 s h.3) (AllSegments-groups ipv4 (codes ":") h.1 segments h.4)
AllSegments-groups ipv4 before text (s ∷ segments) (inr h) =
    subst AllSegments (sym h.5) (AllSegments-segments_of h.1 (IsIp-dotted h.0 h.1 h.4).1)

-- the text of an IPv6 address has eight segments
IsColonHex-segments : (text segments : List ℕ) → IsColonHex text segments → (length segments ≡ 8) × AllSegments segments
IsColonHex-segments text segments (inl h) = (h.1, AllSegments-groups true [] text segments h.0)
IsColonHex-segments text segments (inr h) =
    let zeros = replicate (8 - length h.head - length h.tail) 0 in
    let eight : length (h.head ++ zeros ++ h.tail) ≡ 8 = simp (length-append, length-replicate) (omega (arith, h.room)) in
    let front = AllSegments-append h.head zeros (AllSegments-groups false [] h.head_text h.head h.head_groups) (AllSegments-zeros _) in
    let all = AllSegments-append (h.head ++ zeros) h.tail front (AllSegments-groups true [] h.tail_text h.tail h.tail_groups) in
    (ap length h.value ∙ eight, subst AllSegments (sym h.value) all)

IsIp-segments : (segments : List ℕ) → length segments ≡ 8 → AllSegments segments → IsIp (V6 (octets_of segments))
IsIp-segments segments eight fits = (length-octets_of segments ∙ ap (λ n. n + n) eight, All-octets_of segments fits)

-- what stands before a port is read to its end
host_in_complete : (host rest : List ℕ) (ip : Ip) → IsIp ip → SpellsHost host ip → NoDigit 10 rest → host_in (host ++ rest) ≡ Some (ip, rest)
unfolding host_in
host_in_complete host rest (V4 octets) fits (inner, h, same) stop =
    rw (same, read_ipv4_complete inner octets rest h stop) refl
host_in_complete host rest (V6 octets) fits (inner, h, same) stop =
    let closed : (inner ++ 93 ∷ []) ++ rest ≡ inner ++ 93 ∷ rest = append_assoc inner (93 ∷ []) rest in
    let groups = read_ipv6_complete inner (segments_of octets) (93 ∷ rest) h ((lit≤ tt, omega arith), λ colon. absurd (omega arith)) in
    let none : read_ipv4 (91 ∷ (inner ++ 93 ∷ rest)) ≡ None = read_ipv4_none [] (91 ∷ (inner ++ 93 ∷ rest)) tt (lit≤ tt) (omega arith) in
    rw (same, closed, none, groups, octets_of-segments_of 8 octets fits.0 fits.1) refl

-- what a reader found at the front of a text
abbrev IsHostAt : List ℕ → Ip → List ℕ → Type 0
IsHostAt text ip rest = (host : List ℕ) × (text ≡ host ++ rest) × SpellsHost host ip × IsIp ip

bracketed_in_sound : (text rest : List ℕ) (ip : Ip) → bracketed_in text ≡ Some (ip, rest) → IsHostAt text ip rest
bracketed_in_sound text rest ip e =
    and_then_some _ (read_byte 91 text) _ e λ inner opens e₁.
    and_then_some _ (read_ipv6 inner) _ e₁ λ groups read e₂.
    and_then_some _ (read_byte 93 groups.1) _ e₂ λ left closes e₃.
    let (is, rest_is) = same_parts (V6 (octets_of groups.0)) ip left rest e₃ in
    let (front, split, h) = read_ipv6_sound inner groups.0 groups.1 read in
    let (eight, fits) = IsColonHex-segments front groups.0 h in
    let spelled : IsColonHex front (segments_of (octets_of groups.0)) = rw (segments_of-octets_of groups.0 fits) h in
    let whole : text ≡ (91 ∷ (front ++ 93 ∷ [])) ++ left =
    read_byte_sound 91 text inner opens ∙ ap (λ xs. 91 ∷ xs) (split ∙ ap (λ xs. front ++ xs) (read_byte_sound 93 groups.1 left closes) ∙ sym (append_assoc front (93 ∷ []) left)) in
    subst (λ other. IsHostAt text other rest) is
    (91 ∷ (front ++ 93 ∷ []), whole ∙ ap (λ xs. (91 ∷ (front ++ 93 ∷ [])) ++ xs) rest_is, (front, spelled, refl), IsIp-segments groups.0 eight fits)

host_in_sound : (text rest : List ℕ) (ip : Ip) → host_in text ≡ Some (ip, rest) → IsHostAt text ip rest
unfolding host_in
host_in_sound text rest ip e = by (read_ipv4 text) refl e
  where
    by : (read : Option (List ℕ × List ℕ)) → read_ipv4 text ≡ read → v4_or (bracketed_in text) read ≡ Some (ip, rest) → IsHostAt text ip rest
    by None is e = bracketed_in_sound text rest ip e
    by (Some octets) is e =
        let (same, rest_is) = same_parts (V4 octets.0) ip octets.1 rest e in
        let (front, split, h) = read_ipv4_sound text octets.0 octets.1 is in
        subst (λ other. IsHostAt text other rest) same
        (front, split ∙ ap (λ xs. front ++ xs) rest_is, (front, h, refl), IsIp-dotted front octets.0 h)

-- the address that a text spells is read
pub addr_in_complete : (text : List ℕ) (a : Addr) → IsAddr a → Spells text a → addr_in text ≡ Some a
unfolding addr_in
addr_in_complete text a fits (host, spelled, split) =
    let whole : text ≡ host ++ 58 ∷ decimal a.port = split ∙ append_assoc host (58 ∷ []) (decimal a.port) in
    rw (whole, host_in_complete host (58 ∷ decimal a.port) a.ip fits.ip spelled (lit≤ tt), port_in_complete a.port fits.port) refl

-- and nothing else is
pub addr_in_sound : (text : List ℕ) (a : Addr) → addr_in text ≡ Some a → IsAddr a × Spells text a
unfolding addr_in
addr_in_sound text a e =
    and_then_some _ (host_in text) _ e λ host read e₁.
    and_then_some _ (read_byte 58 host.1) _ e₁ λ digits mark e₂.
    and_then_some _ (port_in digits) _ e₂ λ port number e₃.
    let (front, split, spelled, fits) = host_in_sound text host.1 host.0 read in
    let (small, is) = port_in_sound digits port number in
    let whole : text ≡ front ++ codes ":" ++ decimal port =
    split ∙ ap (λ xs. front ++ xs) (read_byte_sound 58 host.1 digits mark ∙ ap (λ xs. 58 ∷ xs) is) ∙ sym (append_assoc front (58 ∷ []) (decimal port)) in
    subst (λ other. IsAddr other × Spells text other) (same_Some _ _ e₃)
    (record { ip = fits; port = small }, (front, spelled, whole))

-- where a text spells no address, none is read
pub addr_in_none : (text : List ℕ) → ((a : Addr) → IsAddr a → ¬ (Spells text a)) → addr_in text ≡ None
addr_in_none text none = by (addr_in text) refl
  where
    by : (read : Option Addr) → addr_in text ≡ read → addr_in text ≡ None
    by None is = is
    by (Some a) is = let (fits, spelled) = addr_in_sound text a is in absurd (none a fits spelled)
