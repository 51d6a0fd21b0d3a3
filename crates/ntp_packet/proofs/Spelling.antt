-- The header at the places of 48 octets is the one header that spells them.
use Rattle.std.proofs.Common.{◌≡◌, ℕ, zero, suc, ◌+◌, ◌^◌, ◌<◌, ◌≤◌, List, [], ◌∷◌, ◌++◌, length, take, drop, slice_index, w8, refl, sym, ap, ◌∙◌, arith, take-add, length-take, length-drop, rules, append_assoc, length-append, take_at, None}
use Rattle.std.proofs.lemmas.List.{get_or-drop, length-take-le, take-append-drop, take_all}
use Rattle.std.proofs.lemmas.Nat.{be_bytes_4, be_bytes_8}
use Rattle.std.proofs.lemmas.Int.{of_z-to_z, to_z-of_z}
use Rattle.std.proofs.lemmas.Bool.Decides.{nat_tests}
use Rattle.std.specs.List.{All}
use Rattle.byteorder.specs.Endian.{big_bytes, big_number}
use Rattle.byteorder.specs.Numbers.{big_from-take, big_number-reads_back, big_from-lt}
use Rattle.ntp_packet.specs.declared.packet.Header.{Header}
use Rattle.ntp_packet.specs.declared.packet.TheConstants.{HEADER_LEN}
use Rattle.ntp_packet.specs.Packet.{Fits, IsPacket, IsPacketVersion, IsPacketMode, fault_of, spelled_header, first_octet_of, first_word_of, leap_of, version_of, mode_of}
use Rattle.ntp_packet.specs.Fields.{header_at}
use Rattle.ntp_packet.proofs.FirstOctetLemmas.{leap_of-first_octet, version_of-first_octet, mode_of-first_octet, first_octet-read}
use Rattle.ntp_packet.proofs.OctetLemmas.{AreOctets, AreOctets-drop, AreOctets-take}

-- each of four is an octet
All-four : (a b c d : ℕ) → a < 2 ^ 8 → b < 2 ^ 8 → c < 2 ^ 8 → d < 2 ^ 8 → All (λ octet. octet < 2 ^ 8) (a ∷ b ∷ c ∷ d ∷ [])
All-four a b c d p q r s zero e h = p
All-four a b c d p q r s (suc zero) e h = q
All-four a b c d p q r s (suc (suc zero)) e h = r
All-four a b c d p q r s (suc (suc (suc zero))) e h = s
All-four a b c d p q r s (suc (suc (suc (suc k)))) e h = absurd (omega arith)

-- the first four items, one by one
take-four : (xs : List ℕ) → 4 ≤ length xs → take 4 xs ≡ slice_index xs 0 ∷ slice_index xs 1 ∷ slice_index xs 2 ∷ slice_index xs 3 ∷ []
take-four (a ∷ b ∷ c ∷ d ∷ xs) h = refl
take-four (a ∷ b ∷ c ∷ []) h = absurd (omega arith)
take-four (a ∷ b ∷ []) h = absurd (omega arith)
take-four (a ∷ []) h = absurd (omega arith)
take-four [] h = absurd (omega arith)

-- the number in four octets is spelled by them
pub big_bytes_4-number : (xs : List ℕ) → 4 ≤ length xs → AreOctets xs → big_bytes 4 (big_number 4 xs) ≡ take 4 xs
big_bytes_4-number xs long small =
    let front : AreOctets (take 4 xs) = AreOctets-take 4 xs small in
    be_bytes_4 (take 4 xs) (big_number 4 xs) (length-take-le 4 xs long) front
    (sym (big_from-take 0 4 4 xs (omega arith)) ∙ omega arith)

-- the number in eight octets is spelled by them
pub big_bytes_8-number : (xs : List ℕ) → 8 ≤ length xs → AreOctets xs → big_bytes 8 (big_number 8 xs) ≡ take 8 xs
big_bytes_8-number xs long small =
    let front : AreOctets (take 8 xs) = AreOctets-take 8 xs small in
    be_bytes_8 (take 8 xs) (big_number 8 xs) (length-take-le 8 xs long) front
    (sym (big_from-take 0 8 8 xs (omega arith)) ∙ omega arith)

-- a word written after a front stands after it
pub take-front_word : (front word rest : List ℕ) (at n : ℕ) → length front ≡ at → length word ≡ n → take (at + n) (front ++ (word ++ rest)) ≡ front ++ word
take-front_word front word rest at n front_long word_long =
    ap (take (at + n)) (sym (append_assoc front word rest))
    ∙ take_at (front ++ word) rest (at + n) (omega (arith, length-append front word))

-- the fields of 48 octets have their widths
pub Fits-header_at : (xs : List ℕ) → AreOctets xs → Fits (header_at xs)
unfolding header_at
Fits-header_at xs small =
    let first : slice_index xs 0 < 256 = small 0 in
    record {
      leap = omega (arith, first);
      version = omega arith;
      mode = omega arith;
      stratum = small 1;
      poll = search (rules, small 2);
      precision = search (rules, small 3);
      root_delay = big_from-lt 0 4 (drop 4 xs) (AreOctets-drop 4 xs small);
      root_disp = big_from-lt 0 4 (drop 8 xs) (AreOctets-drop 8 xs small);
      refid_len = refl;
      refid = All-four (slice_index xs 12) (slice_index xs 13) (slice_index xs 14) (slice_index xs 15) (small 12) (small 13) (small 14) (small 15);
      reference = big_from-lt 0 8 (drop 16 xs) (AreOctets-drop 16 xs small);
      origin = big_from-lt 0 8 (drop 24 xs) (AreOctets-drop 24 xs small);
      receive = big_from-lt 0 8 (drop 32 xs) (AreOctets-drop 32 xs small);
      transmit = big_from-lt 0 8 (drop 40 xs) (AreOctets-drop 40 xs small);
    }

-- the first four octets are spelled by the fields in them
first_word-header_at : (xs : List ℕ) → 4 ≤ length xs → AreOctets xs → first_word_of (header_at xs) ≡ take 4 xs
unfolding header_at
first_word-header_at xs long small =
    let bits : first_octet_of (header_at xs) ≡ slice_index xs 0 = first_octet-read xs in
    (λ i. bits i ∷ slice_index xs 1 ∷ of_z-to_z w8 (slice_index xs 2) (small 2) i ∷ of_z-to_z w8 (slice_index xs 3) (small 3) i ∷ [])
    ∙ sym (take-four xs long)

-- the octets 12 to 15, one by one
take-refid : (xs : List ℕ) → 16 ≤ length xs
    → slice_index xs 12 ∷ slice_index xs 13 ∷ slice_index xs 14 ∷ slice_index xs 15 ∷ [] ≡ take 4 (drop 12 xs)
take-refid xs long =
    sym (take-four (drop 12 xs) (omega (arith, length-drop 12 xs))
    ∙ (λ i. get_or-drop 12 xs 0 0 i ∷ get_or-drop 12 xs 1 0 i ∷ get_or-drop 12 xs 2 0 i ∷ get_or-drop 12 xs 3 0 i ∷ []))

-- 48 octets are those of the fields, end to end
take-fields : (xs : List ℕ) → take HEADER_LEN xs
    ≡ take 4 xs ++ take 4 (drop 4 xs) ++ take 4 (drop 8 xs) ++ take 4 (drop 12 xs)
    ++ take 8 (drop 16 xs) ++ take 8 (drop 24 xs) ++ take 8 (drop 32 xs) ++ take 8 (drop 40 xs)
take-fields xs =
    let word = take-add 4 4 xs in
    let root_disp = take-add 8 4 xs ∙ ap (λ front. front ++ take 4 (drop 8 xs)) word in
    let refid = take-add 12 4 xs ∙ ap (λ front. front ++ take 4 (drop 12 xs)) root_disp in
    let reference = take-add 16 8 xs ∙ ap (λ front. front ++ take 8 (drop 16 xs)) refid in
    let origin = take-add 24 8 xs ∙ ap (λ front. front ++ take 8 (drop 24 xs)) reference in
    let receive = take-add 32 8 xs ∙ ap (λ front. front ++ take 8 (drop 32 xs)) origin in
    take-add 40 8 xs ∙ ap (λ front. front ++ take 8 (drop 40 xs)) receive

-- the header at the places of 48 octets spells them
spelled-header_at : (xs : List ℕ) → HEADER_LEN ≤ length xs → AreOctets xs → take HEADER_LEN xs ≡ spelled_header (header_at xs)
unfolding spelled_header header_at
spelled-header_at xs long small =
    let short : (at : ℕ) → at + 4 ≤ length xs → big_bytes 4 (big_number 4 (drop at xs)) ≡ take 4 (drop at xs) =
    λ at room. big_bytes_4-number (drop at xs) (omega (arith, length-drop at xs)) (AreOctets-drop at xs small) in
    let timestamp : (at : ℕ) → at + 8 ≤ length xs → big_bytes 8 (big_number 8 (drop at xs)) ≡ take 8 (drop at xs) =
    λ at room. big_bytes_8-number (drop at xs) (omega (arith, length-drop at xs)) (AreOctets-drop at xs small) in
    take-fields xs ∙ sym (λ i. first_word-header_at xs (omega arith) small i
    ++ short 4 (omega arith) i ++ short 8 (omega arith) i ++ take-refid xs (omega arith) i
    ++ timestamp 16 (omega arith) i ++ timestamp 24 (omega arith) i ++ timestamp 32 (omega arith) i ++ timestamp 40 (omega arith) i)

-- what spells a header has its fields at their places, the refid being these four octets
header_at-spelled_by : (h : Header) (rest : List ℕ) → Fits h → (a b c d : ℕ) → h.refid ≡ a ∷ b ∷ c ∷ d ∷ [] → header_at (spelled_header h ++ rest) ≡ h
unfolding spelled_header header_at
header_at-spelled_by h rest fits a b c d four =
    let octets_by : List ℕ → List ℕ =
    λ refid. (first_word_of h ++ big_bytes 4 h.root_delay.0 ++ big_bytes 4 h.root_disp.0 ++ refid
    ++ big_bytes 8 h.reference.0 ++ big_bytes 8 h.origin.0 ++ big_bytes 8 h.receive.0 ++ big_bytes 8 h.transmit.0) ++ rest in
    let octets : List ℕ = octets_by (a ∷ b ∷ c ∷ d ∷ []) in
    let leap : leap_of octets ≡ h.leap = leap_of-first_octet h.leap h.version h.mode (drop 1 octets) fits.version fits.mode in
    let version : version_of octets ≡ h.version = version_of-first_octet h.leap h.version h.mode (drop 1 octets) fits.version fits.mode in
    let mode : mode_of octets ≡ h.mode = mode_of-first_octet h.leap h.version h.mode (drop 1 octets) fits.mode in
    ap (λ refid. header_at (octets_by refid)) four ∙ (λ i. record {
      leap = leap i;
      version = version i;
      mode = mode i;
      stratum = h.stratum;
      poll = to_z-of_z w8 h.poll fits.poll i;
      precision = to_z-of_z w8 h.precision fits.precision i;
      root_delay = record { 0 = big_number-reads_back 4 h.root_delay.0 (drop 8 octets) fits.root_delay i };
      root_disp = record { 0 = big_number-reads_back 4 h.root_disp.0 (drop 12 octets) fits.root_disp i };
      refid = sym four i;
      reference = record { 0 = big_number-reads_back 8 h.reference.0 (drop 24 octets) fits.reference i };
      origin = record { 0 = big_number-reads_back 8 h.origin.0 (drop 32 octets) fits.origin i };
      receive = record { 0 = big_number-reads_back 8 h.receive.0 (drop 40 octets) fits.receive i };
      transmit = record { 0 = big_number-reads_back 8 h.transmit.0 rest fits.transmit i };
    })

-- the header of a packet is the one at the places of its octets
pub header_at-packet : (octets : List ℕ) (h : Header) → IsPacket octets h → header_at octets ≡ h
header_at-packet octets h is =
    let refid = h.refid in
    let four = sym (take_all 4 refid (omega (arith, is.fits.refid_len))) ∙ take-four refid (omega (arith, is.fits.refid_len)) in
    let whole = sym (take-append-drop HEADER_LEN octets) ∙ ap (λ front. front ++ drop HEADER_LEN octets) is.spelled in
    ap header_at whole ∙ header_at-spelled_by h (drop HEADER_LEN octets) is.fits _ _ _ _ four

-- a header's spelling has 48 octets
length-spelled_header : (h : Header) → Fits h → length (spelled_header h) ≡ HEADER_LEN
unfolding spelled_header
length-spelled_header h fits = simp length-append (omega (arith, fits.refid_len))

-- there is no fault where the length, the version and the mode are a packet's
no_fault : (octets : List ℕ) → HEADER_LEN ≤ length octets → IsPacketVersion (version_of octets) → IsPacketMode (mode_of octets) → fault_of octets ≡ None
no_fault octets long version mode = grind (arith, nat_tests)

-- and only there
from_no_fault : (octets : List ℕ) → fault_of octets ≡ None
    → (HEADER_LEN ≤ length octets) × IsPacketVersion (version_of octets) × IsPacketMode (mode_of octets)
from_no_fault octets none = grind (arith, nat_tests)

-- a packet has no fault
pub fault_of-packet : (octets : List ℕ) (h : Header) → IsPacket octets h → fault_of octets ≡ None
unfolding header_at
fault_of-packet octets h is =
    let at = header_at-packet octets h is in
    let version : version_of octets ≡ h.version = ap (λ (g : Header). g.version) at in
    let mode : mode_of octets ≡ h.mode = ap (λ (g : Header). g.mode) at in
    let long : HEADER_LEN ≤ length octets =
    omega (arith, length-take HEADER_LEN octets, ap length is.spelled, length-spelled_header h is.fits) in
    no_fault octets long (rw version is.version) (rw mode is.mode)

-- octets without a fault are a packet
pub packet-header_at : (octets : List ℕ) → AreOctets octets → fault_of octets ≡ None → IsPacket octets (header_at octets)
unfolding header_at
packet-header_at octets small none =
    let (long, version, mode) = from_no_fault octets none in
    record {
      fits = Fits-header_at octets small;
      version = version;
      mode = mode;
      spelled = spelled-header_at octets long small;
    }
