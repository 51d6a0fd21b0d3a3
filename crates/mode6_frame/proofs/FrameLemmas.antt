-- The control message at the places of the octets is the one that they begin with.
use Rattle.std.proofs.Common.{◌≡◌, ℕ, zero, suc, ◌+◌, ◌*◌, ◌/◌, ◌%◌, ◌^◌, ◌<◌, ◌≤◌, ◌==◌, Bool, true, false, List, [], ◌∷◌, ◌++◌, length, take, drop, slice_index, refl, sym, ap, ◌∙◌, arith, take-add, length-take, length-drop, lit<, length-append, take_at, append_assoc, None}
use Rattle.std.proofs.lemmas.List.{length-take-le, take-append-drop}
use Rattle.std.proofs.lemmas.Nat.{be_bytes_2}
use Rattle.std.proofs.lemmas.Bool.Decides.{nat_tests}
use Rattle.std.specs.Int.{from_bool}
use Rattle.byteorder.specs.Endian.{big_bytes, big_number}
use Rattle.byteorder.specs.Numbers.{big_from-take, big_number-reads_back, big_from-lt}
use Rattle.ntp_packet.proofs.FirstOctetLemmas.{leap_of-first_octet, version_of-first_octet}
use Rattle.ntp_packet.proofs.OctetLemmas.{AreOctets, AreOctets-drop, AreOctets-take}
use Rattle.ntp_packet.specs.declared.leap_version_mode.TheConstants.{MODE_CONTROL}
use Rattle.mode6_frame.specs.declared.message.TheConstants.{HEAD_LEN, MAX_BODY}
use Rattle.mode6_frame.specs.Frames.{FrameParts, FitsFrame, IsFrame, IsFrameVersion, frame_fault_of, head_of, spelled_frame, padding_of, first_octet_of, second_octet_of, leap_of, version_of, mode_of, flag_of, opcode_of, word_at, count_of}
use Rattle.mode6_frame.specs.Places.{frame_at}

-- the first two items, one by one
take-two : (xs : List ℕ) → 2 ≤ length xs → take 2 xs ≡ slice_index xs 0 ∷ slice_index xs 1 ∷ []
take-two (a ∷ b ∷ xs) long = refl
take-two (a ∷ []) long = absurd (omega arith)
take-two [] long = absurd (omega arith)

-- a bit is 0 or 1
pub from_bool-le : (b : Bool) → from_bool b ≤ 1
from_bool-le true = omega arith
from_bool-le false = omega arith

-- a bit that is tested and written again
from_bool-bit : (n : ℕ) → n < 2 → from_bool (n == 1) ≡ n
from_bool-bit zero small = refl
from_bool-bit (suc zero) small = refl
from_bool-bit (suc (suc n)) small = absurd (omega arith)

-- a bit that is written and tested again
bit-from_bool : (b : Bool) → (from_bool b == 1) ≡ b
bit-from_bool true = refl
bit-from_bool false = refl

-- the number in two octets is spelled by them
big_bytes_2-word_at : (place : ℕ) (xs : List ℕ) → place + 2 ≤ length xs → AreOctets xs → big_bytes 2 (word_at place xs) ≡ take 2 (drop place xs)
big_bytes_2-word_at place xs long small =
    let octets = drop place xs in
    let room : 2 ≤ length octets = omega (arith, length-drop place xs) in
    let front : AreOctets (take 2 octets) = AreOctets-take 2 octets (AreOctets-drop place xs small) in
    be_bytes_2 (take 2 octets) (big_number 2 octets) (length-take-le 2 octets room) front
    (sym (big_from-take 0 2 2 octets (omega arith)) ∙ omega arith)

-- a word has 16 bits
word_at-lt : (place : ℕ) (xs : List ℕ) → AreOctets xs → word_at place xs < 2 ^ 16
word_at-lt place xs small = big_from-lt 0 2 (drop place xs) (AreOctets-drop place xs small)

-- the body has as many octets as it is said to have
length-body_at : (xs : List ℕ) → HEAD_LEN + count_of xs ≤ length xs → length (take (count_of xs) (drop HEAD_LEN xs)) ≡ count_of xs
length-body_at xs room = length-take-le (count_of xs) (drop HEAD_LEN xs) (omega (arith, length-drop HEAD_LEN xs))

-- the first two octets are spelled by the fields in them
first_two-frame_at : (xs : List ℕ) → 2 ≤ length xs → AreOctets xs → mode_of xs ≡ 6
    → first_octet_of (frame_at xs) ∷ second_octet_of (frame_at xs) ∷ [] ≡ take 2 xs
unfolding frame_at
first_two-frame_at xs long small mode =
    let first_small : slice_index xs 0 < 256 = small 0 in
    let second_small : slice_index xs 1 < 256 = small 1 in
    let response = from_bool-bit (slice_index xs 1 / 2 ^ 7 % 2) (omega arith) in
    let error = from_bool-bit (slice_index xs 1 / 2 ^ 6 % 2) (omega arith) in
    let more = from_bool-bit (slice_index xs 1 / 2 ^ 5 % 2) (omega arith) in
    let first : first_octet_of (frame_at xs) ≡ slice_index xs 0 = omega arith in
    let second : second_octet_of (frame_at xs) ≡ slice_index xs 1 = rw (response, error, more) (omega arith) in
    (λ i. first i ∷ second i ∷ []) ∙ sym (take-two xs long)

-- 12 octets are those of the fields, end to end
take-fields : (xs : List ℕ) → take HEAD_LEN xs
    ≡ take 2 xs ++ take 2 (drop 2 xs) ++ take 2 (drop 4 xs) ++ take 2 (drop 6 xs) ++ take 2 (drop 8 xs) ++ take 2 (drop 10 xs)
take-fields xs =
    let sequence = take-add 2 2 xs in
    let status = take-add 4 2 xs ∙ ap (λ front. front ++ take 2 (drop 4 xs)) sequence in
    let assoc = take-add 6 2 xs ∙ ap (λ front. front ++ take 2 (drop 6 xs)) status in
    let offset = take-add 8 2 xs ∙ ap (λ front. front ++ take 2 (drop 8 xs)) assoc in
    take-add 10 2 xs ∙ ap (λ front. front ++ take 2 (drop 10 xs)) offset

-- the head at the places of 12 octets spells them
head_of-frame_at : (xs : List ℕ) → HEAD_LEN + count_of xs ≤ length xs → AreOctets xs → mode_of xs ≡ 6 → head_of (frame_at xs) ≡ take HEAD_LEN xs
unfolding head_of frame_at
head_of-frame_at xs room small mode =
    let word : (place : ℕ) → place + 2 ≤ length xs → big_bytes 2 (word_at place xs) ≡ take 2 (drop place xs) =
    λ place long. big_bytes_2-word_at place xs long small in
    let count = ap (big_bytes 2) (length-body_at xs room) ∙ word 10 (omega arith) in
    (λ i. first_two-frame_at xs (omega arith) small mode i
    ++ word 2 (omega arith) i ++ word 4 (omega arith) i ++ word 6 (omega arith) i ++ word 8 (omega arith) i ++ count i)
    ∙ sym (take-fields xs)

-- the fields of the octets have their widths
Fits-frame_at : (xs : List ℕ) → HEAD_LEN + count_of xs ≤ length xs → count_of xs ≤ MAX_BODY → AreOctets xs → FitsFrame (frame_at xs)
unfolding frame_at
Fits-frame_at xs room most small =
    let first : slice_index xs 0 < 256 = small 0 in
    record {
      leap = omega (arith, first);
      version = omega arith;
      opcode = omega arith;
      sequence = word_at-lt 2 xs small;
      status = word_at-lt 4 xs small;
      assoc = word_at-lt 6 xs small;
      offset = word_at-lt 8 xs small;
      body = omega (arith, length-body_at xs room);
    }

-- the octets begin with what is at their places
spelled-frame_at : (xs : List ℕ) → HEAD_LEN + count_of xs ≤ length xs → AreOctets xs → mode_of xs ≡ 6
    → take (HEAD_LEN + length (frame_at xs).body) xs ≡ head_of (frame_at xs) ++ (frame_at xs).body
unfolding frame_at
spelled-frame_at xs room small mode =
    ap (λ n. take (HEAD_LEN + n) xs) (length-body_at xs room)
    ∙ take-add HEAD_LEN (count_of xs) xs
    ∙ ap (λ front. front ++ take (count_of xs) (drop HEAD_LEN xs)) (sym (head_of-frame_at xs room small mode))

-- the flags and the operation code of a second octet
second-parts : (r e m : Bool) (opcode : ℕ) → opcode < 2 ^ 5 →
    ((from_bool r * 2 ^ 7 + from_bool e * 2 ^ 6 + from_bool m * 2 ^ 5 + opcode) / 2 ^ 7 % 2 ≡ from_bool r)
    × ((from_bool r * 2 ^ 7 + from_bool e * 2 ^ 6 + from_bool m * 2 ^ 5 + opcode) / 2 ^ 6 % 2 ≡ from_bool e)
    × ((from_bool r * 2 ^ 7 + from_bool e * 2 ^ 6 + from_bool m * 2 ^ 5 + opcode) / 2 ^ 5 % 2 ≡ from_bool m)
    × ((from_bool r * 2 ^ 7 + from_bool e * 2 ^ 6 + from_bool m * 2 ^ 5 + opcode) % 2 ^ 5 ≡ opcode)
second-parts r e m opcode small =
    let response = from_bool-le r in
    let error = from_bool-le e in
    let more = from_bool-le m in
    (omega arith, omega arith, omega arith, omega arith)

-- what spells a control message has its fields at their places
frame_at-spelled_by : (f : FrameParts) (rest : List ℕ) → FitsFrame f → frame_at ((head_of f ++ f.body) ++ rest) ≡ f
unfolding head_of frame_at
frame_at-spelled_by f rest fits =
    let octets : List ℕ = (head_of f ++ f.body) ++ rest in
    let parts = second-parts f.response f.error f.more f.opcode fits.opcode in
    let leap : leap_of octets ≡ f.leap = leap_of-first_octet f.leap f.version MODE_CONTROL (drop 1 octets) fits.version (lit< tt) in
    let version : version_of octets ≡ f.version = version_of-first_octet f.leap f.version MODE_CONTROL (drop 1 octets) fits.version (lit< tt) in
    let response : flag_of 7 octets ≡ f.response = ap (λ n. n == 1) parts.0 ∙ bit-from_bool f.response in
    let error : flag_of 6 octets ≡ f.error = ap (λ n. n == 1) parts.1 ∙ bit-from_bool f.error in
    let more : flag_of 5 octets ≡ f.more = ap (λ n. n == 1) parts.2 ∙ bit-from_bool f.more in
    let opcode : opcode_of octets ≡ f.opcode = parts.3 in
    let count : count_of octets ≡ length f.body = big_number-reads_back 2 (length f.body) (f.body ++ rest) (omega (arith, fits.body)) in
    let body : take (count_of octets) (f.body ++ rest) ≡ f.body = ap (λ n. take n (f.body ++ rest)) count ∙ take_at f.body rest (length f.body) refl in
    λ i. record {
      leap = leap i;
      version = version i;
      response = response i;
      error = error i;
      more = more i;
      opcode = opcode i;
      sequence = big_number-reads_back 2 f.sequence (drop 4 octets) fits.sequence i;
      status = big_number-reads_back 2 f.status (drop 6 octets) fits.status i;
      assoc = big_number-reads_back 2 f.assoc (drop 8 octets) fits.assoc i;
      offset = big_number-reads_back 2 f.offset (drop 10 octets) fits.offset i;
      body = body i;
    }

-- and padding stands behind them
pub frame_at-padded : (f : FrameParts) (rest : List ℕ) → FitsFrame f → frame_at (spelled_frame f ++ rest) ≡ f
unfolding head_of
frame_at-padded f rest fits =
    let padding = padding_of (length f.body) in
    ap (λ octets. frame_at (octets ++ rest)) (sym (append_assoc (head_of f) f.body padding))
    ∙ ap frame_at (append_assoc (head_of f ++ f.body) padding rest)
    ∙ frame_at-spelled_by f (padding ++ rest) fits

-- the mode and the count of what spells a control message
mode-spelled_by : (f : FrameParts) (rest : List ℕ) → FitsFrame f
    → (mode_of ((head_of f ++ f.body) ++ rest) ≡ 6) × (count_of ((head_of f ++ f.body) ++ rest) ≡ length f.body)
unfolding head_of
mode-spelled_by f rest fits =
    (omega (arith, fits.leap, fits.version), big_number-reads_back 2 (length f.body) (f.body ++ rest) (omega (arith, fits.body)))

-- a head has 12 octets
length-head_of : (f : FrameParts) → length (head_of f) ≡ HEAD_LEN
unfolding head_of
length-head_of f = refl

-- the octets of a control message, cut after its body
whole-frame : (octets : List ℕ) (f : FrameParts) → IsFrame octets f → octets ≡ (head_of f ++ f.body) ++ drop (HEAD_LEN + length f.body) octets
whole-frame octets f is =
    sym (take-append-drop (HEAD_LEN + length f.body) octets) ∙ ap (λ front. front ++ drop (HEAD_LEN + length f.body) octets) is.spelled

-- the control message at the places of the octets is the one that they begin with
pub frame_at-frame : (octets : List ℕ) (f : FrameParts) → IsFrame octets f → frame_at octets ≡ f
frame_at-frame octets f is =
    ap frame_at (whole-frame octets f is) ∙ frame_at-spelled_by f (drop (HEAD_LEN + length f.body) octets) is.fits

-- there is no fault where length, version, mode and count are right
no_fault : (octets : List ℕ) → HEAD_LEN + count_of octets ≤ length octets → IsFrameVersion (version_of octets) → mode_of octets ≡ 6 → count_of octets ≤ MAX_BODY → frame_fault_of octets ≡ None
no_fault octets room version mode most = grind (arith, nat_tests)

-- and only there
pub from_no_fault : (octets : List ℕ) → frame_fault_of octets ≡ None
    → (HEAD_LEN + count_of octets ≤ length octets) × IsFrameVersion (version_of octets) × (mode_of octets ≡ 6) × (count_of octets ≤ MAX_BODY)
from_no_fault octets none = grind (arith, nat_tests)

-- a control message has no fault
pub frame_fault_of-frame : (octets : List ℕ) (f : FrameParts) → IsFrame octets f → frame_fault_of octets ≡ None
unfolding frame_at
frame_fault_of-frame octets f is =
    let rest = drop (HEAD_LEN + length f.body) octets in
    let version : version_of octets ≡ f.version = ap (λ (g : FrameParts). g.version) (frame_at-frame octets f is) in
    let at_places = mode-spelled_by f rest is.fits in
    let mode : mode_of octets ≡ 6 = ap mode_of (whole-frame octets f is) ∙ at_places.0 in
    let count : count_of octets ≡ length f.body = ap count_of (whole-frame octets f is) ∙ at_places.1 in
    let long : HEAD_LEN + length f.body ≤ length octets =
    omega (arith, length-take (HEAD_LEN + length f.body) octets, ap length is.spelled, length-append (head_of f) f.body, length-head_of f) in
    no_fault octets (omega arith) (rw version is.version) mode (omega (arith, is.fits.body))

-- octets without a fault begin with a control message
pub frame-frame_at : (octets : List ℕ) → AreOctets octets → frame_fault_of octets ≡ None → IsFrame octets (frame_at octets)
unfolding frame_at
frame-frame_at octets small none =
    let (room, version, mode, most) = from_no_fault octets none in
    record {
      fits = Fits-frame_at octets room most small;
      version = version;
      spelled = spelled-frame_at octets room small mode;
    }
