use Rattle.std.proofs.Common.{arith, ◌≡◌, ◌+◌, ◌*◌, ◌%◌, ◌≤◌, ◌<◌, ℕ, bit_or}
use Rattle.std.specs.Int.{from_bool}
use Rattle.std.proofs.lemmas.Nat.{or_shifted}
use Rattle.mode6_frame.proofs.FrameLemmas.{from_bool-le}
use Rattle.mode6_frame.proofs.writing.second_octet.Goals as goal

-- three bits above five, each in its place
three_above_five : (r e m low : ℕ) → r ≤ 1 → e ≤ 1 → m ≤ 1 → low < 32
    → bit_or (bit_or (bit_or (r * 128 % 256) (e * 64 % 256)) (m * 32 % 256)) low ≡ r * 128 + e * 64 + m * 32 + low
three_above_five r e m low r_bit e_bit m_bit low_bits =
    let r_fits : r * 128 % 256 ≡ r * 128 = omega arith in
    let e_fits : e * 64 % 256 ≡ e * 64 = omega arith in
    let m_fits : m * 32 % 256 ≡ m * 32 = omega arith in
    let two : bit_or (r * 128) (e * 64) ≡ r * 128 + e * 64 = or_shifted r 7 (e * 64) (omega arith) in
    let two_joined : r * 128 + e * 64 ≡ (r * 2 + e) * 64 = omega arith in
    let three : bit_or ((r * 2 + e) * 64) (m * 32) ≡ (r * 2 + e) * 64 + m * 32 = or_shifted (r * 2 + e) 6 (m * 32) (omega arith) in
    let three_joined : (r * 2 + e) * 64 + m * 32 ≡ (r * 4 + e * 2 + m) * 32 = omega arith in
    let all : bit_or ((r * 4 + e * 2 + m) * 32) low ≡ (r * 4 + e * 2 + m) * 32 + low = or_shifted (r * 4 + e * 2 + m) 5 low (omega arith) in
    rw (r_fits, e_fits, m_fits, two, two_joined, three, three_joined, all) (omega arith)

pub returns : goal.returns
returns c =
    let f = c.args.frame.now in
    let response = from_bool-le f.response in
    let error = from_bool-le f.error in
    let more = from_bool-le f.more in
    rw (c.from.ensures, c.from-2.ensures, c.from-3.ensures)
    (three_above_five (from_bool f.response) (from_bool f.error) (from_bool f.more) f.opcode response error more (omega arith))
