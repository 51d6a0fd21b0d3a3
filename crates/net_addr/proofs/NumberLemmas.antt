-- Numbers of addresses, and masks.
use Rattle.std.proofs.Common.{◌≡◌, ℕ, ◌+◌, ◌*◌, ◌-◌, ◌/◌, ◌%◌, ◌^◌, ◌<◌, ◌≤◌, sym, ap, ◌∙◌, arith}
use Rattle.std.specs.Int.{w128, from_be_bytes, to_be_bytes}
use Rattle.net_addr.specs.declared.addr.Ip.{Ip}
use Rattle.net_addr.specs.Addresses.{bits_of, number_of}
use Rattle.net_addr.specs.Prefixes.{first_bits}
use Rattle.std.proofs.lemmas.Nat.{pow_pos, pow-add}
use Rattle.std.proofs.Math.Nat.{div-div-eq-div-mul, mul-div_cancel, mul-sub, mul_comm, lt_of_not-le}
use Rattle.std.proofs.Math.Pow.{pow-lt, pow_mono}

-- the number of sixteen octets, each the lowest of what the octets below it left
joined : (o0 o1 o2 o3 o4 o5 o6 o7 o8 o9 o10 o11 o12 o13 o14 o15 n r1 r2 r3 r4 r5 r6 r7 r8 r9 r10 r11 r12 r13 r14 r15 : ℕ)
    → n ≡ o0 + r1 * 256 → r1 ≡ o1 + r2 * 256 → r2 ≡ o2 + r3 * 256 → r3 ≡ o3 + r4 * 256 → r4 ≡ o4 + r5 * 256 → r5 ≡ o5 + r6 * 256 → r6 ≡ o6 + r7 * 256 → r7 ≡ o7 + r8 * 256 → r8 ≡ o8 + r9 * 256 → r9 ≡ o9 + r10 * 256 → r10 ≡ o10 + r11 * 256 → r11 ≡ o11 + r12 * 256 → r12 ≡ o12 + r13 * 256 → r13 ≡ o13 + r14 * 256 → r14 ≡ o14 + r15 * 256 → r15 ≡ o15
    → o15 * 1329227995784915872903807060280344576 + o14 * 5192296858534827628530496329220096 + o13 * 20282409603651670423947251286016 + o12 * 79228162514264337593543950336 + o11 * 309485009821345068724781056 + o10 * 1208925819614629174706176 + o9 * 4722366482869645213696 + o8 * 18446744073709551616 + o7 * 72057594037927936 + o6 * 281474976710656 + o5 * 1099511627776 + o4 * 4294967296 + o3 * 16777216 + o2 * 65536 + o1 * 256 + o0 ≡ n
joined o0 o1 o2 o3 o4 o5 o6 o7 o8 o9 o10 o11 o12 o13 o14 o15 n r1 r2 r3 r4 r5 r6 r7 r8 r9 r10 r11 r12 r13 r14 r15 at_0 at_1 at_2 at_3 at_4 at_5 at_6 at_7 at_8 at_9 at_10 at_11 at_12 at_13 at_14 at_15 = omega arith

-- an octet of a number, and what is above it
octet_and_rest : (n p : ℕ) → n / p ≡ n / p % 256 + n / (p * 256) * 256
octet_and_rest n p = omega (arith, div-div-eq-div-mul n p 256)

-- the sixteen octets of a number have that number
pub from_be_bytes-to_be_bytes_16 : (n : ℕ) → n < 2 ^ 128 → from_be_bytes w128 (to_be_bytes w128 n) ≡ n
from_be_bytes-to_be_bytes_16 n fits =
    let low : n ≡ n % 256 + n / 256 * 256 = omega arith in
    let high : n / 1329227995784915872903807060280344576 ≡ n / 1329227995784915872903807060280344576 % 256 = omega arith in
    joined _ _ _ _ _ _ _ _ _ _ _ _ _ _ _ _ n _ _ _ _ _ _ _ _ _ _ _ _ _ _ _ low (octet_and_rest n 256) (octet_and_rest n 65536) (octet_and_rest n 16777216) (octet_and_rest n 4294967296) (octet_and_rest n 1099511627776) (octet_and_rest n 281474976710656) (octet_and_rest n 72057594037927936) (octet_and_rest n 18446744073709551616) (octet_and_rest n 4722366482869645213696) (octet_and_rest n 1208925819614629174706176) (octet_and_rest n 309485009821345068724781056) (octet_and_rest n 79228162514264337593543950336) (octet_and_rest n 20282409603651670423947251286016) (octet_and_rest n 5192296858534827628530496329220096) high

-- one factor less one
product_less : (x y : ℕ) → x * y - y ≡ (x - 1) * y
product_less x y = omega (arith, mul-sub y x 1, mul_comm y x, mul_comm y (x - 1))

-- a mask is the number of all ones less those beyond its length
pub mask_number : (bits length : ℕ) → length ≤ bits
    → (0 < 2 ^ (bits - length)) × (2 ^ (bits - length) ≤ 2 ^ bits)
    × ((2 ^ length - 1) * 2 ^ (bits - length) ≡ 2 ^ bits - 2 ^ (bits - length))
mask_number bits length within =
    let whole : length + (bits - length) ≡ bits = omega arith in
    let product : 2 ^ bits ≡ 2 ^ length * 2 ^ (bits - length) = ap (λ k. 2 ^ k) (sym whole) ∙ pow-add 2 length (bits - length) in
    (pow_pos (bits - length), pow_mono (omega arith), omega (arith, product, product_less (2 ^ length) (2 ^ (bits - length))))

-- so no two lengths have one mask
not_fewer : (bits one other : ℕ) → one ≤ bits → other ≤ bits → (2 ^ one - 1) * 2 ^ (bits - one) ≡ (2 ^ other - 1) * 2 ^ (bits - other) → ¬ (one + 1 ≤ other)
not_fewer bits one other within within_other same less =
    let fewer : 2 ^ (bits - other) < 2 ^ (bits - one) = pow-lt (omega arith) in
    omega (arith, fewer, mask_number bits one within, mask_number bits other within_other)

pub mask_number-one : (bits one other : ℕ) → one ≤ bits → other ≤ bits → (2 ^ one - 1) * 2 ^ (bits - one) ≡ (2 ^ other - 1) * 2 ^ (bits - other) → one ≡ other
mask_number-one bits one other within within_other same =
    let least : other < one + 1 = lt_of_not-le (not_fewer bits one other within within_other same) in
    let most : one < other + 1 = lt_of_not-le (not_fewer bits other one within_other within (sym same)) in
    omega arith

-- an address whose bits beyond `length` are cleared begins as before
pub cleared-first_bits : (length : ℕ) (ip other : Ip) → bits_of other ≡ bits_of ip → number_of other ≡ number_of ip / 2 ^ (bits_of ip - length) * 2 ^ (bits_of ip - length) → first_bits length other ≡ first_bits length ip
cleared-first_bits length ip other family number =
    rw family (rw number (mul-div_cancel (number_of ip / 2 ^ (bits_of ip - length)) (pow_pos (bits_of ip - length))))
