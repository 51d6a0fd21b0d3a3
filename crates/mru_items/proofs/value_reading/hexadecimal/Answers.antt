use Rattle.std.proofs.Common.{◌^◌, ◌≤◌, length, arith}
use Rattle.std.proofs.Math.Nat.{pow-le-pow_right}
use Rattle.mru_items.proofs.value_reading.hexadecimal.Goals as goal

pub overflow_cast-result : goal.overflow_cast-result
overflow_cast-result c =
    let most : 16 ^ length c.args.digits.now ≤ 16 ^ 4 = pow-le-pow_right {n = 16} (omega arith) {i = length c.args.digits.now} {j = 4} c.requires in
    let fits = c.in-Some.ensures.fits in
    omega (arith, most, fits)
