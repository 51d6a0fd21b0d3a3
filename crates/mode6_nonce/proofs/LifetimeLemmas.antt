-- How long nonces are taken.
use Rattle.std.proofs.Common.{◌≡◌, ℕ, ◌+◌, ◌-◌, ◌*◌, ◌%◌, ◌^◌, ◌<◌, ◌≤◌, ◌↔◌, ◌≤ℤ◌, suc, pos, negsuc, inl, inr, refl, ap, ◌∙◌, arith}
use Rattle.std.proofs.Math.Facts.{to_z-neg}
use Rattle.std.proofs.lemmas.Bool.{cases_lt}
use Rattle.std.proofs.lemmas.Int.{ints, to_z_pos}
use Rattle.std.specs.Int.{w64, cast_signed}
use Rattle.edge_traits.specs.declared.salt.Salt.{Salt}
use Rattle.fixed_time.specs.Time.{diff_of}
use Rattle.mode6_nonce.proofs.NonceLemmas.{nonce_of-time}
use Rattle.mode6_nonce.specs.Nonces.{IsAlive, IsGood, nonce_of}
use Rattle.mode6_nonce.specs.declared.checking.TheConstants.{LIFETIME}
use Rattle.net_addr.specs.declared.addr.Ip.{Ip}

-- a later time is as much after a time as it is later, read with a sign
diff_of-later : (time later : ℕ) → time < 2 ^ 64 → later < 2 ^ 64 → diff_of ((time + later) % 2 ^ 64) time ≡ cast_signed w64 later
diff_of-later time later fits later_fits = ap (cast_signed w64) (omega arith)

-- the signed reading of 64 bits lies from 0 to the lifetime exactly where the bits do
reading_alive : (later : ℕ) → later < 2 ^ 64
    → ((pos 0 ≤ℤ cast_signed w64 later) × (cast_signed w64 later ≤ℤ LIFETIME)) ↔ (later ≤ 16 * 2 ^ 32)
reading_alive later fits =
    elim (cases_lt later (2 ^ 63)) [
      | inl low ↦
          let reading = to_z_pos w64 later low in
          (λ alive. omega (arith, ints, reading, alive.0, alive.1), λ soon. (omega (arith, ints, reading), omega (arith, ints, reading)))
      | inr high ↦
          let below = 2 ^ 64 - suc later in
          let same : later ≡ 2 ^ 64 - suc below = omega arith in
          let reading : cast_signed w64 later ≡ negsuc below = ap (cast_signed w64) same ∙ to_z-neg w64 below (omega arith) in
          (λ alive. absurd (omega (arith, ints, reading, alive.0)), λ soon. absurd (omega arith))
    ]

-- a nonce is taken exactly up to 16 seconds after its time
pub alive_later : (time later : ℕ) → time < 2 ^ 64 → later < 2 ^ 64 → IsAlive ((time + later) % 2 ^ 64) time ↔ (later ≤ 16 * 2 ^ 32)
alive_later time later fits later_fits = rw (diff_of-later time later fits later_fits) (reading_alive later later_fits)

-- a nonce of a time is good exactly where it is taken
pub good_made : (salt : Salt) (ip : Ip) (time now : ℕ) → time < 2 ^ 64 → IsGood salt ip (nonce_of salt ip time) now ↔ IsAlive now time
good_made salt ip time now fits = (
  λ good.
      let same : time ≡ good.time = nonce_of-time salt salt ip ip time good.time fits good.in_era good.made in
      rw same good.alive,
  λ alive. record { time = time; in_era = fits; made = refl; alive = alive },
)
