-- Bounds of weighted offsets, and of their mean.
use Rattle.std.proofs.Common.{◌≡◌, ℕ, ℤ, suc, pos, negsuc, ◌+◌, ◌-◌, ◌*◌, ◌/◌, ◌^◌, ◌<◌, ◌≤◌, ◌+ℤ◌, ◌*ℤ◌, ◌≤ℤ◌, neg_ℤ, FitsSigned, List, [], ◌∷◌, length, get_or, take, lit<, refl, sym, ap, subst, ◌∙◌, arith}
use Rattle.std.specs.Prelude.{int_div, sum_by, unsigned_abs}
use Rattle.std.specs.Int.{w64, w128, cast_signed, cast_unsigned}
use Rattle.std.proofs.lemmas.Int.{ints, to_z-of_z, fits_signed_mul, quot_fits, quot_is}
use Rattle.std.proofs.lemmas.List.Sums.{fold_more, sum_by_more}
use Rattle.std.proofs.lemmas.Nat.{mul-le, div_below}
use Rattle.fixed_time.specs.Root.{root}
use Rattle.select_cluster.specs.declared.candidates.Candidate.{Candidate}
use Rattle.select_cluster.specs.Clustering.{spread}
use Rattle.select_cluster.specs.Combining.{combined_jitter, system_peer, weight_of, weighted}

-- a weighted offset lies within its weight times the ends of 64 bits
pub product_low : (w : ℕ) (o : ℤ) → FitsSigned w64 o → neg_ℤ (pos (w * 2 ^ 63)) ≤ℤ (pos w *ℤ o)
product_low w (pos n) fits = omega (arith, ints)
product_low w (negsuc n) fits =
    let below = mul-le w (suc n) w (2 ^ 63) (omega arith) (omega (arith, fits.sfits)) in
    omega (arith, ints, below)

pub product_high : (w : ℕ) (o : ℤ) → FitsSigned w64 o → (pos w *ℤ o) ≤ℤ pos (w * (2 ^ 63 - 1))
product_high w (pos n) fits =
    let below = mul-le w n w (2 ^ 63 - 1) (omega arith) (omega (arith, fits.sfits)) in
    omega (arith, ints, below)
product_high w (negsuc n) fits = omega (arith, ints)

offset_abs : (o : ℤ) → FitsSigned w64 o → unsigned_abs o ≤ 2 ^ 63
offset_abs (pos n) fits = omega (arith, fits.sfits)
offset_abs (negsuc n) fits = omega (arith, fits.sfits)

pub product_fits : (w : ℕ) (o : ℤ) → w ≤ 2 ^ 48 → FitsSigned w64 o → FitsSigned w128 (pos w *ℤ o)
product_fits w o light fits = fits_signed_mul w128 (pos w) o (2 ^ 48) (2 ^ 63) light (offset_abs o fits) (lit< tt)

-- the code's product is the product
pub product_reads : (w : ℕ) (o a b : ℤ) → w ≤ 2 ^ 48 → FitsSigned w64 o → a ≡ pos w → b ≡ o → cast_signed w128 (cast_unsigned w128 (cast_signed w128 (cast_unsigned w128 a) *ℤ cast_signed w128 (cast_unsigned w128 b))) ≡ pos w *ℤ o
product_reads w o a b light fits a_is b_is =
    let a_reads : cast_signed w128 (cast_unsigned w128 a) ≡ pos w = ap (λ z. cast_signed w128 (cast_unsigned w128 z)) a_is ∙ to_z-of_z w128 (pos w) (omega (arith, ints)) in
    let b_reads : cast_signed w128 (cast_unsigned w128 b) ≡ o = ap (λ z. cast_signed w128 (cast_unsigned w128 z)) b_is ∙ to_z-of_z w128 o (omega (arith, ints)) in
    ap (λ z. cast_signed w128 (cast_unsigned w128 (z *ℤ cast_signed w128 (cast_unsigned w128 b)))) a_reads
    ∙ ap (λ z. cast_signed w128 (cast_unsigned w128 (pos w *ℤ z))) b_reads
    ∙ to_z-of_z w128 (pos w *ℤ o) (product_fits w o light fits)

-- the mean lies within 64 bits
pub mean_fits : (total : ℤ) (weights : ℕ) → 0 < weights → neg_ℤ (pos (weights * 2 ^ 63)) ≤ℤ total → total ≤ℤ pos (weights * (2 ^ 63 - 1)) → FitsSigned w64 (int_div total (pos weights))
mean_fits (pos a) weights some low high =
    let below = div_below a weights (2 ^ 63) some (omega (arith, ints)) in
    omega (arith, ints, below)
mean_fits (negsuc a) weights some low high =
    let below = div_below (suc a) weights (2 ^ 63 + 1) some (omega (arith, ints)) in
    omega (arith, ints, below)

-- the code's quotient is the quotient
pub mean_reads : (total : ℤ) (weights : ℕ) (d : ℤ) → FitsSigned w128 total → weights ≤ 2 ^ 53 → 0 < weights → d ≡ pos weights → cast_signed w128 (cast_unsigned w128 (int_div (cast_signed w128 (cast_unsigned w128 total)) (cast_signed w128 (cast_unsigned w128 d)))) ≡ int_div total (pos weights)
mean_reads total weights d fits light some d_is =
    let weights_fit : FitsSigned w128 (pos weights) = omega (arith, ints) in
    ap (λ z. cast_signed w128 (cast_unsigned w128 (int_div (cast_signed w128 (cast_unsigned w128 total)) (cast_signed w128 (cast_unsigned w128 z))))) d_is
    ∙ quot_is w128 total (pos weights) fits weights_fit (quot_fits w128 total (pos weights) fits (omega (arith, ints)))

-- the sum of the first i weighted offsets, and its bounds
pub record IsPartial (cs : List Candidate) (i : ℕ) (total : ℤ) : Type 0 where
  pub summed : total ≡ weighted (take i cs)
  pub low : neg_ℤ (pos (sum_by weight_of (take i cs) * 2 ^ 63)) ≤ℤ total
  pub high : total ≤ℤ pos (sum_by weight_of (take i cs) * (2 ^ 63 - 1))
  pub light : sum_by weight_of (take i cs) ≤ i * 2 ^ 48

-- one weighted offset
pub record IsWeighed (c : Candidate) (r : ℤ) : Type 0 where
  pub value : r ≡ pos (weight_of c) *ℤ c.offset.0
  pub low : neg_ℤ (pos (weight_of c * 2 ^ 63)) ≤ℤ r
  pub high : r ≤ℤ pos (weight_of c * (2 ^ 63 - 1))
  pub light : weight_of c ≤ 2 ^ 48
  pub fits : FitsSigned w128 r

-- one more is added, as the code adds it
pub partial_more : (cs : List Candidate) (i : ℕ) (d : Candidate) (total r : ℤ) → i < length cs → length cs ≤ 32 → IsPartial cs i total → IsWeighed (get_or cs i d) r → IsPartial cs (i + 1) (cast_signed w128 (cast_unsigned w128 (total +ℤ cast_signed w128 (cast_unsigned w128 r))))
partial_more cs i d total r inside few so_far one =
    let weights = sum_by_more weight_of cs i d inside in
    let sum_fits : FitsSigned w128 (total +ℤ r) = omega (arith, ints, so_far.low, so_far.high, so_far.light, one.low, one.high, one.light) in
    let reads = ap (λ z. cast_signed w128 (cast_unsigned w128 (total +ℤ z))) (to_z-of_z w128 r one.fits) ∙ to_z-of_z w128 (total +ℤ r) sum_fits in
    subst (IsPartial cs (i + 1)) (sym reads) record {
      summed = ap (λ z. z +ℤ r) so_far.summed ∙ ap (λ z. weighted (take i cs) +ℤ z) one.value
          ∙ sym (fold_more (λ sum c. sum +ℤ pos (weight_of c) *ℤ c.offset.0) (pos 0) cs i d inside);
      low = omega (arith, ints, weights, so_far.low, one.low);
      high = omega (arith, ints, weights, so_far.high, one.high);
      light = omega (arith, weights, so_far.light, one.light);
    }

-- the jitter and the system peer, by the first survivor
pub combined_jitter_is : (cs : List Candidate) (d : Candidate) → 0 < length cs → combined_jitter cs ≡ root (spread (get_or cs 0 d).offset.0 cs / length cs)
combined_jitter_is [] d some = absurd (omega arith)
combined_jitter_is (first ∷ rest) d some = refl

pub system_peer_is : (cs : List Candidate) (d : Candidate) → 0 < length cs → system_peer cs ≡ (get_or cs 0 d).peer
system_peer_is [] d some = absurd (omega arith)
system_peer_is (first ∷ rest) d some = refl
