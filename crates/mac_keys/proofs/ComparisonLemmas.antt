-- Differences of octets, gathered in one number.
use Rattle.std.proofs.Common.{◌≡◌, ◌↔◌, ℕ, ◌+◌, ◌<◌, List, length, get_or, take, refl, sym, ap, ◌∙◌, bit_or, bit_xor, add-one, take-suc, take-take, get_or-take, arith}
use Rattle.std.specs.Int.Bits.{xor_self, xor_add_and, or_zero_l}
use Rattle.std.proofs.lemmas.Nat.{and_le_l, and_le_r, le_or_l, le_or_r}

-- numbers whose difference by bits is none are equal
same_by_xor : (a b : ℕ) → bit_xor a b ≡ 0 → a ≡ b
same_by_xor a b none = omega (arith, xor_add_and a b, and_le_l a b, and_le_r a b, none)

-- fronts with one more place are equal where the fronts and the elements there are
longer_front : (i : ℕ) (xs ys : List ℕ) → i < length xs → i < length ys → take i ys ≡ take i xs → get_or ys i 0 ≡ get_or xs i 0 → take (i + 1) ys ≡ take (i + 1) xs
longer_front i xs ys in_xs in_ys fronts here =
    rw (add-one, take-suc ys i 0 in_ys, take-suc xs i 0 in_xs, fronts, here) refl

-- with one more place, no difference is gathered exactly where the longer fronts are equal
pub gathered_more : (found i : ℕ) (xs ys : List ℕ) → i < length xs → i < length ys → (found ≡ 0) ↔ (take i ys ≡ take i xs)
    → (bit_or found (bit_xor (get_or xs i 0) (get_or ys i 0)) ≡ 0) ↔ (take (i + 1) ys ≡ take (i + 1) xs)
gathered_more found i xs ys in_xs in_ys so_far = (
  λ (none : bit_or found (bit_xor (get_or xs i 0) (get_or ys i 0)) ≡ 0). (
      let before : found ≡ 0 = omega (arith, le_or_l found (bit_xor (get_or xs i 0) (get_or ys i 0)), none) in
      let here : bit_xor (get_or xs i 0) (get_or ys i 0) ≡ 0 = omega (arith, le_or_r found (bit_xor (get_or xs i 0) (get_or ys i 0)), none) in
      longer_front i xs ys in_xs in_ys (so_far.0 before) (sym (same_by_xor _ _ here))),
  λ (fronts : take (i + 1) ys ≡ take (i + 1) xs). (
      let shorter : take i ys ≡ take i xs = sym (take-take i (i + 1) ys (omega arith)) ∙ ap (take i) fronts ∙ take-take i (i + 1) xs (omega arith) in
      let here : get_or ys i 0 ≡ get_or xs i 0 = sym (get_or-take (i + 1) ys i 0 (omega arith)) ∙ ap (λ l. get_or l i 0) fronts ∙ get_or-take (i + 1) xs i 0 (omega arith) in
      rw (so_far.1 shorter, here, xor_self, or_zero_l) refl),
)
