-- Where m intervals overlap, seen from the sorted lists of their low and high ends.
use Rattle.std.proofs.Common.{◌≡◌, ℕ, ◌+◌, ◌<◌, ◌≤◌, true, leb, ltb, List, length, get_or, inl, inr, arith}
use Rattle.std.specs.Prelude.{count_by}
use Rattle.std.specs.List.Sorted.{IsNonDecreasing}
use Rattle.std.proofs.lemmas.Bool.{cases_lt}
use Rattle.std.proofs.lemmas.Bool.Decides.{nat_tests}
use Rattle.std.proofs.lemmas.List.Sums.{count_by-le-length}
use Rattle.select_cluster.proofs.Ranks.{rank_below, passes_below}

-- the lows up to x, and the highs below x
abbrev pub begun : List ℕ → ℕ → ℕ
begun lows x = count_by (λ edge. leb edge x) lows

abbrev pub ended : List ℕ → ℕ → ℕ
ended highs x = count_by (λ edge. ltb edge x) highs

leb_down : (x a b : ℕ) → a ≤ b → leb b x ≡ true → leb a x ≡ true
leb_down x a b below passes = grind (arith, nat_tests)

ltb_down : (x a b : ℕ) → a ≤ b → ltb b x ≡ true → ltb a x ≡ true
ltb_down x a b below passes = grind (arith, nat_tests)

leb_is : (a b : ℕ) → leb a b ≡ true → a ≤ b
leb_is a b passes = grind (arith, nat_tests)

leb_from : (a b : ℕ) → a ≤ b → leb a b ≡ true
leb_from a b below = grind (arith, nat_tests)

ltb_is : (a b : ℕ) → ltb a b ≡ true → a < b
ltb_is a b passes = grind (arith, nat_tests)

ltb_from : (a b : ℕ) → a < b → ltb a b ≡ true
ltb_from a b below = grind (arith, nat_tests)

-- a pair of a low and a high end, `gap` places apart, with x between them
pub record IsAround (lows highs : List ℕ) (gap x k : ℕ) : Type 0 where
  pub within : k + gap < length lows
  pub from_low : get_or lows (k + gap) 0 ≤ x
  pub to_high : x ≤ get_or highs k 0

module _ (lows highs : List ℕ) (lows_up : IsNonDecreasing lows) (highs_up : IsNonDecreasing highs) (same : length lows ≡ length highs) (gap x : ℕ) where
  -- x between such a pair lies in gap + 1 intervals at least
  pub enough_around : (k : ℕ) → IsAround lows highs gap x k → gap + 1 + ended highs x ≤ begun lows x
  enough_around k around =
      let low_rank = rank_below (λ edge. leb edge x) (leb_down x) lows lows_up (k + gap) around.within (leb_from (get_or lows (k + gap) 0) x around.from_low) in
      elim (cases_lt k (ended highs x)) [
        | inl below ↦
            let passed = ltb_is (get_or highs k 0) x (passes_below (λ edge. ltb edge x) (ltb_down x) highs highs_up k below) in
            absurd (omega (arith, passed, around.to_high))
        | inr above ↦ omega (arith, low_rank, above)
      ]

  -- and where x lies in so many, it is between such a pair
  pub around_enough : gap + 1 + ended highs x ≤ begun lows x → IsAround lows highs gap x (ended highs x)
  around_enough enough =
      let fewer = count_by-le-length (λ edge. leb edge x) lows in
      record {
        within = omega (arith, fewer);
        from_low = leb_is (get_or lows (ended highs x + gap) 0) x (passes_below (λ edge. leb edge x) (leb_down x) lows lows_up (ended highs x + gap) (omega (arith, enough)));
        to_high = elim (cases_lt (get_or highs (ended highs x) 0) x) [
          | inl below ↦ absurd (omega (arith, rank_below (λ edge. ltb edge x) (ltb_down x) highs highs_up (ended highs x) (omega (arith, fewer, same)) (ltb_from (get_or highs (ended highs x) 0) x below)))
          | inr above ↦ above
        ];
      }
