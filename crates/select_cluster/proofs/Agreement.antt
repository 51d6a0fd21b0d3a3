-- The count at a place, seen from the sorted ends.
use Rattle.std.proofs.Common.{◌≡◌, ℕ, ℤ, pos, zero, suc, ◌+◌, ◌-◌, ◌*◌, ◌^◌, ◌<◌, ◌≤◌, ◌+ℤ◌, ◌≤ℤ◌, cond, ◌&&◌, leb, ltb, List, [], ◌∷◌, length, get_or, map, refl, sym, ap, subst, inl, inr, ◌∙◌, arith}
use Rattle.std.specs.Prelude.{int_le}
use Rattle.std.specs.List.{All, Contains}
use Rattle.std.proofs.lemmas.Bool.{cases_lt}
use Rattle.std.proofs.lemmas.Bool.Decides.{nat_tests}
use Rattle.std.proofs.lemmas.Int.{ints}
use Rattle.std.proofs.lemmas.List.{length-map}
use Rattle.std.proofs.lemmas.List.Elements.{All-contains, All-head, All-tail, Contains-get_or}
use Rattle.std.proofs.lemmas.List.Sorted.{Contains-permutation, IsPermutation-sym, length_permutation, sum_by-IsPermutation}
use Rattle.std.proofs.lemmas.List.Sums.{sum_by-cons}
use Rattle.select_cluster.specs.declared.candidates.Candidate.{Candidate}
use Rattle.select_cluster.specs.declared.edges.End.TheVariants.{Low, High}
use Rattle.select_cluster.specs.Edges.{AreApart, AreSortedEnds, IsFirstMeeting, IsLastMeeting, IsLifted, lifted}
use Rattle.select_cluster.specs.Selecting.{IsAgreed, IsEndpoint, IsGreatestAgreed, IsLeastAgreed, count_at, high, holds, low}
use Rattle.select_cluster.proofs.Overlaps.{IsAround, around_enough, begun, ended, enough_around}

-- lifting keeps the order
lift_le : (l x : ℤ) (l' x' : ℕ) → pos l' ≡ l +ℤ pos (2 ^ 65) → pos x' ≡ x +ℤ pos (2 ^ 65) → int_le l x ≡ leb l' x'
lift_le l x l' x' low_at x_at = grind (arith, ints, nat_tests)

-- an interval is one of those that have x, or it has ended before x, exactly where it has begun up to x
one_split : (l h x : ℕ) → l ≤ h → cond (leb l x && leb x h) 1 0 + cond (ltb h x) 1 0 ≡ cond (leb l x) 1 0
one_split l h x in_order = grind (arith, nat_tests)

low_high : (c : Candidate) → low c ≤ℤ high c
low_high c = omega (arith, ints)

-- the same of a candidate
candidate_split : (c : Candidate) (x : ℤ) → IsLifted x → IsLifted (low c) → IsLifted (high c) → cond (holds x c) 1 0 + cond (ltb (lifted (high c)) (lifted x)) 1 0 ≡ cond (leb (lifted (low c)) (lifted x)) 1 0
candidate_split c x at at_low at_high =
    let below : lifted (low c) ≤ lifted (high c) = omega (arith, ints, low_high c, at_low.whole, at_high.whole) in
    ap (λ b. cond (b && int_le x (high c)) 1 0 + cond (ltb (lifted (high c)) (lifted x)) 1 0) (lift_le (low c) x (lifted (low c)) (lifted x) at_low.whole at.whole)
    ∙ ap (λ b. cond (leb (lifted (low c)) (lifted x) && b) 1 0 + cond (ltb (lifted (high c)) (lifted x)) 1 0) (lift_le x (high c) (lifted x) (lifted (high c)) at.whole at_high.whole)
    ∙ one_split (lifted (low c)) (lifted (high c)) (lifted x) below

-- the intervals that have x, and those ended before, are those begun up to it
count_split : (cs : List Candidate) (x : ℤ) → IsLifted x → All (λ c. IsLifted (low c)) cs → All (λ c. IsLifted (high c)) cs → count_at cs x + ended (map (λ c. lifted (high c)) cs) (lifted x) ≡ begun (map (λ c. lifted (low c)) cs) (lifted x)
count_split [] x at lows highs = refl
count_split (c ∷ cs) x at lows highs =
    let rest = count_split cs x at (All-tail (λ d. IsLifted (low d)) c cs lows) (All-tail (λ d. IsLifted (high d)) c cs highs) in
    let here = candidate_split c x at (All-head (λ d. IsLifted (low d)) c cs lows) (All-head (λ d. IsLifted (high d)) c cs highs) in
    let held = sum_by-cons (λ d. cond (holds x d) 1 0) c cs in
    let past = sum_by-cons (λ edge. cond (ltb edge (lifted x)) 1 0) (lifted (high c)) (map (λ d. lifted (high d)) cs) in
    let met = sum_by-cons (λ edge. cond (leb edge (lifted x)) 1 0) (lifted (low c)) (map (λ d. lifted (low d)) cs) in
    omega (arith, rest, here, held, past, met)

-- two lifted places that are lifted alike are one
lifted_same : (x y : ℤ) → pos (lifted y) ≡ x +ℤ pos (2 ^ 65) → IsLifted y → x ≡ y
lifted_same x y e at = omega (arith, ints, at.whole)

-- what is in the list of images is the image of something
image_of : {X : Type 0} (f : X → ℕ) (xs : List X) (y : ℕ) → Contains (map f xs) y → (x : X) × Contains xs x × (y ≡ f x)
image_of f [] y (k, inside, at) = absurd (omega arith)
image_of f (x ∷ xs) y (zero, inside, at) = (x, (0, omega arith, refl), sym at)
image_of f (x ∷ xs) y (suc k, inside, at) =
    let found = image_of f xs y (k, omega arith, at) in
    (found.0, (suc found.1.0, omega (arith, found.1.1), found.1.2), found.2)

module _ (cs : List Candidate) (lows highs : List ℕ) (low_ends : AreSortedEnds Low cs lows) (high_ends : AreSortedEnds High cs highs) where
  lows_length : length lows ≡ length cs
  lows_length = length_permutation (map (λ c. lifted (low c)) cs) lows low_ends.same ∙ length-map cs (λ c. lifted (low c))

  highs_length : length highs ≡ length cs
  highs_length = length_permutation (map (λ c. lifted (high c)) cs) highs high_ends.same ∙ length-map cs (λ c. lifted (high c))

  -- an endpoint is lifted with nothing lost
  endpoint_lifted : (x : ℤ) → IsEndpoint cs x → IsLifted x
  endpoint_lifted x (c, among, inl e) =
      let at : IsLifted (low c) = All-contains (λ d. IsLifted (low d)) cs c low_ends.whole among in
      subst IsLifted (sym e) at
  endpoint_lifted x (c, among, inr e) =
      let at : IsLifted (high c) = All-contains (λ d. IsLifted (high d)) cs c high_ends.whole among in
      subst IsLifted (sym e) at

  -- the count at a lifted place, by the sorted ends
  count_sorted : (x : ℤ) → IsLifted x → count_at cs x + ended highs (lifted x) ≡ begun lows (lifted x)
  count_sorted x at =
      let past = sum_by-IsPermutation (λ edge. cond (ltb edge (lifted x)) 1 0) (map (λ c. lifted (high c)) cs) highs high_ends.same in
      let met = sum_by-IsPermutation (λ edge. cond (leb edge (lifted x)) 1 0) (map (λ c. lifted (low c)) cs) lows low_ends.same in
      omega (arith, past, met, count_split cs x at low_ends.whole high_ends.whole)

  -- an endpoint that gap + 1 intervals have lies between a pair
  agreed_around : (gap : ℕ) (x : ℤ) → IsAgreed cs (gap + 1) x → IsAround lows highs gap (lifted x) (ended highs (lifted x))
  agreed_around gap x agreed =
      let at = endpoint_lifted x agreed.endpoint in
      around_enough lows highs low_ends.sorted high_ends.sorted (lows_length ∙ sym highs_length) gap (lifted x)
      (omega (arith, count_sorted x at, agreed.enough))

  -- the count of an endpoint between a pair
  agreed_between : (gap k : ℕ) (x : ℤ) → IsEndpoint cs x → IsAround lows highs gap (lifted x) k → IsAgreed cs (gap + 1) x
  agreed_between gap k x endpoint around = record {
    endpoint = endpoint;
    enough = omega (
      arith,
      count_sorted x (endpoint_lifted x endpoint),
      enough_around lows highs low_ends.sorted high_ends.sorted (lows_length ∙ sym highs_length) gap (lifted x) k around,
    );
  }

  -- the place of a sorted end is an endpoint
  low_endpoint : (k : ℕ) (x : ℤ) → k < length lows → pos (get_or lows k 0) ≡ x +ℤ pos (2 ^ 65) → IsEndpoint cs x
  low_endpoint k x inside at =
      let images = map (λ c. lifted (low c)) cs in
      let edge = get_or lows k 0 in
      let found = image_of (λ c. lifted (low c)) cs edge (Contains-permutation lows images edge (IsPermutation-sym images lows low_ends.same) (Contains-get_or lows k 0 inside)) in
      let whole : IsLifted (low found.0) = All-contains (λ d. IsLifted (low d)) cs found.0 low_ends.whole found.1 in
      (found.0, found.1, inl (lifted_same x (low found.0) (ap pos (sym found.2) ∙ at) whole))

  high_endpoint : (k : ℕ) (x : ℤ) → k < length highs → pos (get_or highs k 0) ≡ x +ℤ pos (2 ^ 65) → IsEndpoint cs x
  high_endpoint k x inside at =
      let images = map (λ c. lifted (high c)) cs in
      let edge = get_or highs k 0 in
      let found = image_of (λ c. lifted (high c)) cs edge (Contains-permutation highs images edge (IsPermutation-sym images highs high_ends.same) (Contains-get_or highs k 0 inside)) in
      let whole : IsLifted (high found.0) = All-contains (λ d. IsLifted (high d)) cs found.0 high_ends.whole found.1 in
      (found.0, found.1, inr (lifted_same x (high found.0) (ap pos (sym found.2) ∙ at) whole))

  least_agreed_below : (gap f : ℕ) → gap + f + 1 ≡ length cs → (k : ℕ) → IsFirstMeeting lows highs gap f k → (x : ℤ) → IsLifted x → lifted x ≡ get_or lows (k + gap) 0 → (y : ℤ) → IsAgreed cs (gap + 1) y → x ≤ℤ y
  least_agreed_below gap f sizes k first x whole here y agreed =
      let place = ended highs (lifted y) in
      let around = agreed_around gap y agreed in
      let y_whole = endpoint_lifted y agreed.endpoint in
      elim (cases_lt place k) [
        | inl before ↦ absurd (omega (arith, first.apart_before place before, around.from_low, around.to_high))
        | inr after ↦
            let rise = low_ends.sorted (k + gap) (place + gap) 0 (omega (arith, after)) around.within in
            omega (arith, ints, rise, here, around.from_low, whole.whole, y_whole.whole)
      ]

  -- the low end of the first pair that meets is the least endpoint of gap + 1 intervals
  pub least_agreed : (gap f : ℕ) → gap + f + 1 ≡ length cs → (k : ℕ) → IsFirstMeeting lows highs gap f k → (x : ℤ) → pos (get_or lows (k + gap) 0) ≡ x +ℤ pos (2 ^ 65) → IsLeastAgreed cs (gap + 1) x
  least_agreed gap f sizes k first x at =
      let within : k + gap < length lows = omega (arith, lows_length, first.within) in
      let endpoint = low_endpoint (k + gap) x within at in
      let whole = endpoint_lifted x endpoint in
      let here : lifted x ≡ get_or lows (k + gap) 0 = omega (arith, ints, whole.whole) in
      record {
        agreed = agreed_between gap k x endpoint record {
          within = within;
          from_low = omega (arith, here);
          to_high = omega (arith, here, first.meet);
        };
        least = λ y agreed. least_agreed_below gap f sizes k first x whole here y agreed;
      }

  greatest_agreed_above : (gap f : ℕ) → gap + f + 1 ≡ length cs → (k : ℕ) → IsLastMeeting lows highs gap f k → (x : ℤ) → IsLifted x → lifted x ≡ get_or highs k 0 → (y : ℤ) → IsAgreed cs (gap + 1) y → y ≤ℤ x
  greatest_agreed_above gap f sizes k last x whole here y agreed =
      let place = ended highs (lifted y) in
      let around = agreed_around gap y agreed in
      let y_whole = endpoint_lifted y agreed.endpoint in
      elim (cases_lt k place) [
        | inl after ↦ absurd (omega (arith, last.apart_after place after (omega (arith, around.within, lows_length)), around.from_low, around.to_high))
        | inr before ↦
            let rise = high_ends.sorted place k 0 before (omega (arith, last.within, highs_length)) in
            omega (arith, ints, rise, here, around.to_high, whole.whole, y_whole.whole)
      ]

  -- the high end of the last pair that meets is the greatest
  pub greatest_agreed : (gap f : ℕ) → gap + f + 1 ≡ length cs → (k : ℕ) → IsLastMeeting lows highs gap f k → (x : ℤ) → pos (get_or highs k 0) ≡ x +ℤ pos (2 ^ 65) → IsGreatestAgreed cs (gap + 1) x
  greatest_agreed gap f sizes k last x at =
      let endpoint = high_endpoint k x (omega (arith, last.within, highs_length)) at in
      let whole = endpoint_lifted x endpoint in
      let here : lifted x ≡ get_or highs k 0 = omega (arith, ints, whole.whole) in
      record {
        agreed = agreed_between gap k x endpoint record {
          within = omega (arith, lows_length, last.within);
          from_low = omega (arith, here, last.meet);
          to_high = omega (arith, here);
        };
        greatest = λ y agreed. greatest_agreed_above gap f sizes k last x whole here y agreed;
      }

  -- where no pair meets, no endpoint has so many
  pub none_agreed : (gap f : ℕ) → gap + f + 1 ≡ length cs → ((j : ℕ) → j ≤ f → AreApart lows highs gap j) → (y : ℤ) → ¬ IsAgreed cs (gap + 1) y
  none_agreed gap f sizes apart y agreed =
      let place = ended highs (lifted y) in
      let around = agreed_around gap y agreed in
      omega (arith, apart place (omega (arith, around.within, lows_length)), around.from_low, around.to_high)

  -- the same three, where f of the candidates may be left out
  gap_of : (f : ℕ) → 2 * f < length cs → (length cs - f - 1) + f + 1 ≡ length cs
  gap_of f minority = omega arith

  need_of : (f : ℕ) → 2 * f < length cs → (length cs - f - 1) + 1 ≡ length cs - f
  need_of f minority = omega arith

  pub least_found : (f : ℕ) → 2 * f < length cs → (k : ℕ) → IsFirstMeeting lows highs (length cs - f - 1) f k → (x : ℤ) → pos (get_or lows (k + (length cs - f - 1)) 0) ≡ x +ℤ pos (2 ^ 65) → IsLeastAgreed cs (length cs - f) x
  least_found f minority k first x at =
      subst (λ n. IsLeastAgreed cs n x) (need_of f minority) (least_agreed (length cs - f - 1) f (gap_of f minority) k first x at)

  pub greatest_found : (f : ℕ) → 2 * f < length cs → (k : ℕ) → IsLastMeeting lows highs (length cs - f - 1) f k → (x : ℤ) → pos (get_or highs k 0) ≡ x +ℤ pos (2 ^ 65) → IsGreatestAgreed cs (length cs - f) x
  greatest_found f minority k last x at =
      subst (λ n. IsGreatestAgreed cs n x) (need_of f minority) (greatest_agreed (length cs - f - 1) f (gap_of f minority) k last x at)

  pub none_found : (f : ℕ) → 2 * f < length cs → ((j : ℕ) → j ≤ f → AreApart lows highs (length cs - f - 1) j) → (y : ℤ) → ¬ IsAgreed cs (length cs - f) y
  none_found f minority apart y =
      subst (λ n. ¬ IsAgreed cs n y) (need_of f minority) (none_agreed (length cs - f - 1) f (gap_of f minority) apart y)
