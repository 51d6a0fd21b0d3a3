-- An accepted interval is one interval, and so is the selected one.
use Rattle.std.proofs.Common.{◌≡◌, ℕ, ℤ, ◌+◌, ◌-◌, ◌<◌, ◌≤◌, List, length, subst, inl, inr, arith}
use Rattle.std.proofs.lemmas.Bool.{cases_lt, cases_order}
use Rattle.std.proofs.lemmas.Int.{ints}
use Rattle.select_cluster.specs.declared.candidates.Candidate.{Candidate}
use Rattle.select_cluster.specs.declared.selection.Interval.{Interval}
use Rattle.select_cluster.specs.Selecting.{IsAccepted, IsGreatestAgreed, IsLeastAgreed, IsSelected, outside}

least_same : (cs : List Candidate) (need : ℕ) (x y : ℤ) → IsLeastAgreed cs need x → IsLeastAgreed cs need y → x ≡ y
least_same cs need x y a b = omega (arith, ints, a.least y b.agreed, b.least x a.agreed)

greatest_same : (cs : List Candidate) (need : ℕ) (x y : ℤ) → IsGreatestAgreed cs need x → IsGreatestAgreed cs need y → x ≡ y
greatest_same cs need x y a b = omega (arith, ints, a.greatest y b.agreed, b.greatest x a.agreed)

-- where too many offsets are outside the one interval of f falsetickers, none is accepted
pub none_accepted : (cs : List Candidate) (f : ℕ) (lo hi : ℤ) → IsLeastAgreed cs (length cs - f) lo → IsGreatestAgreed cs (length cs - f) hi → f < outside lo hi cs → (lo' hi' : ℤ) → ¬ IsAccepted cs f lo' hi'
none_accepted cs f lo hi least greatest many lo' hi' accepted =
    let low_end = least_same cs (length cs - f) lo' lo accepted.from_lo least in
    let high_end = greatest_same cs (length cs - f) hi' hi accepted.to_hi greatest in
    let few : outside lo hi cs ≤ f = subst (λ x. outside x hi cs ≤ f) low_end (subst (λ y. outside lo' y cs ≤ f) high_end accepted.few_outside) in
    omega (arith, few, many)

-- one number of falsetickers more
pub none_accepted_more : (cs : List Candidate) (f : ℕ) → ((g : ℕ) (lo hi : ℤ) → g < f → ¬ IsAccepted cs g lo hi) → ((lo hi : ℤ) → ¬ IsAccepted cs f lo hi) → (g : ℕ) (lo hi : ℤ) → g < f + 1 → ¬ IsAccepted cs g lo hi
none_accepted_more cs f before here g lo hi below accepted =
    elim (cases_lt g f) [
      | inl less ↦ before g lo hi less accepted
      | inr same ↦ let e : g ≡ f = omega (arith, below, same) in here lo hi (subst (λ k. IsAccepted cs k lo hi) e accepted)
    ]

-- the selected interval is one, with its number of falsetickers
pub selected_same : (cs : List Candidate) (i j : Interval) → IsSelected cs i → IsSelected cs j → (i.lo ≡ j.lo) × (i.hi ≡ j.hi) × (i.false_count ≡ j.false_count)
selected_same cs i j a b =
    elim (cases_order i.false_count j.false_count) [
      | inl same ↦
          let from_lo = subst (λ f. IsLeastAgreed cs (length cs - f) i.lo) same a.accepted.from_lo in
          let to_hi = subst (λ f. IsGreatestAgreed cs (length cs - f) i.hi) same a.accepted.to_hi in
          (least_same cs (length cs - j.false_count) i.lo j.lo from_lo b.accepted.from_lo, greatest_same cs (length cs - j.false_count) i.hi j.hi to_hi b.accepted.to_hi, same)
      | inr (inl fewer) ↦ absurd (b.no_fewer i.false_count i.lo i.hi fewer a.accepted)
      | inr (inr more) ↦ absurd (a.no_fewer j.false_count j.lo j.hi more b.accepted)
    ]
