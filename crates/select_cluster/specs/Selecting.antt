-- Selection (RFC 5905, section 11.2.1; counting at each endpoint, and the least accepted number of falsetickers, are our own rules).
use Rattle.std.specs.Prelude.{ℕ, ℤ, pos, ◌≡◌, ◌⊎◌, ◌-◌, ◌*◌, ◌<◌, ◌≤◌, ◌+ℤ◌, ◌-ℤ◌, ◌≤ℤ◌, Bool, ◌&&◌, not, List, Contains, count_by, int_le, length}
use Rattle.select_cluster.specs.declared.candidates.Candidate.{Candidate}
use Rattle.select_cluster.specs.declared.selection.Interval.{Interval}

-- the ends of a candidate's interval
abbrev pub low : Candidate → ℤ
low c = c.offset.0 -ℤ pos c.distance

abbrev pub high : Candidate → ℤ
high c = c.offset.0 +ℤ pos c.distance

-- the interval has x in it, as it has both its ends
abbrev pub holds : ℤ → Candidate → Bool
holds x c = int_le (low c) x && int_le x (high c)

-- how many intervals have x in them
abbrev pub count_at : List Candidate → ℤ → ℕ
count_at cs x = count_by (holds x) cs

-- x is an end of some candidate's interval
abbrev pub IsEndpoint : List Candidate → ℤ → Type 0
IsEndpoint cs x = (c : Candidate) × Contains cs c × ((x ≡ low c) ⊎ (x ≡ high c))

-- an endpoint that at least `need` intervals have in them
pub record IsAgreed (cs : List Candidate) (need : ℕ) (x : ℤ) : Type 0 where
  pub endpoint : IsEndpoint cs x
  pub enough : need ≤ count_at cs x

-- the least such endpoint, and the greatest
pub record IsLeastAgreed (cs : List Candidate) (need : ℕ) (x : ℤ) : Type 0 where
  pub agreed : IsAgreed cs need x
  pub least : (y : ℤ) → IsAgreed cs need y → x ≤ℤ y

pub record IsGreatestAgreed (cs : List Candidate) (need : ℕ) (x : ℤ) : Type 0 where
  pub agreed : IsAgreed cs need x
  pub greatest : (y : ℤ) → IsAgreed cs need y → y ≤ℤ x

-- the offset is from lo to hi
abbrev pub inside : ℤ → ℤ → Candidate → Bool
inside lo hi c = int_le lo c.offset.0 && int_le c.offset.0 hi

-- how many offsets are not
abbrev pub outside : ℤ → ℤ → List Candidate → ℕ
outside lo hi cs = count_by (λ c. not (inside lo hi c)) cs

-- f falsetickers are accepted, fewer than half: the others agree from lo to hi, and at most f offsets are outside
pub record IsAccepted (cs : List Candidate) (f : ℕ) (lo hi : ℤ) : Type 0 where
  pub minority : 2 * f < length cs
  pub from_lo : IsLeastAgreed cs (length cs - f) lo
  pub to_hi : IsGreatestAgreed cs (length cs - f) hi
  pub few_outside : outside lo hi cs ≤ f

-- the interval of the least number that is accepted
pub record IsSelected (cs : List Candidate) (i : Interval) : Type 0 where
  pub accepted : IsAccepted cs i.false_count i.lo i.hi
  pub no_fewer : (f : ℕ) (lo hi : ℤ) → f < i.false_count → ¬ IsAccepted cs f lo hi
