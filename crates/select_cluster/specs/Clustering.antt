-- Clustering (RFC 5905, section 11.2.2; the roundings, and that of equals the last is taken out, are our own rules).
use Rattle.std.specs.Prelude.{ℕ, ℤ, ◌≡◌, ◌+◌, ◌-◌, ◌*◌, ◌/◌, ◌^◌, ◌<◌, ◌≤◌, ◌⊎◌, Bool, true, false, List, filter, length, map, nat_le, nat_lt, remove, slice_index, sum_by}
use Rattle.std.specs.List.{IsLastBest, list_all}
use Rattle.fixed_time.specs.Apart.{squared_apart_of}
use Rattle.fixed_time.specs.Order.{arranged}
use Rattle.fixed_time.specs.Root.{root}
use Rattle.select_cluster.specs.declared.candidates.Candidate.{Candidate}
use Rattle.select_cluster.specs.declared.selection.Interval.{Interval}
use Rattle.select_cluster.specs.Selecting.{inside}

-- survivors stand by stratum, then by distance, then by peer number
abbrev pub rank_of : Candidate → ℕ
rank_of c = (c.stratum * 2 ^ 64 + c.distance) * 2 ^ 16 + c.peer

-- the candidates whose offsets are inside, by stratum, then distance, then peer number
abbrev pub survivors_of : List Candidate → Interval → List Candidate
survivors_of cs i = arranged rank_of (filter (inside i.lo i.hi) cs)

-- the squares of how far the offsets are from one, summed up
abbrev pub spread : ℤ → List Candidate → ℕ
spread about cs = sum_by (λ c. squared_apart_of about c.offset.0) cs

-- the selection jitter of each survivor: how far the others are from it
abbrev pub jitters : List Candidate → List ℕ
jitters cs = map (λ c. root (spread c.offset.0 cs / (length cs - 1))) cs

-- the survivor at k has the greatest selection jitter, and those behind it have less
abbrev pub IsWorst : List Candidate → ℕ → Type 0
IsWorst cs k = IsLastBest (λ a b. nat_lt b a) (jitters cs) (length cs) k

-- its selection jitter isn't over the least jitter of a survivor
abbrev pub is_within : List Candidate → ℕ → Bool
is_within cs k = list_all (λ c. nat_le (slice_index (jitters cs) k) c.jitter) cs

-- the survivor at k is to be taken out
pub record IsOutlier (cs : List Candidate) (k : ℕ) : Type 0 where
  pub many : 3 < length cs
  pub worst : IsWorst cs k
  pub over : is_within cs k ≡ false

-- no survivor is: there are three at most, or the worst isn't over
abbrev pub IsSettled : List Candidate → Type 0
IsSettled cs = (length cs ≤ 3) ⊎ ((k : ℕ) × IsWorst cs k × (is_within cs k ≡ true))

-- what is left when outliers are taken out one after another until none is to be
pub data Clusters : List Candidate → List Candidate → Type 0 where
  settled : (cs : List Candidate) → IsSettled cs → Clusters cs cs
  taken_out : (cs left : List Candidate) (k : ℕ) → IsOutlier cs k → Clusters (remove cs k) left → Clusters cs left
