-- Combining (RFC 5905, section 11.2.3; whole weights, and the roundings, are our own rules).
use Rattle.std.specs.Prelude.{ℕ, ℤ, pos, ◌/◌, ◌^◌, ◌+ℤ◌, ◌*ℤ◌, List, [], ◌∷◌, fold, int_div, length, max, sum_by}
use Rattle.fixed_time.specs.Root.{root}
use Rattle.select_cluster.specs.declared.candidates.Candidate.{Candidate}
use Rattle.select_cluster.specs.Clustering.{spread}

-- a survivor weighs more the less its distance is, and never nothing
abbrev pub weight_of : Candidate → ℕ
weight_of c = max 1 (2 ^ 48 / max 1 c.distance)

-- the sum of the offsets, each as often as its survivor weighs
abbrev pub weighted : List Candidate → ℤ
weighted cs = fold (λ total c. total +ℤ pos (weight_of c) *ℤ c.offset.0) (pos 0) cs

-- the mean of the offsets, each as often as its survivor weighs, toward zero
abbrev pub combined_offset : List Candidate → ℤ
combined_offset cs = int_div (weighted cs) (pos (sum_by weight_of cs))

-- the root of the mean square of how far the offsets are from the first
abbrev pub combined_jitter : List Candidate → ℕ
combined_jitter [] = 0
combined_jitter (first ∷ rest) = root (spread first.offset.0 (first ∷ rest) / length (first ∷ rest))

-- the system peer is the first survivor
abbrev pub system_peer : List Candidate → ℕ
system_peer [] = 0
system_peer (first ∷ rest) = first.peer
