-- Worked values: three intervals from 0 to 2, 1 to 3 and 2 to 4, and the mean of two offsets.
use Rattle.std.proofs.Common.{◌≡◌, ℕ, ℤ, List, [], ◌∷◌, pos, negsuc, refl}
use Rattle.select_cluster.specs.declared.candidates.Candidate.{Candidate}
use Rattle.select_cluster.specs.declared.candidates.TheConstants.{MAX_CANDIDATES}
use Rattle.select_cluster.specs.Clustering.{survivors_of}
use Rattle.select_cluster.specs.Combining.{combined_offset}
use Rattle.select_cluster.specs.Selecting.{count_at, outside}

-- as many servers as a configuration has (our own rule)
MAX_CANDIDATES-is : MAX_CANDIDATES ≡ 32
MAX_CANDIDATES-is = refl

-- a candidate by its peer number, offset and distance
abbrev candidate : ℕ → ℤ → ℕ → Candidate
candidate peer offset distance = record { peer = peer; stratum = 2; offset = record { 0 = offset }; distance = distance; jitter = 1 }

abbrev three : List Candidate
three = candidate 1 (pos 1) 1 ∷ candidate 2 (pos 2) 1 ∷ candidate 3 (pos 3) 1 ∷ []

all_have_two : count_at three (pos 2) ≡ 3
all_have_two = refl

two_have_one : count_at three (pos 1) ≡ 2
two_have_one = refl

two_offsets_outside : outside (pos 2) (pos 2) three ≡ 2
two_offsets_outside = refl

-- the nearer first, and of one distance the lower peer number
in_order : survivors_of (candidate 3 (pos 1) 9 ∷ candidate 2 (pos 1) 9 ∷ candidate 1 (pos 7) 9 ∷ candidate 9 (pos 1) 8 ∷ []) record { lo = pos 0; hi = pos 5; false_count = 1 } ≡ candidate 9 (pos 1) 8 ∷ candidate 2 (pos 1) 9 ∷ candidate 3 (pos 1) 9 ∷ []
in_order = refl

-- the second weighs half as much as the first
mean_of_two : combined_offset (candidate 1 (pos 1000) 4096 ∷ candidate 2 (pos 4000) 8192 ∷ []) ≡ pos 2000
mean_of_two = refl

-- -5.75, toward zero
toward_zero : combined_offset (candidate 1 (negsuc 6) 1 ∷ candidate 2 (negsuc 1) 3 ∷ []) ≡ negsuc 4
toward_zero = refl
