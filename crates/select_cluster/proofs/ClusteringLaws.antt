-- Survivors stand by stratum, then by distance, then by peer number; and what clustering leaves is one list.
use Rattle.std.proofs.Common.{◌≡◌, ℕ, ◌^◌, ◌<◌, true, false, ltb, List, refl, sym, subst, inl, inr, ◌∙◌, arith}
use Rattle.std.specs.Prelude.{remove, slice_index}
use Rattle.std.proofs.lemmas.Bool.{cases_order}
use Rattle.select_cluster.specs.declared.candidates.Candidate.{Candidate}
use Rattle.select_cluster.specs.Clustering.{Clusters, IsOutlier, IsSettled, IsWorst, is_within, jitters, rank_of}
use Rattle.select_cluster.specs.Clustering.Clusters.{settled, taken_out}

-- the fields are within their types
pub record IsRanked (c : Candidate) : Type 0 where
  pub distance_fits : c.distance < 2 ^ 64
  pub peer_fits : c.peer < 2 ^ 16

pub rank_by_stratum : (c d : Candidate) → IsRanked c → c.stratum < d.stratum → rank_of c < rank_of d
rank_by_stratum c d fits less = omega arith

pub rank_by_distance : (c d : Candidate) → IsRanked c → c.stratum ≡ d.stratum → c.distance < d.distance → rank_of c < rank_of d
rank_by_distance c d fits same less = omega arith

pub rank_by_peer : (c d : Candidate) → c.stratum ≡ d.stratum → c.distance ≡ d.distance → c.peer < d.peer → rank_of c < rank_of d
rank_by_peer c d same_stratum same_distance less = omega arith

both_ways : (a b : ℕ) → ltb a b ≡ false → ltb a b ≡ true → ⊥
both_ways a b fails passes = let both : true ≡ false = sym passes ∙ fails in cc

-- one place is the worst
pub worst_same : (cs : List Candidate) (j k : ℕ) → IsWorst cs j → IsWorst cs k → j ≡ k
worst_same cs j k a b =
    elim (cases_order j k) [
      | inl same ↦ same
      | inr (inl before) ↦
          absurd (both_ways (slice_index (jitters cs) k) (slice_index (jitters cs) j) (b.1 j 0 a.0) (a.2 k 0 before b.0))
      | inr (inr after) ↦
          absurd (both_ways (slice_index (jitters cs) j) (slice_index (jitters cs) k) (a.1 k 0 b.0) (b.2 j 0 after a.0))
    ]

-- where nothing is to be taken out, no survivor is an outlier
not_settled : (cs : List Candidate) (k : ℕ) → IsSettled cs → IsOutlier cs k → ⊥
not_settled cs k (inl few) outlier = omega (arith, few, outlier.many)
not_settled cs k (inr (j, worst, within)) outlier =
    let same = worst_same cs k j outlier.worst worst in
    let over : is_within cs j ≡ false = subst (λ i. is_within cs i ≡ false) same outlier.over in
    let both : true ≡ false = sym within ∙ over in
    cc

-- what is left is one list
pub clusters_same : (cs a b : List Candidate) → Clusters cs a → Clusters cs b → a ≡ b
clusters_same cs a b (settled cs' is) (settled cs'' is') = refl
clusters_same cs a b (settled cs' is) (taken_out cs'' b' k outlier rest) = absurd (not_settled cs k is outlier)
clusters_same cs a b (taken_out cs' a' k outlier rest) (settled cs'' is) = absurd (not_settled cs k is outlier)
clusters_same cs a b (taken_out cs' a' k outlier rest) (taken_out cs'' b' j outlier' rest') =
    clusters_same (remove cs k) a b rest (subst (λ i. Clusters (remove cs i) b) (worst_same cs j k outlier'.worst outlier.worst) rest')
