-- There is one choice, and its system peer is a near server.
use Rattle.std.proofs.Common.{◌≡◌, ℕ, ◌+◌, ◌-◌, ◌<◌, ◌≤◌, Bool, true, false, cond, ltb, List, [], ◌∷◌, get_or, Option, Some, None, refl, ap, subst, ◌∙◌, arith}
use Rattle.std.proofs.lemmas.Bool.{ltb-true}
use Rattle.std.specs.List.{Contains}
use Rattle.clock_filter.specs.declared.estimates.Estimate.{Estimate}
use Rattle.select_cluster.proofs.ClusteringLaws.{clusters_same}
use Rattle.select_cluster.proofs.SelectingLemmas.{selected_same}
use Rattle.select_cluster.specs.Clustering.{Clusters, survivors_of}
use Rattle.select_cluster.specs.Combining.{system_peer}
use Rattle.select_cluster.specs.declared.candidates.Candidate.{Candidate}
use Rattle.select_cluster.specs.declared.selection.Interval.{Interval}
use Rattle.associations.specs.Candidates.{IsNear, candidate_by, candidate_of, candidates_of, distance_of, near_candidate}
use Rattle.associations.specs.Choices.{IsChoice}
use Rattle.associations.specs.Showing.{estimate_shown}
use Rattle.associations.specs.declared.association.Association.{Association}
use Rattle.associations.specs.declared.choosing.Choice.{Choice}
use Rattle.associations.specs.declared.choosing.Choice.TheVariants.{NoMajority, Majority}
use Rattle.associations.specs.declared.candidates.TheConstants.{MAX_DISTANCE}
use Rattle.associations.proofs.NumberLemmas.{kept_at}

-- intervals with the same ends and number of falsetickers are one
interval_same : (i j : Interval) → (i.lo ≡ j.lo) × (i.hi ≡ j.hi) × (i.false_count ≡ j.false_count) → i ≡ j
interval_same i j same =
    ap (λ lo. record { lo = lo; hi = i.hi; false_count = i.false_count }) same.0
    ∙ ap (λ hi. record { lo = j.lo; hi = hi; false_count = i.false_count }) same.1
    ∙ ap (λ count. record { lo = j.lo; hi = j.hi; false_count = count }) same.2

-- there is one choice among candidates
pub choice_same : (candidates : List Candidate) (a b : Choice) → IsChoice candidates a → IsChoice candidates b → a ≡ b
choice_same candidates NoMajority NoMajority none none' = refl
choice_same candidates NoMajority (Majority j t) none some =
    absurd (none j.false_count j.lo j.hi some.0.accepted)
choice_same candidates (Majority i s) NoMajority some none =
    absurd (none i.false_count i.lo i.hi some.0.accepted)
choice_same candidates (Majority i s) (Majority j t) one other =
    let same : i ≡ j = interval_same i j (selected_same candidates i j one.0 other.0) in
    let left : s ≡ t =
    clusters_same (survivors_of candidates j) s t
    (subst (λ (k : Interval). Clusters (survivors_of candidates k) s) same one.1) other.1 in
    ap (λ k. Majority k s) same ∙ ap (λ left'. Majority j left') left

-- a candidate has the number of its server, whose root distance is under the threshold
record IsOf (peer distance : ℕ) (c : Candidate) : Type 0 where
  number : c.peer ≡ peer
  near : distance < MAX_DISTANCE

near_is : (peer : ℕ) (p : Association) (e : Estimate) (distance : ℕ) (c : Candidate) (b : Bool) → ltb distance MAX_DISTANCE ≡ b
    → cond b (Some (record { peer = peer; stratum = p.stratum; offset = e.offset; distance = distance; jitter = e.jitter })) None ≡ Some c
    → IsOf peer distance c
near_is peer p e distance c true less is = record { number = cc; near = ltb-true distance MAX_DISTANCE less }
near_is peer p e distance c false less is = cc

reached_is : (b : Bool) (peer : ℕ) (p : Association) (e : Estimate) (distance : ℕ) (c : Candidate)
    → cond b None (near_candidate peer p e distance) ≡ Some c → IsOf peer distance c
reached_is true peer p e distance c is = cc
reached_is false peer p e distance c is = near_is peer p e distance c (ltb distance MAX_DISTANCE) refl is

candidate_is : (o : Option Estimate) (moment peer : ℕ) (p : Association) (c : Candidate)
    → candidate_by o moment peer p ≡ Some c → IsOf peer (distance_of p (estimate_shown o) moment) c
candidate_is None moment peer p c is = cc
candidate_is (Some e) moment peer p c is = reached_is _ peer p e (distance_of p e moment) c is

-- where a candidate has the number of a server, that server is near
near_by : (moment peer place : ℕ) (peers : List Association) (d : Association) (c : Candidate)
    → Contains (candidates_of moment peers) c → c.peer ≡ peer → place ≡ peer - 1 → IsNear moment (get_or peers place d)
near_by moment peer place peers d c has number at =
    let found = kept_at (λ (np : ℕ × Association). candidate_of moment np.0 np.1) 1 peers c has in
    let p = get_or peers found.0 d in
    let is = candidate_is p.estimate moment (1 + found.0) p c (found.2 d) in
    let same : found.0 ≡ place = omega (arith, is.number, number, at) in
    subst (λ (k : ℕ). IsNear moment (get_or peers k d)) same is.near

-- so the system peer is near, as survivors are candidates
pub system_near : (moment peer place : ℕ) (peers : List Association) (d : Association) (survivors : List Candidate)
    → ((c : Candidate) → Contains survivors c → Contains (candidates_of moment peers) c)
    → 1 ≤ peer → system_peer survivors ≡ peer → place ≡ peer - 1 → IsNear moment (get_or peers place d)
system_near moment peer place peers d [] among some is at = absurd (omega (arith, some, is))
system_near moment peer place peers d (first ∷ rest) among some is at =
    near_by moment peer place peers d first (among first (0, omega arith, refl)) is at
