-- What a selection makes of the servers: who are falsetickers, outliers and survivors (RFC 5905, section 11.2; RFC 9327, section 3.2, table 6).
use Rattle.std.specs.Prelude.{ℕ, ℤ, ◌≡◌, ◌≢◌, ◌↔◌, ◌+◌, ◌<◌, ◌≤◌, ◌==◌, Bool, IsTrue, List, [], length, slice_index_or, Option, None, IsSomeAnd}
use Rattle.std.specs.List.{list_any}
use Rattle.mode6_frame.specs.declared.selections.TheConstants.{REJECTED, FALSETICKER, OUTLIER, SURVIVOR, SYSTEM_PEER}
use Rattle.select_cluster.specs.Clustering.{Clusters, survivors_of}
use Rattle.select_cluster.specs.Combining.{combined_jitter, combined_offset, system_peer}
use Rattle.select_cluster.specs.Selecting.{IsAccepted, IsSelected, inside}
use Rattle.select_cluster.specs.declared.candidates.Candidate.{Candidate}
use Rattle.select_cluster.specs.declared.combining.Combined.{Combined}
use Rattle.associations.specs.Candidates.{candidate_of}
use Rattle.associations.specs.declared.association.Association.{Association}
use Rattle.associations.specs.declared.choosing.Choice.{Choice}
use Rattle.associations.specs.declared.choosing.Choice.TheVariants.{NoMajority, Majority}

-- the choice among candidates: none where no number of falsetickers is accepted, else the selected interval and the survivors that clustering leaves in it
abbrev pub IsChoice : List Candidate → Choice → Type 0
IsChoice candidates NoMajority = (f : ℕ) (lo hi : ℤ) → ¬ IsAccepted candidates f lo hi
IsChoice candidates (Majority interval survivors) =
    IsSelected candidates interval × Clusters (survivors_of candidates interval) survivors

-- the survivors, none without a majority
abbrev pub survivors_in : Choice → List Candidate
survivors_in NoMajority = []
survivors_in (Majority interval survivors) = survivors

-- what they combine to
abbrev pub combined_of : List Candidate → Combined
combined_of survivors = record {
  offset = record { 0 = combined_offset survivors };
  jitter = combined_jitter survivors;
  system = system_peer survivors;
}

-- the server of this number is one of them
abbrev pub is_among : ℕ → List Candidate → Bool
is_among peer survivors = list_any (λ survivor. survivor.peer == peer) survivors

-- the offset of a candidate is in the interval on which a majority agrees
abbrev pub IsInside : Choice → Candidate → Type 0
IsInside NoMajority candidate = ⊥
IsInside (Majority interval survivors) candidate = IsTrue (inside interval.lo interval.hi candidate)

-- the offset of a candidate is in that interval, and clustering leaves its server
abbrev pub IsSurvivor : Choice → Candidate → Type 0
IsSurvivor choice candidate = IsInside choice candidate × IsTrue (is_among candidate.peer (survivors_in choice))

-- the selection code of a server that may be a candidate: 0 exactly for no candidate, 1 exactly for a falseticker, outside the interval, 3 exactly for an outlier, which clustering takes out, and at least 4 exactly for a survivor, 6 exactly for the first one
pub record IsSelectionCode (choice : Choice) (candidate : Option Candidate) (code : ℕ) : Type 0 where
  pub rejected : (code ≡ REJECTED) ↔ (candidate ≡ None)
  pub falseticker : (code ≡ FALSETICKER) ↔ IsSomeAnd candidate (λ c. ¬ (IsInside choice c))
  pub outlier : (code ≡ OUTLIER) ↔ IsSomeAnd candidate (λ c. IsInside choice c × ¬ (IsSurvivor choice c))
  pub survivor : (SURVIVOR ≤ code) ↔ IsSomeAnd candidate (λ c. IsSurvivor choice c)
  pub later : (code ≡ SURVIVOR) ↔ IsSomeAnd candidate (λ c. IsSurvivor choice c × (c.peer ≢ system_peer (survivors_in choice)))
  pub first : (code ≡ SYSTEM_PEER) ↔ IsSomeAnd candidate (λ c. IsSurvivor choice c × (c.peer ≡ system_peer (survivors_in choice)))

-- the server of this number after a selection: it has its selection code, and all else stays
pub record IsMarked (choice : Choice) (moment peer : ℕ) (before after : Association) : Type 0 where
  pub code : IsSelectionCode choice (candidate_of moment peer before) after.selection
  pub others : after ≡ record before { selection = after.selection }

-- the servers after a selection, in the order of their numbers, which count from 1
pub record AreMarked (choice : Choice) (moment : ℕ) (peers marked : List Association) : Type 0 where
  pub as_many : length marked ≡ length peers
  pub each : (k : ℕ) (before after : Association) → k < length peers
      → IsMarked choice moment (k + 1) (slice_index_or peers k before) (slice_index_or marked k after)

-- there is a majority
abbrev pub HasMajority : Choice → Type 0
HasMajority NoMajority = ⊥
HasMajority (Majority interval survivors) = Unit {0}
