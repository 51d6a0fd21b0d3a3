-- How selection codes are found, for the functions that no caller sees: what they say stands in Choices (RFC 9327, section 3.2, table 6).
use Rattle.std.specs.Prelude.{ℕ, ◌==◌, not, if◌then◌else◌, List, map, Option, None, Some}
use Rattle.mode6_frame.specs.declared.selections.TheConstants.{REJECTED, FALSETICKER, OUTLIER, SURVIVOR, SYSTEM_PEER}
use Rattle.select_cluster.specs.Combining.{system_peer}
use Rattle.select_cluster.specs.Selecting.{inside}
use Rattle.select_cluster.specs.declared.candidates.Candidate.{Candidate}
use Rattle.select_cluster.specs.declared.selection.Interval.{Interval}
use Rattle.associations.specs.Candidates.{candidate_of, numbered}
use Rattle.associations.specs.Choices.{is_among}
use Rattle.associations.specs.declared.association.Association.{Association}
use Rattle.associations.specs.declared.choosing.Choice.{Choice}
use Rattle.associations.specs.declared.choosing.Choice.TheVariants.{NoMajority, Majority}

-- the selection code of a candidate within a majority
abbrev pub code_within : Interval → List Candidate → Candidate → ℕ
code_within interval survivors candidate =
    if not (inside interval.lo interval.hi candidate) then FALSETICKER
    else (if not (is_among candidate.peer survivors) then OUTLIER
    else (if system_peer survivors == candidate.peer then SYSTEM_PEER else SURVIVOR))

-- the selection code of a candidate: without a majority each is a falseticker
abbrev pub code_of : Choice → Candidate → ℕ
code_of NoMajority candidate = FALSETICKER
code_of (Majority interval survivors) candidate = code_within interval survivors candidate

-- the selection code of a server that may be a candidate
abbrev pub code_by : Choice → Option Candidate → ℕ
code_by choice None = REJECTED
code_by choice (Some candidate) = code_of choice candidate

-- a server with its selection code
abbrev pub marked_one : Choice → ℕ → ℕ → Association → Association
marked_one choice moment peer server = record server { selection = code_by choice (candidate_of moment peer server) }

-- the servers with their selection codes
abbrev pub marked : Choice → ℕ → List Association → List Association
marked choice moment peers = map (λ (np : ℕ × Association). marked_one choice moment np.0 np.1) (numbered peers)
