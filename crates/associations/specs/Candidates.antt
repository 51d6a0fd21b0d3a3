-- Which servers are candidates of a selection, and how far they are (RFC 5905, section 11.2.1; the threshold of 1.5 seconds is our own rule).
use Rattle.std.specs.Prelude.{ℕ, ◌<◌, ◌+◌, ◌-◌, ◌/◌, ◌==◌, if◌then◌else◌, nat_lt, List, filter_map, Option, None, Some}
use Rattle.std.specs.List.{enumerate_from}
use Rattle.clock_filter.specs.declared.estimates.Estimate.{Estimate}
use Rattle.fixed_time.specs.Time.{drift_of}
use Rattle.fixed_time.specs.declared.time.TheConstants.{PHI}
use Rattle.select_cluster.specs.declared.candidates.Candidate.{Candidate}
use Rattle.associations.specs.Showing.{estimate_shown}
use Rattle.associations.specs.declared.association.Association.{Association}
use Rattle.associations.specs.declared.candidates.TheConstants.{MAX_DISTANCE}

-- the root distance at a moment: half the round trip to the primary source, and all dispersion and jitter on the way
abbrev pub distance_of : Association → Estimate → ℕ → ℕ
distance_of server estimate moment = (server.root_delay + estimate.delay) / 2 + server.root_disp + estimate.disp + drift_of (moment - estimate.at) PHI + estimate.jitter

-- a server of this number and root distance as a candidate, where that is under the threshold
abbrev pub near_candidate : ℕ → Association → Estimate → ℕ → Option Candidate
near_candidate peer server estimate distance =
    if nat_lt distance MAX_DISTANCE
    then Some (record { peer = peer; stratum = server.stratum; offset = estimate.offset; distance = distance; jitter = estimate.jitter })
    else None

-- a server with an estimate is a candidate where one of its last eight requests was answered and its root distance is under the threshold
abbrev pub reached_candidate : ℕ → Association → Estimate → ℕ → Option Candidate
reached_candidate peer server estimate moment = if server.reach == 0 then None else near_candidate peer server estimate (distance_of server estimate moment)

-- a server is a candidate where it has an estimate, was reached and is near
abbrev pub candidate_by : Option Estimate → ℕ → ℕ → Association → Option Candidate
candidate_by None moment peer server = None
candidate_by (Some estimate) moment peer server = reached_candidate peer server estimate moment

abbrev pub candidate_of : ℕ → ℕ → Association → Option Candidate
candidate_of moment peer server = candidate_by server.estimate moment peer server

-- the servers with their association numbers, which count from 1
abbrev pub numbered : List Association → List (ℕ × Association)
numbered peers = enumerate_from 1 peers

-- the candidates among the servers, in the order of their numbers
abbrev pub candidates_of : ℕ → List Association → List Candidate
candidates_of moment peers = filter_map (λ (np : ℕ × Association). candidate_of moment np.0 np.1) (numbered peers)

-- the root distance of a server, by the estimate that it shows, is under the threshold
abbrev pub IsNear : ℕ → Association → Type 0
IsNear moment server = distance_of server (estimate_shown server.estimate) moment < MAX_DISTANCE
