-- How a run of `ntpq` ends: what it prints and its exit status. All of it is our own rule.
use Rattle.std.specs.Prelude.{◌≡◌, ◌⊎◌, ℕ, Option, List, [], ◌∷◌, ◌++◌, codes, decimal, Result, Ok, Err}
use Rattle.edge_traits.specs.Told.{gained, GainedFront}
use Rattle.edge_traits.specs.declared.status.Status.{Status}
use Rattle.mrulist_run.specs.Statuses.{fault_status}
use Rattle.ntpq_client.specs.declared.fault.AskFault.{AskFault}
use Rattle.ntpq_client.specs.declared.fault.AskFault.TheVariants as Fault
use Rattle.ntpq_tool.specs.declared.ending.Failure.{Failure}
use Rattle.ntpq_tool.specs.declared.ending.Failure.TheVariants.{Words, Ask, BadReply, NoMemory}

-- why an answer did not come
abbrev pub fault_text : AskFault → List ℕ
fault_text Fault.Port = codes "port"
fault_text Fault.Closed = codes "closed"
fault_text Fault.NoReply = codes "no reply"
fault_text (Fault.Refused code) = codes "refused " ++ decimal code
fault_text Fault.Incomplete = codes "incomplete"
fault_text Fault.Flooded = codes "flooded"
fault_text Fault.NoMemory = codes "memory"

-- why there is no report
abbrev pub failure_text : Failure → List ℕ
failure_text Words = codes "words"
failure_text (Ask fault) = fault_text fault
failure_text BadReply = codes "bad reply"
failure_text NoMemory = codes "memory"

-- the line of a failure
unfoldable pub failure_line : Failure → List ℕ
failure_line why = codes "ntpq: " ++ failure_text why ++ 10 ∷ []

-- what is printed of an ending: the report, or the failure's line
abbrev pub output_of : Result (List ℕ) Failure → List ℕ
output_of (Ok report) = report
output_of (Err why) = failure_line why

-- the exit status of a failure
abbrev pub failure_status : Failure → ℕ
failure_status Words = 1
failure_status (Ask fault) = fault_status fault
failure_status BadReply = 7
failure_status NoMemory = 9

-- the exit status, where all was written
abbrev pub status_of : Result (List ℕ) Failure → ℕ
status_of (Ok report) = 0
status_of (Err why) = failure_status why

-- the sink has all that is printed of the ending, and the status is the ending's; or the sink's fault is the status, and
-- the sink has a front of it
abbrev pub Reports : Result (List ℕ) Failure → Status → Option (List ℕ) → Option (List ℕ) → Type 0
Reports ending status old new =
    ((status.0 ≡ status_of ending) × (new ≡ gained old (output_of ending)))
    ⊎ (((status.0 ≡ 8) ⊎ (status.0 ≡ 9)) × GainedFront old new (output_of ending))
