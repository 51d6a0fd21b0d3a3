-- The exit statuses of a query tool for what keeps it from an answer or a listing: our own rule.
use Rattle.std.specs.Prelude.{ℕ}
use Rattle.mrulist_run.specs.declared.fault.RunFault.{RunFault}
use Rattle.mrulist_run.specs.declared.fault.RunFault.TheVariants.{Ask, BadReply, NoMemory}
use Rattle.ntpq_client.specs.declared.fault.AskFault.{AskFault}
use Rattle.ntpq_client.specs.declared.fault.AskFault.TheVariants as Fault

-- the exit status where an answer did not come
abbrev pub fault_status : AskFault → ℕ
fault_status Fault.Port = 3
fault_status Fault.NoReply = 4
fault_status (Fault.Refused code) = 5
fault_status Fault.Incomplete = 6
fault_status Fault.NoMemory = 9
fault_status Fault.Flooded = 10
fault_status Fault.Closed = 11

-- the exit status where a listing did not complete
abbrev pub run_status : RunFault → ℕ
run_status (Ask fault) = fault_status fault
run_status (BadReply place) = 7
run_status NoMemory = 9
