-- What is printed of a rehearsal, by example.
use Rattle.std.proofs.Common.{◌≡◌, refl}
use Rattle.std.specs.Fmt.{digits}
use Rattle.std.specs.Prelude.{codes, Err}
use Rattle.mrulist_run.specs.declared.fault.RunFault.TheVariants.{Ask}
use Rattle.ntpq_client.specs.declared.fault.AskFault.TheVariants.{NoReply}
use Rattle.rehearsal.specs.Lines.{counts_line, fault_line, link_line, threads_line}

worked_threads : counts_line (record { times = 3564; controls = 286; silent = 246; clients = 596 }) ≡ codes "threads times 3564 variables 286 silent 246 clients 596\n"
unfolding threads_line digits
worked_threads = refl

-- a listing that got no reply ends as the query tool does then
worked_fault : link_line 8 (Err (Ask NoReply)) ≡ codes "link ended 4\n"
unfolding fault_line digits
worked_fault = refl
