-- What the exit status says of a run.
use Rattle.std.proofs.Common.{◌≡◌, ℕ, Option, List, Result, Ok, Err, ◌⊎◌, inl, inr, refl, ap, sym, subst, ◌∙◌, arith}
use Rattle.edge_traits.specs.Told.{gained}
use Rattle.edge_traits.specs.declared.port.Event.{Event}
use Rattle.edge_traits.specs.declared.status.Status.{Status}
use Rattle.ntpq_client.specs.declared.fault.AskFault.{AskFault}
use Rattle.ntpq_client.specs.declared.fault.AskFault.TheVariants as Fault
use Rattle.net_addr.specs.declared.addr.Addr.{Addr}
use Rattle.ntpq_tool.specs.declared.words.Command.{Command}
use Rattle.ntpq_tool.specs.declared.words.Wanted.{Wanted}
use Rattle.ntpq_tool.specs.declared.words.Wanted.TheVariants.{Variables, Associations, Peers, Clients}
use Rattle.ntpq_tool.specs.declared.ending.Failure.{Failure}
use Rattle.ntpq_tool.specs.declared.ending.Failure.TheVariants.{Words, Ask, BadReply, NoMemory}
use Rattle.ntpq_tool.specs.Command.{IsCommand, IsNoCommand}
use Rattle.mrulist_run.specs.Statuses.{fault_status}
use Rattle.ntpq_tool.specs.Ending.{Reports, output_of, status_of}
use Rattle.ntpq_tool.specs.Runs.{Happens, Ran}

-- no fault of asking has status 1
fault-not-1 : (fault : AskFault) → ¬ (fault_status fault ≡ 1)
fault-not-1 Fault.Port is = absurd (omega (arith, is))
fault-not-1 Fault.Closed is = absurd (omega (arith, is))
fault-not-1 Fault.NoReply is = absurd (omega (arith, is))
fault-not-1 (Fault.Refused code) is = absurd (omega (arith, is))
fault-not-1 Fault.Incomplete is = absurd (omega (arith, is))
fault-not-1 Fault.Flooded is = absurd (omega (arith, is))
fault-not-1 Fault.NoMemory is = absurd (omega (arith, is))

-- only words that are no command have status 1
words-only : (ending : Result (List ℕ) Failure) → status_of ending ≡ 1 → ending ≡ Err Words
words-only (Ok report) is = absurd (omega (arith, is))
words-only (Err Words) is = refl
words-only (Err (Ask fault)) is = absurd (fault-not-1 fault is)
words-only (Err BadReply) is = absurd (omega (arith, is))
words-only (Err NoMemory) is = absurd (omega (arith, is))

-- no command ends by its words
ran-not-words : (what : Wanted) (server : Addr) (before after : Option (List Event)) → ¬ (Ran what server (Err Words) before after)
ran-not-words (Variables assoc names) server before after ran = ran.run.ends
ran-not-words Associations server before after ran = ran.run.ends
ran-not-words Peers server before after ran = ran.run.ends
ran-not-words (Clients query) server before after ran = ran.ends

-- a run that ends so had no command
no-command : (words : List (List ℕ)) (ending : Result (List ℕ) Failure) (before after : Option (List Event)) → Happens words ending before after → ending ≡ Err Words → IsNoCommand words
no-command words ending before after (inl (same, none, kept)) is = none
no-command words ending before after (inr (inl (same, kept))) is = absurd (cc (same, is))
no-command words ending before after (inr (inr (command, read, run))) is =
    absurd (ran-not-words command.what command.server before after (subst (λ (its : Result (List ℕ) Failure). Ran command.what command.server its before after) is run))

-- a run with status 1 had no command
pub words-status : (words : List (List ℕ)) (ending : Result (List ℕ) Failure) (status : Status) (before after : Option (List Event)) (old new : Option (List ℕ)) → Happens words ending before after → Reports ending status old new → status.0 ≡ 1 → IsNoCommand words
words-status words ending status before after old new happens (inl (is, whole)) one = no-command words ending before after happens (words-only ending (sym is ∙ one))
words-status words ending status before after old new happens (inr (inl eight, front)) one = absurd (omega (arith, eight, one))
words-status words ending status before after old new happens (inr (inr nine, front)) one = absurd (omega (arith, nine, one))

-- a status of a failure, or of the sink's fault
status-or : (ending : Result (List ℕ) Failure) (status : Status) (old new : Option (List ℕ)) (n : ℕ) → Reports ending status old new → status_of ending ≡ n → (status.0 ≡ n) ⊎ ((status.0 ≡ 8) ⊎ (status.0 ≡ 9))
status-or ending status old new n (inl (is, whole)) same = inl (is ∙ same)
status-or ending status old new n (inr (fault, front)) same = inr fault

-- words that are no command do nothing at the port, and have their status, unless the sink failed or memory was wanting
pub no_command-status : (words : List (List ℕ)) (ending : Result (List ℕ) Failure) (status : Status) (before after : Option (List Event)) (old new : Option (List ℕ)) → Happens words ending before after → Reports ending status old new → IsNoCommand words → (after ≡ before) × ((status.0 ≡ 1) ⊎ ((status.0 ≡ 8) ⊎ (status.0 ≡ 9)))
no_command-status words ending status before after old new (inl (same, none, kept)) reports outside = (kept, status-or ending status old new 1 reports (ap status_of same))
no_command-status words ending status before after old new (inr (inl (same, kept))) reports outside = (
  kept,
  elim (status-or ending status old new 9 reports (ap status_of same)) [
    | inl nine ↦ inr (inr nine)
    | inr fault ↦ inr fault
  ],
)
no_command-status words ending status before after old new (inr (inr (command, is, run))) reports outside = absurd (outside command is)

-- no fault of asking has status 0
fault-not-0 : (fault : AskFault) → ¬ (fault_status fault ≡ 0)
fault-not-0 Fault.Port is = absurd (omega (arith, is))
fault-not-0 Fault.Closed is = absurd (omega (arith, is))
fault-not-0 Fault.NoReply is = absurd (omega (arith, is))
fault-not-0 (Fault.Refused code) is = absurd (omega (arith, is))
fault-not-0 Fault.Incomplete is = absurd (omega (arith, is))
fault-not-0 Fault.Flooded is = absurd (omega (arith, is))
fault-not-0 Fault.NoMemory is = absurd (omega (arith, is))

-- with status 0 a command ran to this report, and the sink has it
abbrev pub IsAnswered : List (List ℕ) → Option (List Event) → Option (List Event) → Option (List ℕ) → Option (List ℕ) → Type 0
IsAnswered words before after old new =
    (command : Command) × (report : List ℕ) × IsCommand words command
    × Ran command.what command.server (Ok report) before after × (new ≡ gained old report)

-- a run that ends without a failure has its report
answered : (words : List (List ℕ)) (ending : Result (List ℕ) Failure) (before after : Option (List Event)) (old new : Option (List ℕ)) → Happens words ending before after → status_of ending ≡ 0 → new ≡ gained old (output_of ending) → IsAnswered words before after old new
answered words (Ok report) before after old new (inl (same, none, kept)) well whole = absurd (cc same)
answered words (Ok report) before after old new (inr (inl (same, kept))) well whole = absurd (cc same)
answered words (Ok report) before after old new (inr (inr (command, is, run))) well whole = (command, report, is, run, whole)
answered words (Err Words) before after old new happens well whole = absurd (omega (arith, well))
answered words (Err (Ask fault)) before after old new happens well whole = absurd (fault-not-0 fault well)
answered words (Err BadReply) before after old new happens well whole = absurd (omega (arith, well))
answered words (Err NoMemory) before after old new happens well whole = absurd (omega (arith, well))

-- a run with status 0 has its report, and the sink has it
pub answered-status : (words : List (List ℕ)) (ending : Result (List ℕ) Failure) (status : Status) (before after : Option (List Event)) (old new : Option (List ℕ)) → Happens words ending before after → Reports ending status old new → status.0 ≡ 0 → IsAnswered words before after old new
answered-status words ending status before after old new happens (inl (is, whole)) well = answered words ending before after old new happens (sym is ∙ well) whole
answered-status words ending status before after old new happens (inr (inl eight, front)) well = absurd (omega (arith, eight, well))
answered-status words ending status before after old new happens (inr (inr nine, front)) well = absurd (omega (arith, nine, well))
