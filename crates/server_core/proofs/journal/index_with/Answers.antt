use Rattle.std.proofs.Common.{refl}
use Rattle.server_core.proofs.JournalLemmas.{IsIndexed-with}
use Rattle.server_core.proofs.journal.index_with.Goals as goal

pub returns-in-Publish : goal.returns-in-Publish
returns-in-Publish c = IsIndexed-with c.args.index _ c.args.place _ (rw c.in-Publish.is refl)

pub returns-in-Stop : goal.returns-in-Stop
returns-in-Stop c = IsIndexed-with c.args.index _ c.args.place _ (rw c.in-Stop.is refl)

pub returns-in-Arrive : goal.returns-in-Arrive
returns-in-Arrive c = IsIndexed-with c.args.index _ c.args.place _ (rw c.in-Arrive.is refl)

pub returns-in-Look : goal.returns-in-Look
returns-in-Look c = IsIndexed-with c.args.index _ c.args.place _ (rw c.in-Look.is refl)

pub returns-in-Read : goal.returns-in-Read
returns-in-Read c = IsIndexed-with c.args.index _ c.args.place _ (rw c.in-Read.is refl)

pub returns-in-Sweep : goal.returns-in-Sweep
returns-in-Sweep c = IsIndexed-with c.args.index _ c.args.place _ (rw c.in-Sweep.is refl)
