use Rattle.shared_book.proofs.EntryLemmas.{IsEntered-taken, IsUnentered-refused}
use Rattle.shared_book.proofs.entering.enter.Goals as goal

pub returns-in-Ok-clause-entered : goal.returns-in-Ok-clause-entered
returns-in-Ok-clause-entered g c = λ opening opened.
    IsEntered-taken opening c.args.seat.now c.args.op c.in-Ok.entry.0 c.in-Ok.entry.1 c.call.new.seat (c.in-Ok.ensures.taken opening opened)

pub returns-in-Err-clause-refused : goal.returns-in-Err-clause-refused
returns-in-Err-clause-refused g c = λ opening opened.
    IsUnentered-refused opening c.args.seat.now c.args.op c.in-Err._place c.in-Err.fault c.call.new.seat (c.in-Err.ensures.refused opening opened)
