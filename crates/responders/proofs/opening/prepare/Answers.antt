use Rattle.std.proofs.Common.{ap, length}
use Rattle.shared_book.specs.Entries.{View}
use Rattle.responders.proofs.SessionLemmas.{no_calls, unused}
use Rattle.responders.proofs.opening.prepare.Goals as goal

pub returns-in-Err-clause-returned : goal.returns-in-Err-clause-returned
returns-in-Err-clause-returned g c =
    let first = c.in_ok-door.ensures.seat in
    let none = no_calls c.in_ok-door.first c.new.result.items (length c.close.result.journal) (ap (λ (seat : View). seat.own) first) c.new.ensures.items (c.close.ensures.once 0) in
    unused c.args.book c.close.result c.requires none (c.close.ensures.state c.args.book.state (ap (λ (seat : View). seat.opening) first))
