use Rattle.std.proofs.Common.{ap, subst, ℕ}
use Rattle.shared_book.specs.Entries.{View}
use Rattle.worker.specs.Doings.{doing_of}
use Rattle.pilot.specs.Views.{PilotParts}
use Rattle.responders.specs.Prepared.{IsPrepared}
use Rattle.responders.specs.Sessions.{IsServed}
use Rattle.responders.proofs.serving.serve_session.Goals as goal

pub serve_prepared-requires-clause-prepared : goal.serve_prepared-requires-clause-prepared
serve_prepared-requires-clause-prepared g c κs within =
    (c.args.session.book, c.requires.fresh, subst (λ (count : ℕ). IsPrepared c.args.session.book count c.in-Ok.prepared) c.len.ensures.len c.in-Ok.ensures.prepared)

pub returns-in-Ok-clause-served : goal.returns-in-Ok-clause-served
returns-in-Ok-clause-served g c = λ some.
    let doing = doing_of g.P.Port.trace g.P.Port.faults g.P.Port.quiets g.P.Port.address g.P.Port.most g.C.Clock.readings in
    subst (λ (ready : PilotParts). IsServed doing c.args.session.common c.args.session.book.state c.serve_prepared.result.0.book.journal c.args.session.workers c.serve_prepared.result.0.workers
    ready c.serve_prepared.result.0.pilot) c.in-Ok.ensures.readied
    (c.serve_prepared.ensures.served c.args.session.book.state (ap (λ (seat : View). seat.opening) c.in-Ok.ensures.prepared.first_is))
