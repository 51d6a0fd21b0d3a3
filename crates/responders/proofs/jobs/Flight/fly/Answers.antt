use Rattle.std.proofs.Common.{refl, sym, subst, Some}
use Rattle.std.specs.Prelude.{IsSome}
use Rattle.responders.specs.declared.jobs.Flight.{Flight}
use Rattle.responders.proofs.SessionLemmas.{HasFlownHere-by}
use Rattle.responders.proofs.jobs.Flight.fly.Goals as goal

pub returns : goal.returns
returns g c = λ opening opened.
    let flew = c.fly-end.ensures in
    let old : Flight g.row.P.Denot g.row.C.Denot = c.args.self.now in
    let new : Flight g.row.P.Denot g.row.C.Denot = record { pilot = c.fly-end.new.self; seat = c.fly-end.new.seat; who = old.who; end = Some c.fly-end.result } in
    HasFlownHere-by c.args.common.now opening old new c.fly-end.result refl c.requires.ready.1.ready.based (flew.flew opening opened) (flew.stood (subst IsSome (sym opened) refl)) flew.closed flew.basis_kept refl
    (record { door_kept = flew.stays.door_kept; share_kept = flew.stays.share_kept; opening_kept = flew.stays.opening_kept })
