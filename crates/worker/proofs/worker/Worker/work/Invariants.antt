use Rattle.std.proofs.Common.{◌≡◌, Some}
use Rattle.edge_traits.specs.Ports.{IsPortKept}
use Rattle.server_core.specs.States.{ServerState}
use Rattle.shared_book.specs.Entries.{IsSameSeat}
use Rattle.worker.specs.Doings.{Did, doing_of}
use Rattle.worker.proofs.worker.Worker.work.Given as goal

-- what the turns so far did adds up
abbrev pub invariant-turns : goal.invariant-turns
invariant-turns g l = record {
  did : (opening : ServerState) → l.initial.seat.opening ≡ Some opening
      → Did l.common opening l.seat.front 0
      (doing_of g.P.Port.trace g.P.Port.faults g.P.Port.quiets g.P.Port.address g.P.Port.most g.C.Clock.readings l.initial.self l.initial.seat)
      (doing_of g.P.Port.trace g.P.Port.faults g.P.Port.quiets g.P.Port.address g.P.Port.most g.C.Clock.readings l.self l.seat);
  who : l.self.who ≡ l.initial.self.who;
  kept : IsPortKept g.P.Port.faults g.P.Port.quiets g.P.Port.address g.P.Port.most l.initial.self.port l.self.port;
  same_seat : IsSameSeat l.initial.seat l.seat;
}
