use Rattle.std.proofs.Common.{◌≡◌}
use Rattle.edge_traits.specs.Ports.{IsPortKept}
use Rattle.edge_traits.specs.Told.{gained, Rose}
use Rattle.ntpd_serve.specs.Once.{silences}
use Rattle.ntpd_serve.proofs.once.wait_for_datagram.Given as goal

-- so far only silences came, and the port counted each
abbrev pub invariant-waiting : goal.invariant-waiting
invariant-waiting g l = record {
  told : g.P.Port.trace l.port ≡ gained (g.P.Port.trace l.initial.port) (silences l.counter);
  rose : Rose l.counter (g.P.Port.quiets l.initial.port) (g.P.Port.quiets l.port);
  kept : IsPortKept g.P.Port.faults g.P.Port.quiets g.P.Port.address g.P.Port.most l.initial.port l.port;
}
