use Rattle.std.proofs.Common.{◌≡◌, take}
use Rattle.edge_traits.specs.Ports.{IsPortKept}
use Rattle.edge_traits.specs.Told.{gained}
use Rattle.giving.specs.Gives.{sent_events}
use Rattle.giving.proofs.given.give_all.Given as goal

-- the datagrams before this one were given, and nothing else happened
abbrev pub invariant-loop-place : goal.invariant-loop-place
invariant-loop-place g l = record {
  told : g.P.Port.trace l.port ≡ gained (g.P.Port.trace l.initial.port) (sent_events l.to (take l.place l.grams));
  kept : IsPortKept g.P.Port.faults g.P.Port.quiets g.P.Port.address g.P.Port.most l.initial.port l.port;
}
