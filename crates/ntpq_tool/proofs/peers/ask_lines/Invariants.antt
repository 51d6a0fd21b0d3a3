use Rattle.std.proofs.Common.{◌-◌}
use Rattle.edge_traits.specs.Told.{Rose}
use Rattle.edge_traits.specs.Ports.{IsPortKept}
use Rattle.ntpq_tool.proofs.PeerLemmas.{LinesSoFar}
use Rattle.ntpq_tool.proofs.peers.ask_lines.Given as goal

-- so far a line was made of each association before the place
abbrev pub invariant-loop-place : goal.invariant-loop-place
invariant-loop-place g l = record {
  so_far : LinesSoFar l.fn.associations l.initial.client l.client l.place l.lines.items (g.P.Port.trace l.initial.port) (g.P.Port.trace l.port);
  quiets : Rose (l.client.quiets - l.initial.client.quiets) (g.P.Port.quiets l.initial.port) (g.P.Port.quiets l.port);
  kept : IsPortKept g.P.Port.faults g.P.Port.quiets g.P.Port.address g.P.Port.most l.initial.port l.port;
}
