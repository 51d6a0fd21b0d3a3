use Rattle.std.proofs.Common.{◌≡◌, drop}
use Rattle.sys_vars.specs.Variables.{peer_of}
use Rattle.sys_vars.proofs.peer_views.PeerViews.find.Given as goal

-- the rest decides
abbrev pub invariant-loop-place : goal.invariant-loop-place
invariant-loop-place l = peer_of (drop l.place l.self) l.assoc ≡ peer_of l.self l.assoc
