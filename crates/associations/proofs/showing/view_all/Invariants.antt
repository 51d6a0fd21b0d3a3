use Rattle.std.proofs.Common.{◌≡◌, ◌+◌, ◌<◌, ℕ, get_or, length}
use Rattle.associations.specs.Showing.{IsViewOf}
use Rattle.associations.specs.declared.association.Association.{Association}
use Rattle.sys_vars.specs.declared.peer_view.PeerView.{PeerView}
use Rattle.associations.proofs.showing.view_all.Given as goal

-- the servers before this place have their views
abbrev pub invariant-loop-place : goal.invariant-loop-place
invariant-loop-place l = record {
  as_many : length l.views ≡ l.place;
  each : (k : ℕ) (p : Association) (v : PeerView) → k < l.place → IsViewOf (k + 1) (get_or l.list k p) (get_or l.views k v);
}
