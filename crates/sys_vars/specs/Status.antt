-- The system and the peer status word (RFC 9327, sections 3.1 and 3.2).
use Rattle.std.specs.Prelude.{ℕ, ◌==◌, not, true, false}
use Rattle.mode6_frame.specs.Status.{peer_status_word, system_status_word}
use Rattle.sys_vars.specs.declared.peer_view.PeerView.{PeerView}
use Rattle.sys_vars.specs.declared.system.System.{System}

-- the status word of the system: its leap indicator, clock source, event counter and event code
abbrev pub system_status_of : System → ℕ
system_status_of system =
    system_status_word (record { leap = system.leap; source = system.source; events = system.events; code = system.code })

-- the status word of a peer: configured, as each peer is; authentication is wanted where it has a key, and was good where
-- its last MAC was; reachable where its reach register isn't empty; then its selection code, event counter and event code
abbrev pub peer_status_of : PeerView → ℕ
peer_status_of peer = peer_status_word (record {
  configured = true;
  keyed = not (peer.key == 0);
  authentic = peer.auth_ok;
  reachable = not (peer.reach == 0);
  broadcast = false;
  selection = peer.selection;
  events = peer.events;
  code = peer.code;
})
