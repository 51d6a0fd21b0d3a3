-- What the pilot of a server steers by, and what becomes of it: our own rules, over RFC 5905, sections 9 to 12.
use Rattle.std.specs.Prelude.{◌≡◌, ◌≤◌, ◌+◌, ◌-◌, ◌++◌, ◌^◌, ℕ, max, Bool, true, false, Option, None, Some, List, length, replicate, slice_set}
use Rattle.associations.specs.Associations.{asked}
use Rattle.associations.specs.DueTimes.{moment_after}
use Rattle.associations.specs.Requests.{request_of}
use Rattle.associations.specs.Settling.{SettleState}
use Rattle.associations.specs.Taking.{HasPeer, peer_at, time_at}
use Rattle.associations.specs.declared.association.Association.{Association}
use Rattle.discipline.specs.Feedback.{ticked}
use Rattle.mac_keys.specs.declared.keys.Key.{Key}
use Rattle.net_addr.specs.declared.addr.Addr.{Addr}
use Rattle.sys_vars.specs.declared.peer_views.TheConstants.{MAX_PEERS}
use Rattle.sys_vars.specs.declared.published.Record.{Record}
use Rattle.sys_vars.specs.declared.system.System.{System}
use Rattle.pilot.specs.declared.steering.Steering.{Steering}
use Rattle.pilot.specs.declared.steering.TheConstants.{TICK, TICK_KEY}

-- there is no room for a key that neither the tick nor a server has
pub record IsFitted (s : Steering) : Type 0 where
  pub within : length s.due ≤ length s.peers + 1
  pub few : length s.peers ≤ MAX_PEERS

-- there is room for the tick's key and for each server's
abbrev pub HasRoom : Steering → Type 0
HasRoom s = length s.due ≡ length s.peers + 1

-- a system of its own, or else the one that is published
abbrev pub system_by : Bool → System → System → System
system_by true own published = own
system_by false own published = published

-- before a session: the number is at least that of the published record, and a pilot that is new has that record's system
abbrev pub readied : Record → Steering → Steering
readied latest s = record s {
  system = system_by s.begun s.system latest.system;
  epoch = max s.epoch latest.epoch;
}

-- and there is room for its keys
abbrev pub fitted : Steering → Steering
fitted s = record s { due = s.due ++ replicate (length s.peers + 1 - length s.due) None }

-- the due times at the first reading: each request is due at once, and the tick 64 seconds later
abbrev pub first_due : ℕ → ℕ → List (Option ℕ)
first_due at keys = slice_set (replicate keys (Some at)) TICK_KEY (moment_after TICK at)

-- what is steered by, by whether the clock was read before
abbrev pub begun_by : Bool → ℕ → Steering → Steering
begun_by true at s = s
begun_by false at s = record s { begun = true; due = first_due at (length s.due) }

-- what is steered by, once the clock was read
abbrev pub begun_at : ℕ → Steering → Steering
begun_at at s = begun_by s.begun at s

-- after a tick, the next one is due 64 seconds later
abbrev pub ticked_at : ℕ → Steering → Steering
ticked_at at s = record s { engine = ticked s.engine at; due = slice_set s.due TICK_KEY (moment_after TICK at) }

-- after a request to a server, the next one is due a poll interval later
abbrev pub asked_at : ℕ → ℕ → Association → Steering → Steering
asked_at at peer server s = record s {
  peers = slice_set s.peers (peer - 1) (asked server (time_at s.engine.clock at));
  due = slice_set s.due peer (moment_after (2 ^ server.line.poll) at);
}

-- a request went to the server of this number: where to, its octets, and what is steered by afterwards
pub record IsAsk (keys : List Key) (at : ℕ) (before : Steering) (peer : ℕ) (to : Addr) (octets : List ℕ) (after : Steering) : Type 0 where
  pub server : Association
  pub numbered : HasPeer before.peers peer
  pub there : peer_at before.peers peer ≡ Some server
  pub to_is : to ≡ server.line.addr
  pub octets_is : octets ≡ request_of server.line keys (time_at before.engine.clock at)
  pub after_is : after ≡ asked_at at peer server before

-- what a settle changes of it
abbrev pub settling : Steering → SettleState
settling s = record { peers = s.peers; engine = s.engine; system = s.system }
