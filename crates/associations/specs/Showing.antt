-- What is published of the servers (RFC 5905, section 9.1; RFC 9327, section 3.2; what a server without an estimate shows is our own rule).
use Rattle.std.specs.Prelude.{ℕ, ◌≡◌, ◌+◌, ◌<◌, pos, List, length, Option, None, Some, slice_index_or}
use Rattle.clock_filter.specs.Samples.{stages_of}
use Rattle.clock_filter.specs.declared.estimates.Estimate.{Estimate}
use Rattle.fixed_time.specs.declared.time.TheConstants.{MAX_DISPERSION}
use Rattle.sys_vars.specs.declared.peer_view.PeerView.{PeerView}
use Rattle.associations.specs.declared.association.Association.{Association}

-- the estimate that a server shows: without one offset, delay and jitter are 0, and the dispersion is 16 seconds
abbrev pub estimate_shown : Option Estimate → Estimate
estimate_shown None = record { offset = record { 0 = pos 0 }; delay = 0; disp = MAX_DISPERSION; jitter = 0; at = 0 }
estimate_shown (Some estimate) = estimate

-- the view of the server of this number: each value as it is kept
pub record IsViewOf (peer : ℕ) (server : Association) (view : PeerView) : Type 0 where
  pub assoc : view.assoc ≡ peer
  pub addr : view.addr ≡ server.line.addr
  pub key : view.key ≡ server.line.key
  pub hpoll : view.hpoll ≡ server.line.poll
  pub ppoll : view.ppoll ≡ server.ppoll
  pub pmode : view.pmode ≡ server.pmode
  pub leap : view.leap ≡ server.leap
  pub stratum : view.stratum ≡ server.stratum
  pub precision : view.precision ≡ server.precision
  pub root_delay : view.root_delay ≡ server.root_delay
  pub root_disp : view.root_disp ≡ server.root_disp
  pub refid : view.refid ≡ server.refid
  pub reference : view.reference ≡ server.reference
  pub received : view.received ≡ server.received
  pub reach : view.reach ≡ server.reach
  pub offset : view.offset ≡ (estimate_shown server.estimate).offset
  pub delay : view.delay ≡ (estimate_shown server.estimate).delay
  pub disp : view.disp ≡ (estimate_shown server.estimate).disp
  pub jitter : view.jitter ≡ (estimate_shown server.estimate).jitter
  pub stages : view.stages ≡ stages_of server.filter.samples
  pub auth_ok : view.auth_ok ≡ server.auth_ok
  pub selection : view.selection ≡ server.selection
  pub events : view.events ≡ server.events
  pub code : view.code ≡ server.code

-- the views of the servers, one each, in the order of their numbers, which count from 1
pub record AreViews (peers : List Association) (views : List PeerView) : Type 0 where
  pub as_many : length views ≡ length peers
  pub each : (k : ℕ) (server : Association) (view : PeerView) → k < length peers → IsViewOf (k + 1) (slice_index_or peers k server) (slice_index_or views k view)
