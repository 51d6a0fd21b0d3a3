-- What contracts see of a pilot: our own words.
use Rattle.std.specs.Prelude.{◌≡◌, ◌≤◌, ℕ, Bool, Option, List, length}
use Rattle.net_addr.specs.declared.addr.Addr.{Addr}
use Rattle.edge_traits.specs.declared.port.Event.{Event}
use Rattle.shared_book.specs.Entries.{View}
use Rattle.pilot.specs.declared.steering.Basis.{Basis}
use Rattle.pilot.specs.declared.steering.Steering.{Steering}

-- what a port and a clock tell: what happened at the port, how often it failed and how often it found nothing, whether
-- it is closed, where it was bound, and the longest datagram that it gives; and the readings of the clock
pub record Outside : Type 0 where
  pub trace : Option (List Event)
  pub faults : ℕ
  pub quiets : ℕ
  pub closed : Bool
  pub address : Addr
  pub most : ℕ
  pub readings : Option (List ℕ)

-- a pilot at work: the outside, what it steers by, and how much was left out for want of memory
pub record HelmParts : Type 0 where
  pub outside : Outside
  pub steering : Steering
  pub left : ℕ

-- a pilot, and what its records have from the start of a session, where it was made ready for one
pub record PilotParts : Type 0 where
  pub helm : HelmParts
  pub basis : Option Basis

-- a pilot stays at its port, whose counts never fall, with its servers and the room for their due times; and its seat
-- stays one of its turnstile
pub record Stays (a : HelmParts) (x : View) (b : HelmParts) (y : View) : Type 0 where
  pub faults_kept : a.outside.faults ≤ b.outside.faults
  pub quiets_kept : a.outside.quiets ≤ b.outside.quiets
  pub address_kept : b.outside.address ≡ a.outside.address
  pub most_kept : b.outside.most ≡ a.outside.most
  pub peers_kept : length b.steering.peers ≡ length a.steering.peers
  pub room_kept : length b.steering.due ≡ length a.steering.due
  pub door_kept : y.door ≡ x.door
  pub share_kept : y.share ≡ x.share
  pub opening_kept : y.opening ≡ x.opening
