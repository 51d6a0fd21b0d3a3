-- The peers by their numbers and addresses, and what a datagram makes of them (RFC 5905, sections 8 and 9.2; that the first line of an address counts is our own rule).
use Rattle.std.specs.Prelude.{ℕ, ◌+◌, ◌-◌, ◌≤◌, Bool, if◌then◌else◌, nat_lt, List, length, Option, None, Some, Result, Ok, Err, unwrap_or, slice_get, slice_set}
use Rattle.std.specs.List.{position}
use Rattle.discipline.specs.SoftClock.{clock_time}
use Rattle.discipline.specs.declared.soft_clock.SoftClock.{SoftClock}
use Rattle.fixed_time.specs.declared.time.Ntp64.{Ntp64}
use Rattle.net_addr.specs.Addresses.{same_addr}
use Rattle.net_addr.specs.declared.addr.Addr.{Addr}
use Rattle.ntp_trailer.specs.declared.packet.JudgedPacket.{JudgedPacket}
use Rattle.associations.specs.Accepting.{judged, verdict_of}
use Rattle.associations.specs.declared.association.Association.{Association}
use Rattle.associations.specs.declared.judging.ReplyFault.{ReplyFault}
use Rattle.associations.specs.declared.judging.ReplyFault.TheVariants.{NoSuchPeer, Malformed}
use Rattle.associations.specs.declared.peers.TakenReply.{TakenReply}

-- what our clock shows at a moment
abbrev pub time_at : SoftClock → ℕ → Ntp64
time_at clock moment = record { 0 = clock_time clock moment }

-- there is a peer of this association number: they count from 1
abbrev pub HasPeer : List Association → ℕ → Type 0
HasPeer peers peer = (1 ≤ peer) × (peer ≤ length peers)

-- the peer of this number
abbrev pub peer_at : List Association → ℕ → Option Association
peer_at peers peer = slice_get peers (peer - 1)

-- the place of the first peer whose line has this address and port, or the end
abbrev pub place_for : List Association → Addr → ℕ
place_for peers from = unwrap_or (position (λ server. same_addr server.line.addr from) peers) (length peers)

-- the association number of the first peer of this address, if there is one
abbrev pub line_for : List Association → Addr → Option ℕ
line_for peers from = if nat_lt (place_for peers from) (length peers) then Some (place_for peers from + 1) else None

-- the first peer of this address, if there is one
abbrev pub sender_of : List Association → Addr → Option Association
sender_of peers from = slice_get peers (place_for peers from)

-- the answer of a verdict on this peer's reply
abbrev pub answer_by : ℕ → Result Bool ReplyFault → Result TakenReply ReplyFault
answer_by peer (Ok fresh) = Ok (record { peer = peer; fresh = fresh })
answer_by peer (Err fault) = Err fault

-- the answer to a datagram for the peer of this number, which is this reply, or none
abbrev pub answer_from : ℕ → Option Association → Option JudgedPacket → Ntp64 → ℕ → Result TakenReply ReplyFault
answer_from peer None reading destination moment = Err NoSuchPeer
answer_from peer (Some server) None destination moment = Err Malformed
answer_from peer (Some server) (Some reply) destination moment = answer_by peer (verdict_of server reply destination moment)

-- the answer to a datagram from this address
abbrev pub answer_to : List Association → Addr → Option JudgedPacket → Ntp64 → ℕ → Result TakenReply ReplyFault
answer_to peers from reading destination moment =
    answer_from (place_for peers from + 1) (sender_of peers from) reading destination moment

-- the peers after a datagram for the one at this place: that one is judged, and the others stay
abbrev pub after_from : List Association → ℕ → Option Association → Option JudgedPacket → Ntp64 → ℕ → List Association
after_from peers place None reading destination moment = peers
after_from peers place (Some server) None destination moment = peers
after_from peers place (Some server) (Some reply) destination moment = slice_set peers place (judged server reply destination moment)

-- the peers after a datagram from this address
abbrev pub peers_after : List Association → Addr → Option JudgedPacket → Ntp64 → ℕ → List Association
peers_after peers from reading destination moment =
    after_from peers (place_for peers from) (sender_of peers from) reading destination moment
