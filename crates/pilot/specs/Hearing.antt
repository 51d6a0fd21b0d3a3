-- What a datagram makes of what a pilot steers by: our own rules, over RFC 5905, sections 7.4, 8 and 11.
use Rattle.std.specs.Prelude.{◌≡◌, ◌≢◌, ◌*◌, ◌^◌, ◌↔◌, ℕ, Bool, true, false, Option, None, Some, Result, Ok, Err, IfErr, IsSome, List, codes, slice_set}
use Rattle.associations.specs.DueTimes.{moment_after}
use Rattle.associations.specs.Judging.{ends_waiting}
use Rattle.associations.specs.Replies.{IsRead, IsReadable}
use Rattle.associations.specs.Settling.{IsSettled}
use Rattle.associations.specs.Taking.{answer_to, line_for, peer_at, peers_after, time_at}
use Rattle.associations.specs.declared.association.Association.{Association}
use Rattle.associations.specs.declared.judging.ReplyFault.{ReplyFault}
use Rattle.associations.specs.declared.judging.ReplyFault.TheVariants.{Kiss, NoSuchPeer}
use Rattle.associations.specs.declared.peers.TakenReply.{TakenReply}
use Rattle.discipline.specs.declared.soft_clock.SoftClock.{SoftClock}
use Rattle.mac_keys.specs.declared.keys.Key.{Key}
use Rattle.net_addr.specs.declared.addr.Addr.{Addr}
use Rattle.ntp_trailer.specs.declared.packet.JudgedPacket.{JudgedPacket}
use Rattle.pilot.specs.Steering.{settling}
use Rattle.pilot.specs.declared.steering.Steering.{Steering}

-- a datagram was judged at a moment, by a clock: the answer, and the servers afterwards
pub record IsJudged (keys : List Key) (at : ℕ) (before : List Association) (clock : SoftClock) (from : Addr) (octets : List ℕ) (answer : Result TakenReply ReplyFault) (after : List Association) : Type 0 where
  pub readable : IsSome (line_for before from) → IsReadable keys octets
  pub answered : (reading : Option JudgedPacket) → IsRead keys octets reading
      → answer ≡ answer_to before from reading (time_at clock at) at
  pub after_is : (reading : Option JudgedPacket) → IsRead keys octets reading
      → after ≡ peers_after before from reading (time_at clock at) at
  pub kept : IfErr answer (λ fault. ends_waiting fault ≡ false → after ≡ before)
  pub stranger : (answer ≡ Err NoSuchPeer) ↔ (line_for before from ≡ None)

-- after the kiss code RATE the next request to the server that told it is due four poll intervals later; nothing else
-- changes by a reply that is refused
pub record IsDelayed (at : ℕ) (before : Steering) (peer : ℕ) (fault : ReplyFault) (after : Steering) : Type 0 where
  pub server : Association
  pub there : peer_at before.peers peer ≡ Some server
  pub put_off : fault ≡ Kiss (codes "RATE")
      → after ≡ record before { due = slice_set before.due peer (moment_after (4 * 2 ^ server.line.poll) at) }
  pub as_before : fault ≢ Kiss (codes "RATE") → after ≡ before
  pub others : after ≡ record before { due = after.due }

-- after a reply from the server of this number was refused; one that comes from none changes nothing
abbrev pub IsPutOff : ℕ → Steering → Option ℕ → ReplyFault → Steering → Type 0
IsPutOff at before None fault after = after ≡ before
IsPutOff at before (Some peer) fault after = IsDelayed at before peer fault after

-- after a reply of this server was settled
pub record IsSettledAt (at : ℕ) (before : Steering) (peer : ℕ) (after : Steering) : Type 0 where
  pub settled : IsSettled (settling before) peer at (settling after)
  pub epoch_kept : after.epoch ≡ before.epoch
  pub due_kept : after.due ≡ before.due
  pub begun_kept : after.begun ≡ before.begun

-- after a reply of this server was taken, by whether it gave a new estimate: then it is settled
abbrev pub IsUsed : ℕ → Steering → ℕ → Bool → Steering → Type 0
IsUsed at before peer true after = IsSettledAt at before peer after
IsUsed at before peer false after = after ≡ before

-- what becomes of a reply that was answered so, from this address, and whether a record is due: it is after each reply that
-- was taken, since each changes a reach register
abbrev pub IsAnswered : ℕ → Steering → Addr → Result TakenReply ReplyFault → Bool → Steering → Type 0
IsAnswered at judged from (Ok taken) due after = (due ≡ true) × IsUsed at judged taken.peer taken.fresh after
IsAnswered at judged from (Err fault) due after = (due ≡ false) × IsPutOff at judged (line_for judged.peers from) fault after

-- a datagram that came at a moment was judged, and its answer used; and whether a record is due
pub record IsHeard (keys : List Key) (at : ℕ) (before : Steering) (from : Addr) (octets : List ℕ) (due : Bool) (after : Steering) : Type 0 where
  pub answer : Result TakenReply ReplyFault
  pub peers : List Association
  pub judged : IsJudged keys at before.peers before.engine.clock from octets answer peers
  pub answered : IsAnswered at (record before { peers = peers }) from answer due after
