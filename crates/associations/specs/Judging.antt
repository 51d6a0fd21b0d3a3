-- Which replies are refused, and why (RFC 5905, sections 7.4, 8 and 9.2; the order of the tests, and what a refusal leaves, are our own rules).
use Rattle.std.specs.Prelude.{ℕ, ◌≢◌, ◌≤◌, ◌<◌, ◌+◌, ◌*◌, ◌/◌, ◌^◌, ◌==◌, ◌&&◌, ◌||◌, nat_le, nat_lt, Bool, false, true, not, if◌then◌else◌, Option, None, Some}
use Rattle.fixed_time.specs.declared.time.Ntp64.{Ntp64}
use Rattle.fixed_time.specs.declared.time.Short.{Short}
use Rattle.fixed_time.specs.declared.time.TheConstants.{MAX_DISPERSION}
use Rattle.mac_keys.specs.declared.checking.Auth.{Auth}
use Rattle.mac_keys.specs.declared.checking.Auth.TheVariants.{Absent, Good, Bad}
use Rattle.ntp_packet.specs.declared.leap_version_mode.TheConstants.{LEAP_UNSYNCHRONIZED}
use Rattle.ntp_packet.specs.declared.packet.Header.{Header}
use Rattle.ntp_packet.specs.declared.packet.TheConstants.{MAX_SYNCHRONIZED_STRATUM}
use Rattle.ntp_trailer.specs.declared.packet.JudgedPacket.{JudgedPacket}
use Rattle.associations.specs.declared.association.Association.{Association}
use Rattle.associations.specs.declared.judging.ReplyFault.{ReplyFault}
use Rattle.associations.specs.declared.judging.ReplyFault.TheVariants.{NoSuchPeer, Malformed, Duplicate, Bogus, BadAuth, Kiss, Unsynchronised, TooFar}

-- the transmit timestamp of a reply is the last one that was taken, other than 0
abbrev pub is_duplicate : Association → Header → Bool
is_duplicate server header = not (header.transmit.0 == 0) && (header.transmit.0 == server.transmit.0)

-- a request waits for a reply, and this is its transmit timestamp
abbrev pub is_awaited : Option Ntp64 → Ntp64 → Bool
is_awaited None origin = false
is_awaited (Some transmit) origin = origin.0 == transmit.0

-- the origin timestamp of a reply is not that of a request that waits
abbrev pub is_bogus : Association → Header → Bool
is_bogus server header = not (is_awaited server.pending header.origin)

-- a MAC is good with the key of this id
abbrev pub is_by_key : Auth → ℕ → Bool
is_by_key Absent id = false
is_by_key (Good by) id = by == id
is_by_key Bad id = false

-- the line names a key, and the MAC is not good with it
abbrev pub is_unproven : Association → JudgedPacket → Bool
is_unproven server reply = not (server.line.key == 0) && not (is_by_key reply.auth server.line.key)

-- stratum 0 says that the reference identifier is a kiss code
abbrev pub is_kiss : JudgedPacket → Bool
is_kiss reply = reply.header.stratum == 0

-- the leap indicator or the stratum says that the server's clock is not synchronized
abbrev pub is_unsynchronised : JudgedPacket → Bool
is_unsynchronised reply = (reply.header.leap == LEAP_UNSYNCHRONIZED) || nat_lt MAX_SYNCHRONIZED_STRATUM reply.header.stratum

-- the root distance of a header: half the root delay and the root dispersion, in 32.32 seconds
abbrev pub root_distance_of : Short → Short → ℕ
root_distance_of delay disp = delay.0 * 2 ^ 16 / 2 + disp.0 * 2 ^ 16

-- it is 16 seconds or more
abbrev pub is_too_far : JudgedPacket → Bool
is_too_far reply = nat_le MAX_DISPERSION (root_distance_of reply.header.root_delay reply.header.root_disp)

-- the first fault of a reply that is decided before its MAC is looked at
abbrev pub early_fault_of : Association → Header → Option ReplyFault
early_fault_of server header =
    if is_duplicate server header then Some Duplicate
    else (if is_bogus server header then Some Bogus
    else None)

-- the first fault of a reply that is decided after its MAC was looked at
abbrev pub late_fault_of : Association → JudgedPacket → Option ReplyFault
late_fault_of server reply =
    if is_unproven server reply then Some BadAuth
    else (if is_kiss reply then Some (Kiss reply.header.refid)
    else (if is_unsynchronised reply then Some Unsynchronised
    else (if is_too_far reply then Some TooFar
    else None)))

-- the first fault of a reply, in this order
abbrev pub first_fault_of : Association → JudgedPacket → Option ReplyFault
first_fault_of server reply =
    if is_duplicate server reply.header then Some Duplicate
    else (if is_bogus server reply.header then Some Bogus
    else late_fault_of server reply)

-- the leap indicator and the stratum of a server whose clock is synchronized
pub record IsSynchronized (reply : JudgedPacket) : Type 0 where
  pub leap : reply.header.leap < LEAP_UNSYNCHRONIZED
  pub stratum : reply.header.stratum ≤ MAX_SYNCHRONIZED_STRATUM

-- a fault that the association decides: the first two come before it is looked at
abbrev pub IsDecided : ReplyFault → Type 0
IsDecided fault = (fault ≢ NoSuchPeer) × (fault ≢ Malformed)

-- after the first four faults a request may wait as before; the awaited server may have sent what has one of the others
abbrev pub ends_waiting : ReplyFault → Bool
ends_waiting NoSuchPeer = false
ends_waiting Malformed = false
ends_waiting Duplicate = false
ends_waiting Bogus = false
ends_waiting BadAuth = true
ends_waiting (Kiss code) = true
ends_waiting Unsynchronised = true
ends_waiting TooFar = true

-- what a refusal leaves: nothing else changes
abbrev pub refused : ReplyFault → Association → Association
refused fault server = if ends_waiting fault then record server { pending = None } else server
