-- Which octets are a server's reply (RFC 5905, sections 7.3 and 7.5), and which faults are told before its MAC is looked at (our own rule).
use Rattle.std.specs.Prelude.{◌≡◌, ℕ, List, Option, None, Some}
use Rattle.mac_keys.specs.declared.keys.Key.{Key}
use Rattle.ntp_packet.specs.declared.leap_version_mode.TheConstants.{MODE_SERVER}
use Rattle.ntp_trailer.specs.Packets.{IsJudgedPacket}
use Rattle.ntp_trailer.specs.declared.packet.JudgedPacket.{JudgedPacket}
use Rattle.associations.specs.Judging.{early_fault_of}
use Rattle.associations.specs.declared.association.Association.{Association}
use Rattle.associations.specs.declared.judging.ReplyFault.{ReplyFault}
use Rattle.associations.specs.declared.judging.ReplyFault.TheVariants.{Malformed}

-- the octets are a packet of a server's mode, with this header; and its MAC shows this where these keys are known
pub record IsReply (keys : List Key) (octets : List ℕ) (reply : JudgedPacket) : Type 0 where
  pub packet : IsJudgedPacket keys octets reply
  pub server : reply.header.mode ≡ MODE_SERVER

-- the octets are this reply, or none
abbrev pub IsRead : List Key → List ℕ → Option JudgedPacket → Type 0
IsRead keys octets None = (reply : JudgedPacket) → ¬ (IsReply keys octets reply)
IsRead keys octets (Some reply) = IsReply keys octets reply

-- the octets are a reply, or none
pub record IsReadable (keys : List Key) (octets : List ℕ) : Type 0 where
  pub reading : Option JudgedPacket
  pub is : IsRead keys octets reading

-- the first fault of what was read that is told before its MAC is looked at
abbrev pub reading_fault_of : Association → Option JudgedPacket → Option ReplyFault
reading_fault_of server None = Some Malformed
reading_fault_of server (Some reply) = early_fault_of server reply.header
