-- What a datagram asks for: packets by RFC 5905, sections 7.3 and 7.5, control messages by RFC 9327, section 2; the order of the tests is our own rule.
use Rattle.std.specs.Prelude.{◌≡◌, ◌≢◌, ◌⊎◌, ℕ, true, List, [], Some}
use Rattle.mac_keys.specs.declared.checking.Auth.{Auth}
use Rattle.mac_keys.specs.declared.keys.Key.{Key}
use Rattle.net_addr.specs.declared.addr.Addr.{Addr}
use Rattle.ntp_packet.specs.declared.packet.Header.{Header}
use Rattle.ntp_packet.specs.declared.packet.PacketFault.{PacketFault}
use Rattle.ntp_packet.specs.declared.packet.PacketFault.TheVariants.{Short, BadVersion, BadMode}
use Rattle.ntp_packet.specs.FirstOctet.{mode_of}
use Rattle.ntp_trailer.specs.declared.parts.TrailerFault.{TrailerFault}
use Rattle.ntp_trailer.specs.declared.parts.TrailerFault.TheVariants.{Ragged, FieldShort, FieldLong, BadRemainder}
use Rattle.ntp_trailer.specs.declared.packet.JudgedPacket.{JudgedPacket}
use Rattle.ntp_trailer.specs.declared.packet.ReadFault.{ReadFault}
use Rattle.ntp_trailer.specs.declared.packet.ReadFault.TheVariants.{BadHeader, BadTrailer}
use Rattle.ntp_trailer.specs.Packets.{IsJudgedPacket, IsUnreadable}
use Rattle.mode6_frame.specs.declared.message.FrameFault.{FrameFault}
use Rattle.mode6_frame.specs.Frames.{FrameParts, IsFrame, frame_fault_of}
use Rattle.sys_vars.specs.declared.context.Context.{Context}
use Rattle.ntp_packet.specs.declared.leap_version_mode.TheConstants.{MODE_CLIENT, MODE_CONTROL}
use Rattle.server_core.specs.declared.class.Ask.{Ask}
use Rattle.server_core.specs.declared.class.Class.{Class}
use Rattle.server_core.specs.declared.class.Class.TheVariants.{Silent, Time, Look, Read}
use Rattle.server_core.specs.declared.class.Unheard.{Unheard}
use Rattle.server_core.specs.declared.class.Unheard.TheVariants.{Packet, Trailer, Frame, Unserved, NotRequest, BadNonce}
use Rattle.server_core.specs.Control.{IsRequest, frame_number, has_answer_bit}
use Rattle.server_core.specs.Reads.{IsRequestClass}

-- the number of a packet's fault, in the order of the tests
abbrev pub packet_number : PacketFault → ℕ
packet_number Short = 1
packet_number BadVersion = 2
packet_number BadMode = 3

-- the number of a fault of what follows the header, in the order of the tests
abbrev pub trailer_number : TrailerFault → ℕ
trailer_number Ragged = 1
trailer_number FieldShort = 2
trailer_number FieldLong = 3
trailer_number BadRemainder = 4

-- why octets that are no packet are not heard
abbrev pub unheard_by : ReadFault → Unheard
unheard_by (BadHeader fault) = Packet (packet_number fault)
unheard_by (BadTrailer fault) = Trailer (trailer_number fault)

-- what a request says that its reply depends on, and what its MAC shows
pub record IsAskOf (h : Header) (from : Addr) (auth : Auth) (ask : Ask) : Type 0 where
  pub from_is : ask.from ≡ from
  pub version_is : ask.version ≡ h.version
  pub poll_is : ask.poll ≡ h.poll
  pub transmit_is : ask.transmit ≡ h.transmit
  pub auth_is : ask.auth ≡ auth

-- a client's request is a packet of its mode: a header, extension fields and a MAC, end to end, or a header alone
pub record IsTimeRequest (octets : List ℕ) (from : Addr) (keys : List Key) (ask : Ask) : Type 0 where
  pub judged : JudgedPacket
  pub packet : IsJudgedPacket keys octets judged
  pub client : mode_of octets ≡ MODE_CLIENT
  pub is : IsAskOf judged.header from judged.auth ask

-- the octets begin with a control request from this address that is this
abbrev pub IsControl : List ℕ → Addr → Context → Class → Type 0
IsControl octets from context class = (f : FrameParts) × IsRequest octets f × IsRequestClass f from context class

-- why a datagram from this address that came in this context is not heard
abbrev pub IsUnheard : List ℕ → Addr → Context → Unheard → Type 0
IsUnheard octets from context (Packet number) =
    ((octets ≡ []) × (number ≡ 1))
    ⊎ ((mode_of octets ≡ MODE_CLIENT)
    × ((fault : PacketFault) × IsUnreadable octets (BadHeader fault) × (number ≡ packet_number fault)))
IsUnheard octets from context (Trailer number) =
    (mode_of octets ≡ MODE_CLIENT)
    × ((fault : TrailerFault) × IsUnreadable octets (BadTrailer fault) × (number ≡ trailer_number fault))
IsUnheard octets from context (Frame number) =
    (mode_of octets ≡ MODE_CONTROL)
    × ((fault : FrameFault) × (frame_fault_of octets ≡ Some fault) × (number ≡ frame_number fault))
IsUnheard octets from context (Unserved mode) =
    (octets ≢ []) × (mode ≡ mode_of octets) × (mode ≢ MODE_CLIENT) × (mode ≢ MODE_CONTROL)
IsUnheard octets from context NotRequest = (f : FrameParts) × IsFrame octets f × (has_answer_bit f ≡ true)
IsUnheard octets from context BadNonce = IsControl octets from context (Silent BadNonce)

-- what a datagram from this address that came in this context asks for, where these keys are known
abbrev pub IsClass : List ℕ → Addr → List Key → Context → Class → Type 0
IsClass octets from keys context (Silent why) = IsUnheard octets from context why
IsClass octets from keys context (Time ask) = IsTimeRequest octets from keys ask
IsClass octets from keys context (Look asked) = IsControl octets from context (Look asked)
IsClass octets from keys context (Read ask) = IsControl octets from context (Read ask)
