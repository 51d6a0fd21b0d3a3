-- Whole packets: header, extension fields and MAC, end to end (RFC 5905, sections 7.3 and 7.5).
use Rattle.std.specs.Prelude.{◌≡◌, ℕ, List, Some}
use Rattle.mac_keys.specs.declared.keys.Key.{Key}
use Rattle.ntp_packet.specs.declared.packet.Header.{Header}
use Rattle.ntp_packet.specs.Packet.{IsPacket, fault_of}
use Rattle.ntp_trailer.specs.declared.parts.Trailer.{Trailer}
use Rattle.ntp_trailer.specs.declared.packet.Packet.{Packet}
use Rattle.ntp_trailer.specs.declared.packet.JudgedPacket.{JudgedPacket}
use Rattle.ntp_trailer.specs.declared.packet.ReadFault.{ReadFault}
use Rattle.ntp_trailer.specs.declared.packet.ReadFault.TheVariants.{BadHeader, BadTrailer}
use Rattle.ntp_trailer.specs.Trailers.{HasTrailer, IsRefused}
use Rattle.ntp_trailer.specs.Authentic.{IsAuth}

-- the octets begin with this header, and after it have fields and a MAC at these places, or nothing
pub record IsWholePacket (octets : List ℕ) (packet : Packet) : Type 0 where
  pub begins : IsPacket octets packet.header
  pub follows : HasTrailer octets packet.trailer

-- our own rule: this is the first fault of the octets, the header being judged before what follows it
abbrev pub IsUnreadable : List ℕ → ReadFault → Type 0
IsUnreadable octets (BadHeader fault) = fault_of octets ≡ Some fault
IsUnreadable octets (BadTrailer fault) = ((h : Header) × IsPacket octets h) × IsRefused octets fault

-- the octets are a packet with this header, and its MAC shows this where these keys are known
pub record IsJudgedPacket (keys : List Key) (octets : List ℕ) (judged : JudgedPacket) : Type 0 where
  pub trailer : Trailer
  pub packet : IsWholePacket octets (record { header = judged.header; trailer = trailer })
  pub shown : IsAuth keys octets trailer judged.auth
