-- Octets are one packet, which shows one thing.
use Rattle.std.proofs.Common.{◌≡◌, ℕ, List, sym, subst}
use Rattle.mac_keys.specs.declared.checking.Auth.{Auth}
use Rattle.mac_keys.specs.declared.keys.Key.{Key}
use Rattle.ntp_trailer.specs.declared.packet.Packet.{Packet}
use Rattle.ntp_trailer.specs.declared.packet.JudgedPacket.{JudgedPacket}
use Rattle.ntp_trailer.specs.Authentic.{IsAuth}
use Rattle.ntp_trailer.specs.Packets.{IsWholePacket, IsJudgedPacket}

-- the packet that a judged one is
abbrev pub packet_in : (keys : List Key) (octets : List ℕ) (judged : JudgedPacket) → IsJudgedPacket keys octets judged → Packet
packet_in keys octets judged is = record { header = judged.header; trailer = is.trailer }

-- where the packet and what its MAC shows are each the only ones, so is the judged packet
pub judged-one : (keys : List Key) (octets : List ℕ) (packet : Packet) (auth : Auth) → ((other : Packet) → IsWholePacket octets other → packet ≡ other)
    → ((other : Auth) → IsAuth keys octets packet.trailer other → auth ≡ other)
    → (judged : JudgedPacket) → IsJudgedPacket keys octets judged → record { header = packet.header; auth = auth } ≡ judged
judged-one keys octets packet auth only shown judged is =
    let same : packet ≡ packet_in keys octets judged is = only (packet_in keys octets judged is) is.packet in
    let shows : IsAuth keys octets packet.trailer judged.auth =
    subst (λ (p : Packet). IsAuth keys octets p.trailer judged.auth) (sym same) is.shown in
    λ i. record { header = (same i).header; auth = shown judged.auth shows i }
