pub mod Trailers
pub mod Endings
pub mod Authentic
pub mod Packets
pub use Rattle.ntp_packet.specs.Packet
