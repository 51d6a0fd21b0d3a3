pub mod FirstOctet
pub mod Packet
pub mod Fields
