pub mod Draws
pub mod Clients
pub use Rattle.net_addr.specs.Addresses
