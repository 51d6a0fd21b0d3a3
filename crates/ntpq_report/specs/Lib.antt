pub mod Fields
pub mod Variables
pub mod Associations
pub mod Columns
pub mod Peers
pub mod Clients
pub use Rattle.mode6_frame.specs.Told
