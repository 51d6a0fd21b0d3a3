pub mod Datagrams
pub mod Ports
pub mod Counts
pub mod Sessions
pub use Rattle.responders.specs.Outcomes
pub use Rattle.worker.specs.Turns
pub use Rattle.draws.specs.Draws
pub use Rattle.draws.specs.Clients
