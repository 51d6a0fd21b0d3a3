pub mod Lines
pub mod Rehearsals
pub use Rattle.drawn_session.specs.Sessions
pub use Rattle.drawn_link.specs.Runs
