pub mod Contexts
pub mod Entries
pub mod Stops
