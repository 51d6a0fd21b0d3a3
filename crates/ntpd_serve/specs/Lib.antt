pub mod Ending
pub mod Once
pub mod Sessions
pub mod Serves
pub mod Command
pub mod Usage
