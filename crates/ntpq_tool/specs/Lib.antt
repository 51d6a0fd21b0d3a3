pub mod Options
pub mod Command
pub mod Ending
pub mod Usage
pub mod Scripts
pub mod Answers
pub mod Listings
pub mod Runs
