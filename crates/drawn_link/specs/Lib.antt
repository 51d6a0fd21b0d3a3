pub mod Arrivals
pub mod Services
pub mod Links
pub mod Runs
