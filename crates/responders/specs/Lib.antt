pub mod Flown
pub mod Jobs
pub mod Laws
pub mod Outcomes
pub mod Parts
pub mod Prepared
pub mod Sessions
pub mod Workers
