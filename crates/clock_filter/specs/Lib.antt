pub mod Estimates
pub mod Filtering
pub mod Samples
