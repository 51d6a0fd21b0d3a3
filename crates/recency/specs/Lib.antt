pub mod Arrivals
pub mod Limits
pub mod Places
pub mod Rows
pub mod Sweeps
