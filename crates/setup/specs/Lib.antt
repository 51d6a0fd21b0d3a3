pub mod Causes
pub mod Files
pub mod Openings
pub mod Setups
