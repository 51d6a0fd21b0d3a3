pub mod Addresses
pub mod Cuts
pub mod Prefixes
pub mod Readings
pub mod Spelling
