pub mod Fates
pub mod Services
pub mod Links
