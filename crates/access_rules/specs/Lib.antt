pub mod Flags
pub mod Order
pub mod Places
pub mod Rates
pub mod Rules
