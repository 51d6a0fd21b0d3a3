pub mod Lines
pub mod Machines
pub mod Refusals
pub mod Told
