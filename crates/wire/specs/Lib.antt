pub mod Wires
pub mod Placing
pub mod Kept
pub mod Sessions
