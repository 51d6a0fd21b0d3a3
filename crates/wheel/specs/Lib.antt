pub mod DueTimes
pub mod Passing
