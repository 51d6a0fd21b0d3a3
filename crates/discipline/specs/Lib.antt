pub mod Feedback
pub mod Frequency
pub mod Slew
pub mod SoftClock
pub mod Transitions
