pub mod Acts
pub mod Doings
pub mod Others
pub mod Serving
pub mod Turns
pub mod Workers
