pub mod Apart
pub mod Order
pub mod Root
pub mod Time
