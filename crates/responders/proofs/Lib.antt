pub mod JobLemmas
pub mod LawLemmas
pub mod PlaceLemmas
pub mod SessionLemmas
pub mod StopLemmas
