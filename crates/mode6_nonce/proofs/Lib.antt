pub mod DigitLemmas
pub mod LifetimeLemmas
pub mod NonceLemmas
mod WorkedFacts
