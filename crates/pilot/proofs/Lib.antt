pub mod ChainLemmas
pub mod CallLemmas
pub mod GainLemmas
pub mod StepLemmas
pub mod TurnLemmas
pub mod PromiseLemmas
