pub mod FeedbackLemmas
pub mod FrequencyLemmas
pub mod SoftClockLemmas
mod StandardFacts
