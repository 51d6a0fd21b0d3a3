pub mod AddressLemmas
pub mod AddressLineLemmas
pub mod ConfTextLemmas
pub mod DraftLemmas
pub mod FrequencyLemmas
pub mod KindLemmas
pub mod LimitLemmas
pub mod LineLemmas
pub mod OnlyLemmas
pub mod OptionLemmas
pub mod OptionLineLemmas
pub mod OptionStepLemmas
pub mod ReadingLemmas
pub mod RefusedLemmas
pub mod ShortLineLemmas
pub mod TailLemmas
pub mod TakingLemmas
mod WorkedFacts
