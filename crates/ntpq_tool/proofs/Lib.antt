pub mod MaskLemmas
pub mod OptionLemmas
pub mod CommandLemmas
pub mod AnswerLemmas
pub mod ScriptLemmas
pub mod InquiryLemmas
pub mod RunLemmas
pub mod PeerLemmas
pub mod ListingLemmas
pub mod EndingLemmas
pub mod ServedLemmas
mod WorkedFacts
