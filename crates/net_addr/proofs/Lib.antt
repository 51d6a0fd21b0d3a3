pub mod AddressLemmas
pub mod GroupLemmas
pub mod NumberLemmas
pub mod NumberTextLemmas
pub mod PrefixLemmas
pub mod ReadingLemmas
pub mod SpellingLemmas
mod StandardFacts
mod WorkedFacts
