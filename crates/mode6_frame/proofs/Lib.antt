pub mod FrameLemmas
pub mod WrittenLemmas
pub mod PartLemmas
pub mod ItemLemmas
pub mod SlotLemmas
pub mod ItemTextLemmas
pub mod ReadingLemmas
pub mod RoomLemmas
pub mod TagLemmas
pub mod CutLemmas
pub mod DraftLemmas
pub mod GroupLemmas
pub mod KeptLemmas
pub mod JoinLemmas
pub mod ServedLemmas
pub mod StampLemmas
mod StandardFacts
mod CodeFacts
mod CutFacts
mod GroupFacts
