pub mod NameLemmas
pub mod ValueLemmas
pub mod QueryLemmas
pub mod PairLemmas
pub mod TextLemmas
pub mod LenLemmas
pub mod RowLemmas
pub mod CountLemmas
pub mod FoundLemmas
pub mod RoomLemmas
pub mod BackLemmas
pub mod GoodLemmas
pub mod RequestLaws
pub mod AnswerLaws
mod WorkedFacts
