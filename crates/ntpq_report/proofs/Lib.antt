pub mod AssociationLemmas
mod RowLemmas
mod ClientFacts
mod WorkedFacts
