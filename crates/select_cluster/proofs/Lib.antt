mod Agreement
pub mod ClusteringLaws
mod ClusteringLemmas
mod CombiningLemmas
mod Overlaps
mod Ranks
pub mod SelectingLemmas
mod StandardFacts
pub mod SurvivorLemmas
