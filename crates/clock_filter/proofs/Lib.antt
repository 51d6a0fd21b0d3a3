mod EstimateLemmas
mod StageLemmas
mod StandardFacts
