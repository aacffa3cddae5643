mod ListLemmas
mod TurnLemmas
mod ClearLemmas
mod ExchangeLemmas
mod StageLemmas
mod WeightLemmas
