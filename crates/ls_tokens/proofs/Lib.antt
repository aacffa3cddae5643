mod LimitLemmas
mod AddingLemmas
