mod LaneLemmas
mod MixingLemmas
mod StandardFacts
mod WordLemmas
