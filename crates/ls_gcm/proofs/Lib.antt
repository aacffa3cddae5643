mod ByteTables
mod CounterLemmas
mod ElementLemmas
mod ExpansionLemmas
mod HashLemmas
mod ProductLemmas
mod RoundLemmas
pub mod SealedBytesLemmas
pub mod SealingLemmas
pub mod StandardFacts
