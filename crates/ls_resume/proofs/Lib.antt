mod LearnLemmas
mod PassLemmas
mod EachLemmas
mod AscendingLemmas
mod ArmedLemmas
mod ResumeLemmas
mod StandingLemmas
mod TellLemmas
