mod HistoryLemmas
mod LivesLemmas
mod WorldLemmas
