mod JoinedLemmas
mod ReadingLemmas
