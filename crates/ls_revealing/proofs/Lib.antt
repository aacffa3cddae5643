mod BehindLemmas
mod RevealLemmas
