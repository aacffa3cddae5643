mod ZipLemmas
mod KeepingLemmas
mod KeepLemmas
mod KnownLemmas
mod BeginLemmas
mod OpeningLemmas
mod OnceLemmas
