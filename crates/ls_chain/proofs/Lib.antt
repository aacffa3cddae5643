pub mod CallingLemmas
mod MetLemmas
pub mod LookLemmas
pub mod StepLemmas
pub mod CredentialLemmas
pub mod RowLemmas
pub mod SealLemmas
pub mod TokenLemmas
pub mod TokenSealLemmas
pub mod OfferSealLemmas
pub mod AskLemmas
pub mod TryLemmas
mod MayTryLemmas
mod AttemptLemmas
mod TokenAttemptLemmas
pub mod HeldLinkLemmas
pub mod SealedEndLemmas
pub mod TokenEndLemmas
mod TokenRowLemmas
mod HandleFileLemmas
