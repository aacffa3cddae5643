pub mod FaultLemmas
pub mod FieldLemmas
pub mod FileLemmas
pub mod ContentLemmas
mod NameByteLemmas
pub mod NameLemmas
pub mod HexLemmas
pub mod ApartLemmas
