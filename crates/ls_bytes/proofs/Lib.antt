pub mod ByteListLemmas
pub mod FieldLemmas
pub mod JoinedLemmas
mod NameLemmas
