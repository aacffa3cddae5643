pub mod FreshLemmas
mod InsertLemmas
mod PendingLemmas
pub mod ScriptLemmas
mod UserLemmas
