mod BeginningLemmas
mod PutLemmas
mod ReadingLemmas
pub mod ReplyLineLemmas
pub mod ScriptGrammar
