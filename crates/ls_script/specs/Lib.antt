pub mod Activation
pub mod Grammar
pub mod LineWords
pub mod RowAnswers
pub mod Commands
pub mod ReplyLines
pub mod ReplyText
pub mod ScriptReading
