mod NameText
mod ScriptLemmas
