mod ParsingLemmas
pub mod PersonalLemmas
