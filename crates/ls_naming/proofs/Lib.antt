pub mod NamingLemmas
pub mod MembershipLemmas
pub mod CurrentLemmas
pub mod CurrentFacts
pub mod JournalLemmas
