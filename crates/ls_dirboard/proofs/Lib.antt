mod KeptLemmas
mod VerifyLemmas
