use Rattle.ls_chain.proofs.SealLemmas.{leads, linked}
use Rattle.ls_chain.proofs.TokenSealLemmas.{token_leads}
use Rattle.ls_chain.proofs.OfferSealLemmas.{offered_leads, files_lead}
use Rattle.ls_chain.proofs.laws.what_seals_leads_to_the_secret.Goals as goal

pub returns-clause-credential : goal.returns-clause-credential
returns-clause-credential c = λ id h cr s l value seals links form. leads id h cr s l value seals links form

pub returns-clause-linked : goal.returns-clause-linked
returns-clause-linked c = λ w user id kind. linked w user id kind

pub returns-clause-token : goal.returns-clause-token
returns-clause-token c = λ h l token s p0 files value seals keeps links. token_leads h l token s p0 files value seals keeps links

pub returns-clause-offered : goal.returns-clause-offered
returns-clause-offered c = λ id h cr s l seals links. offered_leads id h cr s l seals links

pub returns-clause-files : goal.returns-clause-files
returns-clause-files c = λ h l token s p0 files seals links. files_lead h l token s p0 files seals links
