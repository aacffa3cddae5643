use Rattle.ls_standing.proofs.CommitLemmas.{commit_cut, commit_done}
use Rattle.ls_standing.proofs.changes.a_commit_leaves_one_vault_or_the_other.Goals as goal

pub returns-clause-cut : goal.returns-clause-cut
returns-clause-cut c = commit_cut

pub returns-clause-done : goal.returns-clause-done
returns-clause-done c = commit_done
