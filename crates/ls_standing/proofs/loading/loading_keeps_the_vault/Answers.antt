use Rattle.ls_standing.proofs.LoadingLemmas.{load_cut, load_says, load_done, load_ready, ready_kept}
use Rattle.ls_standing.proofs.loading.loading_keeps_the_vault.Goals as goal

pub returns-clause-cut : goal.returns-clause-cut
returns-clause-cut c = load_cut

pub returns-clause-settings : goal.returns-clause-settings
returns-clause-settings c = load_says

pub returns-clause-done : goal.returns-clause-done
returns-clause-done c = load_done

pub returns-clause-ready : goal.returns-clause-ready
returns-clause-ready c = load_ready

pub returns-clause-kept : goal.returns-clause-kept
returns-clause-kept c = ready_kept
