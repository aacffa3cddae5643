use Rattle.std.proofs.Common.{refl}
use Rattle.ls_standing.proofs.LoadingLemmas.{load_ready, open_done, open_cut, open_ready, open_bare}
use Rattle.ls_standing.proofs.loading.an_opening_keeps_the_vault.Goals as goal

pub returns-clause-stands : goal.returns-clause-stands
returns-clause-stands c = λ start mid s v l names slots sids aliases cell stands is loaded same left.
    open_done mid s names slots sids aliases cell is left start v l stands loaded same

pub returns-clause-cut : goal.returns-clause-cut
returns-clause-cut c = λ mid image s v names slots sids aliases cell stands is left. open_cut mid s names slots sids aliases cell is left image v stands

pub returns-clause-ready : goal.returns-clause-ready
returns-clause-ready c = λ start mid l names slots sids aliases cell is loaded left.
    open_ready mid l.settled names slots sids aliases cell is left l (load_ready _ mid l (λ side. refl) loaded)

pub returns-clause-bare : goal.returns-clause-bare
returns-clause-bare c = λ start mid l names slots sids aliases cell is same left. open_bare mid l.settled names slots sids aliases cell is left start same
