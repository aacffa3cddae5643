use Rattle.std.proofs.Common.{ap}
use Rattle.ls_promises.proofs.WrongLemmas.{unseen, answered, counted}
use Rattle.ls_vault.specs.declared.state.Outcome.{Outcome}
use Rattle.ls_promises.proofs.wrong_texts.wrong_texts_are_answered.Goals as goal

pub returns-clause-unseen : goal.returns-clause-unseen
returns-clause-unseen c = λ slots s user offered moment drawn found there other. unseen s user offered moment found slots drawn there other

pub returns-clause-answered : goal.returns-clause-answered
returns-clause-answered c = λ slots s user offered moment drawn found there kind free other.
    ap (λ (o : Outcome). o.reply) (answered s user offered moment found slots drawn there kind free other)

pub returns-clause-counted : goal.returns-clause-counted
returns-clause-counted c = λ slots s user offered moment drawn found there kind free other.
    counted s user offered moment found slots drawn there kind free other

pub returns-clause-else_same : goal.returns-clause-else_same
returns-clause-else_same c = λ slots s user offered moment drawn found there kind free other.
    ap (λ (o : Outcome). o.state) (answered s user offered moment found slots drawn there kind free other)
