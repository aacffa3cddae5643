use Rattle.std.proofs.Common.{refl, sym}
use Rattle.ls_questions.proofs.ClosingLemmas.{lock_unknown, lock_known}
use Rattle.ls_questions.proofs.closing.lock.Goals as goal

pub returns-in-None-clause-serves : goal.returns-in-None-clause-serves
returns-in-None-clause-serves c = λ old can. lock_unknown old c.args.x.now can c.args.user (sym c.in-None.ensures.same)

pub returns-in-Some-clause-serves : goal.returns-in-Some-clause-serves
returns-in-Some-clause-serves c = λ old can.
    lock_known old c.args.x.now can c.args.user (record c.args.x.now { opened = c.take_out.new.opened }) refl c.take_out.ensures.same c.in-Some.field-0.now (sym c.in-Some.ensures.same)
