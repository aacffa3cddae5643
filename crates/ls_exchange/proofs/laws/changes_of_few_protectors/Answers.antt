use Rattle.std.proofs.Common.{List, [], ◌∷◌, ◌++◌, append-nil, ◌∙◌, ap}
use Rattle.ls_board.specs.declared.action.Action.{Action}
use Rattle.ls_board.specs.declared.action.Action.TheVariants.{Sync}
use Rattle.ls_formats.specs.declared.parts.Parts.{Parts}
use Rattle.ls_protector.specs.Parts.{erasing_of}
use Rattle.ls_protector.specs.Steps.{Drafted}
use Rattle.ls_exchange.specs.Exchanges.{new_parts, staging_of, settling_of, retiring_of}
use Rattle.ls_exchange.proofs.laws.changes_of_few_protectors.Goals as goal

pub returns-clause-none_is_new : goal.returns-clause-none_is_new
returns-clause-none_is_new c = λ x none.
    ap (λ (drafts : List Drafted). staging_of drafts ++ (x.others ++ settling_of (new_parts drafts))) none ∙ append-nil x.others

pub returns-clause-one_is_new : goal.returns-clause-one_is_new
returns-clause-one_is_new c = λ x draft one.
    ap (λ (drafts : List Drafted). staging_of drafts ++ (x.others ++ settling_of (new_parts drafts))) one
    ∙ ap (λ (l : List Action). l ++ (x.others ++ Sync ∷ [])) (append-nil draft.plan)

pub returns-clause-none_goes : goal.returns-clause-none_goes
returns-clause-none_goes c = λ x none. ap (λ (all : List Parts). retiring_of all ++ x.after) none

pub returns-clause-one_goes : goal.returns-clause-one_goes
returns-clause-one_goes c = λ x p one. ap (λ (all : List Parts). retiring_of all ++ x.after) one ∙ ap (λ (l : List Action). l ++ x.after) (append-nil (erasing_of p))
