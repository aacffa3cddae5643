use Rattle.std.proofs.Common.{◌≡◌, Ok, IfOk, IfSome, IfNone, IsOkAnd, List, ℕ, subst}
use Rattle.std.specs.FinMap.Entries.{find}
use Rattle.ls_board.specs.Order.{byte_cmp}
use Rattle.ls_naming.specs.Current.{Settled, current}
use Rattle.ls_checker.proofs.settings.current_record.Goals as goal

pub returns-clause-found : goal.returns-clause-found
returns-clause-found c =
    subst (λ (files : List (List ℕ × List ℕ)). IfOk c.record_on.result (λ found. IfSome found (λ r. IsOkAnd (current (λ n. find byte_cmp n files)) (λ s. s.rec ≡ r))))
    c.in_ok-board.ensures.files c.record_on.ensures.found

pub returns-clause-none : goal.returns-clause-none
returns-clause-none c =
    subst (λ (files : List (List ℕ × List ℕ)). IfOk c.record_on.result (λ found. IfNone found ((s : Settled) → ¬ (current (λ n. find byte_cmp n files) ≡ Ok s))))
    c.in_ok-board.ensures.files c.record_on.ensures.none
