use Rattle.std.proofs.Common.{List, ℕ, Bool, ◌∙◌, ap, subst}
use Rattle.std.specs.List.{list_any}
use Rattle.ls_record.specs.Rows.{has}
use Rattle.ls_turn.specs.Agreeing.{files_of}
use Rattle.ls_activating.proofs.FreeingLemmas.{none_said, one_said}
use Rattle.ls_activating.proofs.freeing.is_said.Goals as goal

pub returns-in-Ok-clause-none : goal.returns-in-Ok-clause-none
returns-in-Ok-clause-none c = λ is. none_said (files_of c.args.retired.now) c.in-Ok.taken c.in-Ok.ensures.taken c.args.tokens.now c.has_one.result
    (c.has_one.ensures.same ∙ ap (λ (l : List ℕ). list_any (λ p. has l p.id) c.args.tokens.now) c.as_slice.ensures.same) is

pub returns-in-Ok-clause-some : goal.returns-in-Ok-clause-some
returns-in-Ok-clause-some c = λ is. one_said (files_of c.args.retired.now) c.in-Ok.taken c.in-Ok.ensures.taken c.args.tokens.now c.has_one.result
    (c.has_one.ensures.same ∙ ap (λ (l : List ℕ). list_any (λ p. has l p.id) c.args.tokens.now) c.as_slice.ensures.same) is
