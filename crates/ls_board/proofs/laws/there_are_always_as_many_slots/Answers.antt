use Rattle.ls_board.proofs.CountLemmas.{after_count, within_count, left_count, all_count, plan_count}
use Rattle.ls_board.proofs.laws.there_are_always_as_many_slots.Goals as goal

pub returns-clause-after : goal.returns-clause-after
returns-clause-after c = after_count

pub returns-clause-within : goal.returns-clause-within
returns-clause-within c = within_count

pub returns-clause-left : goal.returns-clause-left
returns-clause-left c = left_count

pub returns-clause-plan : goal.returns-clause-plan
returns-clause-plan c = all_count

pub returns-clause-cut : goal.returns-clause-cut
returns-clause-cut c = plan_count
