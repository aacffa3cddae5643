use Rattle.std.proofs.lemmas.List.{length-replicate}
use Rattle.ls_weaver.specs.Slots.{blank_slot}
use Rattle.ls_turn.proofs.FreshLemmas.{empty_stands, empty_ready, empty_agrees, empty_can, empty_has_zeros, empty_untouched}
use Rattle.ls_turn.proofs.laws.a_session_of_an_empty_board_agrees.Goals as goal

pub returns-clause-stands : goal.returns-clause-stands
returns-clause-stands c = λ w files untouched. (empty_stands w files untouched, empty_ready w files untouched)

pub returns-clause-agrees : goal.returns-clause-agrees
returns-clause-agrees c = λ w x boot slots files untouched fresh count loaded named. empty_agrees x loaded w boot slots files untouched fresh count named

pub returns-clause-can : goal.returns-clause-can
returns-clause-can c = λ b x boot fresh loaded named empty. empty_can x loaded b boot fresh named empty

pub returns-clause-there : goal.returns-clause-there
returns-clause-there c = λ slots. (empty_has_zeros slots, empty_untouched slots, length-replicate slots blank_slot)
