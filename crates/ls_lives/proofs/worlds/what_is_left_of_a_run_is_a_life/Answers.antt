use Rattle.ls_lives.proofs.WorldLemmas.{left_counted}
use Rattle.ls_lives.proofs.worlds.what_is_left_of_a_run_is_a_life.Goals as goal

pub returns : goal.returns
returns c = λ slots l width begins kept left. record { counted = left_counted slots l width left; begins = begins; kept = kept; left = left.stands }
