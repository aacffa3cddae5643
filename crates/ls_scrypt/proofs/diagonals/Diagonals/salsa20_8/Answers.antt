use Rattle.std.proofs.Common.{ap, ◌∙◌, List, ℕ}
use Rattle.std.specs.Simd.Lanes.{zip2}
use Rattle.ls_scrypt.specs.Diagonals.{words_of}
use Rattle.ls_scrypt.specs.Salsa.{add32, salsa_words}
use Rattle.ls_scrypt.proofs.diagonals.Diagonals.salsa20_8.Goals as goal

pub returns : goal.returns
unfolding salsa_words
returns c = c.add.ensures ∙ ap (λ (w : List ℕ). zip2 add32 w (words_of c.args.self)) c.rounds.ensures
