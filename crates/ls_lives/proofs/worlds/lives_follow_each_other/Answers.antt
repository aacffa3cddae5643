use Rattle.ls_lives.proofs.WorldLemmas.{same_storage, same_books, one_more}
use Rattle.ls_lives.proofs.worlds.lives_follow_each_other.Goals as goal

pub returns-clause-stands : goal.returns-clause-stands
returns-clause-stands c = λ image start v on stands.
    (stands.0, c.a_vault_stands_in_storage.ensures.stands image start stands.0 v (same_storage image start on) stands.1)

pub returns-clause-books : goal.returns-clause-books
returns-clause-books c = λ image start kept on has. same_books image start on kept has

pub returns-clause-more : goal.returns-clause-more
returns-clause-more c = one_more
