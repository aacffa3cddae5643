-- Entries of opened users, ascending.
use Rattle.std.specs.Prelude.{◌==◌, nat_lt, if◌then◌else◌, List, [], ◌∷◌}
use Rattle.ls_turn.specs.declared.session.Opened.{Opened}

-- The entries and this one, ascending; an entry of the same user stays.
abbrev pub with_entry : List Opened → Opened → List Opened
with_entry [] one = one ∷ []
with_entry (o ∷ entries) one =
    if nat_lt o.user one.user then o ∷ with_entry entries one
    else if o.user == one.user then o ∷ entries
    else one ∷ o ∷ entries
