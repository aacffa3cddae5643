-- How many pending tokens of a user become active, and which.
use Rattle.std.specs.Prelude.{ℕ, ◌==◌, ◌-◌, min, not, if◌then◌else◌, List, length, take, map, filter}
use Rattle.ls_naming.specs.Current.{last_sequence}
use Rattle.ls_record.specs.Rows.{has}
use Rattle.ls_turn.specs.declared.session.Pending.{Pending}
use Rattle.ls_turn.specs.declared.session.Session.{Session}
use Rattle.ls_turn.specs.Refusing.{pending_for, used_by}

-- none where nothing can be kept, all where there are no slots, else as many as there are free slots
abbrev pub count_for : Session → ℕ → ℕ
count_for x user =
    if x.settings.settled.sequence == last_sequence then 0
    else if x.slots == 0 then length (pending_for x user)
    else min (length (pending_for x user)) (x.slots - used_by x.settings.settled.rec.users)

-- the first of them
abbrev pub chosen_for : Session → ℕ → List Pending
chosen_for x user = take (count_for x user) (pending_for x user)

abbrev pub token_ids : List Pending → List ℕ
token_ids tokens = map (λ p. p.id) tokens

-- those that are left, without the ones of these ids
abbrev pub without_ids : List ℕ → List Pending → List Pending
without_ids ids pending = filter (λ p. not (has ids p.id)) pending
