-- A token is added.
use Rattle.std.specs.Prelude.{◌++◌, ℕ, List, map, flat_map}
use Rattle.ls_turn.specs.declared.session.Session.{Session}

-- the ids of all tokens, active and pending
abbrev pub taken_ids : Session → List ℕ
taken_ids x =
    flat_map (λ r. r.tokens) x.settings.settled.rec.users ++ map (λ p. p.id) x.pending.items
