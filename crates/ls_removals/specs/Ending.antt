-- What takes a user away, beside its protectors.
use Rattle.std.specs.Prelude.{◌≡◌, ◌==◌, ◌&&◌, ◌++◌, ◌∷◌, [], not, ℕ, Bool, List, Option, filter, is_some}
use Rattle.ls_arming.specs.declared.arming.Arming.{Arming}
use Rattle.ls_board.specs.declared.action.Action.{Action}
use Rattle.ls_board.specs.declared.action.Action.TheVariants.{GkForget, KeyDrop, ResumeTake, Sync}
use Rattle.ls_naming.specs.Named.{has_secure, only_if, user_parts}
use Rattle.ls_record.specs.declared.row.UserRow.{UserRow}
use Rattle.ls_retiring.specs.Retiring.{own_removes}
use Rattle.ls_turn.specs.declared.session.Opened.{Opened}
use Rattle.ls_turn.specs.declared.session.Session.{Session}
use Rattle.ls_removals.specs.declared.going.Going.{Going}
use Rattle.ls_removals.specs.declared.going.Which.TheVariants.{All}
use Rattle.ls_removals.specs.Letting.{waiting_still}

-- each protector of a user
abbrev pub all_of : ℕ → Going
all_of user = record { user = user; which = All }

-- there was an arming, and there is none any more
abbrev pub ends : Option Arming → Option Arming → Bool
ends was now = is_some was && not (is_some now)

-- The Gatekeeper forgets the user's secure id, and its own files are removed. Where an arming ends with
-- it, the cell is emptied and the key of the arming is dropped.
abbrev pub ending : Option Arming → Option Arming → UserRow → List Action
ending was now row =
    only_if (has_secure row) (GkForget row.secure ∷ [])
    ++ (own_removes row.user (user_parts was row)
    ++ (only_if (ends was now) (ResumeTake ∷ KeyDrop 0 ∷ []) ++ Sync ∷ []))

-- those of the other users
abbrev pub others_of : ℕ → List Opened → List Opened
others_of user opened = filter (λ o. not (o.user == user)) opened

-- The session y is x without what it knows of the user beside its protectors.
pub record HasLost (user : ℕ) (x y : Session) : Type 0 where
  pub is : y ≡ record x { opened = y.opened; pending = y.pending; captured = y.captured }
  pub opened : y.opened.items ≡ others_of user x.opened.items
  pub pending : y.pending.items ≡ waiting_still (all_of user) x.pending.items
  pub captured : y.captured.items ≡ others_of user x.captured.items
