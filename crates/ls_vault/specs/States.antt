-- Parts of a state, changed, and outcomes.
use Rattle.std.specs.Prelude.{ℕ, ◌+◌, Bool, if◌then◌else◌, List, Option, Some, None}
use Rattle.ls_script.specs.declared.reply.Refusal.{Refusal}
use Rattle.ls_script.specs.declared.reply.Refusal.TheVariants.{NoUser}
use Rattle.ls_script.specs.declared.reply.Reply.TheVariants.{Fine, No}
use Rattle.ls_vault.specs.declared.session.SessionState.{SessionState}
use Rattle.ls_vault.specs.declared.state.Outcome.{Outcome}
use Rattle.ls_vault.specs.declared.state.State.{State}
use Rattle.ls_vault.specs.declared.token.PendingToken.{PendingToken}
use Rattle.ls_vault.specs.declared.user.User.{User}
use Rattle.ls_arming.specs.declared.arming.Arming.{Arming}

abbrev pub with_users : State → List User → State
with_users s users = record s { vault = record s.vault { users = users } }

abbrev pub with_arming : State → Option Arming → State
with_arming s arming = record s { vault = record s.vault { arming = arming } }

abbrev pub with_dead : State → List ℕ → State
with_dead s dead = record s { books = record s.books { dead = dead } }

abbrev pub with_session : State → SessionState → State
with_session s session = record s { session = session }

abbrev pub with_pending : State → List PendingToken → State
with_pending s pending = with_session s (record s.session { pending = pending })

-- one change of the vault more was kept
abbrev pub committed : State → State
committed s = record s { books = record s.books { kept = s.books.kept + 1 } }

-- kept where it changed the vault
abbrev pub committed_if : Bool → State → State
committed_if changes s = if changes then committed s else s

abbrev pub fine : State → Outcome
fine s = record { reply = Fine; state = s }

-- a refusal changes nothing
abbrev pub refused : State → Refusal → Outcome
refused s why = record { reply = No why; state = s }

-- what a command does for its user; without one it is refused
abbrev pub on_user : Option User → State → (User → Outcome) → Outcome
on_user None s act = refused s NoUser
on_user (Some u) s act = act u
