-- What fits together in every state.
use Rattle.std.specs.Prelude.{◌≡◌, ◌⊎◌, ◌==◌, ℕ, Bool, true, false, [], Some, None, is_some, ⊤}
use Rattle.ls_credential.specs.Rules.{fault_of}
use Rattle.ls_script.specs.declared.command.Command.{Command}
use Rattle.ls_script.specs.declared.command.Command.TheVariants as command
use Rattle.ls_script.specs.declared.reply.Reply.{Reply}
use Rattle.ls_vault.specs.Histories.{Event, restarted, Happening, command as served}
use Rattle.ls_vault.specs.Kinds.{is_empty}
use Rattle.ls_vault.specs.Limits.{last_of_64, token_count}
use Rattle.ls_vault.specs.Users.{user_of}
use Rattle.ls_vault.specs.declared.state.State.{State}
use Rattle.ls_vault.specs.declared.user.User.{User}
use Rattle.ls_arming.specs.declared.arming.Arming.{Arming}

-- What holds of users and of who is captured.
pub record IsConsistent (s : State) : Type 0 where
  -- a user has a secure id exactly where it has a credential
  pub secure : (user : ℕ) (u : User) → user_of s.vault.users user ≡ Some u
      → is_empty u.credential.kind ≡ (u.secure == 0)
  -- who may have no tokens has none, active or pending
  pub plain : (user : ℕ) (u : User) → user_of s.vault.users user ≡ Some u
      → u.escrow ≡ false → token_count s user ≡ 0
  -- nobody is captured where nothing is prepared
  pub captured : s.session.prepared ≡ false → s.session.captured ≡ []

-- What holds of an arming and of the dead users.
pub record IsSettled (s : State) : Type 0 where
  -- where users are armed nobody is dead
  pub never_both : (arming : Arming) → s.vault.arming ≡ Some arming → s.books.dead ≡ []
  -- where an arming is prepared nobody is armed
  pub unarmed : s.session.prepared ≡ true → s.vault.arming ≡ None
  -- nor is anybody dead then, unless no change can be kept any more
  pub spent : s.session.prepared ≡ true → (s.books.dead ≡ []) ⊎ (s.books.kept ≡ last_of_64)

-- where the event is a restart, and users are armed, its books have no dead users
abbrev pub HasGoodBooks : Event → State → Type 0
HasGoodBooks (restarted boot books) t =
    (arming : Arming) → t.vault.arming ≡ Some arming → books.dead ≡ []
HasGoodBooks (served c moment drawn) t = ⊤

abbrev pub FindsBooks : Happening → Type 0
FindsBooks h = HasGoodBooks h.event h.state

-- What holds of credentials.
pub record KeepsRules (s : State) : Type 0 where
  -- the text of each keeps the rule of its kind
  pub rule : (user : ℕ) (u : User) → user_of s.vault.users user ≡ Some u
      → fault_of u.credential.kind u.credential.text ≡ None
  -- without a credential nothing failed
  pub calm : (user : ℕ) (u : User) → user_of s.vault.users user ≡ Some u
      → is_empty u.credential.kind ≡ true → u.fails ≡ 0

-- the command offers a credential that breaks the rule of its kind
abbrev pub breaks_a_rule : Command → Reply → Bool
breaks_a_rule (command.Attempt user offered) r = is_some (fault_of offered.kind offered.text)
breaks_a_rule (command.Change user new) r = is_some (fault_of new.kind new.text)
breaks_a_rule _ r = false
