-- Lives: runs that were begun one after another, each on what a crash left of the one before.
use Rattle.std.specs.Prelude.{◌≡◌, ◌≤◌, ◌++◌, ◌∷◌, ℕ, List, [], length, take, map, Option, Some, None}
use Rattle.ls_board.specs.declared.world.World.{World}
use Rattle.ls_script.specs.declared.reply.Reply.{Reply}
use Rattle.ls_vault.specs.Histories.{Event, restarted, Happening}
use Rattle.ls_vault.specs.Script.{Entry, after, acknowledged, event_of}
use Rattle.ls_vault.specs.declared.state.State.{State}
use Rattle.ls_vault.specs.declared.vault.Books.{Books}
use Rattle.ls_vault.specs.declared.vault.Vault.{Vault}
use Rattle.ls_lives.specs.Told.{opened_state, told_from, commands_said}

-- ---- one life

-- A run that was begun, and what was left of it.
pub record Life : Type 0 where
  pub boot : ℕ
  -- the world on which it was begun, with the script as its input, and its vault and its books
  pub start : World
  pub vault : Vault
  pub books : Books
  -- what a crash left, or the end of the run
  pub image : World
  -- how many of its commands the image holds
  pub count : ℕ

abbrev pub first_state : Life → State
first_state l = opened_state l.vault l.books l.boot

-- its commands, and those of them that the image holds
abbrev pub entries_of : Life → List Entry
entries_of l = told_from l.start (first_state l)

abbrev pub kept_entries : Life → List Entry
kept_entries l = take l.count (entries_of l)

-- the vault that is left
abbrev pub vault_left : Life → Vault
vault_left l = (after (first_state l) (entries_of l) l.count).vault

-- On a board with so many slots. The image says more than the world at the start, and holds all
-- commands whose reply was said in it, and at most those of one line more.
pub record IsCounted (slots : ℕ) (l : Life) : Type 0 where
  pub width : length l.start.slots ≡ slots
  pub said : List ℕ
  pub says : l.image.said ≡ l.start.said ++ said
  pub enough :
      acknowledged said slots (first_state l) l.start.input l.start.moments l.start.noise
      ≤ l.count
  pub few : l.count ≤ commands_said l.start (first_state l) said 1

-- ---- lives in a row

-- each begins with the vault that the one before left, the first one with this
abbrev pub AreCounted : ℕ → Vault → List Life → Type 0
AreCounted slots v [] = Unit {0}
AreCounted slots v (l ∷ lives) =
    IsCounted slots l × (l.vault ≡ v) × AreCounted slots (vault_left l) lives

-- What happened in all of them: a restart before each, under the books of the world on which it was
-- begun, and the commands that were kept.
abbrev pub story : List Life → List Event
story [] = []
story (l ∷ lives) = restarted l.boot l.books ∷ (map event_of (kept_entries l) ++ story lives)

-- the vault at the end
abbrev pub vault_at_end : Vault → List Life → Vault
vault_at_end v [] = v
vault_at_end v (l ∷ lives) = vault_at_end (vault_left l) lives

-- the replies: none to a restart, and those of the commands that were kept
abbrev pub story_replies : List Life → List (Option Reply)
story_replies [] = []
story_replies (l ∷ lives) =
    None ∷ (map (λ e. Some e.reply) (kept_entries l) ++ story_replies lives)

-- the state after these happenings
abbrev pub state_at_end : State → List Happening → State
state_at_end s [] = s
state_at_end s (h ∷ more) = state_at_end h.state more
