-- Lives whose worlds stand for their vaults.
use Rattle.std.specs.Prelude.{◌≡◌, ◌≤◌, ◌++◌, ◌∷◌, ℕ, List, [], length, Ok}
use Rattle.ls_board.specs.declared.world.World.{World}
use Rattle.ls_board.specs.Effect.{file_at}
use Rattle.ls_naming.specs.Current.{Settled, current}
use Rattle.ls_standing.specs.Books.{books}
use Rattle.ls_standing.specs.Standing.{StandsFor}
use Rattle.ls_vault.specs.Script.{after, acknowledged}
use Rattle.ls_vault.specs.declared.state.State.{State}
use Rattle.ls_vault.specs.declared.vault.Books.{Books}
use Rattle.ls_vault.specs.declared.vault.Vault.{Vault}
use Rattle.ls_lives.specs.Told.{told_from, commands_said}
use Rattle.ls_lives.specs.Lives.{Life, IsCounted, vault_left}

-- the settings of the world keep these books
pub record HasBooks (w : World) (kept : Books) : Type 0 where
  pub settings : Settled
  pub current : current (file_at w) ≡ Ok settings
  pub same : kept ≡ books w settings

-- What was left of a run that was begun in this state: it says more than the world at the start, and
-- stands for the vault after the first commands, all those whose reply was said in it, and at most
-- those of one line more.
pub record IsLeft (start : World) (s : State) (image : World) (count : ℕ) : Type 0 where
  pub said : List ℕ
  pub says : image.said ≡ start.said ++ said
  pub enough :
      acknowledged said (length start.slots) s start.input start.moments start.noise ≤ count
  pub few : count ≤ commands_said start s said 1
  pub stands : StandsFor image (after s (told_from start s) count).vault

-- The world at the start stands for the vault and has the books, and the image stands for the vault
-- after the commands that it holds.
pub record IsLife (slots : ℕ) (l : Life) : Type 0 where
  pub counted : IsCounted slots l
  pub begins : StandsFor l.start l.vault
  pub kept : HasBooks l.start l.books
  pub left : StandsFor l.image (vault_left l)

-- the world is what was left, with a script, moments and bytes said of its own
abbrev pub BeginsOn : World → World → Type 0
BeginsOn image start =
    start ≡ record image { input = start.input; said = start.said; moments = start.moments }

-- Each is a life that begins with the vault which the one before left, and on its image; the first
-- one with this vault.
abbrev pub AreLives : ℕ → Vault → List Life → Type 0
AreLives slots v [] = Unit {0}
AreLives slots v (l ∷ []) = IsLife slots l × (l.vault ≡ v)
AreLives slots v (l ∷ next ∷ lives) =
    IsLife slots l × (l.vault ≡ v) × BeginsOn l.image next.start
    × AreLives slots (vault_left l) (next ∷ lives)

-- the image of the last of them, where there is one
abbrev pub image_at_end : World → List Life → World
image_at_end w [] = w
image_at_end w (l ∷ lives) = image_at_end l.image lives
