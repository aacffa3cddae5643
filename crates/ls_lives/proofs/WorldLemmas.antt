-- Lives whose worlds stand for their vaults.
use Rattle.std.proofs.Common.{◌≡◌, ◌≤◌, ◌++◌, ℕ, List, [], ◌∷◌, length, sym, ap, subst}
use Rattle.ls_board.specs.declared.world.World.{World}
use Rattle.ls_standing.specs.Same.{SameStorage}
use Rattle.ls_vault.specs.Script.{acknowledged}
use Rattle.ls_vault.specs.declared.vault.Books.{Books}
use Rattle.ls_vault.specs.declared.vault.Vault.{Vault}
use Rattle.ls_lives.specs.Lives.{Life, IsCounted, AreCounted, first_state, vault_left, vault_at_end}
use Rattle.ls_lives.specs.Worlds.{HasBooks, IsLeft, IsLife, BeginsOn, AreLives, image_at_end}

-- what was left is counted
pub left_counted : (slots : ℕ) (l : Life) → length l.start.slots ≡ slots → IsLeft l.start (first_state l) l.image l.count → IsCounted slots l
left_counted slots l width left = record {
  width = width;
  said = left.said;
  says = left.says;
  enough = subst (λ (n : ℕ). acknowledged left.said n (first_state l) l.start.input l.start.moments l.start.noise ≤ l.count) width left.enough;
  few = left.few;
}

module _ (image start : World) (on : BeginsOn image start) where
  pub same_storage : SameStorage image start
  same_storage = record {
    files = ap (λ (w : World). w.files) on;
    touched = ap (λ (w : World). w.touched) on;
    slots = ap (λ (w : World). w.slots) on;
    gk_key = ap (λ (w : World). w.gk_key) on;
    gk = ap (λ (w : World). w.gk) on;
    keys = ap (λ (w : World). w.keys) on;
    cell = ap (λ (w : World). w.cell) on;
  }

  pub same_books : (kept : Books) → HasBooks image kept → HasBooks start kept
  same_books kept has = subst (λ (w : World). HasBooks w kept) (sym on) (record { settings = has.settings; current = has.current; same = has.same })

pub counted : (slots : ℕ) (v : Vault) (lives : List Life) → AreLives slots v lives → AreCounted slots v lives
counted slots v [] are = tt
counted slots v (l ∷ []) are = (are.0.counted, are.1, tt)
counted slots v (l ∷ next ∷ lives) are = (are.0.counted, are.1, counted slots (vault_left l) (next ∷ lives) are.3)

pub one_more : (slots : ℕ) (v : Vault) (lives : List Life) (l : Life) → AreLives slots v lives → IsLife slots l
    → l.vault ≡ vault_at_end v lives → BeginsOn (image_at_end l.start lives) l.start → AreLives slots v (lives ++ l ∷ [])
one_more slots v [] l are life same on = (life, same)
one_more slots v (x ∷ []) l are life same on = (are.0, are.1, on, (life, same))
one_more slots v (x ∷ y ∷ lives) l are life same on = (are.0, are.1, are.2, one_more slots (vault_left x) (y ∷ lives) l are.3 life same on)
