-- What the machine does where an arming ends.
use Rattle.std.proofs.Common.{◌≡◌, ◌≢◌, ℕ, Bool, true, false, cond, List, [], length, Option, None, Some, refl, sym, ◌∙◌, ap}
use Rattle.std.specs.Prelude.{◌==◌}
use Rattle.std.proofs.lemmas.Bool.{ne_eqb, eq-eqb}
use Rattle.ls_arming.specs.declared.arming.Arming.{Arming}
use Rattle.ls_board.specs.declared.world.World.{World}
use Rattle.ls_naming.specs.Current.{last_sequence}
use Rattle.ls_script.specs.declared.reply.Reply.TheVariants.{Fine}
use Rattle.ls_standing.specs.Books.{dead_users}
use Rattle.ls_standing.specs.Standing.{kept_arming}
use Rattle.ls_vault.specs.declared.state.State.{State}
use Rattle.ls_vault.specs.declared.vault.Books.{Books}
use Rattle.ls_vault.specs.Arming.{unarmed}
use Rattle.ls_vault.specs.Limits.{is_worn}
use Rattle.ls_vault.specs.Script.{Stage}
use Rattle.ls_vault.specs.States.{committed, with_arming, with_dead}
use Rattle.ls_turn.specs.declared.session.Session.{Session}
use Rattle.ls_turn.specs.Agreeing.{Agrees}
use Rattle.ls_turn.specs.Serving.{Turned, stage_in, vault_after}
use Rattle.ls_rebooting.specs.Ending.{clears, unarming, without_key}
use Rattle.ls_rebooting.proofs.TakingLemmas.{emptied}

-- ---- the state

module _ (s : State) where
  -- nobody is armed then
  unarmed_vault : (o : Option Arming) → s.vault.arming ≡ o → (unarmed o s).vault ≡ record s.vault { arming = None }
  unarmed_vault None none = by (length s.books.dead == 0) (is_worn s) ∙ ap (λ (o : Option Arming). record s.vault { arming = o }) none
    where
      by : (d w : Bool) → (cond d s (cond w s (committed (with_dead s [])))).vault ≡ s.vault
      by true w = refl
      by false true = refl
      by false false = refl
  unarmed_vault (Some arming) some = by (is_worn s)
    where
      by : (w : Bool) → (cond w (with_arming (with_dead s arming.users) None) (committed (with_arming (with_dead s []) None))).vault ≡ record s.vault { arming = None }
      by true = refl
      by false = refl

  pub unarming_vault : (w : World) → vault_after unarming w s ≡ record s.vault { arming = None }
  unarming_vault w = unarmed_vault s.vault.arming refl

  -- nothing was armed
  none_unarmed : (cell : Option (List ℕ)) → s.vault.arming ≡ kept_arming None cell → s.books.dead ≡ dead_users None cell → unarmed s.vault.arming s ≡ s
  none_unarmed cell arming dead =
      ap (λ (o : Option Arming). unarmed o s) (arming ∙ by cell)
      ∙ ap (λ (l : List ℕ). cond (length l == 0) s (cond (is_worn s) s (committed (with_dead s [])))) dead
    where
      by : (cell : Option (List ℕ)) → kept_arming None cell ≡ None
      by None = refl
      by (Some key) = refl

  module _ (a : Arming) (some : (length a.users == 0) ≡ false) where
    abbrev of_dead : List ℕ → Bool → State
    of_dead dead worn = cond (length dead == 0) s (cond worn s (committed (with_dead s [])))

    -- it is kept that nobody is
    fresh_unarmed : (cell : Option (List ℕ)) → is_worn s ≡ false → s.vault.arming ≡ kept_arming (Some a) cell → s.books.dead ≡ dead_users (Some a) cell
        → unarmed s.vault.arming s ≡ committed (with_arming (with_dead (without_key (Some a) s) []) None)
    fresh_unarmed None fresh arming dead =
        ap (λ (o : Option Arming). unarmed o s) arming
        ∙ ap (λ (l : List ℕ). of_dead l (is_worn s)) dead
        ∙ ap (λ (b : Bool). cond b s (cond (is_worn s) s (committed (with_dead s [])))) some
        ∙ ap (λ (b : Bool). cond b s (committed (with_dead s []))) fresh
        ∙ ap (λ (o : Option Arming). committed (with_arming (with_dead s []) o)) arming
    fresh_unarmed (Some key) fresh arming dead =
        ap (λ (o : Option Arming). unarmed o s) arming
        ∙ ap (λ (b : Bool). cond b (with_arming (with_dead s a.users) None) (committed (with_arming (with_dead s []) None))) fresh

    -- nothing can be kept
    worn_unarmed : (cell : Option (List ℕ)) → is_worn s ≡ true → s.vault.arming ≡ kept_arming (Some a) cell → s.books.dead ≡ dead_users (Some a) cell
        → unarmed s.vault.arming s ≡ without_key (Some a) s
    worn_unarmed None worn arming dead =
        ap (λ (o : Option Arming). unarmed o s) arming
        ∙ ap (λ (l : List ℕ). of_dead l (is_worn s)) dead
        ∙ ap (λ (b : Bool). cond b s (cond (is_worn s) s (committed (with_dead s [])))) some
        ∙ ap (λ (b : Bool). cond b s (committed (with_dead s []))) worn
        ∙ (λ i. with_arming (with_dead s (dead i)) (arming i))
    worn_unarmed (Some key) worn arming dead =
        ap (λ (o : Option Arming). unarmed o s) arming
        ∙ ap (λ (b : Bool). cond b (with_arming (with_dead s a.users) None) (committed (with_arming (with_dead s []) None))) worn

-- ---- by a session that agrees

-- nothing is another
abbrev pub stays : Stage → Turned
stays at = record { reply = Fine; stage = at }

module _ (w : World) (x : Session) (s : State) (agrees : Agrees w x s) where
  abbrev sequence : ℕ
  sequence = x.settings.settled.sequence

  kept_is : s.books.kept ≡ sequence
  kept_is = ap (λ (b : Books). b.kept) agrees.books_are

  dead_is : s.books.dead ≡ dead_users x.settings.settled.rec.armed w.cell
  dead_is = ap (λ (b : Books). b.dead) agrees.books_are

  arming_is : s.vault.arming ≡ kept_arming x.settings.settled.rec.armed w.cell
  arming_is = agrees.stands.stands.holds.arming

  pub is_fresh : sequence ≢ last_sequence → is_worn s ≡ false
  is_fresh fresh = ne_eqb s.books.kept last_sequence (λ e. fresh (sym kept_is ∙ e))

  pub is_last : sequence ≡ last_sequence → is_worn s ≡ true
  is_last last = eq-eqb s.books.kept last_sequence (kept_is ∙ last)

  pub unarming_none : x.settings.settled.rec.armed ≡ None → unarming (stage_in w s) ≡ stays (stage_in w s)
  unarming_none none = ap (λ (t : State). stays (stage_in w t))
      (none_unarmed s w.cell (arming_is ∙ ap (λ (o : Option Arming). kept_arming o w.cell) none) (dead_is ∙ ap (λ (o : Option Arming). dead_users o w.cell) none))

  module _ (mid : World) (emptied_is : mid ≡ emptied w) (a : Arming) (named : x.settings.settled.rec.armed ≡ Some a) (some : (length a.users == 0) ≡ false) where
    arming_now : s.vault.arming ≡ kept_arming (Some a) w.cell
    arming_now = arming_is ∙ ap (λ (o : Option Arming). kept_arming o w.cell) named

    dead_now : s.books.dead ≡ dead_users (Some a) w.cell
    dead_now = dead_is ∙ ap (λ (o : Option Arming). dead_users o w.cell) named

    pub unarming_clears : sequence ≢ last_sequence → unarming (stage_in w s) ≡ clears (stage_in mid (without_key x.settings.settled.rec.armed s))
    unarming_clears fresh =
        ap (λ (t : State). stays (stage_in w t)) (fresh_unarmed s a some w.cell (is_fresh fresh) arming_now dead_now)
        ∙ (λ i. clears (stage_in (sym emptied_is i) (without_key (sym named i) s)))

    pub unarming_stays : sequence ≡ last_sequence → unarming (stage_in w s) ≡ stays (stage_in mid (without_key x.settings.settled.rec.armed s))
    unarming_stays last =
        ap (λ (t : State). stays (stage_in w t)) (worn_unarmed s a some w.cell (is_last last) arming_now dead_now)
        ∙ (λ i. stays (stage_in (sym emptied_is i) (without_key (sym named i) s)))
