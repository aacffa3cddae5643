-- Worlds with the same storage: what a session knows of one is so in the other.
use Rattle.std.proofs.Common.{◌≡◌, ⊎_elim, ℕ, Bool, IsTrue, List, [], None, Some, refl, sym, ◌∙◌, ap, subst}
use Rattle.ls_board.specs.declared.action.Action.{Action}
use Rattle.ls_board.specs.declared.action.Action.TheVariants.{Sync, Hear, Say, Now, Draw}
use Rattle.ls_board.specs.declared.touch.Touch.{Touch}
use Rattle.ls_board.specs.declared.world.World.{World}
use Rattle.ls_board.specs.Acts.{Sight}
use Rattle.ls_board.specs.Effect.{file_at, touch_at}
use Rattle.ls_board.specs.Images.{Leaves, Within}
use Rattle.ls_board.specs.Reach.{Reach}
use Rattle.ls_board.proofs.FrameLemmas.{same_within}
use Rattle.ls_formats.specs.PartNames.{settings_text}
use Rattle.ls_naming.specs.Current.{Settled}
use Rattle.ls_protector.specs.Clear.{AreUnnamed}
use Rattle.ls_record.specs.Rows.{Rec}
use Rattle.ls_serving.specs.Calls.{IsOuter, IsOuterMove}
use Rattle.ls_sealing.specs.Protectors.{Protector, held_number}
use Rattle.ls_settings.specs.Loaded.{Loaded, IsReady}
use Rattle.ls_standing.specs.Bare.{IsBare}
use Rattle.ls_standing.specs.Standing.{StandsDurably}
use Rattle.ls_standing.proofs.QuietLemmas.{durably_left}
use Rattle.ls_standing.proofs.SameLemmas.{still_none}
use Rattle.ls_vault.specs.declared.state.State.{State}
use Rattle.ls_vault.specs.declared.vault.Vault.{Vault}
use Rattle.ls_turn.specs.declared.session.Session.{Session}
use Rattle.ls_turn.specs.Agreeing.{Agrees, retired_files}
use Rattle.ls_turn.specs.Serving.{CanServe, KeepsStrange, StandsSomehow}

-- The world has the same storage. Another file may be no longer touched.
pub record KeepsStorage (w mid : World) : Type 0 where
  pub is : mid ≡ record w {
    touched = mid.touched;
    input = mid.input;
    said = mid.said;
    moments = mid.moments;
    noise = mid.noise;
  }
  pub touch : (n : List ℕ) → touch_at w n ≡ None → touch_at mid n ≡ None

pub storage_refl : (w : World) → KeepsStorage w w
storage_refl w = record { is = refl; touch = λ n none. none }

pub storage_trans : (u v w : World) → KeepsStorage u v → KeepsStorage v w → KeepsStorage u w
storage_trans u v w first second = record {
  is = second.is ∙ ap (λ (x : World). record x { touched = w.touched; input = w.input; said = w.said; moments = w.moments; noise = w.noise }) first.is;
  touch = λ n none. second.touch n (first.touch n none);
}

-- ---- which calls keep it

-- the world with another rest
abbrev beside : World → List (List ℕ × Touch) → List ℕ → List ℕ → List ℕ → List ℕ → World
beside w touched input said moments noise = record w { touched = touched; input = input; said = said; moments = moments; noise = noise }

module _ (w mid : World) where
  beside_is : (touched : List (List ℕ × Touch)) (input said moments noise : List ℕ) → mid ≡ beside w touched input said moments noise
      → mid ≡ beside w mid.touched mid.input mid.said mid.moments mid.noise
  beside_is touched input said moments noise is = is ∙ ap (λ (u : World). beside w u.touched u.input u.said u.moments u.noise) (sym is)

  -- nothing but the rest is another, and the files are touched as before
  rest_stores : (input said moments noise : List ℕ) → mid ≡ beside w w.touched input said moments noise → KeepsStorage w mid
  rest_stores input said moments noise is = record {
    is = beside_is w.touched input said moments noise is;
    touch = λ n none. subst (λ (u : World). touch_at u n ≡ None) (sym is) none;
  }

  abbrev nothing : Reach
  nothing = record { files = λ n. ⊥; slots = λ slot. ⊥; sids = λ sid. ⊥; aliases = λ alias. ⊥; cell = ⊥ }

  sync_stores : Within w Sync mid → KeepsStorage w mid
  sync_stores within = record {
    is = beside_is _ _ _ _ _ within.is;
    touch = λ n none. still_none (touch_at w n) (touch_at mid n) ((same_within nothing w mid Sync tt within).touch n (λ reached. reached)) none;
  }

  synced_stores : mid ≡ record w { touched = [] } → KeepsStorage w mid
  synced_stores is = record { is = beside_is _ _ _ _ _ is; touch = λ n none. ap (λ (u : World). touch_at u n) is }

  -- a hearing, a saying and a sync, also where they fail
  pub outer_stores : (a : Action) → IsOuter a → IsOuterMove w a mid → KeepsStorage w mid
  outer_stores Sync outer move =
      ⊎_elim (λ (is : mid ≡ w). rest_stores _ _ _ _ is) (λ step. ⊎_elim sync_stores (λ done. synced_stores done.1) step) move
  outer_stores (Hear max) outer move =
      ⊎_elim (λ (is : mid ≡ w). rest_stores _ _ _ _ is) (λ step. ⊎_elim (λ within. rest_stores _ _ _ _ within.is) (λ done. rest_stores _ _ _ _ done.1) step) move
  outer_stores (Say bytes) outer move =
      ⊎_elim (λ (is : mid ≡ w). rest_stores _ _ _ _ is) (λ step. ⊎_elim (λ within. rest_stores _ _ _ _ within.is) (λ done. rest_stores _ _ _ _ done.1) step) move
  outer_stores a outer move = absurd outer

  -- a moment and noise, also where they fail
  pub now_stores : Within w Now mid → KeepsStorage w mid
  now_stores within = ⊎_elim (λ (is : mid ≡ w). rest_stores _ _ _ _ is) (λ done. rest_stores _ _ _ _ done) within

  pub draw_stores : (len : ℕ) → Within w (Draw len) mid → KeepsStorage w mid
  draw_stores len within = rest_stores _ _ _ _ within.is

-- ---- what is kept with it

module _ (w mid : World) (kept : KeepsStorage w mid) where
  pub stored_durably : (s : Settled) (v : Vault) → StandsDurably w s v → StandsDurably mid s v
  stored_durably s v h = subst (λ (u : World). StandsDurably u s v) (sym kept.is) (record {
    stands = record {
      settings = h.stands.settings;
      target = h.stands.target;
      holds = record { users = h.stands.holds.users; files = h.stands.holds.files; arming = h.stands.holds.arming };
    };
    settings = λ side. kept.touch (settings_text side) (h.settings side);
    named = λ name named. kept.touch _ (h.named name named);
  })

  pub stored_ready : (l : Loaded) → IsReady w l → IsReady mid l
  stored_ready l h = subst (λ (u : World). IsReady u l) (sym kept.is) (record {
    are = record { settled = h.are.settled; target = h.are.target };
    whole = h.whole;
    untouched = λ side. kept.touch (settings_text side) (h.untouched side);
  })

  pub stored_unnamed : (r : Rec) (names : List (List ℕ)) → AreUnnamed w r names → AreUnnamed mid r names
  stored_unnamed r names h = subst (λ (u : World). AreUnnamed u r names) (sym kept.is)
      (λ n has. record { settings = (h n has).settings; named = (h n has).named })

  pub stored_bare : (start : World) (r : Rec) (retired : List (List ℕ)) → IsBare start w r retired → IsBare start mid r retired
  stored_bare start r retired h = subst (λ (u : World). IsBare start u r retired) (sym kept.is) (record {
    files = h.files;
    strange = h.strange;
    slots = h.slots;
    counters = h.counters;
    keys = h.keys;
    cell = h.cell;
  })

  pub stored_strange : KeepsStrange w mid
  stored_strange n strange = ap (λ (u : World). file_at u n) kept.is

  -- a session agrees with the same state
  pub stored_agrees : (x : Session) (s : State) → Agrees w x s → Agrees mid x s
  stored_agrees x s a =
      let stands = stored_durably x.settings.settled s.vault a.stands in
      let ready = stored_ready x.settings a.ready in
      let retired = stored_unnamed x.settings.settled.rec (retired_files x) a.retired in
      subst (λ (u : World). Agrees u x s) (sym kept.is) (record {
        keeps = a.keeps;
        stands = subst (λ (u : World). StandsDurably u x.settings.settled s.vault) kept.is stands;
        ready = subst (λ (u : World). IsReady u x.settings) kept.is ready;
        books_are = a.books_are;
        session = a.session;
        opened = a.opened;
        metrics = a.metrics;
        captured = a.captured;
        named = record { each = a.named.each; only = a.named.only };
        slots = a.slots;
        retired = subst (λ (u : World). AreUnnamed u x.settings.settled.rec (retired_files x)) kept.is retired;
        going = a.going;
        prepared = a.prepared;
      })

-- its calls may be made on the next board
pub stored_can : (old new : Sight) (x : Session) → new.told ≡ old.told → new.slots ≡ old.slots → (IsTrue old.told → KeepsStorage old.world new.world) → CanServe old x → CanServe new x
stored_can old new x told slots kept can = record {
  going = can.going;
  slots = can.slots ∙ sym slots;
  each = can.each;
  only = can.only;
  once = can.once;
  names = can.names;
  ready = λ now. let was = was_told now in stored_ready old.world new.world (kept was) x.settings (can.ready was);
  numbers = λ now p has n held. let was = was_told now in can.numbers was p has n (held_then was p n held);
  apart = λ now. can.apart (was_told now);
  retired = λ now. let was = was_told now in stored_unnamed old.world new.world (kept was) x.settings.settled.rec (retired_files x) (can.retired was);
  waits = can.waits;
}
  where
    was_told : IsTrue new.told → IsTrue old.told
    was_told now = subst (λ (b : Bool). IsTrue b) told now

    held_then : (was : IsTrue old.told) (p : Protector) (n : ℕ) → held_number new.world p ≡ Some n → held_number old.world p ≡ Some n
    held_then was p n held = subst (λ (u : World). held_number u p ≡ Some n) (kept was).is held

-- each image stands for the state's vault
pub agrees_left : (w image : World) (x : Session) (s : State) → Agrees w x s → Leaves w image → StandsSomehow image s.vault
agrees_left w image x s a left = (x.settings.settled, durably_left w image x.settings.settled s.vault a.stands left)
