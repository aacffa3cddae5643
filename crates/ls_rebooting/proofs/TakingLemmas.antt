-- The key of an arming is taken out of the cell.
use Rattle.std.proofs.Common.{◌≡◌, inl, inr, ⊎_elim, Bool, IsTrue, [], ◌∷◌, None, refl, sym, ◌∙◌, ap, subst}
use Rattle.std.specs.Prelude.{Result, Err, Some}
use Rattle.std.specs.List.{AllByRecursion}
use Rattle.ls_board.specs.declared.action.Action.TheVariants.{ResumeTake}
use Rattle.ls_board.specs.declared.action.Part.{Part}
use Rattle.ls_board.specs.declared.world.World.{World}
use Rattle.ls_board.specs.Acts.{Sight, Rose}
use Rattle.ls_board.specs.Effect.{file_at}
use Rattle.ls_board.specs.Images.{Leaves, Within, LeavesWithin}
use Rattle.ls_board.specs.Runs.{Did, LeavesOnly, PlanImage}
use Rattle.ls_board.proofs.RunLemmas.{weaker}
use Rattle.ls_naming.specs.Current.{Settled}
use Rattle.ls_protector.specs.Clear.{AreUnnamed}
use Rattle.ls_protector.specs.Steps.{PlanWorld, Steps}
use Rattle.ls_record.specs.Rows.{Rec}
use Rattle.ls_sealing.specs.Protectors.{held_number}
use Rattle.ls_script.specs.declared.reply.Reply.{Reply}
use Rattle.ls_serving.specs.Calls.{IsSilent}
use Rattle.ls_settings.specs.Loaded.{Loaded, IsReady}
use Rattle.ls_standing.specs.Bare.{IsBare}
use Rattle.ls_standing.specs.Books.{dead_users}
use Rattle.ls_standing.specs.Standing.{StandsDurably}
use Rattle.ls_standing.proofs.QuietLemmas.{durably_left}
use Rattle.ls_standing.proofs.ResumeLemmas.{taken, taken_cut}
use Rattle.ls_vault.specs.declared.state.State.{State}
use Rattle.ls_vault.specs.declared.vault.Books.{Books}
use Rattle.ls_vault.specs.declared.vault.Vault.{Vault}
use Rattle.ls_vault.specs.Script.{Stage}
use Rattle.ls_turn.specs.declared.session.Session.{Session}
use Rattle.ls_turn.specs.declared.stop.Cause.TheVariants as cause
use Rattle.ls_turn.specs.declared.stop.Stop.{Stop}
use Rattle.ls_turn.specs.declared.stop.Stop.TheVariants.{Fault}
use Rattle.ls_turn.specs.Agreeing.{Agrees, retired_files}
use Rattle.ls_turn.specs.Serving.{Always, CanServe, IsBetween, Serves, Turned, vault_after}
use Rattle.ls_turn.proofs.InsideLemmas.{IsMute, failed_inside, plan_inside}
use Rattle.ls_turn.proofs.StillLemmas.{left_between}
use Rattle.ls_rebooting.specs.Ending.{without_key}
use Rattle.ls_rebooting.proofs.GoingLemmas.{Goes, stops_between}

-- ---- the world without the key

-- it has an empty cell, and all else
abbrev pub emptied : World → World
emptied w = record w { cell = None }

emptied_ready : (w : World) (l : Loaded) → IsReady w l → IsReady (emptied w) l
emptied_ready w l h = record {
  are = record { settled = h.are.settled; target = h.are.target };
  whole = h.whole;
  untouched = h.untouched;
}

emptied_unnamed : (w : World) (r : Rec) (x : Session) → AreUnnamed w r (retired_files x) → AreUnnamed (emptied w) r (retired_files x)
emptied_unnamed w r x h n has = record { settings = (h n has).settings; named = (h n has).named }

pub emptied_agrees : (w : World) (x : Session) (s : State) → Agrees w x s → Agrees (emptied w) x (without_key x.settings.settled.rec.armed s)
emptied_agrees w x s a = record {
  keeps = a.keeps;
  stands = taken x.settings.settled s.vault w a.stands;
  ready = emptied_ready w x.settings a.ready;
  books_are = ap (λ (b : Books). record b { dead = dead_users x.settings.settled.rec.armed None }) a.books_are;
  session = a.session;
  opened = a.opened;
  metrics = a.metrics;
  captured = a.captured;
  named = record { each = a.named.each; only = a.named.only };
  slots = a.slots;
  retired = emptied_unnamed w x.settings.settled.rec x a.retired;
  going = a.going;
  prepared = a.prepared;
}

pub emptied_bare : (start w : World) (r : Rec) (x : Session) → IsBare start w r (retired_files x) → IsBare start (emptied w) r (retired_files x)
emptied_bare start w r x h = record {
  files = h.files;
  strange = h.strange;
  slots = h.slots;
  counters = h.counters;
  keys = h.keys;
  cell = λ none. refl;
}

-- the next call may be made
pub emptied_can : (old new : Sight) (x : Session) → new.told ≡ old.told → new.slots ≡ old.slots → (IsTrue old.told → new.world ≡ emptied old.world) → CanServe old x → CanServe new x
emptied_can old new x told slots is can = record {
  going = can.going;
  slots = can.slots ∙ sym slots;
  each = can.each;
  only = can.only;
  once = can.once;
  names = can.names;
  ready = λ now. let was = was_told now in subst (λ (w : World). IsReady w x.settings) (sym (is was)) (emptied_ready old.world x.settings (can.ready was));
  numbers = λ now p has n held. let was = was_told now in can.numbers was p has n (subst (λ (w : World). held_number w p ≡ Some n) (is was) held);
  apart = λ now. can.apart (was_told now);
  retired = λ now.
      let was = was_told now in
      subst (λ (w : World). AreUnnamed w x.settings.settled.rec (retired_files x)) (sym (is was)) (emptied_unnamed old.world x.settings.settled.rec x (can.retired was));
  waits = can.waits;
}
  where
    was_told : IsTrue new.told → IsTrue old.told
    was_told now = subst (λ (b : Bool). IsTrue b) told now

-- ---- the taking

-- an image of it stands for the vault, or for the one without an arming
module _ (w image : World) (s : Settled) (v : Vault) (stands : StandsDurably w s v) where
  abbrev unarmed : Vault
  unarmed = record v { arming = None }

  abbrev IsEnding : Type 0
  IsEnding = IsBetween w v unarmed image

  pub taken_before : Leaves w image → IsEnding
  taken_before left = left_between w image s v unarmed stands left

  pub taken_within : LeavesWithin w ResumeTake image → IsEnding
  taken_within left = record {
    either = ⊎_elim (λ (was : StandsDurably image s v). inl (s, was)) (λ (is : StandsDurably image s unarmed). inr (s, is)) (taken_cut s v w image stands left);
    silent = by left.1;
  }
    where
      of_mid : (left.0).said ≡ w.said → (left.0).input ≡ w.input → IsSilent w image
      of_mid said input = record {
        said = ap (λ (u : World). u.said) left.2.rest ∙ said;
        input = ap (λ (u : World). u.input) left.2.rest ∙ input;
      }

      by : Within w ResumeTake left.0 → IsSilent w image
      by within = ⊎_elim (λ (is : left.0 ≡ w). of_mid (ap (λ (u : World). u.said) is) (ap (λ (u : World). u.input) is))
          (λ (is : left.0 ≡ emptied w). of_mid (ap (λ (u : World). u.said) is) (ap (λ (u : World). u.input) is)) within

  pub taken_behind : Leaves (emptied w) image → IsEnding
  taken_behind left = record {
    either = inr (s, durably_left (emptied w) image s unarmed (taken s v w stands) left);
    silent = record { said = ap (λ (u : World). u.said) left.rest; input = ap (λ (u : World). u.input) left.rest };
  }

taken_image : (w image : World) (s : Settled) (v : Vault) → StandsDurably w s v → PlanImage w (ResumeTake ∷ []) image → IsBetween w v (record v { arming = None }) image
taken_image w image s v stands left =
    ⊎_elim (taken_before w image s v stands) (λ later. ⊎_elim (taken_within w image s v stands) (taken_behind w image s v stands) later) left

take_mute : AllByRecursion IsMute (ResumeTake ∷ [])
take_mute = (λ w. record { no_hear = λ max e. cc; no_say = λ bytes e. cc }, tt)

module _ (old new : Sight) (x : Session) where
  taken_crash : (told : IsTrue old.told) (s : State) → Agrees old.world x s → LeavesOnly old new (PlanImage old.world (ResumeTake ∷ []))
      → LeavesOnly old new (IsBetween old.world s.vault (record s.vault { arming = None }))
  taken_crash told s a crash = weaker old new (PlanImage old.world (ResumeTake ∷ [])) (IsBetween old.world s.vault (record s.vault { arming = None }))
      (λ image left. taken_image old.world image x.settings.settled s.vault a.stands left) crash

  -- it was done
  module _ (did : Did old (ResumeTake ∷ []) new) where
    taken_world : IsTrue old.told → new.world ≡ emptied old.world
    taken_world told = did.world told

    pub taken_can : CanServe old x → CanServe new x
    taken_can can = emptied_can old new x did.told did.slots taken_world can

    pub taking_goes : (IsTrue old.told → LeavesOnly old new (PlanImage old.world (ResumeTake ∷ []))) → Goes x (without_key x.settings.settled.rec.armed) old new
    taking_goes crash = record {
      told = did.told;
      never_fails = did.never_fails;
      slots = did.slots;
      faults = did.faults;
      inside = λ told. plan_inside (ResumeTake ∷ []) old.world old new take_mute (did.past told);
      silent = λ told. record { said = ap (λ (w : World). w.said) (taken_world told); input = ap (λ (w : World). w.input) (taken_world told) };
      strange = λ told n strange. ap (λ (w : World). file_at w n) (taken_world told);
      agrees = λ told s a. subst (λ (w : World). Agrees w x (without_key x.settings.settled.rec.armed s)) (sym (taken_world told)) (emptied_agrees old.world x s a);
      crash = λ told s a. taken_crash told s a (crash told);
      bare = λ told s a start bare.
          subst (λ (w : World). IsBare start w x.settings.settled.rec (retired_files x)) (sym (taken_world told)) (emptied_bare start old.world x.settings.settled.rec x bare);
    }

  -- it failed
  pub taking_stops : {T : Type 0} (y : Session) (turn : Stage → Turned) (part : Part) → Steps {T = T} old (ResumeTake ∷ []) (Err part) new
      → ((s : State) → vault_after turn old.world s ≡ record s.vault { arming = None })
      → y.slots ≡ x.slots → y.boot ≡ x.boot → y.stopped ≡ Some (cause.Fault part) → Serves old x turn Always (Err (Fault part)) y new
  taking_stops y turn part steps ends slots boot stopped =
      stops_between old new x y turn (Fault part) (λ c e. cc) slots boot stopped (record {
        told = steps.keeps.told;
        never_fails = steps.keeps.never_fails;
        slots = steps.keeps.slots;
        later = steps.keeps.later;
        quiet = tt;
        other = λ e at apart. absurd (apart part (sym (same_stop e at)));
        cause = λ p at. subst (λ (q : Part). Rose (old.faults q) (new.faults q)) (same_part p at) (steps.keeps.cause part refl);
      }) (λ told. failed_silent (steps.world told)) (λ told. failed_inside (ResumeTake ∷ []) part old new take_mute steps.failed told)
      (λ told s a. subst (λ (v : Vault). LeavesOnly old new (IsBetween old.world s.vault v)) (sym (ends s)) (taken_crash told s a (steps.crash told)))
    where
      same_stop : (e : Stop) → ◌≡◌ {A = Result Reply Stop} (Err (Fault part)) (Err e) → Fault part ≡ e
      same_stop e is = cc

      same_part : (p : Part) → ◌≡◌ {A = Result Reply Stop} (Err (Fault part)) (Err (Fault p)) → part ≡ p
      same_part p is = cc

      of_same : new.world ≡ old.world → IsSilent old.world new.world
      of_same is = record { said = ap (λ (w : World). w.said) is; input = ap (λ (w : World). w.input) is }

      of_emptied : new.world ≡ emptied old.world → IsSilent old.world new.world
      of_emptied is = record { said = ap (λ (w : World). w.said) is; input = ap (λ (w : World). w.input) is }

      failed_silent : PlanWorld old.world (ResumeTake ∷ []) new.world → IsSilent old.world new.world
      failed_silent there = ⊎_elim of_same (λ later. ⊎_elim (λ within. ⊎_elim of_same of_emptied within) of_emptied later) there
