-- Quiet actions leave all that a record names the same, and the settings.
use Rattle.std.proofs.Common.{◌≡◌, ◌≢◌, inl, inr, ⊎_elim, ℕ, zero, suc, Bool, true, false, List, [], ◌∷◌, ◌++◌, length, None, Some, refl, sym, ap, subst, ◌∙◌}
use Rattle.std.specs.Prelude.{MatchBool, slice_get, unwrap_or, take}
use Rattle.std.proofs.Math.Dec.{eqb}
use Rattle.ls_formats.specs.PartNames.{part_name_text, settings_text}
use Rattle.ls_record.specs.Rows.{Rec}
use Rattle.ls_naming.specs.Current.{Settled}
use Rattle.ls_naming.proofs.MembershipLemmas.{numbers_decide}
use Rattle.ls_board.specs.declared.action.Action.{Action}
use Rattle.ls_board.specs.declared.action.Action.TheVariants.{WeaverRead, GkVerify, ResumeTake, Hear, Say, Now, Draw}
use Rattle.ls_board.specs.declared.world.World.{World}
use Rattle.ls_board.specs.Effect.{file_at, touch_at, slot_at, after}
use Rattle.ls_board.specs.Gatekeeper.{sid_of, record_at}
use Rattle.ls_board.specs.Images.{Leaves, Within, DeviceWithin, LeavesWithin, LeavesWithinCall, changing}
use Rattle.ls_board.specs.Keys.{key_at}
use Rattle.ls_board.specs.Reach.{Reach, TouchesOnly, SameBut}
use Rattle.ls_board.specs.Runs.{after_all, PlanImage}
use Rattle.ls_board.proofs.FrameLemmas.{same_within}
use Rattle.ls_board.proofs.StepLemmas.{whole_within, within_call}
use Rattle.ls_vault.specs.declared.vault.Vault.{Vault}
use Rattle.ls_standing.specs.Standing.{StandsDurably}
use Rattle.ls_standing.specs.Quiet.{unnamed, IsQuiet, AllQuiet}
use Rattle.ls_standing.specs.Same.{SameNamed, SameSettings}
use Rattle.ls_standing.proofs.FrameLemmas.{durably_same}
use Rattle.ls_standing.proofs.SameLemmas.{still_none, named_refl, settings_refl, named_trans, settings_trans, named_but, settings_but, named_left, settings_left}

-- all that the record names, and the settings
pub record Kept (r : Rec) (w mid : World) : Type 0 where
  pub named : SameNamed r w mid
  pub settings : SameSettings w mid

-- all that is stored
record Stored (w mid : World) : Type 0 where
  pub count : length mid.slots ≡ length w.slots
  pub file : (n : List ℕ) → file_at mid n ≡ file_at w n
  pub touch : (n : List ℕ) → touch_at w n ≡ None → touch_at mid n ≡ None
  pub slot : (n : ℕ) → slot_at mid n ≡ slot_at w n
  pub counter : (sid : ℕ) → record_at mid.gk sid ≡ record_at w.gk sid
  pub device : mid.gk_key ≡ w.gk_key
  pub key : (alias : ℕ) → key_at mid.keys alias ≡ key_at w.keys alias
  pub cell : mid.cell ≡ w.cell

module _ (r : Rec) (w : World) where
  kept_same : Kept r w w
  kept_same = record { named = named_refl r w; settings = settings_refl w }

  kept_is : (mid : World) → mid ≡ w → Kept r w mid
  kept_is mid is = subst (Kept r w) (sym is) kept_same

  kept_stored : (mid : World) → Stored w mid → Kept r w mid
  kept_stored mid same = record {
    named = record {
      count = same.count;
      file = λ name named. same.file (part_name_text name);
      touch = λ name named. same.touch (part_name_text name);
      slot = λ slot named. same.slot slot;
      counter = λ sid named. same.counter sid;
      device = same.device;
      key = λ alias named. same.key alias;
      cell = λ armed is. same.cell;
    };
    settings = record {
      file = λ side. same.file (settings_text side);
      touch = λ side. same.touch (settings_text side);
    };
  }

  kept_but : (mid : World) → SameBut (unnamed w r) w mid → Kept r w mid
  kept_but mid same = record { named = named_but w mid r same; settings = settings_but w mid r same }

  touching : (mid : World) (a : Action) → TouchesOnly (unnamed w r) a → Within w a mid → Kept r w mid
  touching mid a only within = kept_but mid (same_within (unnamed w r) w mid a only within)

  -- ---- what meets what is named, and leaves it as it was

  -- slots, Gatekeeper records and the cell
  abbrev devices : (ℕ → Type 0) → (ℕ → Type 0) → Type 0 → Reach
  devices slots sids cell = record { files = λ n. ⊥; slots = slots; sids = sids; aliases = λ alias. ⊥; cell = cell }

  kept_devices : (slots sids : ℕ → Type 0) (cell : Type 0) (mid : World) → SameBut (devices slots sids cell) w mid
      → ((n : ℕ) → slot_at mid n ≡ slot_at w n) → ((sid : ℕ) → record_at mid.gk sid ≡ record_at w.gk sid) → mid.cell ≡ w.cell → Kept r w mid
  kept_devices slots sids cell mid same slot counter its_cell = kept_stored mid (record {
    count = same.count;
    file = λ n. same.file n (λ reached. reached);
    touch = λ n. still_none _ _ (same.touch n (λ reached. reached));
    slot = slot;
    counter = counter;
    device = ap (λ (v : World). v.gk_key) same.rest;
    key = λ alias. same.key alias (λ reached. reached);
    cell = its_cell;
  })

  -- the one that is met, and each other
  each : (P : ℕ → Type 0) (m : ℕ) → P m → ((n : ℕ) → n ≢ m → P n) → (n : ℕ) → P n
  each P m met other n = by (eqb n m) (numbers_decide n m)
    where
      by : (b : Bool) → MatchBool b (n ≡ m) (n ≢ m) → P n
      by true is = subst P (sym is) met
      by false apart = other n apart

  slot_kept : (mid : World) (slot : ℕ) → SameBut (devices (λ n. n ≡ slot) (λ sid. ⊥) ⊥) w mid → slot_at mid slot ≡ slot_at w slot → Kept r w mid
  slot_kept mid slot same met =
      kept_devices (λ n. n ≡ slot) (λ sid. ⊥) ⊥ mid same (each (λ n. slot_at mid n ≡ slot_at w n) slot met same.slot)
      (λ sid. same.counter sid (λ reached. reached)) (same.cell (λ reached. reached))

  counter_kept : (mid : World) (sid : ℕ) → SameBut (devices (λ n. ⊥) (λ s. s ≡ sid) ⊥) w mid → record_at mid.gk sid ≡ record_at w.gk sid → Kept r w mid
  counter_kept mid sid same met =
      kept_devices (λ n. ⊥) (λ s. s ≡ sid) ⊥ mid same (λ n. same.slot n (λ reached. reached))
      (each (λ s. record_at mid.gk s ≡ record_at w.gk s) sid met same.counter) (same.cell (λ reached. reached))

  read_kept : (mid : World) (slot : ℕ) (key : List ℕ) (moment : ℕ) → slot_at (after w (WeaverRead slot key moment) 0) slot ≡ slot_at w slot
      → DeviceWithin w (WeaverRead slot key moment) mid → Kept r w mid
  read_kept mid slot key moment met within =
      slot_kept mid slot (same_within (devices (λ n. n ≡ slot) (λ sid. ⊥) ⊥) w mid (WeaverRead slot key moment) refl within)
      (⊎_elim (λ is. ap (λ (v : World). slot_at v slot) is) (λ is. ap (λ (v : World). slot_at v slot) is ∙ met) within)

  check_kept : (mid : World) (handle password : List ℕ) (moment : ℕ) → record_at (after w (GkVerify handle password moment) 0).gk (sid_of handle) ≡ record_at w.gk (sid_of handle)
      → DeviceWithin w (GkVerify handle password moment) mid → Kept r w mid
  check_kept mid handle password moment met within =
      let sid = sid_of handle in
      counter_kept mid sid (same_within (devices (λ n. ⊥) (λ s. s ≡ sid) ⊥) w mid (GkVerify handle password moment) refl within)
      (⊎_elim (λ is. ap (λ (v : World). record_at v.gk sid) is) (λ is. ap (λ (v : World). record_at v.gk sid) is ∙ met) within)

  taking_kept : (mid : World) → w.cell ≡ None → DeviceWithin w ResumeTake mid → Kept r w mid
  taking_kept mid empty within =
      let same = same_within (devices (λ n. ⊥) (λ sid. ⊥) (Unit {0})) w mid ResumeTake tt within in
      kept_devices (λ n. ⊥) (λ sid. ⊥) (Unit {0}) mid same (λ n. same.slot n (λ reached. reached)) (λ sid. same.counter sid (λ reached. reached))
      (⊎_elim (λ is. ap (λ (v : World). v.cell) is) (λ is. ap (λ (v : World). v.cell) is ∙ sym empty) within)

  -- what is given or taken beside what is stored
  abbrev beside : List ℕ → List ℕ → List ℕ → List ℕ → World
  beside input said moments noise = record w { input = input; said = said; moments = moments; noise = noise }

  kept_beside : (mid : World) (input said moments noise : List ℕ) → mid ≡ beside input said moments noise → Kept r w mid
  kept_beside mid input said moments noise is = subst (Kept r w) (sym is) (kept_stored (beside input said moments noise) (record {
    count = refl;
    file = λ n. refl;
    touch = λ n none. none;
    slot = λ n. refl;
    counter = λ sid. refl;
    device = refl;
    key = λ alias. refl;
    cell = refl;
  }))

  -- ---- one action

  pub quiet_kept : (mid : World) (a : Action) → IsQuiet w r a → Within w a mid → Kept r w mid
  quiet_kept mid (WeaverRead slot key moment) quiet within =
      ⊎_elim (λ other. touching mid (WeaverRead slot key moment) other within) (λ met. read_kept mid slot key moment met within) quiet
  quiet_kept mid (GkVerify handle password moment) quiet within =
      ⊎_elim (λ other. touching mid (GkVerify handle password moment) other within) (λ met. check_kept mid handle password moment met within) quiet
  quiet_kept mid ResumeTake quiet within =
      ⊎_elim (λ other. touching mid ResumeTake other within) (λ empty. taking_kept mid empty within) quiet
  quiet_kept mid (Hear max) quiet within = kept_beside mid _ _ _ _ within.is
  quiet_kept mid (Say bytes) quiet within = kept_beside mid _ _ _ _ within.is
  quiet_kept mid Now quiet within = ⊎_elim (λ is. kept_is mid is) (λ is. kept_beside mid _ _ _ _ is) within
  quiet_kept mid (Draw len) quiet within = kept_beside mid _ _ _ _ within.is
  quiet_kept mid a quiet within = touching mid a quiet within

  -- only a `Hear` reads the count
  pub done_kept : (a : Action) (count : ℕ) → IsQuiet w r a → Kept r w (after w a count)
  done_kept (Hear max) count quiet = kept_beside _ _ _ _ _ refl
  done_kept a count quiet = quiet_kept (after w a 0) a quiet (whole_within w a)

kept_trans : (r : Rec) (u v w : World) → Kept r u v → Kept r v w → Kept r u w
kept_trans r u v w first second = record {
  named = named_trans u v w r first.named second.named;
  settings = settings_trans u v w first.settings second.settings;
}

-- ---- several

pub plan_kept : (r : Rec) (w : World) (plan : List Action) → AllQuiet w r plan → Kept r w (after_all w plan)
plan_kept r w [] quiet = kept_same r w
plan_kept r w (a ∷ plan) quiet =
    kept_trans r w (after w a 0) (after_all (after w a 0) plan) (done_kept r w a 0 quiet.0) (plan_kept r (after w a 0) plan quiet.1)

pub quiet_joined : (w : World) (r : Rec) (first second : List Action) → AllQuiet w r first → AllQuiet (after_all w first) r second → AllQuiet w r (first ++ second)
quiet_joined w r [] second quiet later = later
quiet_joined w r (a ∷ first) second quiet later = (quiet.0, quiet_joined (after w a 0) r first second quiet.1 later)

-- ---- what stands durably

pub durably_kept : (w mid : World) (s : Settled) (v : Vault) → StandsDurably w s v → Kept s.rec w mid → StandsDurably mid s v
durably_kept w mid s v stands kept = durably_same w mid s v kept.named kept.settings stands

pub durably_left : (w image : World) (s : Settled) (v : Vault) → StandsDurably w s v → Leaves w image → StandsDurably image s v
durably_left w image s v stands left =
    durably_same w image s v (named_left w image s.rec stands.named left) (settings_left w image stands.settings left) stands

module _ (s : Settled) (v : Vault) where
  pub quiet_within : (w mid : World) (a : Action) → StandsDurably w s v → IsQuiet w s.rec a → Within w a mid → StandsDurably mid s v
  quiet_within w mid a stands quiet within = durably_kept w mid s v stands (quiet_kept s.rec w mid a quiet within)

  pub quiet_done : (w : World) (a : Action) (count : ℕ) → StandsDurably w s v → IsQuiet w s.rec a → StandsDurably (after w a count) s v
  quiet_done w a count stands quiet = durably_kept w (after w a count) s v stands (done_kept s.rec w a count quiet)

  pub quiet_cut : (w image : World) (a : Action) → StandsDurably w s v → IsQuiet w s.rec a → LeavesWithin w a image → StandsDurably image s v
  quiet_cut w image a stands quiet left = durably_left left.0 image s v (quiet_within w left.0 a stands quiet left.1) left.2

  pub quiet_cut_call : (w image : World) (a : Action) → StandsDurably w s v → IsQuiet w s.rec a → LeavesWithinCall w (changing a) image → StandsDurably image s v
  quiet_cut_call w image a stands quiet left = quiet_cut w image a stands quiet (within_call w a image left)

  pub plan_done : (w : World) (plan : List Action) → StandsDurably w s v → AllQuiet w s.rec plan → StandsDurably (after_all w plan) s v
  plan_done w plan stands quiet = durably_kept w (after_all w plan) s v stands (plan_kept s.rec w plan quiet)

  pub plan_failed : (w mid : World) (plan : List Action) (n : ℕ) (a : Action) → StandsDurably w s v → AllQuiet w s.rec plan
      → slice_get plan n ≡ Some a → Within (after_all w (take n plan)) a mid → StandsDurably mid s v
  plan_failed w mid [] n a stands quiet is within = absurd (cc)
  plan_failed w mid (b ∷ plan) zero a stands quiet is within =
      let same : b ≡ a = ap (λ o. unwrap_or o b) is in
      quiet_within w mid a stands (subst (IsQuiet w s.rec) same quiet.0) within
  plan_failed w mid (b ∷ plan) (suc n) a stands quiet is within =
      plan_failed (after w b 0) mid plan n a (quiet_done w b 0 stands quiet.0) quiet.1 is within

  pub plan_cut : (w image : World) (plan : List Action) → StandsDurably w s v → AllQuiet w s.rec plan → PlanImage w plan image → StandsDurably image s v
  plan_cut w image [] stands quiet left = durably_left w image s v stands left
  plan_cut w image (a ∷ plan) stands quiet (inl left) = durably_left w image s v stands left
  plan_cut w image (a ∷ plan) stands quiet (inr (inl within)) = quiet_cut w image a stands quiet.0 within
  plan_cut w image (a ∷ plan) stands quiet (inr (inr later)) = plan_cut (after w a 0) image plan (quiet_done w a 0 stands quiet.0) quiet.1 later
