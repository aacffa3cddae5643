-- What actions on some files and device parts leave of all else.
use Rattle.std.proofs.Common.{◌≡◌, ◌≢◌, inl, inr, ⊎_elim, ℕ, Bool, List, [], ◌∷◌, length-set, get_or, get_or-set_other, Option, None, Some, refl, sym, ◌∙◌, ap, subst}
use Rattle.std.specs.Ordering.{nat_cmp}
use Rattle.std.specs.FinMap.Entries.{find}
use Rattle.std.specs.Prelude.{slice_set}
use Rattle.std.proofs.lemmas.Cmp.{nat_cmp_total}
use Rattle.std.proofs.lemmas.Map.Lookups.{exact_unsigned}
use Rattle.ls_weaver.specs.declared.slot.Slot.{Slot}
use Rattle.ls_weaver.specs.Slots.{blank_slot}
use Rattle.ls_board.specs.declared.action.Action.{Action}
use Rattle.ls_board.specs.declared.action.Action.TheVariants.{List as ListNames, Read, Make, Put, Poke, Remove, Sync, WeaverWrite, WeaverRead, GkSign, GkEnroll, GkVerify, GkForget, GkList, KeyPut, KeyOpen, KeyDrop, KeyList, ResumeStore, ResumeTake, Hear, Say, Now, Draw}
use Rattle.ls_board.specs.declared.devices.Counter.{Counter}
use Rattle.ls_board.specs.declared.touch.Touch.{Touch}
use Rattle.ls_board.specs.declared.world.World.{World}
use Rattle.ls_board.specs.Gatekeeper.{no_fails, sid_of, record_at, counter_of, counter_after, with_counter}
use Rattle.ls_board.specs.Keys.{key_at}
use Rattle.ls_board.specs.Effect.{Mark, file_at, touch_at, slot_at, marked, make_mark, put_mark, poke_mark, remove_mark, after}
use Rattle.ls_board.specs.Images.{MayHold, SyncWithin, DeviceWithin, Within}
use Rattle.ls_board.specs.Reach.{Reach, TouchesOnly, AllTouchOnly, SameBut, LeavesBut}
use Rattle.ls_board.specs.Runs.{after_all, PlanImage}
use Rattle.ls_board.proofs.StepLemmas.{whole_within, holds_same}
use Rattle.ls_board.proofs.LookupLemmas.{put_other, without_other}
use Rattle.ls_board.proofs.FileLemmas.{file_marked_other, touch_marked_other}
use Rattle.ls_board.proofs.CrashLemmas.{still_there}

verified_other : (records : List (ℕ × Counter)) (sid other : ℕ) (right : Bool) (moment : ℕ) (counter : Option Counter) → other ≢ sid
    → find nat_cmp other (with_counter records sid right moment counter) ≡ find nat_cmp other records
verified_other records sid other right moment None apart = refl
verified_other records sid other right moment (Some c) apart = put_other nat_cmp nat_cmp_total exact_unsigned records sid other (counter_after c right moment) apart

module _ (reach : Reach) where
  pub same_refl : (w : World) → SameBut reach w w
  same_refl w = record {
    rest = refl;
    file = λ n other. refl;
    touch = λ n other. inl refl;
    count = refl;
    slot = λ n other. refl;
    counter = λ n other. refl;
    key = λ n other. refl;
    cell = λ other. refl;
  }

  pub same_trans : (u v w : World) → SameBut reach u v → SameBut reach v w → SameBut reach u w
  same_trans u v w first second = record {
    rest = second.rest ∙ ap (λ (x : World). record x { files = w.files; touched = w.touched; slots = w.slots; gk = w.gk; keys = w.keys; cell = w.cell }) first.rest;
    file = λ n other. second.file n other ∙ first.file n other;
    touch = λ n other. ⊎_elim (λ same. ⊎_elim (λ was. inl (same ∙ was)) (λ none. inr (same ∙ none)) (first.touch n other)) (λ none. inr none) (second.touch n other);
    count = second.count ∙ first.count;
    slot = λ n other. second.slot n other ∙ first.slot n other;
    counter = λ n other. second.counter n other ∙ first.counter n other;
    key = λ n other. second.key n other ∙ first.key n other;
    cell = λ other. second.cell other ∙ first.cell other;
  }

  -- ---- one action

  mark_same : (w : World) (m : Mark) → reach.files m.name → SameBut reach w (marked w m)
  mark_same w m only = record {
    rest = refl;
    file = λ n other. file_marked_other w m n (λ is. other (subst reach.files (sym is) only));
    touch = λ n other. inl (touch_marked_other w m n (λ is. other (subst reach.files (sym is) only)));
    count = refl;
    slot = λ n other. refl;
    counter = λ n other. refl;
    key = λ n other. refl;
    cell = λ other. refl;
  }

  sync_same : (w mid : World) → SyncWithin w mid → SameBut reach w mid
  sync_same w mid within = subst (SameBut reach w) (sym within.is) (record {
    rest = refl;
    file = λ n other. refl;
    touch = λ n other. still_there w.touched within.still n;
    count = refl;
    slot = λ n other. refl;
    counter = λ n other. refl;
    key = λ n other. refl;
    cell = λ other. refl;
  })

  slot_same : (w : World) (slot : ℕ) (s : Slot) → reach.slots slot → SameBut reach w (record w { slots = slice_set w.slots slot s })
  slot_same w slot s only = record {
    rest = refl;
    file = λ n other. refl;
    touch = λ n other. inl refl;
    count = length-set w.slots slot s;
    slot = λ n other. get_or-set_other w.slots slot n s blank_slot (λ is. other (subst reach.slots (sym is) only));
    counter = λ n other. refl;
    key = λ n other. refl;
    cell = λ other. refl;
  }

  counter_same : (w : World) (sid : ℕ) (records : List (ℕ × Counter)) → reach.sids sid
      → ((n : ℕ) → n ≢ sid → find nat_cmp n records ≡ find nat_cmp n w.gk) → SameBut reach w (record w { gk = records })
  counter_same w sid records only others = record {
    rest = refl;
    file = λ n other. refl;
    touch = λ n other. inl refl;
    count = refl;
    slot = λ n other. refl;
    counter = λ n other. others n (λ is. other (subst reach.sids (sym is) only));
    key = λ n other. refl;
    cell = λ other. refl;
  }

  key_same : (w : World) (alias : ℕ) (keys : List (ℕ × List ℕ)) → reach.aliases alias
      → ((n : ℕ) → n ≢ alias → find nat_cmp n keys ≡ find nat_cmp n w.keys) → SameBut reach w (record w { keys = keys })
  key_same w alias keys only others = record {
    rest = refl;
    file = λ n other. refl;
    touch = λ n other. inl refl;
    count = refl;
    slot = λ n other. refl;
    counter = λ n other. refl;
    key = λ n other. others n (λ is. other (subst reach.aliases (sym is) only));
    cell = λ other. refl;
  }

  cell_same : (w : World) (cell : Option (List ℕ)) → reach.cell → SameBut reach w (record w { cell = cell })
  cell_same w cell only = record {
    rest = refl;
    file = λ n other. refl;
    touch = λ n other. inl refl;
    count = refl;
    slot = λ n other. refl;
    counter = λ n other. refl;
    key = λ n other. refl;
    cell = λ other. absurd (other only);
  }

  device_same : (w : World) (a : Action) (mid : World) → SameBut reach w (after w a 0) → DeviceWithin w a mid → SameBut reach w mid
  device_same w a mid same within = ⊎_elim (λ is. subst (SameBut reach w) (sym is) (same_refl w)) (λ is. subst (SameBut reach w) (sym is) same) within

  pub same_within : (w mid : World) (a : Action) → TouchesOnly reach a → Within w a mid → SameBut reach w mid
  same_within w mid ListNames only within = subst (SameBut reach w) (sym within) (same_refl w)
  same_within w mid (Read n) only within = subst (SameBut reach w) (sym within) (same_refl w)
  same_within w mid (Make n len) only within = subst (SameBut reach w) (sym within.is) (mark_same w (record (make_mark w n len) { content = within.content }) only)
  same_within w mid (Put n bytes) only within = subst (SameBut reach w) (sym within.is) (mark_same w (record (put_mark w n bytes) { content = within.content }) only)
  same_within w mid (Poke n at bytes) only within = subst (SameBut reach w) (sym within.is) (mark_same w (record (poke_mark w n at bytes) { content = within.content }) only)
  same_within w mid (Remove n) only within = subst (SameBut reach w) (sym within.is) (mark_same w (record (remove_mark w n) { content = within.content }) only)
  same_within w mid Sync only within = sync_same w mid within
  same_within w mid (WeaverWrite slot key value) only within = device_same w (WeaverWrite slot key value) mid (slot_same w slot _ only) within
  same_within w mid (WeaverRead slot key moment) only within = device_same w (WeaverRead slot key moment) mid (slot_same w slot _ only) within
  same_within w mid (GkSign sid salt password) only within = subst (SameBut reach w) (sym within) (same_refl w)
  same_within w mid (GkEnroll sid) only within = device_same w (GkEnroll sid) mid (counter_same w sid _ only (λ s other. put_other nat_cmp nat_cmp_total exact_unsigned w.gk sid s no_fails other)) within
  same_within w mid (GkVerify handle password moment) only within = device_same w (GkVerify handle password moment) mid (counter_same w (sid_of handle) _ only (λ s other. verified_other w.gk (sid_of handle) s _ moment (counter_of w.gk handle) other)) within
  same_within w mid (GkForget sid) only within = device_same w (GkForget sid) mid (counter_same w sid _ only (λ s other. without_other nat_cmp nat_cmp_total exact_unsigned w.gk sid s other)) within
  same_within w mid GkList only within = subst (SameBut reach w) (sym within) (same_refl w)
  same_within w mid (KeyPut alias key) only within = device_same w (KeyPut alias key) mid (key_same w alias _ only (λ a other. put_other nat_cmp nat_cmp_total exact_unsigned w.keys alias a key other)) within
  same_within w mid (KeyOpen alias bytes) only within = subst (SameBut reach w) (sym within) (same_refl w)
  same_within w mid (KeyDrop alias) only within = device_same w (KeyDrop alias) mid (key_same w alias _ only (λ a other. without_other nat_cmp nat_cmp_total exact_unsigned w.keys alias a other)) within
  same_within w mid KeyList only within = subst (SameBut reach w) (sym within) (same_refl w)
  same_within w mid (ResumeStore key) only within = device_same w (ResumeStore key) mid (cell_same w _ only) within
  same_within w mid ResumeTake only within = device_same w ResumeTake mid (cell_same w _ only) within
  same_within w mid (Hear max) only within = absurd only
  same_within w mid (Say bytes) only within = absurd only
  same_within w mid Now only within = absurd only
  same_within w mid (Draw len) only within = absurd only

  -- ---- a plan

  -- an image of what is the same is one but for what is reached
  plan_from : (u w : World) (plan : List Action) (image : World) → SameBut reach u w → AllTouchOnly reach plan → PlanImage w plan image → LeavesBut reach u image
  plan_from u w [] image same only left = (w, same, left)
  plan_from u w (a ∷ plan) image same only (inl left) = (w, same, left)
  plan_from u w (a ∷ plan) image same only (inr (inl within)) = (within.0, same_trans u w within.0 same (same_within w within.0 a only.0 within.1), within.2)
  plan_from u w (a ∷ plan) image same only (inr (inr later)) =
      plan_from u (after w a 0) plan image (same_trans u w (after w a 0) same (same_within w (after w a 0) a only.0 (whole_within w a))) only.1 later

  -- what a crash within a plan leaves alone
  pub plan_but : (w : World) (plan : List Action) (image : World) → AllTouchOnly reach plan → PlanImage w plan image → LeavesBut reach w image
  plan_but w plan image only left = plan_from w w plan image (same_refl w) only left

  -- what a plan leaves alone
  pub plan_same : (w : World) (plan : List Action) → AllTouchOnly reach plan → SameBut reach w (after_all w plan)
  plan_same w [] only = same_refl w
  plan_same w (a ∷ plan) only = same_trans w (after w a 0) _ (same_within w (after w a 0) a only.0 (whole_within w a)) (plan_same (after w a 0) plan only.1)

  -- ---- an image, but for what is reached

  pub left_file : (w image : World) (n : List ℕ) → ¬ (reach.files n) → LeavesBut reach w image → MayHold (touch_at w n) (file_at w n) (file_at image n)
  left_file w image n other left =
      let v = left.0 in
      let same = left.1 in
      let held = subst (λ (c : Option (List ℕ)). MayHold (touch_at v n) c (file_at image n)) (same.file n other) (left.2.each n) in
      ⊎_elim (λ was. subst (λ (t : Option Touch). MayHold t (file_at w n) (file_at image n)) was held)
      (λ none. subst (MayHold (touch_at w n) (file_at w n)) (sym (subst (λ (t : Option Touch). MayHold t (file_at w n) (file_at image n)) none held)) (holds_same (touch_at w n) (file_at w n)))
      (same.touch n other)

  -- a file that isn't touched is as it was
  pub left_untouched : (w image : World) (n : List ℕ) → ¬ (reach.files n) → touch_at w n ≡ None → LeavesBut reach w image → file_at image n ≡ file_at w n
  left_untouched w image n other none left = subst (λ (t : Option Touch). MayHold t (file_at w n) (file_at image n)) none (left_file w image n other left)

  pub left_slot : (w image : World) (slot : ℕ) → ¬ (reach.slots slot) → LeavesBut reach w image → slot_at image slot ≡ slot_at w slot
  left_slot w image slot other left = ap (λ (v : World). get_or v.slots slot blank_slot) left.2.rest ∙ left.1.slot slot other

  pub left_counter : (w image : World) (sid : ℕ) → ¬ (reach.sids sid) → LeavesBut reach w image → record_at image.gk sid ≡ record_at w.gk sid
  left_counter w image sid other left = ap (λ (v : World). find nat_cmp sid v.gk) left.2.rest ∙ left.1.counter sid other

  pub left_key : (w image : World) (alias : ℕ) → ¬ (reach.aliases alias) → LeavesBut reach w image → key_at image.keys alias ≡ key_at w.keys alias
  left_key w image alias other left = ap (λ (v : World). find nat_cmp alias v.keys) left.2.rest ∙ left.1.key alias other

  pub left_cell : (w image : World) → ¬ reach.cell → LeavesBut reach w image → image.cell ≡ w.cell
  left_cell w image other left = ap (λ (v : World). v.cell) left.2.rest ∙ left.1.cell other
