-- What actions and crashes leave of one file.
use Rattle.std.proofs.Common.{◌≡◌, ◌≢◌, ◌⊎◌, inl, inr, ⊎_elim, ℕ, List, [], ◌∷◌, Option, None, Some, refl, sym, ◌∙◌, ap, subst, true, false, Bool, cond}
use Rattle.std.specs.FinMap.Entries.{find, where_key, find-where_key}
use Rattle.std.proofs.lemmas.Map.Lookups.{exact_bytes}
use Rattle.ls_board.specs.declared.action.Action.{Action}
use Rattle.ls_board.specs.declared.action.Action.TheVariants.{List as ListNames, Read, Make, Put, Poke, Remove, Sync, WeaverWrite, WeaverRead, GkSign, GkEnroll, GkVerify, GkForget, GkList, KeyPut, KeyOpen, KeyDrop, KeyList, ResumeStore, ResumeTake, Hear, Say, Now, Draw}
use Rattle.ls_board.specs.declared.touch.Touch.{Touch}
use Rattle.ls_board.specs.declared.touch.Touch.TheVariants.{Poked}
use Rattle.ls_board.specs.declared.touch.Span.{Span}
use Rattle.ls_board.specs.declared.world.World.{World}
use Rattle.ls_board.specs.Order.{byte_cmp}
use Rattle.ls_board.specs.Effect.{Mark, file_at, touch_at, marked, poke_mark, poked_content, poked_touch, span_of, after}
use Rattle.ls_board.specs.Images.{PokedFrom, MayHold, Leaves, MarkWithin, SyncWithin, Within, DeviceWithin, LeavesWithin}
use Rattle.ls_board.specs.Planned.{file_of}
use Rattle.ls_board.proofs.StepLemmas.{holds_same}
use Rattle.ls_board.proofs.FileLemmas.{file_marked_same, file_marked_other, touch_marked_same, touch_marked_other}

-- ---- a file that an action doesn't change

-- it reads as before, and is touched as before or no longer
pub record Spared (w mid : World) (n : List ℕ) : Type 0 where
  pub file : file_at mid n ≡ file_at w n
  pub touch : (touch_at mid n ≡ touch_at w n) ⊎ (touch_at mid n ≡ None)

same_files : (w mid new : World) (n : List ℕ) → mid ≡ new → file_at new n ≡ file_at w n → touch_at new n ≡ touch_at w n → Spared w mid n
same_files w mid new n is file touch = record {
  file = ap (λ (v : World). file_at v n) is ∙ file;
  touch = inl (ap (λ (v : World). touch_at v n) is ∙ touch);
}

other_mark : (w mid : World) (m : Mark) (n : List ℕ) → Some m.name ≢ Some n → MarkWithin w m mid → Spared w mid n
other_mark w mid m n apart within =
    let v = record m { content = within.content } in
    let other : n ≢ m.name = λ is. apart (ap (λ (name : List ℕ). Some name) (sym is)) in
    same_files w mid (marked w v) n within.is (file_marked_other w v n other) (touch_marked_other w v n other)

-- of the rows that are still there, one is the same, or gone
pub still_there : (rows : List (List ℕ × Touch)) (still : List ℕ → Bool) (n : List ℕ)
    → (find byte_cmp n (where_key byte_cmp still rows) ≡ find byte_cmp n rows) ⊎ (find byte_cmp n (where_key byte_cmp still rows) ≡ None)
still_there rows still n =
    let found = find-where_key byte_cmp still n (λ x e. ap still (sym (exact_bytes n x e))) rows in
    elim (still n) as (λ b. find byte_cmp n (where_key byte_cmp still rows) ≡ cond b (find byte_cmp n rows) None
    → (find byte_cmp n (where_key byte_cmp still rows) ≡ find byte_cmp n rows) ⊎ (find byte_cmp n (where_key byte_cmp still rows) ≡ None)) [
      | true ↦ λ is. inl is
      | false ↦ λ is. inr is
    ] found

sync_spares : (w mid : World) (n : List ℕ) → SyncWithin w mid → Spared w mid n
sync_spares w mid n within = record {
  file = ap (λ (v : World). file_at v n) within.is;
  touch =
      let is = ap (λ (v : World). touch_at v n) within.is in
      ⊎_elim (λ same. inl (is ∙ same)) (λ gone. inr (is ∙ gone)) (still_there w.touched within.still n);
}

-- a device's action changes no file
device_spares : (w mid : World) (a : Action) (n : List ℕ) → file_at (after w a 0) n ≡ file_at w n → touch_at (after w a 0) n ≡ touch_at w n → DeviceWithin w a mid → Spared w mid n
device_spares w mid a n file touch within = ⊎_elim (λ is. same_files w mid w n is refl refl) (λ is. same_files w mid (after w a 0) n is file touch) within

pub spared : (w mid : World) (a : Action) (n : List ℕ) → file_of a ≢ Some n → Within w a mid → Spared w mid n
spared w mid ListNames n apart within = same_files w mid w n within refl refl
spared w mid (Read m) n apart within = same_files w mid w n within refl refl
spared w mid (Make m len) n apart within = other_mark w mid _ n apart within
spared w mid (Put m bytes) n apart within = other_mark w mid _ n apart within
spared w mid (Poke m at bytes) n apart within = other_mark w mid _ n apart within
spared w mid (Remove m) n apart within = other_mark w mid _ n apart within
spared w mid Sync n apart within = sync_spares w mid n within
spared w mid (WeaverWrite slot key value) n apart within = device_spares w mid (WeaverWrite slot key value) n refl refl within
spared w mid (WeaverRead slot key moment) n apart within = device_spares w mid (WeaverRead slot key moment) n refl refl within
spared w mid (GkSign sid salt password) n apart within = same_files w mid w n within refl refl
spared w mid (GkEnroll sid) n apart within = device_spares w mid (GkEnroll sid) n refl refl within
spared w mid (GkVerify handle password moment) n apart within = device_spares w mid (GkVerify handle password moment) n refl refl within
spared w mid (GkForget sid) n apart within = device_spares w mid (GkForget sid) n refl refl within
spared w mid GkList n apart within = same_files w mid w n within refl refl
spared w mid (KeyPut alias key) n apart within = device_spares w mid (KeyPut alias key) n refl refl within
spared w mid (KeyOpen alias bytes) n apart within = same_files w mid w n within refl refl
spared w mid (KeyDrop alias) n apart within = device_spares w mid (KeyDrop alias) n refl refl within
spared w mid KeyList n apart within = same_files w mid w n within refl refl
spared w mid (ResumeStore key) n apart within = device_spares w mid (ResumeStore key) n refl refl within
spared w mid ResumeTake n apart within = device_spares w mid ResumeTake n refl refl within
spared w mid (Hear max) n apart within = same_files w mid _ n within.is refl refl
spared w mid (Say bytes) n apart within = same_files w mid _ n within.is refl refl
spared w mid Now n apart within = device_spares w mid Now n refl refl within
spared w mid (Draw len) n apart within = same_files w mid _ n within.is refl refl

-- a file that isn't touched is in each image as it reads
pub untouched : (w image : World) (n : List ℕ) → touch_at w n ≡ None → Leaves w image → file_at image n ≡ file_at w n
untouched w image n none left = subst (λ (t : Option Touch). MayHold t (file_at w n) (file_at image n)) none (left.each n)

-- and stays so within an action that doesn't change it
pub untouched_within : (w image : World) (a : Action) (n : List ℕ) → file_of a ≢ Some n → touch_at w n ≡ None → LeavesWithin w a image → file_at image n ≡ file_at w n
untouched_within w image a n apart none within =
    let s = spared w within.0 a n apart within.1 in
    untouched within.0 image n (⊎_elim (λ same. same ∙ none) (λ gone. gone) s.touch) within.2 ∙ s.file

-- ---- a file that is poked, and synced

pub poked_trans : (spans : List Span) (a b c : Option (List ℕ)) → PokedFrom spans a b → PokedFrom spans b c → PokedFrom spans a c
poked_trans spans None None None p q = tt
poked_trans spans (Some a) (Some b) (Some c) p q = record { long = q.long ∙ p.long; kept = λ i out. q.kept i out ∙ p.kept i out }
poked_trans spans None None (Some c) p q = absurd q
poked_trans spans None (Some b) c p q = absurd p
poked_trans spans (Some a) None c p q = absurd p
poked_trans spans (Some a) (Some b) None p q = absurd q

-- a poke that a crash cuts short leaves a file that was only poked in its range
pub poke_images : (w image : World) (n : List ℕ) (at : ℕ) (bytes : List ℕ) → touch_at w n ≡ None → LeavesWithin w (Poke n at bytes) image
    → PokedFrom (span_of at bytes ∷ []) (poked_content (file_at w n) at bytes) (file_at image n)
poke_images w image n at bytes none within =
    let m = record (poke_mark w n at bytes) { content = within.1.content } in
    let span = span_of at bytes in
    let touch : touch_at within.0 n ≡ Some (Poked (span ∷ [])) = ap (λ (v : World). touch_at v n) within.1.is ∙ touch_marked_same w m ∙ ap (λ (t : Option Touch). Some (poked_touch t span)) none in
    let file : file_at within.0 n ≡ within.1.content = ap (λ (v : World). file_at v n) within.1.is ∙ file_marked_same w m in
    let held = subst (λ (t : Option Touch). MayHold t (file_at within.0 n) (file_at image n)) touch (within.2.each n) in
    poked_trans (span ∷ []) (poked_content (file_at w n) at bytes) within.1.content (file_at image n) within.1.holds
    (subst (λ (c : Option (List ℕ)). PokedFrom (span ∷ []) c (file_at image n)) file held)

pub poked_file : (w : World) (n : List ℕ) (at : ℕ) (bytes : List ℕ) → file_at (after w (Poke n at bytes) 0) n ≡ poked_content (file_at w n) at bytes
poked_file w n at bytes = file_marked_same w (poke_mark w n at bytes)

pub poked_touched : (w : World) (n : List ℕ) (at : ℕ) (bytes : List ℕ) → touch_at w n ≡ None → touch_at (after w (Poke n at bytes) 0) n ≡ Some (Poked (span_of at bytes ∷ []))
poked_touched w n at bytes none = touch_marked_same w (poke_mark w n at bytes) ∙ ap (λ (t : Option Touch). Some (poked_touch t (span_of at bytes))) none

-- a sync that a crash cuts short leaves what there could be before it
pub sync_images : (w image : World) (n : List ℕ) → LeavesWithin w Sync image → MayHold (touch_at w n) (file_at w n) (file_at image n)
sync_images w image n within =
    let s = sync_spares w within.0 n within.1 in
    let held = subst (λ (c : Option (List ℕ)). MayHold (touch_at within.0 n) c (file_at image n)) s.file (within.2.each n) in
    ⊎_elim (λ same. subst (λ (t : Option Touch). MayHold t (file_at w n) (file_at image n)) same held)
    (λ gone. same_held (touch_at w n) (file_at w n) (file_at image n) (subst (λ (t : Option Touch). MayHold t (file_at w n) (file_at image n)) gone held)) s.touch
  where
    same_held : (t : Option Touch) (now image : Option (List ℕ)) → image ≡ now → MayHold t now image
    same_held t now image is = subst (λ (c : Option (List ℕ)). MayHold t now c) (sym is) (holds_same t now)
