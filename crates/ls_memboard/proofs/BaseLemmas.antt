-- What a file held at the last sync is what a crash may leave of it.
use Rattle.std.proofs.Common.{◌≡◌, ◌≢◌, ◌⊎◌, inl, inr, ◌+◌, ◌≤◌, ℕ, zero, suc, Bool, true, false, cond, List, [], ◌∷◌, length, take, Option, None, Some, refl, sym, ◌∙◌, ap, subst, leb-true}
use Rattle.std.specs.Prelude.{◌&&◌, IsSomeAnd}
use Rattle.std.specs.Ordering.{eq_by_cmp}
use Rattle.std.specs.FinMap.Entries.{find}
use Rattle.std.proofs.lemmas.Map.Lookups.{exact_bytes}
use Rattle.std.proofs.lemmas.Cmp.{nat_list_cmp_total}
use Rattle.ls_board.specs.declared.action.Action.{Action}
use Rattle.ls_board.specs.declared.action.Action.TheVariants.{List as ListNames, Read, Make, Put, Poke, Remove, Sync, WeaverWrite, WeaverRead, GkSign, GkEnroll, GkVerify, GkForget, GkList, KeyPut, KeyOpen, KeyDrop, KeyList, ResumeStore, ResumeTake, Hear, Say, Now, Draw}
use Rattle.ls_board.specs.declared.touch.Touch.{Touch}
use Rattle.ls_board.specs.declared.touch.Touch.TheVariants.{Poked, Made, Other}
use Rattle.ls_board.specs.declared.touch.Span.{Span}
use Rattle.ls_board.specs.declared.world.World.{World}
use Rattle.ls_board.specs.Order.{byte_cmp}
use Rattle.ls_board.specs.Effect.{Mark, file_at, touch_at, after, marked, make_mark, put_mark, poke_mark, remove_mark, poked_touch, made_touch}
use Rattle.ls_board.specs.Images.{PokedFrom, MayHold}
use Rattle.ls_board.proofs.StepLemmas.{poked_same}
use Rattle.ls_board.proofs.LookupLemmas.{same_key}
use Rattle.ls_board.proofs.FileLemmas.{equal, file_marked_same, file_marked_other, touch_marked_same, touch_marked_other}
use Rattle.ls_memboard.specs.declared.call.Entry.{Entry}
use Rattle.ls_memboard.specs.Calls.{call_of}
use Rattle.ls_memboard.specs.Cuts.{is_sync, has_no_row, synced_after, held}
use Rattle.ls_memboard.specs.Synced.{synced_of}
use Rattle.ls_memboard.specs.Replay.{is_in_file, fits, call_fits, all_fit, touched_by, after_call, after_entry, replay}
use Rattle.ls_memboard.proofs.PokeLemmas.{poked_from}

-- How a file on the disk stands to the file as it reads. One that was only made was before as its
-- row keeps it, where there was a sync.
abbrev HoldsBase : Bool → Option Touch → Option (List ℕ) → Option (List ℕ) → Type 0
HoldsBase s None now base = base ≡ now
HoldsBase s (Some (Poked spans)) now base = PokedFrom spans now base
HoldsBase s (Some (Made before)) now base = s ≡ true → base ≡ before
HoldsBase s (Some Other) now base = Unit {0}

abbrev IsBase : Bool → (List ℕ → Option (List ℕ)) → World → Type 0
IsBase s base w = (n : List ℕ) → HoldsBase s (touch_at w n) (file_at w n) (base n)

cases_name : (n m : List ℕ) → (n ≡ m) ⊎ (n ≢ m)
cases_name n m = elim (eq_by_cmp byte_cmp n m) as (λ b. eq_by_cmp byte_cmp n m ≡ b → (n ≡ m) ⊎ (n ≢ m)) [
  | true ↦ λ e. inl (exact_bytes n m (equal (byte_cmp n m) e))
  | false ↦ λ e. inr (λ is. let no : true ≡ false = sym (same_key byte_cmp nat_list_cmp_total n) ∙ ap (eq_by_cmp byte_cmp n) is ∙ e in absurd (cc))
] refl

-- a mark keeps the base where it does at its own file
mark_base : (s : Bool) (base : List ℕ → Option (List ℕ)) (w : World) (m : Mark) → IsBase s base w
    → (HoldsBase s (touch_at w m.name) (file_at w m.name) (base m.name) → HoldsBase s (Some m.touch) m.content (base m.name)) → IsBase s base (marked w m)
mark_base s base w m is own n = elim (cases_name n m.name) as (λ _. HoldsBase s (touch_at (marked w m) n) (file_at (marked w m) n) (base n)) [
  | inl same ↦
      subst (λ (k : List ℕ). HoldsBase s (touch_at (marked w m) k) (file_at (marked w m) k) (base k)) (sym same)
      (subst (λ (t : Option Touch). HoldsBase s t (file_at (marked w m) m.name) (base m.name)) (sym (touch_marked_same w m))
      (subst (λ (c : Option (List ℕ)). HoldsBase s (Some m.touch) c (base m.name)) (sym (file_marked_same w m)) (own (is m.name))))
  | inr apart ↦
      subst (λ (t : Option Touch). HoldsBase s t (file_at (marked w m) n) (base n)) (sym (touch_marked_other w m n apart))
      (subst (λ (c : Option (List ℕ)). HoldsBase s (touch_at w n) c (base n)) (sym (file_marked_other w m n apart)) (is n))
]

-- and so does a touch without effect
touched_base : (s : Bool) (base : List ℕ → Option (List ℕ)) (w : World) (m : Mark) → IsBase s base w
    → (HoldsBase s (touch_at w m.name) (file_at w m.name) (base m.name) → HoldsBase s (Some m.touch) (file_at w m.name) (base m.name)) → IsBase s base (touched_by w (Some m))
touched_base s base w m is own n = elim (cases_name n m.name) as (λ _. HoldsBase s (touch_at (touched_by w (Some m)) n) (file_at w n) (base n)) [
  | inl same ↦
      subst (λ (k : List ℕ). HoldsBase s (touch_at (touched_by w (Some m)) k) (file_at w k) (base k)) (sym same)
      (subst (λ (t : Option Touch). HoldsBase s t (file_at w m.name) (base m.name)) (sym (touch_marked_same w m)) (own (is m.name)))
  | inr apart ↦ subst (λ (t : Option Touch). HoldsBase s t (file_at w n) (base n)) (sym (touch_marked_other w m n apart)) (is n)
]

made_base : (s : Bool) (t : Option Touch) (now content base : Option (List ℕ)) → HoldsBase s t now base → HoldsBase s (Some (made_touch t now)) content base
made_base s None now content base is = λ synced. is
made_base s (Some (Made before)) now content base is = is
made_base s (Some (Poked spans)) now content base is = tt
made_base s (Some Other) now content base is = tt

-- outside one range more
poked_more : (spans : List Span) (span : Span) (now content base : Option (List ℕ)) → PokedFrom (span ∷ []) content now → PokedFrom spans now base → PokedFrom (span ∷ spans) content base
poked_more spans span None None None one was = tt
poked_more spans span (Some now) (Some content) (Some base) one was = record {
  long = was.long ∙ one.long;
  kept = λ i out. was.kept i out.1 ∙ one.kept i (out.0, tt);
}
poked_more spans span None None (Some base) one was = absurd was
poked_more spans span None (Some content) base one was = absurd one
poked_more spans span (Some now) None base one was = absurd one
poked_more spans span (Some now) (Some content) None one was = absurd was

poked_base : (s : Bool) (t : Option Touch) (span : Span) (now content base : Option (List ℕ)) → PokedFrom (span ∷ []) content now → HoldsBase s t now base → HoldsBase s (Some (poked_touch t span)) content base
poked_base s None span now content base one is = subst (PokedFrom (span ∷ []) content) (sym is) one
poked_base s (Some (Poked spans)) span now content base one is = poked_more spans span now content base one is
poked_base s (Some (Made before)) span now content base one is = tt
poked_base s (Some Other) span now content base one is = tt

file_in : (file : Option (List ℕ)) (at : ℕ) (bytes : List ℕ) → is_in_file file at bytes ≡ true → IsSomeAnd file (λ old. at + length bytes ≤ length old)
file_in None at bytes is = absurd (cc)
file_in (Some old) at bytes is = leb-true _ _ is

base_whole : (s : Bool) (base : List ℕ → Option (List ℕ)) (w : World) (a : Action) (count : ℕ) → IsBase s base w → fits w a ≡ true → is_sync (Some a) ≡ false → IsBase s base (after w a count)
base_whole s base w ListNames count base_is fits not_sync = base_is
base_whole s base w (Read n) count base_is fits not_sync = base_is
base_whole s base w (Make n len) count base_is fits not_sync = mark_base s base w (make_mark w n len) base_is (made_base s (touch_at w n) (file_at w n) _ _)
base_whole s base w (Put n bytes) count base_is fits not_sync = mark_base s base w (put_mark w n bytes) base_is (λ _. tt)
base_whole s base w (Poke n at bytes) count base_is fits not_sync = mark_base s base w (poke_mark w n at bytes) base_is (poked_base s (touch_at w n) _ (file_at w n) _ _ (poked_from (file_at w n) at bytes (file_in (file_at w n) at bytes fits)))
base_whole s base w (Remove n) count base_is fits not_sync = mark_base s base w (remove_mark w n) base_is (λ _. tt)
base_whole s base w Sync count base_is fits not_sync = absurd (let no : true ≡ false = not_sync in cc)
base_whole s base w (WeaverWrite slot key value) count base_is fits not_sync = base_is
base_whole s base w (WeaverRead slot key moment) count base_is fits not_sync = base_is
base_whole s base w (GkSign sid salt password) count base_is fits not_sync = base_is
base_whole s base w (GkEnroll sid) count base_is fits not_sync = base_is
base_whole s base w (GkVerify handle password moment) count base_is fits not_sync = base_is
base_whole s base w (GkForget sid) count base_is fits not_sync = base_is
base_whole s base w GkList count base_is fits not_sync = base_is
base_whole s base w (KeyPut alias key) count base_is fits not_sync = base_is
base_whole s base w (KeyOpen alias bytes) count base_is fits not_sync = base_is
base_whole s base w (KeyDrop alias) count base_is fits not_sync = base_is
base_whole s base w KeyList count base_is fits not_sync = base_is
base_whole s base w (ResumeStore key) count base_is fits not_sync = base_is
base_whole s base w ResumeTake count base_is fits not_sync = base_is
base_whole s base w (Hear max) count base_is fits not_sync = base_is
base_whole s base w (Say bytes) count base_is fits not_sync = base_is
base_whole s base w Now count base_is fits not_sync = base_is
base_whole s base w (Draw len) count base_is fits not_sync = base_is

base_idle : (s : Bool) (base : List ℕ → Option (List ℕ)) (w : World) (a : Action) → IsBase s base w → IsBase s base (after_call w (Some a) false 0)
base_idle s base w ListNames base_is = base_is
base_idle s base w (Read n) base_is = base_is
base_idle s base w (Make n len) base_is = touched_base s base w (make_mark w n len) base_is (made_base s (touch_at w n) (file_at w n) _ _)
base_idle s base w (Put n bytes) base_is = touched_base s base w (put_mark w n bytes) base_is (λ _. tt)
base_idle s base w (Poke n at bytes) base_is = touched_base s base w (poke_mark w n at bytes) base_is (poked_base s (touch_at w n) _ (file_at w n) _ _ (poked_same _ (file_at w n)))
base_idle s base w (Remove n) base_is = touched_base s base w (remove_mark w n) base_is (λ _. tt)
base_idle s base w Sync base_is = base_is
base_idle s base w (WeaverWrite slot key value) base_is = base_is
base_idle s base w (WeaverRead slot key moment) base_is = base_is
base_idle s base w (GkSign sid salt password) base_is = base_is
base_idle s base w (GkEnroll sid) base_is = base_is
base_idle s base w (GkVerify handle password moment) base_is = base_is
base_idle s base w (GkForget sid) base_is = base_is
base_idle s base w GkList base_is = base_is
base_idle s base w (KeyPut alias key) base_is = base_is
base_idle s base w (KeyOpen alias bytes) base_is = base_is
base_idle s base w (KeyDrop alias) base_is = base_is
base_idle s base w KeyList base_is = base_is
base_idle s base w (ResumeStore key) base_is = base_is
base_idle s base w ResumeTake base_is = base_is
base_idle s base w (Hear max) base_is = base_is
base_idle s base w (Say bytes) base_is = base_is
base_idle s base w Now base_is = base_is
base_idle s base w (Draw len) base_is = base_is

-- ---- the files at the last sync

-- whether there was one, and what each file held then, or at the start
abbrev had_sync : Option (List (List ℕ × List ℕ)) → Bool
had_sync None = false
had_sync (Some files) = true

abbrev base_at : World → Option (List (List ℕ × List ℕ)) → List ℕ → Option (List ℕ)
base_at start None n = file_at start n
base_at start (Some files) n = find byte_cmp n files

abbrev pub IsSynced : World → Option (List (List ℕ × List ℕ)) → World → Type 0
IsSynced start synced w = IsBase (had_sync synced) (base_at start synced) w

start_base : (t : Option Touch) (now : Option (List ℕ)) → HoldsBase false t now now
start_base None now = refl
start_base (Some (Poked spans)) now = poked_same spans now
start_base (Some (Made before)) now = λ is. absurd (cc)
start_base (Some Other) now = tt

pub start_synced : (start : World) → IsSynced start None start
start_synced start n = start_base (touch_at start n) (file_at start n)

-- a sync after which no file is touched
sync_row : (start : World) (synced : Option (List (List ℕ × List ℕ))) (w : World) (rows : List (List ℕ × Touch)) → w.touched ≡ rows → IsSynced start synced w
    → IsSynced start (cond (has_no_row rows) (Some w.files) synced) w
sync_row start synced w [] none is n = subst (λ (rows : List (List ℕ × Touch)). HoldsBase true (find byte_cmp n rows) (file_at w n) (file_at w n)) (sym none) refl
sync_row start synced w (row ∷ rows) some is n = is n

other_step : (start : World) (synced : Option (List (List ℕ × List ℕ))) (w : World) (a : Action) (whole : Bool) (count : ℕ) → IsSynced start synced w → fits w a ≡ true → is_sync (Some a) ≡ false
    → IsSynced start synced (after_call w (Some a) whole count)
other_step start synced w a true count is fits other = base_whole (had_sync synced) (base_at start synced) w a count is fits other
other_step start synced w a false count is fits other = base_idle (had_sync synced) (base_at start synced) w a is

sync_step : (start : World) (synced : Option (List (List ℕ × List ℕ))) (w : World) (whole : Bool) (count : ℕ) → IsSynced start synced w
    → IsSynced start (synced_after synced (Some Sync) (after_call w (Some Sync) whole count)) (after_call w (Some Sync) whole count)
sync_step start synced w true count is = λ n. refl
sync_step start synced w false count is = sync_row start synced w w.touched refl is

action_step : (start : World) (synced : Option (List (List ℕ × List ℕ))) (w : World) (a : Action) (whole : Bool) (count : ℕ) → IsSynced start synced w → fits w a ≡ true
    → IsSynced start (synced_after synced (Some a) (after_call w (Some a) whole count)) (after_call w (Some a) whole count)
action_step start synced w ListNames whole count is fits = other_step start synced w ListNames whole count is fits refl
action_step start synced w (Read n) whole count is fits = other_step start synced w (Read n) whole count is fits refl
action_step start synced w (Make n len) whole count is fits = other_step start synced w (Make n len) whole count is fits refl
action_step start synced w (Put n bytes) whole count is fits = other_step start synced w (Put n bytes) whole count is fits refl
action_step start synced w (Poke n at bytes) whole count is fits = other_step start synced w (Poke n at bytes) whole count is fits refl
action_step start synced w (Remove n) whole count is fits = other_step start synced w (Remove n) whole count is fits refl
action_step start synced w Sync whole count is fits = sync_step start synced w whole count is
action_step start synced w (WeaverWrite slot key value) whole count is fits = other_step start synced w (WeaverWrite slot key value) whole count is fits refl
action_step start synced w (WeaverRead slot key moment) whole count is fits = other_step start synced w (WeaverRead slot key moment) whole count is fits refl
action_step start synced w (GkSign sid salt password) whole count is fits = other_step start synced w (GkSign sid salt password) whole count is fits refl
action_step start synced w (GkEnroll sid) whole count is fits = other_step start synced w (GkEnroll sid) whole count is fits refl
action_step start synced w (GkVerify handle password moment) whole count is fits = other_step start synced w (GkVerify handle password moment) whole count is fits refl
action_step start synced w (GkForget sid) whole count is fits = other_step start synced w (GkForget sid) whole count is fits refl
action_step start synced w GkList whole count is fits = other_step start synced w GkList whole count is fits refl
action_step start synced w (KeyPut alias key) whole count is fits = other_step start synced w (KeyPut alias key) whole count is fits refl
action_step start synced w (KeyOpen alias bytes) whole count is fits = other_step start synced w (KeyOpen alias bytes) whole count is fits refl
action_step start synced w (KeyDrop alias) whole count is fits = other_step start synced w (KeyDrop alias) whole count is fits refl
action_step start synced w KeyList whole count is fits = other_step start synced w KeyList whole count is fits refl
action_step start synced w (ResumeStore key) whole count is fits = other_step start synced w (ResumeStore key) whole count is fits refl
action_step start synced w ResumeTake whole count is fits = other_step start synced w ResumeTake whole count is fits refl
action_step start synced w (Hear max) whole count is fits = other_step start synced w (Hear max) whole count is fits refl
action_step start synced w (Say bytes) whole count is fits = other_step start synced w (Say bytes) whole count is fits refl
action_step start synced w Now whole count is fits = other_step start synced w Now whole count is fits refl
action_step start synced w (Draw len) whole count is fits = other_step start synced w (Draw len) whole count is fits refl

pub synced_step : (start : World) (synced : Option (List (List ℕ × List ℕ))) (w : World) (call : Option Action) (whole : Bool) (count : ℕ) → IsSynced start synced w → call_fits w call ≡ true
    → IsSynced start (synced_after synced call (after_call w call whole count)) (after_call w call whole count)
synced_step start synced w None whole count is fits = is
synced_step start synced w (Some a) whole count is fits = action_step start synced w a whole count is fits

both : (a b : Bool) → (a && b) ≡ true → (a ≡ true) × (b ≡ true)
both true true is = (refl, refl)
both true false is = absurd (cc)
both false b is = absurd (cc)

pub synced_run : (pool : List ℕ) (start w : World) (synced : Option (List (List ℕ × List ℕ))) (log : List Entry) → IsSynced start synced w → all_fit pool w log ≡ true
    → IsSynced start (synced_of pool w synced log) (replay pool w log)
synced_run pool start w synced [] is fits = is
synced_run pool start w synced (e ∷ log) is fits =
    let fit = both (call_fits w (call_of pool e.kept)) (all_fit pool (after_entry pool w e) log) fits in
    synced_run pool start (after_entry pool w e) _ log (synced_step start synced w (call_of pool e.kept) e.whole e.count is fit.0) fit.1

-- the first calls applied, where all did
pub fits_until : (pool : List ℕ) (w : World) (log : List Entry) (k : ℕ) → all_fit pool w log ≡ true → all_fit pool w (take k log) ≡ true
fits_until pool w log zero fits = refl
fits_until pool w [] (suc k) fits = refl
fits_until pool w (e ∷ log) (suc k) fits =
    let fit = both (call_fits w (call_of pool e.kept)) (all_fit pool (after_entry pool w e) log) fits in
    (λ i. fit.0 i && fits_until pool (after_entry pool w e) log k fit.1 i)

-- what a touched file held then may be left of it
held_by : (start : World) (synced : Option (List (List ℕ × List ℕ))) (n : List ℕ) (how : Touch) (now : Option (List ℕ)) → HoldsBase (had_sync synced) (Some how) now (base_at start synced n) → MayHold (Some how) now (held synced start n how)
held_by start (Some files) n (Poked spans) now is = is
held_by start (Some files) n (Made before) now is = inr (inl (is refl))
held_by start (Some files) n Other now is = tt
held_by start None n (Poked spans) now is = is
held_by start None n (Made before) now is = inr (inl refl)
held_by start None n Other now is = tt

pub held_left : (start : World) (synced : Option (List (List ℕ × List ℕ))) (w : World) (n : List ℕ) (how : Touch) → IsSynced start synced w → touch_at w n ≡ Some how → MayHold (Some how) (file_at w n) (held synced start n how)
held_left start synced w n how is touched = held_by start synced n how (file_at w n) (subst (λ (t : Option Touch). HoldsBase (had_sync synced) t (file_at w n) (base_at start synced n)) touched (is n))
