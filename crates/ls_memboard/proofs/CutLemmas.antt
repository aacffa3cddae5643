-- The image that a cut picks is one that a crash may leave, at its moment.
use Rattle.std.proofs.Common.{◌≡◌, ◌⊎◌, inl, inr, ◌+◌, ◌≤◌, ◌<◌, ℕ, zero, suc, arith, Bool, true, false, cond, List, [], ◌∷◌, length, take, drop, Option, None, Some, refl, sym, ◌∙◌, ap, subst, ltb-true, ltb-false, lt-ltb}
use Rattle.std.specs.Prelude.{◌%◌, ◌==◌, ◌&&◌, ◌||◌, nat_lt, nat_le, slice_get, slice_index, IsTrue, T}
use Rattle.std.proofs.lemmas.Bool.{lt-leb}
use Rattle.std.specs.declared.cmp.Ordering.{Ordering}
use Rattle.std.specs.declared.cmp.Ordering.TheVariants.{Less, Equal, Greater}
use Rattle.std.specs.Ordering.{eq_by_cmp, is_lt, is_eq}
use Rattle.std.specs.FinMap.Entries.{find, is_sorted, below_all}
use Rattle.std.proofs.lemmas.Map.Lookups.{exact_bytes}
use Rattle.rand_pcg.specs.Lcg.{Lcg}
use Rattle.rand_pcg.specs.Pcg.{pcg32}
use Rattle.ls_board.specs.declared.action.Action.{Action}
use Rattle.ls_board.specs.declared.touch.Touch.{Touch}
use Rattle.ls_board.specs.declared.touch.Touch.TheVariants.{Poked, Made, Other}
use Rattle.ls_board.specs.declared.touch.Span.{Span}
use Rattle.ls_board.specs.declared.world.World.{World}
use Rattle.ls_board.specs.Order.{byte_cmp}
use Rattle.ls_board.specs.Effect.{file_at, touch_at, with_file}
use Rattle.ls_board.specs.Images.{Outside, MayHold, Leaves}
use Rattle.ls_board.specs.Runs.{ImageAt}
use Rattle.ls_board.proofs.StepLemmas.{holds_same}
use Rattle.ls_board.proofs.PutLemmas.{true_test}
use Rattle.ls_board.proofs.FileLemmas.{equal, find_with_file, with_file_sorted}
use Rattle.ls_memboard.specs.declared.call.Entry.{Entry}
use Rattle.ls_memboard.specs.declared.pick.Picker.{Picker}
use Rattle.ls_memboard.specs.declared.pick.Picker.TheVariants as picker
use Rattle.ls_memboard.specs.Calls.{call_of}
use Rattle.ls_memboard.specs.Cuts.{until, synced, held, is_poked, is_hit, noisy_byte, noisy, noisy_file, noise_choice, chosen, contents, with_contents, image_of}
use Rattle.ls_memboard.specs.Synced.{synced_of}
use Rattle.ls_memboard.specs.Replay.{after_entry, replay, past_from}
use Rattle.ls_memboard.proofs.BaseLemmas.{IsSynced, held_left}
use Rattle.ls_memboard.proofs.ReplayLemmas.{length-past_from}

-- ---- noise

noisy_long : (hit : ℕ → Bool) (at : ℕ) (bytes : List ℕ) (g : Lcg) → length (noisy hit at bytes g).0 ≡ length bytes
noisy_long hit at [] g = refl
noisy_long hit at (byte ∷ bytes) g = ap suc (noisy_long hit (at + 1) bytes (noisy_byte (hit at) byte g).1)

spared_byte : (b : Bool) (byte : ℕ) (g : Lcg) → b ≡ false → (noisy_byte b byte g).0 ≡ byte
spared_byte true byte g is = absurd (cc)
spared_byte false byte g is = refl

here : (at : ℕ) → at + 0 ≡ at
here at = omega arith

later : (at i : ℕ) → at + suc i ≡ (at + 1) + i
later at i = omega arith

front : (i : ℕ) → 0 + i ≡ i
front i = omega arith

noisy_kept : (hit : ℕ → Bool) (at : ℕ) (bytes : List ℕ) (g : Lcg) (i : ℕ) → hit (at + i) ≡ false → slice_index (noisy hit at bytes g).0 i ≡ slice_index bytes i
noisy_kept hit at [] g i miss = refl
noisy_kept hit at (byte ∷ bytes) g zero miss = spared_byte (hit at) byte g (ap hit (sym (here at)) ∙ miss)
noisy_kept hit at (byte ∷ bytes) g (suc i) miss = noisy_kept hit (at + 1) bytes (noisy_byte (hit at) byte g).1 i (ap hit (sym (later at i)) ∙ miss)

none_hit : (at : ℕ) (bytes : List ℕ) (g : Lcg) → (noisy (λ i. false) at bytes g).0 ≡ bytes
none_hit at [] g = refl
none_hit at (byte ∷ bytes) g = ap (λ (rest : List ℕ). byte ∷ rest) (none_hit (at + 1) bytes g)

not_within : (s : Span) (i : ℕ) → (i < s.at) ⊎ (s.at + s.len ≤ i) → (nat_le s.at i && nat_lt i (s.at + s.len)) ≡ false
not_within s i (inl before) = ap (λ (b : Bool). b && nat_lt i (s.at + s.len)) (lt-leb s.at i before)
not_within s i (inr behind) = ap (λ (b : Bool). nat_le s.at i && b) (not_less i (s.at + s.len) behind) ∙ no_more (nat_le s.at i)
  where
    no_more : (b : Bool) → (b && false) ≡ false
    no_more true = refl
    no_more false = refl

    not_less : (a b : ℕ) → b ≤ a → nat_lt a b ≡ false
    not_less a b le = elim (nat_lt a b) as (λ t. nat_lt a b ≡ t → t ≡ false) [
      | true ↦ λ is. let less = ltb-true a b is in absurd (omega arith)
      | false ↦ λ is. refl
    ] refl

not_poked : (spans : List Span) (i : ℕ) → Outside spans i → is_poked spans i ≡ false
not_poked [] i out = refl
not_poked (s ∷ spans) i out = (λ k. not_within s i out.0 k || is_poked spans i) ∙ not_poked spans i out.1

noisy_held : (how : Touch) (now : Option (List ℕ)) (g : Lcg) → MayHold (Some how) now (noisy_file how now g).0
noisy_held how None g = holds_same (Some how) None
noisy_held (Poked spans) (Some bytes) g = record {
  long = noisy_long (is_hit (Poked spans)) 0 bytes g;
  kept = λ i out. noisy_kept (is_hit (Poked spans)) 0 bytes g i (ap (is_poked spans) (front i) ∙ not_poked spans i out);
}
noisy_held (Made before) (Some bytes) g = inl (ap (λ (b : List ℕ). Some b) (none_hit 0 bytes g))
noisy_held Other (Some bytes) g = tt

-- ---- names in order

halves : (a b : Bool) → T (a && b) → T a × T b
halves true true t = (tt, tt)
halves true false t = absurd t
halves false b t = absurd t

less_apart : (o : Ordering) → T (is_lt o) → is_eq o ≡ false
less_apart Less t = refl
less_apart Equal t = absurd t
less_apart Greater t = absurd t

none_below : (q : List ℕ) (rows : List (List ℕ × Touch)) → T (below_all byte_cmp q rows) → find byte_cmp q rows ≡ None
none_below q [] t = refl
none_below q (row ∷ rows) t =
    let parts = halves (is_lt (byte_cmp q row.0)) (below_all byte_cmp q rows) t in
    ap (λ (b : Bool). cond b (Some row.1) (find byte_cmp q rows)) (less_apart (byte_cmp q row.0) parts.0) ∙ none_below q rows parts.1

-- ---- the image

choice_held : (even : Bool) (before : Option (List ℕ)) (how : Touch) (now : Option (List ℕ)) (g : Lcg) → MayHold (Some how) now before → MayHold (Some how) now (noise_choice even before how now g).0
choice_held true before how now g may = may
choice_held false before how now g may = noisy_held how now g

chosen_held : (old : List ℕ → Touch → Option (List ℕ)) (w : World) (p : Picker) (n : List ℕ) (how : Touch) → MayHold (Some how) (file_at w n) (old n how) → MayHold (Some how) (file_at w n) (chosen old w p n how).0
chosen_held old w picker.Old n how may = may
chosen_held old w picker.New n how may = holds_same (Some how) (file_at w n)
chosen_held old w (picker.Noise g) n how may = choice_held ((pcg32 g).0 % 2 == 0) (old n how) how (file_at w n) (pcg32 g).1 may

module _ (old : List ℕ → Touch → Option (List ℕ)) (w : World) where
  -- a name that isn't picked
  unpicked : (files : List (List ℕ × List ℕ)) (p : Picker) (rows : List (List ℕ × Touch)) (n : List ℕ) → find byte_cmp n rows ≡ None → find byte_cmp n (with_contents files (contents old w p rows)) ≡ find byte_cmp n files
  unpicked files p [] n none = refl
  unpicked files p (row ∷ rows) n none =
      let c = chosen old w p row.0 row.1 in
      elim (eq_by_cmp byte_cmp n row.0) as (λ b. eq_by_cmp byte_cmp n row.0 ≡ b → cond b (Some row.1) (find byte_cmp n rows) ≡ None → find byte_cmp n (with_contents (with_file files row.0 c.0) (contents old w c.1 rows)) ≡ find byte_cmp n files) [
        | true ↦ λ is no. absurd (cc)
        | false ↦ λ is no. unpicked (with_file files row.0 c.0) c.1 rows n no ∙ find_with_file files row.0 c.0 n ∙ ap (λ (b : Bool). cond b c.0 (find byte_cmp n files)) is
      ] refl none

  -- a name that is picked, once
  picked : (files : List (List ℕ × List ℕ)) (p : Picker) (rows : List (List ℕ × Touch)) (n : List ℕ) (how : Touch) → T (is_sorted byte_cmp rows) → find byte_cmp n rows ≡ Some how
      → MayHold (Some how) (file_at w n) (old n how) → MayHold (Some how) (file_at w n) (find byte_cmp n (with_contents files (contents old w p rows)))
  picked files p [] n how sorted found may = absurd (cc)
  picked files p (row ∷ rows) n how sorted found may =
      let c = chosen old w p row.0 row.1 in
      let order = halves (below_all byte_cmp row.0 rows) (is_sorted byte_cmp rows) sorted in
      elim (eq_by_cmp byte_cmp n row.0) as (λ b. eq_by_cmp byte_cmp n row.0 ≡ b → cond b (Some row.1) (find byte_cmp n rows) ≡ Some how → MayHold (Some how) (file_at w n) (find byte_cmp n (with_contents (with_file files row.0 c.0) (contents old w c.1 rows)))) [
        | true ↦ λ is it.
            let same : n ≡ row.0 = exact_bytes n row.0 (equal (byte_cmp n row.0) is) in
            let touch : row.1 ≡ how = cc in
            let alone : find byte_cmp n rows ≡ None = ap (λ (m : List ℕ). find byte_cmp m rows) same ∙ none_below row.0 rows order.0 in
            let holds : find byte_cmp n (with_contents (with_file files row.0 c.0) (contents old w c.1 rows)) ≡ c.0 =
            unpicked (with_file files row.0 c.0) c.1 rows n alone ∙ find_with_file files row.0 c.0 n ∙ ap (λ (b : Bool). cond b c.0 (find byte_cmp n files)) is in
            let there : c.0 ≡ (chosen old w p n how).0 = λ i. (chosen old w p (sym same i) (touch i)).0 in
            subst (MayHold (Some how) (file_at w n)) (sym (holds ∙ there)) (chosen_held old w p n how may)
        | false ↦ λ is it. picked (with_file files row.0 c.0) c.1 rows n how order.1 it may
      ] refl found

  contents_sorted : (files : List (List ℕ × List ℕ)) (p : Picker) (rows : List (List ℕ × Touch)) → IsTrue (is_sorted byte_cmp files) → IsTrue (is_sorted byte_cmp (with_contents files (contents old w p rows)))
  contents_sorted files p [] sorted = sorted
  contents_sorted files p (row ∷ rows) sorted =
      contents_sorted (with_file files row.0 (chosen old w p row.0 row.1).0) (chosen old w p row.0 row.1).1 rows (with_file_sorted files row.0 (chosen old w p row.0 row.1).0 sorted)

image_left : (start : World) (files : Option (List (List ℕ × List ℕ))) (w : World) (p : Picker) → IsTrue (is_sorted byte_cmp w.files) → IsTrue (is_sorted byte_cmp w.touched) → IsSynced start files w → Leaves w (image_of (held files start) w p)
image_left start files w p sorted touched is = record {
  rest = refl;
  sorted = contents_sorted (held files start) w w.files p w.touched sorted;
  each = λ n. elim (touch_at w n) as (λ t. touch_at w n ≡ t → MayHold t (file_at w n) (find byte_cmp n (with_contents w.files (contents (held files start) w p w.touched)))) [
    | None ↦ λ none. unpicked (held files start) w w.files p w.touched n none
    | Some how ↦ λ there. picked (held files start) w w.files p w.touched n how (true_test _ touched) there (held_left start files w n how is there)
  ] refl;
}

-- ---- picked one after another

drop_at : {X : Type 0} (xs : List X) (at : ℕ) (x : X) → slice_get xs at ≡ Some x → drop at xs ≡ x ∷ drop (suc at) xs
drop_at [] at x is = absurd (cc)
drop_at {X = X} (y ∷ xs) zero x is = let same : y ≡ x = cc in ap (λ (z : X). z ∷ xs) same
drop_at {X = X} (y ∷ xs) (suc at) x is = drop_at xs at x is

next_is : (n : ℕ) → suc n ≡ n + 1
next_is n = omega arith

drop_past : {X : Type 0} (xs : List X) (at : ℕ) → length xs ≤ at → drop at xs ≡ []
drop_past [] zero past = refl
drop_past [] (suc at) past = refl
drop_past (x ∷ xs) zero past = absurd (omega arith)
drop_past (x ∷ xs) (suc at) past = drop_past xs at (omega arith)

module _ (old : List ℕ → Touch → Option (List ℕ)) (w : World) (files : List (List ℕ × List ℕ)) (p : Picker) (rows : List (List ℕ × Touch)) (at : ℕ) (all : List (List ℕ × List ℕ))
    (met : with_contents files (contents old w p (drop at rows)) ≡ all) where
  -- one file more
  pub picked_more : (files' : List (List ℕ × List ℕ)) (p' : Picker) (row : List ℕ × Touch) (name : List ℕ) (content : Option (List ℕ)) → slice_get rows at ≡ Some row
      → (content, p') ≡ chosen old w p row.0 row.1 → name ≡ row.0 → files' ≡ with_file files name content → with_contents files' (contents old w p' (drop (at + 1) rows)) ≡ all
  picked_more files' p' row name content found choice named set =
      (λ i. with_contents (set i) (contents old w p' (drop (at + 1) rows)))
      ∙ (λ i. with_contents (with_file files (named i) (choice i).0) (contents old w (choice i).1 (drop (at + 1) rows)))
      ∙ sym (ap (λ (rest : List (List ℕ × Touch)). with_contents files (contents old w p rest)) (drop_at rows at row found ∙ ap (λ (n : ℕ). row ∷ drop n rows) (next_is at))) ∙ met

  pub picked_all : length rows ≤ at → files ≡ all
  picked_all past = sym (ap (λ (rest : List (List ℕ × Touch)). with_contents files (contents old w p rest)) (drop_past rows at past)) ∙ met

-- ---- the moment

less : (a b : ℕ) → a < b → nat_lt a b ≡ true
less a b lt = lt-ltb a b lt

not_less : (a b : ℕ) → b ≤ a → nat_lt a b ≡ false
not_less a b le = elim (nat_lt a b) as (λ t. nat_lt a b ≡ t → t ≡ false) [
  | true ↦ λ is. let less = ltb-true a b is in absurd (omega arith)
  | false ↦ λ is. refl
] refl

until_all : (past : List (World × Option Action)) (w : World) → until past w (length past) ≡ (w, past)
until_all [] w = refl
until_all (call ∷ past) w = ap (λ (b : Bool). cond b (w, call ∷ past) (until past call.0 (length (call ∷ past)))) (less (length past) (length (call ∷ past)) (omega arith))

until_later : (pool : List ℕ) (w : World) (log : List Entry) (past : List (World × Option Action)) (k : ℕ) → k ≤ length past → until (past_from pool w log past) (replay pool w log) k ≡ until past w k
until_later pool w [] past k le = refl
until_later pool w (e ∷ log) past k le =
    let next = after_entry pool w e in
    until_later pool next log ((w, call_of pool e.kept) ∷ past) k (omega arith)
    ∙ ap (λ (b : Bool). cond b (next, (w, call_of pool e.kept) ∷ past) (until past w k)) (not_less (length past) k le)

until_moment : (pool : List ℕ) (w : World) (log : List Entry) (past : List (World × Option Action)) (k : ℕ) → k ≤ length log → until (past_from pool w log past) (replay pool w log) (length past + k) ≡ (replay pool w (take k log), past_from pool w (take k log) past)
until_moment pool w log past zero le = ap (until (past_from pool w log past) (replay pool w log)) (here (length past)) ∙ until_later pool w log past (length past) (omega arith) ∙ until_all past w
until_moment pool w [] past (suc k) le = absurd (omega arith)
until_moment pool w (e ∷ log) past (suc k) le =
    ap (until (past_from pool w (e ∷ log) past) (replay pool w (e ∷ log))) (later (length past) k ∙ once_more (length past) k)
    ∙ until_moment pool (after_entry pool w e) log ((w, call_of pool e.kept) ∷ past) k (omega arith)
  where
    once_more : (n k : ℕ) → (n + 1) + k ≡ suc n + k
    once_more n k = omega arith

pub until_log : (pool : List ℕ) (w : World) (log : List Entry) (k : ℕ) → k ≤ length log → until (past_from pool w log []) (replay pool w log) k ≡ (replay pool w (take k log), past_from pool w (take k log) [])
until_log pool w log k le = ap (until (past_from pool w log []) (replay pool w log)) (start_at k) ∙ until_moment pool w log [] k le
  where
    start_at : (k : ℕ) → k ≡ 0 + k
    start_at k = omega arith

synced_from : (pool : List ℕ) (w : World) (log : List Entry) (past : List (World × Option Action)) → synced (past_from pool w log past) (replay pool w log) ≡ synced_of pool w (synced past w) log
synced_from pool w [] past = refl
synced_from pool w (e ∷ log) past = synced_from pool (after_entry pool w e) log ((w, call_of pool e.kept) ∷ past)

pub synced_log : (pool : List ℕ) (w : World) (log : List Entry) → synced (past_from pool w log []) (replay pool w log) ≡ synced_of pool w None log
synced_log pool w log = synced_from pool w log []

-- an image of the world after so many calls is one of that moment
image_until : (past : List (World × Option Action)) (now : World) (k : ℕ) (image : World) → k ≤ length past → Leaves (until past now k).0 image → ImageAt past now k image
image_until [] now k image le left = (omega arith, left)
image_until (call ∷ past) now k image le left =
    elim (nat_lt (length past) k) as (λ b. nat_lt (length past) k ≡ b → Leaves (cond b (now, call ∷ past) (until past call.0 k)).0 image → ImageAt (call ∷ past) now k image) [
      | true ↦ λ is here. let more = ltb-true (length past) k is in inl (omega arith, here)
      | false ↦ λ is here. let few = ltb-false (length past) k is in inr (inr (image_until past call.0 k image (omega arith) here))
    ] refl left

module _ (pool : List ℕ) (start : World) (log : List Entry) (k : ℕ) (p : Picker) (le : k ≤ length log) where
  abbrev at : World
  at = replay pool start (take k log)

  abbrev files : Option (List (List ℕ × List ℕ))
  files = synced_of pool start None (take k log)

  -- the image by the calls so far
  pub cut_is : image_of (held files start) at p
      ≡ image_of (held (synced (until (past_from pool start log []) (replay pool start log) k).1 (until (past_from pool start log []) (replay pool start log) k).0) (until (past_from pool start log []) (replay pool start log) 0).0)
      (until (past_from pool start log []) (replay pool start log) k).0 p
  cut_is =
      let begun = until_log pool start log 0 (omega arith) in
      let cut = until_log pool start log k le in
      (λ i. image_of (held (sym (synced_log pool start (take k log)) i) start) at p)
      ∙ (λ i. image_of (held (synced (sym cut i).1 (sym cut i).0) (sym begun i).0) (sym cut i).0 p)

  pub cut_leaves : IsTrue (is_sorted byte_cmp at.files) → IsTrue (is_sorted byte_cmp at.touched) → IsSynced start files at → Leaves (until (past_from pool start log []) (replay pool start log) k).0 (image_of (held files start) at p)
  cut_leaves sorted touched is =
      subst (λ (w : World). Leaves w (image_of (held files start) at p)) (sym (ap (λ c. c.0) (until_log pool start log k le))) (image_left start files at p sorted touched is)

  pub cut_left : IsTrue (is_sorted byte_cmp at.files) → IsTrue (is_sorted byte_cmp at.touched) → IsSynced start files at → ImageAt (past_from pool start log []) (replay pool start log) k (image_of (held files start) at p)
  cut_left sorted touched is = image_until (past_from pool start log []) (replay pool start log) k _ (many (until_log pool start log k le)) (cut_leaves sorted touched is)
    where
      many : until (past_from pool start log []) (replay pool start log) k ≡ (at, past_from pool start (take k log) []) → k ≤ length (past_from pool start log [])
      many cut = omega (arith, length-past_from pool start log [])
