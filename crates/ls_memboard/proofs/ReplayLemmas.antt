-- What a replay gives, file by file and call by call.
use Rattle.std.proofs.Common.{get_or, ◌≡◌, ◌≤◌, ◌+◌, ℕ, Bool, true, false, cond, ◌&&◌, List, [], ◌∷◌, ◌++◌, length, take, drop, Option, None, Some, refl, sym, ◌∙◌, ap, subst, arith, length-append, length-drop}
use Rattle.std.specs.Ordering.{eq_by_cmp}
use Rattle.std.specs.List.{AllByRecursion, filter}
use Rattle.std.specs.FinMap.Entries.{find}
use Rattle.std.proofs.lemmas.List.{drop-append-le, take-append-le}
use Rattle.std.proofs.lemmas.List.Elements.{recursion_from_All, All-cons, All-append, filter-append}
use Rattle.std.proofs.lemmas.Map.Lookups.{exact_bytes}
use Rattle.ls_board.specs.declared.action.Action.{Action}
use Rattle.ls_board.specs.declared.action.Action.TheVariants.{List as ListNames, Read, Make, Put, Poke, Remove, Sync, WeaverWrite, WeaverRead, GkSign, GkEnroll, GkVerify, GkForget, GkList, KeyPut, KeyOpen, KeyDrop, KeyList, ResumeStore, ResumeTake, Hear, Say, Now, Draw}
use Rattle.ls_board.specs.declared.world.World.{World}
use Rattle.ls_board.specs.Order.{byte_cmp}
use Rattle.ls_board.specs.Effect.{file_at, after, make_mark, poked_content}
use Rattle.ls_board.proofs.FileLemmas.{find_with_file, equal}
use Rattle.ls_memboard.specs.declared.call.Entry.{Entry}
use Rattle.ls_memboard.specs.declared.call.Kept.{Kept}
use Rattle.ls_memboard.specs.declared.call.Kind.{Kind}
use Rattle.ls_memboard.specs.declared.call.Kind.TheVariants as kind
use Rattle.ls_memboard.specs.Calls.{call_of, call_from, IsIn, is_file_change, changed_a_file}
use Rattle.ls_memboard.specs.Contents.{content_by, content_after, contents_after, shown}
use Rattle.ls_memboard.specs.Replay.{mark_of, touched_by, touched_only, after_call, after_entry, replay, past_from, AllIn, call_fits, all_fit}

-- ---- file by file

poked_same : (w : World) (n q : List ℕ) (at : ℕ) (bytes : List ℕ) → cond (eq_by_cmp byte_cmp q n) (poked_content (file_at w n) at bytes) (file_at w q) ≡ cond (eq_by_cmp byte_cmp q n) (poked_content (file_at w q) at bytes) (file_at w q)
poked_same w n q at bytes = elim (eq_by_cmp byte_cmp q n) as (λ b. eq_by_cmp byte_cmp q n ≡ b → cond b (poked_content (file_at w n) at bytes) (file_at w q) ≡ cond b (poked_content (file_at w q) at bytes) (file_at w q)) [
  | true ↦ λ e. ap (λ (m : List ℕ). poked_content (file_at w m) at bytes) (sym (exact_bytes q n (equal (byte_cmp q n) e)))
  | false ↦ λ e. refl
] refl

whole_file : (w : World) (a : Action) (count : ℕ) (q : List ℕ) → file_at (after w a count) q ≡ content_by a q (file_at w q)
whole_file w ListNames count q = refl
whole_file w (Read n) count q = refl
whole_file w (Make n len) count q = find_with_file w.files n (make_mark w n len).content q
whole_file w (Put n bytes) count q = find_with_file w.files n (Some bytes) q
whole_file w (Poke n at bytes) count q = find_with_file w.files n (poked_content (file_at w n) at bytes) q ∙ poked_same w n q at bytes
whole_file w (Remove n) count q = find_with_file w.files n None q
whole_file w Sync count q = refl
whole_file w (WeaverWrite slot key value) count q = refl
whole_file w (WeaverRead slot key moment) count q = refl
whole_file w (GkSign sid salt password) count q = refl
whole_file w (GkEnroll sid) count q = refl
whole_file w (GkVerify handle password moment) count q = refl
whole_file w (GkForget sid) count q = refl
whole_file w GkList count q = refl
whole_file w (KeyPut alias key) count q = refl
whole_file w (KeyOpen alias bytes) count q = refl
whole_file w (KeyDrop alias) count q = refl
whole_file w KeyList count q = refl
whole_file w (ResumeStore key) count q = refl
whole_file w ResumeTake count q = refl
whole_file w (Hear max) count q = refl
whole_file w (Say bytes) count q = refl
whole_file w Now count q = refl
whole_file w (Draw len) count q = refl

-- a call without effect leaves what each file holds
pub idle_files : (w : World) (a : Action) → (touched_only w a).files ≡ w.files
idle_files w a = elim (mark_of w a) as (λ m. (touched_by w m).files ≡ w.files) [ None ↦ refl | Some m ↦ refl ]

file_step : (w : World) (call : Option Action) (whole : Bool) (count : ℕ) (q : List ℕ) → file_at (after_call w call whole count) q ≡ content_after call whole q (file_at w q)
file_step w None whole count q = refl
file_step w (Some a) true count q = whole_file w a count q
file_step w (Some a) false count q = ap (find byte_cmp q) (idle_files w a)

file_replay : (pool : List ℕ) (w : World) (log : List Entry) (q : List ℕ) → file_at (replay pool w log) q ≡ contents_after pool log q (file_at w q)
file_replay pool w [] q = refl
file_replay pool w (e ∷ log) q = file_replay pool (after_entry pool w e) log q ∙ ap (contents_after pool log q) (file_step w (call_of pool e.kept) e.whole e.count q)

-- a call that changed no file leaves what each holds
no_change : (k : Kind) (whole : Bool) (name bytes q : List ℕ) (now : Option (List ℕ)) → (whole && is_file_change k) ≡ false → content_after (call_from k name bytes) whole q now ≡ now
no_change kind.Quiet whole name bytes q now none = refl
no_change (kind.Make len) true name bytes q now none = absurd (cc)
no_change (kind.Make len) false name bytes q now none = refl
no_change kind.Put true name bytes q now none = absurd (cc)
no_change kind.Put false name bytes q now none = refl
no_change (kind.Poke at) true name bytes q now none = absurd (cc)
no_change (kind.Poke at) false name bytes q now none = refl
no_change kind.Remove true name bytes q now none = absurd (cc)
no_change kind.Remove false name bytes q now none = refl
no_change kind.Sync true name bytes q now none = refl
no_change kind.Sync false name bytes q now none = refl
no_change (kind.WeaverWrite slot key value) true name bytes q now none = refl
no_change (kind.WeaverWrite slot key value) false name bytes q now none = refl
no_change (kind.WeaverRead slot key moment) true name bytes q now none = refl
no_change (kind.WeaverRead slot key moment) false name bytes q now none = refl
no_change (kind.GkEnroll sid) true name bytes q now none = refl
no_change (kind.GkEnroll sid) false name bytes q now none = refl
no_change (kind.GkVerify handle moment) true name bytes q now none = refl
no_change (kind.GkVerify handle moment) false name bytes q now none = refl
no_change (kind.GkForget sid) true name bytes q now none = refl
no_change (kind.GkForget sid) false name bytes q now none = refl
no_change (kind.KeyPut alias key) true name bytes q now none = refl
no_change (kind.KeyPut alias key) false name bytes q now none = refl
no_change (kind.KeyDrop alias) true name bytes q now none = refl
no_change (kind.KeyDrop alias) false name bytes q now none = refl
no_change (kind.ResumeStore key) true name bytes q now none = refl
no_change (kind.ResumeStore key) false name bytes q now none = refl
no_change kind.ResumeTake true name bytes q now none = refl
no_change kind.ResumeTake false name bytes q now none = refl
no_change (kind.Hear max) true name bytes q now none = refl
no_change (kind.Hear max) false name bytes q now none = refl
no_change kind.Say true name bytes q now none = refl
no_change kind.Say false name bytes q now none = refl
no_change kind.Now true name bytes q now none = refl
no_change kind.Now false name bytes q now none = refl
no_change (kind.Draw len) true name bytes q now none = refl
no_change (kind.Draw len) false name bytes q now none = refl

changes_only : (pool : List ℕ) (log : List Entry) (q : List ℕ) (now : Option (List ℕ)) → contents_after pool (filter changed_a_file log) q now ≡ contents_after pool log q now
changes_only pool [] q now = refl
changes_only pool (e ∷ log) q now =
    elim (changed_a_file e) as (λ b. changed_a_file e ≡ b → contents_after pool (cond b (e ∷ filter changed_a_file log) (filter changed_a_file log)) q now ≡ contents_after pool (e ∷ log) q now) [
      | true ↦ λ is. changes_only pool log q (content_after (call_of pool e.kept) e.whole q now)
      | false ↦ λ is. changes_only pool log q now ∙ ap (contents_after pool log q) (sym (no_change e.kept.kind e.whole _ _ q now is))
    ] refl

-- a file that was read from the changes is the world's
pub file_shown : (pool : List ℕ) (w : World) (log changes : List Entry) (q : List ℕ) (there : Bool) (bytes : List ℕ) → changes ≡ filter changed_a_file log
    → shown there bytes ≡ contents_after pool changes q (file_at w q) → file_at (replay pool w log) q ≡ shown there bytes
file_shown pool w log changes q there bytes are is =
    file_replay pool w log q ∙ sym (changes_only pool log q (file_at w q)) ∙ ap (λ (c : List Entry). contents_after pool c q (file_at w q)) (sym are) ∙ sym is

-- ---- a pool that grows

part_stable : (pool more : List ℕ) (at n : ℕ) → at + n ≤ length pool → take n (drop at (pool ++ more)) ≡ take n (drop at pool)
part_stable pool more at n within =
    ap (take n) (drop-append-le at pool more (omega arith)) ∙ take-append-le n (drop at pool) more (omega (arith, length-drop at pool))

call_stable : (pool more : List ℕ) (k : Kept) → IsIn pool k → call_of (pool ++ more) k ≡ call_of pool k
call_stable pool more k within = λ i. call_from k.kind (part_stable pool more k.at k.name (omega arith) i) (part_stable pool more (k.at + k.name) k.bytes (omega arith) i)

replay_stable : (pool more : List ℕ) (w : World) (log : List Entry) → AllByRecursion (λ e. IsIn pool e.kept) log → replay (pool ++ more) w log ≡ replay pool w log
replay_stable pool more w [] all = refl
replay_stable pool more w (e ∷ log) all =
    ap (λ (c : Option Action). replay (pool ++ more) (after_call w c e.whole e.count) log) (call_stable pool more e.kept all.0) ∙ replay_stable pool more (after_entry pool w e) log all.1

past_stable : (pool more : List ℕ) (w : World) (log : List Entry) (past : List (World × Option Action)) → AllByRecursion (λ e. IsIn pool e.kept) log
    → past_from (pool ++ more) w log past ≡ past_from pool w log past
past_stable pool more w [] past all = refl
past_stable pool more w (e ∷ log) past all =
    ap (λ (c : Option Action). past_from (pool ++ more) (after_call w c e.whole e.count) log ((w, c) ∷ past)) (call_stable pool more e.kept all.0)
    ∙ past_stable pool more (after_entry pool w e) log ((w, call_of pool e.kept) ∷ past) all.1

fit_stable : (pool more : List ℕ) (w : World) (log : List Entry) → AllByRecursion (λ e. IsIn pool e.kept) log → all_fit (pool ++ more) w log ≡ all_fit pool w log
fit_stable pool more w [] all = refl
fit_stable pool more w (e ∷ log) all =
    ap (λ (c : Option Action). call_fits w c && all_fit (pool ++ more) (after_call w c e.whole e.count) log) (call_stable pool more e.kept all.0)
    ∙ ap (λ (b : Bool). call_fits w (call_of pool e.kept) && b) (fit_stable pool more (after_entry pool w e) log all.1)

pub replay_push : (pool : List ℕ) (w : World) (log : List Entry) (e : Entry) → replay pool w (log ++ e ∷ []) ≡ after_entry pool (replay pool w log) e
replay_push pool w [] e = refl
replay_push pool w (x ∷ log) e = replay_push pool (after_entry pool w x) log e

past_push : (pool : List ℕ) (w : World) (log : List Entry) (e : Entry) (past : List (World × Option Action))
    → past_from pool w (log ++ e ∷ []) past ≡ (replay pool w log, call_of pool e.kept) ∷ past_from pool w log past
past_push pool w [] e past = refl
past_push pool w (x ∷ log) e past = past_push pool (after_entry pool w x) log e _

fit_push : (pool : List ℕ) (w : World) (log : List Entry) (e : Entry) → call_fits (replay pool w log) (call_of pool e.kept) ≡ true → all_fit pool w (log ++ e ∷ []) ≡ all_fit pool w log
fit_push pool w [] e one = ap (λ (b : Bool). b && true) one
fit_push pool w (x ∷ log) e one = ap (λ (b : Bool). call_fits w (call_of pool x.kept) && b) (fit_push pool (after_entry pool w x) log e one)

-- one call more
module _ (pool pool' : List ℕ) (start : World) (log log' : List Entry) (e : Entry) (call : Option Action) (more : List ℕ)
    (grown : pool' ≡ pool ++ more) (pushed : log' ≡ log ++ e ∷ []) (is : call_of pool' e.kept ≡ call) (all : AllIn pool log) where
  is_more : call_of (pool ++ more) e.kept ≡ call
  is_more = subst (λ (p : List ℕ). call_of p e.kept ≡ call) grown is

  same_world : replay (pool ++ more) start log ≡ replay pool start log
  same_world = replay_stable pool more start log (recursion_from_All _ log all)

  pub noted_world : replay pool' start log' ≡ after_call (replay pool start log) call e.whole e.count
  noted_world = (λ i. replay (grown i) start (pushed i)) ∙ replay_push (pool ++ more) start log e
      ∙ (λ i. after_call (same_world i) (is_more i) e.whole e.count)

  pub noted_past : past_from pool' start log' [] ≡ (replay pool start log, call) ∷ past_from pool start log []
  noted_past = (λ i. past_from (grown i) start (pushed i) []) ∙ past_push (pool ++ more) start log e []
      ∙ (λ i. (same_world i, is_more i) ∷ past_stable pool more start log [] (recursion_from_All _ log all) i)

  pub noted_in : IsIn pool' e.kept → AllIn pool' log'
  noted_in within =
      let longer : length pool ≤ length pool' = omega (arith, ap length grown, length-append pool more) in
      subst (AllIn pool') (sym pushed)
      (All-append (λ x. IsIn pool' x.kept) log (e ∷ []) (λ k d h. let one : IsIn pool (get_or log k d).kept = all k d h in omega (arith, one))
      (All-cons (λ x. IsIn pool' x.kept) e [] within (λ k d h. absurd (omega arith))))

  pub noted_fits : all_fit pool start log ≡ true → call_fits (replay pool start log) call ≡ true → all_fit pool' start log' ≡ true
  noted_fits fits one =
      let met : call_fits (replay (pool ++ more) start log) (call_of (pool ++ more) e.kept) ≡ true = (λ i. call_fits (same_world i) (is_more i)) ∙ one in
      (λ i. all_fit (grown i) start (pushed i)) ∙ fit_push (pool ++ more) start log e met ∙ fit_stable pool more start log (recursion_from_All _ log all) ∙ fits

  pub noted_changes : (changes changes' : List Entry) → changes ≡ filter changed_a_file log → changes' ≡ changes ++ filter changed_a_file (e ∷ []) → changes' ≡ filter changed_a_file log'
  noted_changes changes changes' are kept =
      kept ∙ ap (λ (c : List Entry). c ++ filter changed_a_file (e ∷ [])) are ∙ sym (filter-append changed_a_file log (e ∷ [])) ∙ ap (filter changed_a_file) (sym pushed)

pub length-past_from : (pool : List ℕ) (w : World) (log : List Entry) (past : List (World × Option Action)) → length (past_from pool w log past) ≡ length log + length past
length-past_from pool w [] past = omega arith
length-past_from pool w (e ∷ log) past = omega (arith, length-past_from pool (after_entry pool w e) log ((w, call_of pool e.kept) ∷ past))
