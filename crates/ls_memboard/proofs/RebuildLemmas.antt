-- What is made again, call by call, is the world of the replay.
use Rattle.std.proofs.Common.{◌≡◌, ◌<◌, ◌+◌, ℕ, List, [], ◌∷◌, ◌++◌, length, take, Option, None, refl, sym, ◌∙◌, ap}
use Rattle.std.specs.Prelude.{slice_index_or}
use Rattle.std.proofs.lemmas.List.{take_more}
use Rattle.ls_board.specs.declared.world.World.{World}
use Rattle.ls_memboard.specs.declared.call.Entry.{Entry}
use Rattle.ls_memboard.specs.declared.devices.Devices.{Devices}
use Rattle.ls_memboard.specs.Beside.{bare, beside, with_files_of}
use Rattle.ls_memboard.specs.Calls.{call_of}
use Rattle.ls_memboard.specs.Cuts.{synced_after}
use Rattle.ls_memboard.specs.Synced.{synced_of}
use Rattle.ls_memboard.specs.Replay.{after_call, after_entry, replay}
use Rattle.ls_memboard.proofs.BesideLemmas.{files_call}
use Rattle.ls_memboard.proofs.ReplayLemmas.{replay_push}
use Rattle.ls_memboard.proofs.StepLemmas.{beside_step}

synced_push : (pool : List ℕ) (w : World) (before : Option (List (List ℕ × List ℕ))) (log : List Entry) (e : Entry)
    → synced_of pool w before (log ++ e ∷ []) ≡ synced_after (synced_of pool w before log) (call_of pool e.kept) (after_entry pool (replay pool w log) e)
synced_push pool w before [] e = refl
synced_push pool w before (x ∷ log) e = synced_push pool (after_entry pool w x) _ log e

module _ (pool : List ℕ) (start : World) (log : List Entry) (k : ℕ) (d : Entry) (within : k < length log) where
  abbrev so_far : World
  so_far = replay pool start (take k log)

  abbrev next : World
  next = replay pool start (take (k + 1) log)

  is_next : after_call so_far (call_of pool (slice_index_or log k d).kept) (slice_index_or log k d).whole (slice_index_or log k d).count ≡ next
  is_next = sym (ap (replay pool start) (take_more log k d within) ∙ replay_push pool start (take k log) (slice_index_or log k d))

  pub files_redone : (pool' : List ℕ) (w v : World) → pool' ≡ pool → w ≡ with_files_of start (replay pool start (take k log))
      → v ≡ with_files_of w (after_call w (call_of pool' (slice_index_or log k d).kept) (slice_index_or log k d).whole (slice_index_or log k d).count)
      → v ≡ with_files_of start (replay pool start (take (k + 1) log))
  files_redone pool' w v pools met done =
      let e = slice_index_or log k d in
      done ∙ (λ i. with_files_of (met i) (after_call (met i) (call_of (pools i) e.kept) e.whole e.count))
      ∙ files_call so_far start (call_of pool e.kept) e.whole e.count ∙ ap (with_files_of start) is_next

  pub devices_redone : (pool' : List ℕ) (before roomy after : Devices) → pool' ≡ pool → beside before ≡ bare (replay pool start (take k log)) → beside roomy ≡ beside before
      → beside after ≡ bare (after_call (beside roomy) (call_of pool' (slice_index_or log k d).kept) (slice_index_or log k d).whole (slice_index_or log k d).count)
      → beside after ≡ bare (replay pool start (take (k + 1) log))
  devices_redone pool' before roomy after pools met same done =
      let e = slice_index_or log k d in
      beside_step roomy after so_far (call_of pool' e.kept) e.whole e.count (same ∙ met) done
      ∙ ap (λ (p : List ℕ). bare (after_call so_far (call_of p e.kept) e.whole e.count)) pools ∙ ap bare is_next

  -- the files at the last sync
  pub sync_redone : (pool' : List ℕ) (before after : Option (List (List ℕ × List ℕ))) (v : World) → pool' ≡ pool → v ≡ with_files_of start (replay pool start (take (k + 1) log))
      → before ≡ synced_of pool start None (take k log) → after ≡ synced_after before (call_of pool' (slice_index_or log k d).kept) v
      → after ≡ synced_of pool start None (take (k + 1) log)
  sync_redone pool' before after v pools world met kept =
      let e = slice_index_or log k d in
      kept ∙ (λ i. synced_after (met i) (call_of (pools i) e.kept) (world i))
      ∙ ap (synced_after (synced_of pool start None (take k log)) (call_of pool e.kept)) (sym is_next)
      ∙ sym (synced_push pool start None (take k log) e) ∙ ap (synced_of pool start None) (sym (take_more log k d within))
