-- The devices of a world don't depend on its files, nor its files on the devices.
use Rattle.std.proofs.Common.{◌≡◌, ℕ, Bool, true, false, List, length, length-set, Option, None, Some, refl, sym, ◌∙◌, ap}
use Rattle.ls_weaver.specs.Slots.{written, slot_after}
use Rattle.ls_board.specs.declared.action.Action.{Action}
use Rattle.ls_board.specs.declared.action.Action.TheVariants.{List as ListNames, Read, Make, Put, Poke, Remove, Sync, WeaverWrite, WeaverRead, GkSign, GkEnroll, GkVerify, GkForget, GkList, KeyPut, KeyOpen, KeyDrop, KeyList, ResumeStore, ResumeTake, Hear, Say, Now, Draw}
use Rattle.ls_board.specs.declared.world.World.{World}
use Rattle.ls_board.specs.Order.{byte_cmp}
use Rattle.ls_board.specs.Worlds.{InOrder}
use Rattle.ls_board.specs.Effect.{Mark, after, slot_at}
use Rattle.ls_board.proofs.PutLemmas.{put_sorted}
use Rattle.ls_board.proofs.ImageLemmas.{after_in_order}
use Rattle.std.proofs.lemmas.Cmp.{nat_list_cmp_total}
use Rattle.ls_gatekeeper.specs.Device.{Device}
use Rattle.ls_board.specs.Gatekeeper.{verified}
use Rattle.ls_memboard.specs.Beside.{bare, beside, with_files_of}
use Rattle.ls_memboard.specs.Replay.{mark_of, touched_by, after_call}
use Rattle.ls_memboard.specs.declared.devices.Devices.{Devices}

bare_idle : (w : World) (m : Option Mark) → bare (touched_by w m) ≡ bare w
bare_idle w None = refl
bare_idle w (Some m) = refl

bare_whole : (w : World) (a : Action) (count : ℕ) → bare (after (bare w) a count) ≡ bare (after w a count)
bare_whole w ListNames count = refl
bare_whole w (Read n) count = refl
bare_whole w (Make n len) count = refl
bare_whole w (Put n bytes) count = refl
bare_whole w (Poke n at bytes) count = refl
bare_whole w (Remove n) count = refl
bare_whole w Sync count = refl
bare_whole w (WeaverWrite slot key value) count = refl
bare_whole w (WeaverRead slot key moment) count = refl
bare_whole w (GkSign sid salt password) count = refl
bare_whole w (GkEnroll sid) count = refl
bare_whole w (GkVerify handle password moment) count = refl
bare_whole w (GkForget sid) count = refl
bare_whole w GkList count = refl
bare_whole w (KeyPut alias key) count = refl
bare_whole w (KeyOpen alias bytes) count = refl
bare_whole w (KeyDrop alias) count = refl
bare_whole w KeyList count = refl
bare_whole w (ResumeStore key) count = refl
bare_whole w ResumeTake count = refl
bare_whole w (Hear max) count = refl
bare_whole w (Say bytes) count = refl
bare_whole w Now count = refl
bare_whole w (Draw len) count = refl

pub bare_call : (w : World) (call : Option Action) (whole : Bool) (count : ℕ) → bare (after_call (bare w) call whole count) ≡ bare (after_call w call whole count)
bare_call w None whole count = refl
bare_call w (Some a) true count = bare_whole w a count
bare_call w (Some a) false count = bare_idle (bare w) (mark_of (bare w) a) ∙ sym (bare_idle w (mark_of w a))

-- a call without effect leaves the devices
pub idle_beside : (d : Devices) (call : Option Action) (count : ℕ) → beside d ≡ bare (after_call (beside d) call false count)
idle_beside d None count = refl
idle_beside d (Some a) count = sym (bare_idle (beside d) (mark_of (beside d) a))

-- a verification changes the Gatekeeper alone
pub verify_beside : (d : Devices) (g : Device) (handle password : List ℕ) (moment count : ℕ) → g.key ≡ d.gk.key → g.records ≡ verified d.gk.key d.gk.records handle password moment
    → beside (record d { gk = g }) ≡ bare (after_call (beside d) (Some (GkVerify handle password moment)) true count)
verify_beside d g handle password moment count key records = λ i. record (beside d) { gk_key = key i; gk = records i }

idle_order : (w : World) (m : Option Mark) → InOrder w → InOrder (touched_by w m)
idle_order w None o = o
idle_order w (Some m) o = record { files = o.files; touched = put_sorted byte_cmp nat_list_cmp_total w.touched m.name m.touch o.touched; gk = o.gk; keys = o.keys }

pub call_order : (w : World) (call : Option Action) (whole : Bool) (count : ℕ) → InOrder w → InOrder (after_call w call whole count)
call_order w None whole count o = o
call_order w (Some a) true count o = after_in_order w a count o
call_order w (Some a) false count o = idle_order w (mark_of w a) o

idle_slots : (w : World) (m : Option Mark) → length (touched_by w m).slots ≡ length w.slots
idle_slots w None = refl
idle_slots w (Some m) = refl

whole_slots : (w : World) (a : Action) (count : ℕ) → length (after w a count).slots ≡ length w.slots
whole_slots w ListNames count = refl
whole_slots w (Read n) count = refl
whole_slots w (Make n len) count = refl
whole_slots w (Put n bytes) count = refl
whole_slots w (Poke n at bytes) count = refl
whole_slots w (Remove n) count = refl
whole_slots w Sync count = refl
whole_slots w (WeaverWrite slot key value) count = length-set w.slots slot (written key value)
whole_slots w (WeaverRead slot key moment) count =
    length-set w.slots slot (slot_after (slot_at w slot) key moment)
whole_slots w (GkSign sid salt password) count = refl
whole_slots w (GkEnroll sid) count = refl
whole_slots w (GkVerify handle password moment) count = refl
whole_slots w (GkForget sid) count = refl
whole_slots w GkList count = refl
whole_slots w (KeyPut alias key) count = refl
whole_slots w (KeyOpen alias bytes) count = refl
whole_slots w (KeyDrop alias) count = refl
whole_slots w KeyList count = refl
whole_slots w (ResumeStore key) count = refl
whole_slots w ResumeTake count = refl
whole_slots w (Hear max) count = refl
whole_slots w (Say bytes) count = refl
whole_slots w Now count = refl
whole_slots w (Draw len) count = refl

-- no call changes how many slots there are
pub call_slots : (w : World) (call : Option Action) (whole : Bool) (count : ℕ) → length (after_call w call whole count).slots ≡ length w.slots
call_slots w None whole count = refl
call_slots w (Some a) true count = whole_slots w a count
call_slots w (Some a) false count = idle_slots w (mark_of w a)

-- ---- files alone

files_whole : (w v : World) (a : Action) (count : ℕ) → with_files_of v (after (with_files_of v w) a count) ≡ with_files_of v (after w a count)
files_whole w v ListNames count = refl
files_whole w v (Read n) count = refl
files_whole w v (Make n len) count = refl
files_whole w v (Put n bytes) count = refl
files_whole w v (Poke n at bytes) count = refl
files_whole w v (Remove n) count = refl
files_whole w v Sync count = refl
files_whole w v (WeaverWrite slot key value) count = refl
files_whole w v (WeaverRead slot key moment) count = refl
files_whole w v (GkSign sid salt password) count = refl
files_whole w v (GkEnroll sid) count = refl
files_whole w v (GkVerify handle password moment) count = refl
files_whole w v (GkForget sid) count = refl
files_whole w v GkList count = refl
files_whole w v (KeyPut alias key) count = refl
files_whole w v (KeyOpen alias bytes) count = refl
files_whole w v (KeyDrop alias) count = refl
files_whole w v KeyList count = refl
files_whole w v (ResumeStore key) count = refl
files_whole w v ResumeTake count = refl
files_whole w v (Hear max) count = refl
files_whole w v (Say bytes) count = refl
files_whole w v Now count = refl
files_whole w v (Draw len) count = refl

files_marks : (w v : World) (a : Action) → mark_of (with_files_of v w) a ≡ mark_of w a
files_marks w v ListNames = refl
files_marks w v (Read n) = refl
files_marks w v (Make n len) = refl
files_marks w v (Put n bytes) = refl
files_marks w v (Poke n at bytes) = refl
files_marks w v (Remove n) = refl
files_marks w v Sync = refl
files_marks w v (WeaverWrite slot key value) = refl
files_marks w v (WeaverRead slot key moment) = refl
files_marks w v (GkSign sid salt password) = refl
files_marks w v (GkEnroll sid) = refl
files_marks w v (GkVerify handle password moment) = refl
files_marks w v (GkForget sid) = refl
files_marks w v GkList = refl
files_marks w v (KeyPut alias key) = refl
files_marks w v (KeyOpen alias bytes) = refl
files_marks w v (KeyDrop alias) = refl
files_marks w v KeyList = refl
files_marks w v (ResumeStore key) = refl
files_marks w v ResumeTake = refl
files_marks w v (Hear max) = refl
files_marks w v (Say bytes) = refl
files_marks w v Now = refl
files_marks w v (Draw len) = refl

files_idle : (w v : World) (m : Option Mark) → with_files_of v (touched_by (with_files_of v w) m) ≡ with_files_of v (touched_by w m)
files_idle w v None = refl
files_idle w v (Some m) = refl

pub files_call : (w v : World) (call : Option Action) (whole : Bool) (count : ℕ) → with_files_of v (after_call (with_files_of v w) call whole count) ≡ with_files_of v (after_call w call whole count)
files_call w v None whole count = refl
files_call w v (Some a) true count = files_whole w v a count
files_call w v (Some a) false count = ap (λ (m : Option Mark). with_files_of v (touched_by (with_files_of v w) m)) (files_marks w v a) ∙ files_idle w v (mark_of w a)
