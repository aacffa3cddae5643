-- Worlds in order, and images of worlds in which no file is touched.
use Rattle.std.proofs.Common.{◌≡◌, ⊎_elim, inl, inr, ◌∷◌, ℕ, Bool, List, [], Option, None, Some, refl, sym, ◌∙◌, ap, subst}
use Rattle.std.specs.Ordering.{nat_cmp}
use Rattle.std.specs.FinMap.Entries.{find, where_key, is_sorted-where_key, same_entries}
use Rattle.std.proofs.lemmas.Cmp.{nat_cmp_total, nat_list_cmp_total}
use Rattle.std.proofs.lemmas.Map.Lookups.{exact_bytes}
use Rattle.ls_board.specs.declared.action.Action.{Action}
use Rattle.ls_board.specs.declared.action.Action.TheVariants.{List as ListNames, Read, Make, Put, Poke, Remove, Sync, WeaverWrite, WeaverRead, GkSign, GkEnroll, GkVerify, GkForget, GkList, KeyPut, KeyOpen, KeyDrop, KeyList, ResumeStore, ResumeTake, Hear, Say, Now, Draw}
use Rattle.ls_board.specs.declared.devices.Counter.{Counter}
use Rattle.ls_board.specs.declared.touch.Touch.{Touch}
use Rattle.ls_board.specs.declared.world.World.{World}
use Rattle.ls_board.specs.Order.{byte_cmp, IsSorted}
use Rattle.ls_board.specs.Gatekeeper.{no_fails, sid_of, is_signed, counter_of, counter_after, with_counter}
use Rattle.ls_board.specs.Effect.{Mark, file_at, touch_at, marked, make_mark, put_mark, poke_mark, remove_mark, after}
use Rattle.ls_board.specs.Images.{MayHold, Leaves, Within, DeviceWithin, LeavesWithin}
use Rattle.ls_board.specs.Planned.{file_of}
use Rattle.ls_board.specs.Runs.{after_all, PlanImage}
use Rattle.ls_board.specs.Worlds.{InOrder}
use Rattle.ls_board.proofs.PutLemmas.{true_test, test_true, put_sorted, without_sorted}
use Rattle.ls_board.proofs.FileLemmas.{with_file_sorted}
use Rattle.ls_board.proofs.StepLemmas.{holds_same}

-- ---- the tables stay in order

marked_in_order : (w : World) (m : Mark) → InOrder w → InOrder (marked w m)
marked_in_order w m o = record {
  files = with_file_sorted w.files m.name m.content o.files;
  touched = put_sorted byte_cmp nat_list_cmp_total w.touched m.name m.touch o.touched;
  gk = o.gk;
  keys = o.keys;
}

counter_sorted : (records : List (ℕ × Counter)) (sid : ℕ) (right : Bool) (moment : ℕ) (counter : Option Counter) → IsSorted nat_cmp records
    → IsSorted nat_cmp (with_counter records sid right moment counter)
counter_sorted records sid right moment None sorted = sorted
counter_sorted records sid right moment (Some c) sorted = put_sorted nat_cmp nat_cmp_total records sid (counter_after c right moment) sorted

pub after_in_order : (w : World) (a : Action) (count : ℕ) → InOrder w → InOrder (after w a count)
after_in_order w ListNames count o = o
after_in_order w (Read n) count o = o
after_in_order w (Make n len) count o = marked_in_order w (make_mark w n len) o
after_in_order w (Put n bytes) count o = marked_in_order w (put_mark w n bytes) o
after_in_order w (Poke n at bytes) count o = marked_in_order w (poke_mark w n at bytes) o
after_in_order w (Remove n) count o = marked_in_order w (remove_mark w n) o
after_in_order w Sync count o = record { files = o.files; touched = refl; gk = o.gk; keys = o.keys }
after_in_order w (WeaverWrite slot key value) count o = record { files = o.files; touched = o.touched; gk = o.gk; keys = o.keys }
after_in_order w (WeaverRead slot key moment) count o = record { files = o.files; touched = o.touched; gk = o.gk; keys = o.keys }
after_in_order w (GkSign sid salt password) count o = o
after_in_order w (GkEnroll sid) count o = record { files = o.files; touched = o.touched; gk = put_sorted nat_cmp nat_cmp_total w.gk sid no_fails o.gk; keys = o.keys }
after_in_order w (GkVerify handle password moment) count o = record { files = o.files; touched = o.touched; gk = counter_sorted w.gk (sid_of handle) (is_signed w.gk_key handle password) moment (counter_of w.gk handle) o.gk; keys = o.keys }
after_in_order w (GkForget sid) count o = record { files = o.files; touched = o.touched; gk = without_sorted nat_cmp nat_cmp_total w.gk sid o.gk; keys = o.keys }
after_in_order w GkList count o = o
after_in_order w (KeyPut alias key) count o = record { files = o.files; touched = o.touched; gk = o.gk; keys = put_sorted nat_cmp nat_cmp_total w.keys alias key o.keys }
after_in_order w (KeyOpen alias bytes) count o = o
after_in_order w (KeyDrop alias) count o = record { files = o.files; touched = o.touched; gk = o.gk; keys = without_sorted nat_cmp nat_cmp_total w.keys alias o.keys }
after_in_order w KeyList count o = o
after_in_order w (ResumeStore key) count o = record { files = o.files; touched = o.touched; gk = o.gk; keys = o.keys }
after_in_order w ResumeTake count o = record { files = o.files; touched = o.touched; gk = o.gk; keys = o.keys }
after_in_order w (Hear max) count o = record { files = o.files; touched = o.touched; gk = o.gk; keys = o.keys }
after_in_order w (Say bytes) count o = record { files = o.files; touched = o.touched; gk = o.gk; keys = o.keys }
after_in_order w Now count o = record { files = o.files; touched = o.touched; gk = o.gk; keys = o.keys }
after_in_order w (Draw len) count o = record { files = o.files; touched = o.touched; gk = o.gk; keys = o.keys }

device_in_order : (w : World) (a : Action) (mid : World) → DeviceWithin w a mid → InOrder w → InOrder mid
device_in_order w a mid within o = ⊎_elim (λ is. subst InOrder (sym is) o) (λ is. subst InOrder (sym is) (after_in_order w a 0 o)) within

pub within_in_order : (w : World) (a : Action) (mid : World) → Within w a mid → InOrder w → InOrder mid
within_in_order w ListNames mid within o = subst InOrder (sym within) o
within_in_order w (Read n) mid within o = subst InOrder (sym within) o
within_in_order w (Make n len) mid within o = subst InOrder (sym within.is) (marked_in_order w (record (make_mark w n len) { content = within.content }) o)
within_in_order w (Put n bytes) mid within o = subst InOrder (sym within.is) (marked_in_order w (record (put_mark w n bytes) { content = within.content }) o)
within_in_order w (Poke n at bytes) mid within o = subst InOrder (sym within.is) (marked_in_order w (record (poke_mark w n at bytes) { content = within.content }) o)
within_in_order w (Remove n) mid within o = subst InOrder (sym within.is) (marked_in_order w (record (remove_mark w n) { content = within.content }) o)
within_in_order w Sync mid within o = subst InOrder (sym within.is) (record { files = o.files; touched = test_true _ (is_sorted-where_key byte_cmp within.still w.touched (true_test _ o.touched)); gk = o.gk; keys = o.keys })
within_in_order w (WeaverWrite slot key value) mid within o = device_in_order w (WeaverWrite slot key value) mid within o
within_in_order w (WeaverRead slot key moment) mid within o = device_in_order w (WeaverRead slot key moment) mid within o
within_in_order w (GkSign sid salt password) mid within o = subst InOrder (sym within) o
within_in_order w (GkEnroll sid) mid within o = device_in_order w (GkEnroll sid) mid within o
within_in_order w (GkVerify handle password moment) mid within o = device_in_order w (GkVerify handle password moment) mid within o
within_in_order w (GkForget sid) mid within o = device_in_order w (GkForget sid) mid within o
within_in_order w GkList mid within o = subst InOrder (sym within) o
within_in_order w (KeyPut alias key) mid within o = device_in_order w (KeyPut alias key) mid within o
within_in_order w (KeyOpen alias bytes) mid within o = subst InOrder (sym within) o
within_in_order w (KeyDrop alias) mid within o = device_in_order w (KeyDrop alias) mid within o
within_in_order w KeyList mid within o = subst InOrder (sym within) o
within_in_order w (ResumeStore key) mid within o = device_in_order w (ResumeStore key) mid within o
within_in_order w ResumeTake mid within o = device_in_order w ResumeTake mid within o
within_in_order w (Hear max) mid within o = subst InOrder (sym within.is) (record { files = o.files; touched = o.touched; gk = o.gk; keys = o.keys })
within_in_order w (Say bytes) mid within o = subst InOrder (sym within.is) (record { files = o.files; touched = o.touched; gk = o.gk; keys = o.keys })
within_in_order w Now mid within o = device_in_order w Now mid within o
within_in_order w (Draw len) mid within o = subst InOrder (sym within.is) (record { files = o.files; touched = o.touched; gk = o.gk; keys = o.keys })

pub left_in_order : (w image : World) → Leaves w image → InOrder w → InOrder image
left_in_order w image left o = record {
  files = left.sorted;
  touched = subst (λ (v : World). IsSorted byte_cmp v.touched) (sym left.rest) refl;
  gk = subst (λ (v : World). IsSorted nat_cmp v.gk) (sym left.rest) o.gk;
  keys = subst (λ (v : World). IsSorted nat_cmp v.keys) (sym left.rest) o.keys;
}

pub all_in_order : (w : World) (actions : List Action) → InOrder w → InOrder (after_all w actions)
all_in_order w [] o = o
all_in_order w (a ∷ actions) o = all_in_order (after w a 0) actions (after_in_order w a 0 o)

pub plan_in_order : (w : World) (plan : List Action) (image : World) → PlanImage w plan image → InOrder w → InOrder image
plan_in_order w [] image left o = left_in_order w image left o
plan_in_order w (a ∷ plan) image (inl left) o = left_in_order w image left o
plan_in_order w (a ∷ plan) image (inr (inl within)) o = left_in_order within.0 image within.2 (within_in_order w a within.0 within.1 o)
plan_in_order w (a ∷ plan) image (inr (inr later)) o = plan_in_order (after w a 0) plan image later (after_in_order w a 0 o)

-- ---- a world in which no file is touched

-- the files as they read are always an image
pub left_as_read : (w : World) → InOrder w → Leaves w (record w { touched = [] })
left_as_read w o = record { rest = refl; sorted = o.files; each = λ n. holds_same (touch_at w n) (file_at w n) }

-- it has itself as its only image
pub only_itself : (w image : World) → InOrder w → w.touched ≡ [] → Leaves w image → image ≡ w
only_itself w image o none left =
    left.rest ∙ (λ i. record w { files = files i; touched = sym none i })
  where
    same : (n : List ℕ) → file_at image n ≡ file_at w n
    same n = subst (λ (rows : List (List ℕ × Touch)). MayHold (find byte_cmp n rows) (file_at w n) (file_at image n)) none (left.each n)

    files : image.files ≡ w.files
    files = same_entries byte_cmp nat_list_cmp_total exact_bytes image.files w.files (true_test _ left.sorted) (true_test _ o.files) same

no_file : (n : List ℕ) → Some n ≡ None → ⊥
no_file n is = absurd (cc)

-- an action that changes no file leaves none touched
pub none_touched : (w : World) (a : Action) (mid : World) → file_of a ≡ None → w.touched ≡ [] → Within w a mid → mid.touched ≡ []
none_touched w ListNames mid nothing none within = ap (λ (v : World). v.touched) within ∙ none
none_touched w (Read n) mid nothing none within = ap (λ (v : World). v.touched) within ∙ none
none_touched w (Make n len) mid nothing none within = absurd (no_file _ nothing)
none_touched w (Put n bytes) mid nothing none within = absurd (no_file _ nothing)
none_touched w (Poke n at bytes) mid nothing none within = absurd (no_file _ nothing)
none_touched w (Remove n) mid nothing none within = absurd (no_file _ nothing)
none_touched w Sync mid nothing none within = ap (λ (v : World). v.touched) within.is ∙ ap (where_key byte_cmp within.still) none
none_touched w (WeaverWrite slot key value) mid nothing none within = ⊎_elim (λ is. ap (λ (v : World). v.touched) is ∙ none) (λ is. ap (λ (v : World). v.touched) is ∙ none) within
none_touched w (WeaverRead slot key moment) mid nothing none within = ⊎_elim (λ is. ap (λ (v : World). v.touched) is ∙ none) (λ is. ap (λ (v : World). v.touched) is ∙ none) within
none_touched w (GkSign sid salt password) mid nothing none within = ap (λ (v : World). v.touched) within ∙ none
none_touched w (GkEnroll sid) mid nothing none within = ⊎_elim (λ is. ap (λ (v : World). v.touched) is ∙ none) (λ is. ap (λ (v : World). v.touched) is ∙ none) within
none_touched w (GkVerify handle password moment) mid nothing none within = ⊎_elim (λ is. ap (λ (v : World). v.touched) is ∙ none) (λ is. ap (λ (v : World). v.touched) is ∙ none) within
none_touched w (GkForget sid) mid nothing none within = ⊎_elim (λ is. ap (λ (v : World). v.touched) is ∙ none) (λ is. ap (λ (v : World). v.touched) is ∙ none) within
none_touched w GkList mid nothing none within = ap (λ (v : World). v.touched) within ∙ none
none_touched w (KeyPut alias key) mid nothing none within = ⊎_elim (λ is. ap (λ (v : World). v.touched) is ∙ none) (λ is. ap (λ (v : World). v.touched) is ∙ none) within
none_touched w (KeyOpen alias bytes) mid nothing none within = ap (λ (v : World). v.touched) within ∙ none
none_touched w (KeyDrop alias) mid nothing none within = ⊎_elim (λ is. ap (λ (v : World). v.touched) is ∙ none) (λ is. ap (λ (v : World). v.touched) is ∙ none) within
none_touched w KeyList mid nothing none within = ap (λ (v : World). v.touched) within ∙ none
none_touched w (ResumeStore key) mid nothing none within = ⊎_elim (λ is. ap (λ (v : World). v.touched) is ∙ none) (λ is. ap (λ (v : World). v.touched) is ∙ none) within
none_touched w ResumeTake mid nothing none within = ⊎_elim (λ is. ap (λ (v : World). v.touched) is ∙ none) (λ is. ap (λ (v : World). v.touched) is ∙ none) within
none_touched w (Hear max) mid nothing none within = ap (λ (v : World). v.touched) within.is ∙ none
none_touched w (Say bytes) mid nothing none within = ap (λ (v : World). v.touched) within.is ∙ none
none_touched w Now mid nothing none within = ⊎_elim (λ is. ap (λ (v : World). v.touched) is ∙ none) (λ is. ap (λ (v : World). v.touched) is ∙ none) within
none_touched w (Draw len) mid nothing none within = ap (λ (v : World). v.touched) within.is ∙ none

-- so a crash within it leaves what it may leave itself
pub only_within : (w image : World) (a : Action) → InOrder w → w.touched ≡ [] → file_of a ≡ None → LeavesWithin w a image → Within w a image
only_within w image a o none nothing left =
    subst (Within w a) (sym (only_itself left.0 image (within_in_order w a left.0 left.1 o) (none_touched w a left.0 nothing none left.1) left.2)) left.1
