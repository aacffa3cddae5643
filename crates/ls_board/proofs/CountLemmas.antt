-- No action changes how many slots there are, whole or in part, nor does a crash.
use Rattle.std.proofs.Common.{◌≡◌, ⊎_elim, ℕ, List, [], ◌∷◌, length, length-set, inl, inr, refl, ◌∙◌, ap}
use Rattle.ls_board.specs.declared.action.Action.{Action}
use Rattle.ls_board.specs.declared.action.Action.TheVariants.{List as ListNames, Read, Make, Put, Poke, Remove, Sync, WeaverWrite, WeaverRead, GkSign, GkEnroll, GkVerify, GkForget, GkList, KeyPut, KeyOpen, KeyDrop, KeyList, ResumeStore, ResumeTake, Hear, Say, Now, Draw}
use Rattle.ls_board.specs.declared.world.World.{World}
use Rattle.ls_board.specs.Effect.{after}
use Rattle.ls_board.specs.Images.{Leaves, Within, DeviceWithin, LeavesWithin}
use Rattle.ls_board.specs.Runs.{after_all, PlanImage}

abbrev count_of : World → ℕ
count_of w = length w.slots

same_count : (w mid : World) → mid ≡ w → count_of mid ≡ count_of w
same_count w mid is = ap count_of is

pub after_count : (w : World) (a : Action) (count : ℕ) → length (after w a count).slots ≡ length w.slots
after_count w (WeaverWrite slot key value) count = length-set w.slots slot _
after_count w (WeaverRead slot key moment) count = length-set w.slots slot _
after_count w a count = refl

device_count : (w mid : World) (a : Action) → DeviceWithin w a mid → count_of mid ≡ count_of w
device_count w mid a within = ⊎_elim (λ is. same_count w mid is) (λ is. same_count (after w a 0) mid is ∙ after_count w a 0) within

pub within_count : (w mid : World) (a : Action) → Within w a mid → length mid.slots ≡ length w.slots
within_count w mid ListNames within = same_count w mid within
within_count w mid (Read n) within = same_count w mid within
within_count w mid (Make n len) within = ap count_of within.is
within_count w mid (Put n bytes) within = ap count_of within.is
within_count w mid (Poke n at bytes) within = ap count_of within.is
within_count w mid (Remove n) within = ap count_of within.is
within_count w mid Sync within = ap count_of within.is
within_count w mid (WeaverWrite slot key value) within = device_count w mid (WeaverWrite slot key value) within
within_count w mid (WeaverRead slot key moment) within = device_count w mid (WeaverRead slot key moment) within
within_count w mid (GkSign sid salt password) within = same_count w mid within
within_count w mid (GkEnroll sid) within = device_count w mid (GkEnroll sid) within
within_count w mid (GkVerify handle password moment) within = device_count w mid (GkVerify handle password moment) within
within_count w mid (GkForget sid) within = device_count w mid (GkForget sid) within
within_count w mid GkList within = same_count w mid within
within_count w mid (KeyPut alias key) within = device_count w mid (KeyPut alias key) within
within_count w mid (KeyOpen alias bytes) within = same_count w mid within
within_count w mid (KeyDrop alias) within = device_count w mid (KeyDrop alias) within
within_count w mid KeyList within = same_count w mid within
within_count w mid (ResumeStore key) within = device_count w mid (ResumeStore key) within
within_count w mid ResumeTake within = device_count w mid ResumeTake within
within_count w mid (Hear max) within = ap count_of within.is
within_count w mid (Say bytes) within = ap count_of within.is
within_count w mid Now within = device_count w mid Now within
within_count w mid (Draw len) within = ap count_of within.is

pub left_count : (w image : World) → Leaves w image → length image.slots ≡ length w.slots
left_count w image left = ap count_of left.rest

pub left_within_count : (w image : World) (a : Action) → LeavesWithin w a image → length image.slots ≡ length w.slots
left_within_count w image a within = left_count within.0 image within.2 ∙ within_count w within.0 a within.1

pub all_count : (w : World) (actions : List Action) → length (after_all w actions).slots ≡ length w.slots
all_count w [] = refl
all_count w (a ∷ actions) = all_count (after w a 0) actions ∙ after_count w a 0

pub plan_count : (w image : World) (plan : List Action) → PlanImage w plan image → length image.slots ≡ length w.slots
plan_count w image [] left = left_count w image left
plan_count w image (a ∷ plan) (inl left) = left_count w image left
plan_count w image (a ∷ plan) (inr (inl within)) = left_within_count w image a within
plan_count w image (a ∷ plan) (inr (inr later)) = plan_count (after w a 0) image plan later ∙ after_count w a 0
