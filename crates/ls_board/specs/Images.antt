-- What a crash may leave of a world, and of an action that it cuts short.
use Rattle.std.specs.Prelude.{◌≡◌, ◌⊎◌, ◌≤◌, ◌<◌, ◌+◌, ℕ, Bool, IsTrue, List, [], ◌∷◌, ◌++◌, length, take, drop, replicate, slice_index, Option, None, Some}
use Rattle.std.specs.FinMap.Entries.{where_key, is_sorted}
use Rattle.ls_board.specs.declared.action.Action.{Action}
use Rattle.ls_board.specs.declared.action.Action.TheVariants.{List as ListNames, Read, Make, Put, Poke, Remove, Sync, WeaverWrite, WeaverRead, GkSign, GkEnroll, GkVerify, GkForget, GkList, KeyPut, KeyOpen, KeyDrop, KeyList, ResumeStore, ResumeTake, Hear, Say, Now, Draw}
use Rattle.ls_board.specs.declared.touch.Touch.{Touch}
use Rattle.ls_board.specs.declared.touch.Touch.TheVariants.{Poked, Made, Other}
use Rattle.ls_board.specs.declared.touch.Span.{Span}
use Rattle.ls_board.specs.declared.world.World.{World}
use Rattle.ls_board.specs.Order.{byte_cmp}
use Rattle.ls_board.specs.Effect.{Mark, file_at, touch_at, marked, make_mark, put_mark, poke_mark, remove_mark, after}

-- ---- one file

-- a place in none of the ranges
abbrev pub Outside : List Span → ℕ → Type 0
Outside [] i = Unit {0}
Outside (s ∷ spans) i = ((i < s.at) ⊎ (s.at + s.len ≤ i)) × Outside spans i

-- the same length, and the same bytes outside the ranges
pub record SameOutside (spans : List Span) (now image : List ℕ) : Type 0 where
  pub long : length image ≡ length now
  pub kept : (i : ℕ) → Outside spans i → slice_index image i ≡ slice_index now i

-- a file that was only poked is there as before, and keeps what stands outside the ranges
abbrev pub PokedFrom : List Span → Option (List ℕ) → Option (List ℕ) → Type 0
PokedFrom spans (Some now) (Some image) = SameOutside spans now image
PokedFrom spans None None = Unit {0}
PokedFrom spans (Some now) None = ⊥
PokedFrom spans None (Some image) = ⊥

-- zero bytes, no more than the file has
abbrev pub IsShortZeros : Option (List ℕ) → Option (List ℕ) → Type 0
IsShortZeros (Some now) (Some image) = (n : ℕ) × (n ≤ length now) × (image ≡ replicate n 0)
IsShortZeros (Some now) None = ⊥
IsShortZeros None image = ⊥

-- What a file may hold after a crash, by how it was touched and what it reads now. One that was
-- only made is as it reads, as it was before, absent, or short of its zeros.
abbrev pub MayHold : Option Touch → Option (List ℕ) → Option (List ℕ) → Type 0
MayHold None now image = image ≡ now
MayHold (Some (Poked spans)) now image = PokedFrom spans now image
MayHold (Some (Made before)) now image =
    (image ≡ now) ⊎ ((image ≡ before) ⊎ ((image ≡ None) ⊎ IsShortZeros now image))
MayHold (Some Other) now image = Unit {0}

-- A crash may leave this image of the world: devices, input and said bytes as they are, each file
-- by how it was touched, none of them touched.
pub record Leaves (w image : World) : Type 0 where
  pub rest : image ≡ record w { files = image.files; touched = [] }
  pub sorted : IsTrue (is_sorted byte_cmp image.files)
  pub each : (n : List ℕ) → MayHold (touch_at w n) (file_at w n) (file_at image n)

-- ---- an action that had some of its effect

-- an action on one file: the file is touched, and reads as the disk allows
pub record MarkWithin (w : World) (m : Mark) (mid : World) : Type 0 where
  pub content : Option (List ℕ)
  pub holds : MayHold (Some m.own) m.content content
  pub is : mid ≡ marked w (record m { content = content })

-- a sync: each file is touched as before, or no longer
pub record SyncWithin (w mid : World) : Type 0 where
  pub still : List ℕ → Bool
  pub is : mid ≡ record w { touched = where_key byte_cmp still w.touched }

-- a device's action: whole or absent
abbrev pub DeviceWithin : World → Action → World → Type 0
DeviceWithin w a mid = (mid ≡ w) ⊎ (mid ≡ after w a 0)

-- a number of bytes was taken from the input
pub record HearWithin (w : World) (max : ℕ) (mid : World) : Type 0 where
  pub taken : ℕ
  pub few : taken ≤ max
  pub is : mid ≡ record w { input = drop taken w.input }

-- a number of bytes of noise was taken
pub record DrawWithin (w : World) (len : ℕ) (mid : World) : Type 0 where
  pub taken : ℕ
  pub few : taken ≤ len
  pub is : mid ≡ record w { noise = drop taken w.noise }

-- a number of the bytes was said
pub record SayWithin (w : World) (bytes : List ℕ) (mid : World) : Type 0 where
  pub told : ℕ
  pub is : mid ≡ record w { said = w.said ++ take told bytes }

-- The action had none of its effect, some of it or all of it, and left this world.
abbrev pub Within : World → Action → World → Type 0
Within w ListNames mid = mid ≡ w
Within w (Read n) mid = mid ≡ w
Within w (Make n len) mid = MarkWithin w (make_mark w n len) mid
Within w (Put n bytes) mid = MarkWithin w (put_mark w n bytes) mid
Within w (Poke n at bytes) mid = MarkWithin w (poke_mark w n at bytes) mid
Within w (Remove n) mid = MarkWithin w (remove_mark w n) mid
Within w Sync mid = SyncWithin w mid
Within w (WeaverWrite slot key value) mid = DeviceWithin w (WeaverWrite slot key value) mid
Within w (WeaverRead slot key moment) mid = DeviceWithin w (WeaverRead slot key moment) mid
Within w (GkSign sid salt password) mid = mid ≡ w
Within w (GkEnroll sid) mid = DeviceWithin w (GkEnroll sid) mid
Within w (GkVerify handle password moment) mid =
    DeviceWithin w (GkVerify handle password moment) mid
Within w (GkForget sid) mid = DeviceWithin w (GkForget sid) mid
Within w GkList mid = mid ≡ w
Within w (KeyPut alias key) mid = DeviceWithin w (KeyPut alias key) mid
Within w (KeyOpen alias bytes) mid = mid ≡ w
Within w (KeyDrop alias) mid = DeviceWithin w (KeyDrop alias) mid
Within w KeyList mid = mid ≡ w
Within w (ResumeStore key) mid = DeviceWithin w (ResumeStore key) mid
Within w ResumeTake mid = DeviceWithin w ResumeTake mid
Within w (Hear max) mid = HearWithin w max mid
Within w (Say bytes) mid = SayWithin w bytes mid
Within w Now mid = DeviceWithin w Now mid
Within w (Draw len) mid = DrawWithin w len mid

-- a crash within the action may leave this image
abbrev pub LeavesWithin : World → Action → World → Type 0
LeavesWithin w a image = (mid : World) × Within w a mid × Leaves mid image

-- The call as far as it may change the world. What it only reads by is not kept.
abbrev pub changing : Action → Option Action
changing ListNames = None
changing (Read n) = None
changing (Make n len) = Some (Make n len)
changing (Put n bytes) = Some (Put n bytes)
changing (Poke n at bytes) = Some (Poke n at bytes)
changing (Remove n) = Some (Remove n)
changing Sync = Some Sync
changing (WeaverWrite slot key value) = Some (WeaverWrite slot key value)
changing (WeaverRead slot key moment) = Some (WeaverRead slot key moment)
changing (GkSign sid salt password) = None
changing (GkEnroll sid) = Some (GkEnroll sid)
changing (GkVerify handle password moment) = Some (GkVerify handle password moment)
changing (GkForget sid) = Some (GkForget sid)
changing GkList = None
changing (KeyPut alias key) = Some (KeyPut alias key)
changing (KeyOpen alias bytes) = None
changing (KeyDrop alias) = Some (KeyDrop alias)
changing KeyList = None
changing (ResumeStore key) = Some (ResumeStore key)
changing ResumeTake = Some ResumeTake
changing (Hear max) = Some (Hear max)
changing (Say bytes) = Some (Say bytes)
changing Now = Some Now
changing (Draw len) = Some (Draw len)

-- a crash within the call may leave this image
abbrev pub LeavesWithinCall : World → Option Action → World → Type 0
LeavesWithinCall w None image = Leaves w image
LeavesWithinCall w (Some a) image = LeavesWithin w a image
