-- What an action does to the world: one row for each action.
use Rattle.std.specs.Prelude.{◌≡◌, ◌⊎◌, ◌≤◌, ◌<◌, ◌+◌, ℕ, List, [], ◌∷◌, ◌++◌, length, take, drop, replicate, slice_set, slice_index_or, Option, None, Some, MatchOption, IsSomeAnd}
use Rattle.std.specs.Ordering.{nat_cmp}
use Rattle.std.specs.FinMap.Entries.{find, put}
use Rattle.ls_weaver.specs.declared.slot.Slot.{Slot}
use Rattle.ls_weaver.specs.declared.slot.SlotRead.{SlotRead}
use Rattle.ls_weaver.specs.declared.slot.SlotRead.TheVariants.{Value as SlotValue, Wrong as SlotWrong, Throttled as SlotThrottled}
use Rattle.ls_weaver.specs.Slots.{blank_slot, written, slot_after, slot_answer}
use Rattle.ls_board.specs.declared.action.Action.{Action}
use Rattle.ls_board.specs.declared.action.Action.TheVariants.{List as ListNames, Read, Make, Put, Poke, Remove, Sync, WeaverWrite, WeaverRead, GkSign, GkEnroll, GkVerify, GkForget, GkList, KeyPut, KeyOpen, KeyDrop, KeyList, ResumeStore, ResumeTake, Hear, Say, Now, Draw}
use Rattle.ls_board.specs.declared.action.Answer.{Answer}
use Rattle.ls_board.specs.declared.action.Answer.TheVariants.{Done, Absent, Bytes, Value, Wrong, Throttled, Handle, Accepted, Unknown, NoKey, BadTag, Key, Empty, End, Moment}
use Rattle.ls_board.specs.declared.action.Part.{Part}
use Rattle.ls_board.specs.declared.action.Part.TheVariants.{Input, Output, Files, Weaver, Gatekeeper, Keys, Resume, Clock, Noise}
use Rattle.ls_board.specs.declared.touch.Span.{Span}
use Rattle.ls_board.specs.declared.touch.Touch.{Touch}
use Rattle.ls_board.specs.declared.touch.Touch.TheVariants.{Poked, Made, Other}
use Rattle.ls_board.specs.declared.world.World.{World}
use Rattle.ls_board.specs.Order.{byte_cmp, without}
use Rattle.ls_board.specs.Listing.{IsListing, IsFields, IsListingOf, AreFieldsOf}
use Rattle.ls_board.specs.Gatekeeper.{signed, no_fails, verified, verify_answer}
use Rattle.ls_board.specs.Keys.{IsOpening}
use Rattle.ls_tape.specs.Tape.{drawn, next_moment, later_moments}

-- ---- files

-- what the file of this name holds, or that there is none
abbrev pub file_at : World → List ℕ → Option (List ℕ)
file_at w n = find byte_cmp n w.files

-- how it was touched since the last sync
abbrev pub touch_at : World → List ℕ → Option Touch
touch_at w n = find byte_cmp n w.touched

-- the table with this content at the name, or without the name
abbrev pub with_file : List (List ℕ × List ℕ) → List ℕ → Option (List ℕ) → List (List ℕ × List ℕ)
with_file files n None = without byte_cmp n files
with_file files n (Some bytes) = put byte_cmp n bytes files

-- What an action does to one file: what it holds then, how this action alone touches it, and how
-- it is touched together with what came before.
pub record Mark : Type 0 where
  pub name : List ℕ
  pub content : Option (List ℕ)
  pub own : Touch
  pub touch : Touch

-- A file that was only made stays so when it is made again, and keeps what it held before the first
-- time. One that was touched in another way is no longer only made.
abbrev pub made_touch : Option Touch → Option (List ℕ) → Touch
made_touch None now = Made now
made_touch (Some (Made before)) now = Made before
made_touch (Some (Poked spans)) now = Other
made_touch (Some Other) now = Other

-- a file is made of zeros
abbrev pub make_mark : World → List ℕ → ℕ → Mark
make_mark w n len = record {
  name = n;
  content = Some (replicate len 0);
  own = Made (file_at w n);
  touch = made_touch (touch_at w n) (file_at w n);
}

-- a file that is put may hold anything after a crash
abbrev pub put_mark : World → List ℕ → List ℕ → Mark
put_mark w n bytes = record { name = n; content = Some bytes; own = Other; touch = Other }

-- bytes written over others, from a place on
abbrev pub poked_bytes : List ℕ → ℕ → List ℕ → List ℕ
poked_bytes old at bytes = take at old ++ bytes ++ drop (at + length bytes) old

abbrev pub poked_content : Option (List ℕ) → ℕ → List ℕ → Option (List ℕ)
poked_content None at bytes = None
poked_content (Some old) at bytes = Some (poked_bytes old at bytes)

-- the range that is written over
abbrev pub span_of : ℕ → List ℕ → Span
span_of at bytes = record { at = at; len = length bytes }

-- A file that was only poked keeps all its ranges, the newest first. One that was touched in
-- another way is no longer only poked.
abbrev pub poked_touch : Option Touch → Span → Touch
poked_touch None span = Poked (span ∷ [])
poked_touch (Some (Poked spans)) span = Poked (span ∷ spans)
poked_touch (Some (Made before)) span = Other
poked_touch (Some Other) span = Other

-- a range of a file is written over
abbrev pub poke_mark : World → List ℕ → ℕ → List ℕ → Mark
poke_mark w n at bytes = record {
  name = n;
  content = poked_content (file_at w n) at bytes;
  own = Poked (span_of at bytes ∷ []);
  touch = poked_touch (touch_at w n) (span_of at bytes);
}

-- a file that is removed may be back after a crash, and hold anything
abbrev pub remove_mark : World → List ℕ → Mark
remove_mark w n = record { name = n; content = None; own = Other; touch = Other }

-- the world with this change of one file
abbrev pub marked : World → Mark → World
marked w m =
    record w {
      files = with_file w.files m.name m.content;
      touched = put byte_cmp m.name m.touch w.touched;
    }

-- ---- slots and the cell

-- the slot of this number
abbrev pub slot_at : World → ℕ → Slot
slot_at w slot = slice_index_or w.slots slot blank_slot

-- what a slot answers, as an answer of the board
abbrev pub read_answer : SlotRead → Answer
read_answer (SlotValue value) = Value value
read_answer (SlotWrong rest) = Wrong rest
read_answer (SlotThrottled rest) = Throttled rest

-- the key that is taken out of the cell
abbrev pub cell_answer : Option (List ℕ) → Answer
cell_answer None = Empty
cell_answer (Some key) = Key key

-- ---- the rows

-- The world after a whole action. For `Hear` the count says how many bytes were taken; no other
-- action reads it.
abbrev pub after : World → Action → ℕ → World
after w ListNames count = w
after w (Read n) count = w
after w (Make n len) count = marked w (make_mark w n len)
after w (Put n bytes) count = marked w (put_mark w n bytes)
after w (Poke n at bytes) count = marked w (poke_mark w n at bytes)
after w (Remove n) count = marked w (remove_mark w n)
after w Sync count = record w { touched = [] }
after w (WeaverWrite slot key value) count =
    record w { slots = slice_set w.slots slot (written key value) }
after w (WeaverRead slot key moment) count =
    record w { slots = slice_set w.slots slot (slot_after (slot_at w slot) key moment) }
after w (GkSign sid salt password) count = w
after w (GkEnroll sid) count = record w { gk = put nat_cmp sid no_fails w.gk }
after w (GkVerify handle password moment) count =
    record w { gk = verified w.gk_key w.gk handle password moment }
after w (GkForget sid) count = record w { gk = without nat_cmp sid w.gk }
after w GkList count = w
after w (KeyPut alias key) count = record w { keys = put nat_cmp alias key w.keys }
after w (KeyOpen alias bytes) count = w
after w (KeyDrop alias) count = record w { keys = without nat_cmp alias w.keys }
after w KeyList count = w
after w (ResumeStore key) count = record w { cell = Some key }
after w ResumeTake count = record w { cell = None }
after w (Hear max) count = record w { input = drop count w.input }
after w (Say bytes) count = record w { said = w.said ++ bytes }
after w Now count = record w { moments = later_moments w.moments }
after w (Draw len) count = record w { noise = drop len w.noise }

-- this answer and no bytes
abbrev pub IsAnswer : Answer → Answer → List ℕ → Type 0
IsAnswer expected answer out = (answer ≡ expected) × (out ≡ [])

-- it was done
abbrev pub IsDone : Answer → List ℕ → Type 0
IsDone answer out = IsAnswer Done answer out

-- The answer to it, and the bytes that come with it. `Hear` gives any 1 to `max` bytes of what is
-- left, as the board likes.
abbrev pub Answers : World → Action → Answer → List ℕ → Type 0
Answers w ListNames answer out = (answer ≡ Bytes) × IsListingOf w.files out
Answers w (Read n) answer out =
    MatchOption (file_at w n) ((answer ≡ Absent) × (out ≡ []))
    (λ bytes. (answer ≡ Bytes) × (out ≡ bytes))
Answers w (Make n len) answer out = IsDone answer out
Answers w (Put n bytes) answer out = IsDone answer out
Answers w (Poke n at bytes) answer out = IsDone answer out
Answers w (Remove n) answer out = IsDone answer out
Answers w Sync answer out = IsDone answer out
Answers w (WeaverWrite slot key value) answer out = IsDone answer out
Answers w (WeaverRead slot key moment) answer out =
    IsAnswer (read_answer (slot_answer (slot_at w slot) key moment)) answer out
Answers w (GkSign sid salt password) answer out =
    IsAnswer (Handle (signed w.gk_key sid salt password)) answer out
Answers w (GkEnroll sid) answer out = IsDone answer out
Answers w (GkVerify handle password moment) answer out =
    IsAnswer (verify_answer w.gk_key w.gk handle password moment) answer out
Answers w (GkForget sid) answer out = IsDone answer out
Answers w GkList answer out = (answer ≡ Bytes) × AreFieldsOf w.gk out
Answers w (KeyPut alias key) answer out = IsDone answer out
Answers w (KeyOpen alias bytes) answer out = IsOpening w.keys alias bytes answer out
Answers w (KeyDrop alias) answer out = IsDone answer out
Answers w KeyList answer out = (answer ≡ Bytes) × AreFieldsOf w.keys out
Answers w (ResumeStore key) answer out = IsDone answer out
Answers w ResumeTake answer out = IsAnswer (cell_answer w.cell) answer out
Answers w (Hear max) answer out =
    ((w.input ≡ []) × (answer ≡ End) × (out ≡ []))
    ⊎ ((answer ≡ Bytes) × (1 ≤ length out) × (length out ≤ max) × (out ≡ take (length out) w.input))
Answers w (Say bytes) answer out = IsDone answer out
Answers w Now answer out = IsAnswer (Moment (next_moment w.moments)) answer out
Answers w (Draw len) answer out = (answer ≡ Bytes) × (out ≡ drawn w.noise len)

-- one of the answers of a slot
abbrev pub IsSlotAnswer : Answer → Type 0
IsSlotAnswer (Value value) = Unit {0}
IsSlotAnswer (Wrong rest) = Unit {0}
IsSlotAnswer (Throttled rest) = Unit {0}
IsSlotAnswer _ = ⊥

-- a handle
abbrev pub IsHandleAnswer : Answer → Type 0
IsHandleAnswer (Handle handle) = Unit {0}
IsHandleAnswer _ = ⊥

-- one of the answers to a handle
abbrev pub IsVerifyAnswer : Answer → Type 0
IsVerifyAnswer (Accepted sid) = Unit {0}
IsVerifyAnswer (Wrong rest) = Unit {0}
IsVerifyAnswer (Throttled rest) = Unit {0}
IsVerifyAnswer Unknown = Unit {0}
IsVerifyAnswer _ = ⊥

-- one of the answers of the cell
abbrev pub IsCellAnswer : Answer → Type 0
IsCellAnswer (Key key) = Unit {0}
IsCellAnswer Empty = Unit {0}
IsCellAnswer _ = ⊥

-- a moment
abbrev pub IsMomentAnswer : Answer → Type 0
IsMomentAnswer (Moment moment) = Unit {0}
IsMomentAnswer _ = ⊥

-- the answers that any board may give, also one that tells nothing of its world
abbrev pub HasShape : Action → Answer → List ℕ → Type 0
HasShape ListNames answer out = (answer ≡ Bytes) × IsListing out
HasShape (Read n) answer out = ((answer ≡ Absent) × (out ≡ [])) ⊎ (answer ≡ Bytes)
HasShape (Make n len) answer out = IsDone answer out
HasShape (Put n bytes) answer out = IsDone answer out
HasShape (Poke n at bytes) answer out = IsDone answer out
HasShape (Remove n) answer out = IsDone answer out
HasShape Sync answer out = IsDone answer out
HasShape (WeaverWrite slot key value) answer out = IsDone answer out
HasShape (WeaverRead slot key moment) answer out = IsSlotAnswer answer × (out ≡ [])
HasShape (GkSign sid salt password) answer out = IsHandleAnswer answer × (out ≡ [])
HasShape (GkEnroll sid) answer out = IsDone answer out
HasShape (GkVerify handle password moment) answer out = IsVerifyAnswer answer × (out ≡ [])
HasShape (GkForget sid) answer out = IsDone answer out
HasShape GkList answer out = (answer ≡ Bytes) × IsFields out
HasShape (KeyPut alias key) answer out = IsDone answer out
HasShape (KeyOpen alias bytes) answer out =
    ((answer ≡ NoKey) × (out ≡ [])) ⊎ (((answer ≡ BadTag) × (out ≡ [])) ⊎ (answer ≡ Bytes))
HasShape (KeyDrop alias) answer out = IsDone answer out
HasShape KeyList answer out = (answer ≡ Bytes) × IsFields out
HasShape (ResumeStore key) answer out = IsDone answer out
HasShape ResumeTake answer out = IsCellAnswer answer × (out ≡ [])
HasShape (Hear max) answer out =
    ((answer ≡ End) × (out ≡ [])) ⊎ ((answer ≡ Bytes) × (1 ≤ length out) × (length out ≤ max))
HasShape (Say bytes) answer out = IsDone answer out
HasShape Now answer out = IsMomentAnswer answer × (out ≡ [])
HasShape (Draw len) answer out = (answer ≡ Bytes) × (length out ≡ len)

-- the part that does it
abbrev pub part_of : Action → Part
part_of ListNames = Files
part_of (Read n) = Files
part_of (Make n len) = Files
part_of (Put n bytes) = Files
part_of (Poke n at bytes) = Files
part_of (Remove n) = Files
part_of Sync = Files
part_of (WeaverWrite slot key value) = Weaver
part_of (WeaverRead slot key moment) = Weaver
part_of (GkSign sid salt password) = Gatekeeper
part_of (GkEnroll sid) = Gatekeeper
part_of (GkVerify handle password moment) = Gatekeeper
part_of (GkForget sid) = Gatekeeper
part_of GkList = Gatekeeper
part_of (KeyPut alias key) = Keys
part_of (KeyOpen alias bytes) = Keys
part_of (KeyDrop alias) = Keys
part_of KeyList = Keys
part_of (ResumeStore key) = Resume
part_of ResumeTake = Resume
part_of (Hear max) = Input
part_of (Say bytes) = Output
part_of Now = Clock
part_of (Draw len) = Noise

-- The bytes of room that it uses up, beside one action: its name, bytes and password, and the zeros
-- of a made file. What only reads uses none.
abbrev pub weight_of : Action → ℕ
weight_of ListNames = 0
weight_of (Read n) = 0
weight_of (Make n len) = length n + len
weight_of (Put n bytes) = length n + length bytes
weight_of (Poke n at bytes) = length n + length bytes
weight_of (Remove n) = length n
weight_of Sync = 0
weight_of (WeaverWrite slot key value) = 0
weight_of (WeaverRead slot key moment) = 0
weight_of (GkSign sid salt password) = 0
weight_of (GkEnroll sid) = 0
weight_of (GkVerify handle password moment) = length password
weight_of (GkForget sid) = 0
weight_of GkList = 0
weight_of (KeyPut alias key) = 0
weight_of (KeyOpen alias bytes) = 0
weight_of (KeyDrop alias) = 0
weight_of KeyList = 0
weight_of (ResumeStore key) = 0
weight_of ResumeTake = 0
weight_of (Hear max) = 0
weight_of (Say bytes) = length bytes
weight_of Now = 0
weight_of (Draw len) = 0

-- only these may find no memory
abbrev pub MayLack : Action → Type 0
MayLack ListNames = Unit {0}
MayLack (Read n) = Unit {0}
MayLack (Make n len) = ⊥
MayLack (Put n bytes) = ⊥
MayLack (Poke n at bytes) = ⊥
MayLack (Remove n) = ⊥
MayLack Sync = ⊥
MayLack (WeaverWrite slot key value) = ⊥
MayLack (WeaverRead slot key moment) = ⊥
MayLack (GkSign sid salt password) = ⊥
MayLack (GkEnroll sid) = ⊥
MayLack (GkVerify handle password moment) = ⊥
MayLack (GkForget sid) = ⊥
MayLack GkList = Unit {0}
MayLack (KeyPut alias key) = ⊥
MayLack (KeyOpen alias bytes) = Unit {0}
MayLack (KeyDrop alias) = ⊥
MayLack KeyList = Unit {0}
MayLack (ResumeStore key) = ⊥
MayLack ResumeTake = ⊥
MayLack (Hear max) = Unit {0}
MayLack (Say bytes) = ⊥
MayLack Now = ⊥
MayLack (Draw len) = Unit {0}

-- what it asks of the world, where that is told: the range of a poke lies in the file
abbrev pub Applies : World → Action → Type 0
Applies w ListNames = Unit {0}
Applies w (Read n) = Unit {0}
Applies w (Make n len) = Unit {0}
Applies w (Put n bytes) = Unit {0}
Applies w (Poke n at bytes) = IsSomeAnd (file_at w n) (λ old. at + length bytes ≤ length old)
Applies w (Remove n) = Unit {0}
Applies w Sync = Unit {0}
Applies w (WeaverWrite slot key value) = Unit {0}
Applies w (WeaverRead slot key moment) = Unit {0}
Applies w (GkSign sid salt password) = Unit {0}
Applies w (GkEnroll sid) = Unit {0}
Applies w (GkVerify handle password moment) = Unit {0}
Applies w (GkForget sid) = Unit {0}
Applies w GkList = Unit {0}
Applies w (KeyPut alias key) = Unit {0}
Applies w (KeyOpen alias bytes) = Unit {0}
Applies w (KeyDrop alias) = Unit {0}
Applies w KeyList = Unit {0}
Applies w (ResumeStore key) = Unit {0}
Applies w ResumeTake = Unit {0}
Applies w (Hear max) = Unit {0}
Applies w (Say bytes) = Unit {0}
Applies w Now = Unit {0}
Applies w (Draw len) = Unit {0}

-- what it asks of any board with so many slots
abbrev pub IsSound : ℕ → Action → Type 0
IsSound slots ListNames = Unit {0}
IsSound slots (Read n) = Unit {0}
IsSound slots (Make n len) = Unit {0}
IsSound slots (Put n bytes) = Unit {0}
IsSound slots (Poke n at bytes) = Unit {0}
IsSound slots (Remove n) = Unit {0}
IsSound slots Sync = Unit {0}
IsSound slots (WeaverWrite slot key value) = slot < slots
IsSound slots (WeaverRead slot key moment) = slot < slots
IsSound slots (GkSign sid salt password) = Unit {0}
IsSound slots (GkEnroll sid) = Unit {0}
IsSound slots (GkVerify handle password moment) = Unit {0}
IsSound slots (GkForget sid) = Unit {0}
IsSound slots GkList = Unit {0}
IsSound slots (KeyPut alias key) = Unit {0}
IsSound slots (KeyOpen alias bytes) = Unit {0}
IsSound slots (KeyDrop alias) = Unit {0}
IsSound slots KeyList = Unit {0}
IsSound slots (ResumeStore key) = Unit {0}
IsSound slots ResumeTake = Unit {0}
IsSound slots (Hear max) = 1 ≤ max
IsSound slots (Say bytes) = length bytes ≤ 16384
IsSound slots Now = Unit {0}
IsSound slots (Draw len) = Unit {0}
