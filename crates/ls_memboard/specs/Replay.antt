-- The world that the calls done have made of the start.
use Rattle.std.specs.Prelude.{◌+◌, ℕ, Bool, true, false, ◌&&◌, ◌==◌, nat_le, count_by, List, [], ◌∷◌, length, Option, None, Some}
use Rattle.std.specs.List.{All}
use Rattle.std.specs.FinMap.Entries.{put}
use Rattle.ls_board.specs.declared.action.Action.{Action}
use Rattle.ls_board.specs.declared.action.Action.TheVariants.{List as ListNames, Read, Make, Put, Poke, Remove, Sync, WeaverWrite, WeaverRead, GkSign, GkEnroll, GkVerify, GkForget, GkList, KeyPut, KeyOpen, KeyDrop, KeyList, ResumeStore, ResumeTake, Hear, Say, Now, Draw}
use Rattle.ls_board.specs.declared.action.Part.{Part}
use Rattle.ls_board.specs.declared.action.Part.TheVariants.{Input, Output, Files, Weaver, Gatekeeper, Keys, Resume, Clock, Noise}
use Rattle.ls_board.specs.declared.world.World.{World}
use Rattle.ls_board.specs.Order.{byte_cmp}
use Rattle.ls_board.specs.Effect.{Mark, after, file_at, make_mark, put_mark, poke_mark, remove_mark}
use Rattle.ls_memboard.specs.declared.call.Entry.{Entry}
use Rattle.ls_memboard.specs.Calls.{call_of, IsIn}

-- what an action does to a file, where it changes one
abbrev pub mark_of : World → Action → Option Mark
mark_of w ListNames = None
mark_of w (Read n) = None
mark_of w (Make n len) = Some (make_mark w n len)
mark_of w (Put n bytes) = Some (put_mark w n bytes)
mark_of w (Poke n at bytes) = Some (poke_mark w n at bytes)
mark_of w (Remove n) = Some (remove_mark w n)
mark_of w Sync = None
mark_of w (WeaverWrite slot key value) = None
mark_of w (WeaverRead slot key moment) = None
mark_of w (GkSign sid salt password) = None
mark_of w (GkEnroll sid) = None
mark_of w (GkVerify handle password moment) = None
mark_of w (GkForget sid) = None
mark_of w GkList = None
mark_of w (KeyPut alias key) = None
mark_of w (KeyOpen alias bytes) = None
mark_of w (KeyDrop alias) = None
mark_of w KeyList = None
mark_of w (ResumeStore key) = None
mark_of w ResumeTake = None
mark_of w (Hear max) = None
mark_of w (Say bytes) = None
mark_of w Now = None
mark_of w (Draw len) = None

-- the world in which a file counts as touched, but reads as before
abbrev pub touched_by : World → Option Mark → World
touched_by w None = w
touched_by w (Some m) = record w { touched = put byte_cmp m.name m.touch w.touched }

-- a failed call that had no effect: the file that it names counts as touched
abbrev pub touched_only : World → Action → World
touched_only w a = touched_by w (mark_of w a)

-- the world after a call, whole or with no effect
abbrev pub after_call : World → Option Action → Bool → ℕ → World
after_call w None whole count = w
after_call w (Some a) true count = after w a count
after_call w (Some a) false count = touched_only w a

abbrev pub after_entry : List ℕ → World → Entry → World
after_entry pool w e = after_call w (call_of pool e.kept) e.whole e.count

-- the world after these calls, the oldest first
abbrev pub replay : List ℕ → World → List Entry → World
replay pool w [] = w
replay pool w (e ∷ log) = replay pool (after_entry pool w e) log

-- these calls, the newest first, each with the world that it met
abbrev pub past_from : List ℕ → World → List Entry → List (World × Option Action)
    → List (World × Option Action)
past_from pool w [] past = past
past_from pool w (e ∷ log) past =
    past_from pool (after_entry pool w e) log ((w, call_of pool e.kept) ∷ past)

abbrev pub number_of : Part → ℕ
number_of Input = 0
number_of Output = 1
number_of Files = 2
number_of Weaver = 3
number_of Gatekeeper = 4
number_of Keys = 5
number_of Resume = 6
number_of Clock = 7
number_of Noise = 8

-- how many calls of the part failed
abbrev pub fault_count : Part → List Entry → ℕ
fault_count p log = count_by (λ e. e.failed && number_of e.part == number_of p) log

abbrev pub AllIn : List ℕ → List Entry → Type 0
AllIn pool log = All (λ e. IsIn pool e.kept) log

-- whether a range lies in a file
abbrev pub is_in_file : Option (List ℕ) → ℕ → List ℕ → Bool
is_in_file None at bytes = false
is_in_file (Some old) at bytes = nat_le (at + length bytes) (length old)

-- whether the range of a poke lies in its file
abbrev pub fits : World → Action → Bool
fits w ListNames = true
fits w (Read n) = true
fits w (Make n len) = true
fits w (Put n bytes) = true
fits w (Poke n at bytes) = is_in_file (file_at w n) at bytes
fits w (Remove n) = true
fits w Sync = true
fits w (WeaverWrite slot key value) = true
fits w (WeaverRead slot key moment) = true
fits w (GkSign sid salt password) = true
fits w (GkEnroll sid) = true
fits w (GkVerify handle password moment) = true
fits w (GkForget sid) = true
fits w GkList = true
fits w (KeyPut alias key) = true
fits w (KeyOpen alias bytes) = true
fits w (KeyDrop alias) = true
fits w KeyList = true
fits w (ResumeStore key) = true
fits w ResumeTake = true
fits w (Hear max) = true
fits w (Say bytes) = true
fits w Now = true
fits w (Draw len) = true

abbrev pub call_fits : World → Option Action → Bool
call_fits w None = true
call_fits w (Some a) = fits w a

-- and so with each of these in its turn
abbrev pub all_fit : List ℕ → World → List Entry → Bool
all_fit pool w [] = true
all_fit pool w (e ∷ log) =
    call_fits w (call_of pool e.kept) && all_fit pool (after_entry pool w e) log
