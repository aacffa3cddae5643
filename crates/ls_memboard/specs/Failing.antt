-- How the listed calls fail.
use Rattle.std.specs.Prelude.{◌≡◌, ◌≢◌, ◌+◌, ℕ, Bool, true, false, min, cond, ◌==◌, List, length, None, Some, Result, Ok, Err}
use Rattle.ls_board.specs.declared.action.Action.{Action}
use Rattle.ls_board.specs.declared.action.Action.TheVariants.{List as ListNames, Read, Make, Put, Poke, Remove, Sync, WeaverWrite, WeaverRead, GkSign, GkEnroll, GkVerify, GkForget, GkList, KeyPut, KeyOpen, KeyDrop, KeyList, ResumeStore, ResumeTake, Hear, Say, Now, Draw}
use Rattle.ls_board.specs.declared.action.Answer.{Answer}
use Rattle.ls_board.specs.declared.action.Part.{Part}
use Rattle.ls_board.specs.declared.action.BoardFault.{BoardFault}
use Rattle.ls_board.specs.declared.action.BoardFault.TheVariants.{Failed, Memory}
use Rattle.ls_board.specs.declared.world.World.{World}
use Rattle.ls_board.specs.Effect.{after, part_of}
use Rattle.ls_board.specs.Acts.{Sight}
use Rattle.ls_memboard.specs.declared.failure.Failure.{Failure}
use Rattle.ls_memboard.specs.Failures.{outcome_at}
use Rattle.ls_memboard.specs.Replay.{touched_only, number_of}

-- how many bytes the action hears at most
abbrev pub most_heard : World → Action → ℕ
most_heard w ListNames = 0
most_heard w (Read n) = 0
most_heard w (Make n len) = 0
most_heard w (Put n bytes) = 0
most_heard w (Poke n at bytes) = 0
most_heard w (Remove n) = 0
most_heard w Sync = 0
most_heard w (WeaverWrite slot key value) = 0
most_heard w (WeaverRead slot key moment) = 0
most_heard w (GkSign sid salt password) = 0
most_heard w (GkEnroll sid) = 0
most_heard w (GkVerify handle password moment) = 0
most_heard w (GkForget sid) = 0
most_heard w GkList = 0
most_heard w (KeyPut alias key) = 0
most_heard w (KeyOpen alias bytes) = 0
most_heard w (KeyDrop alias) = 0
most_heard w KeyList = 0
most_heard w (ResumeStore key) = 0
most_heard w ResumeTake = 0
most_heard w (Hear max) = min max (length w.input)
most_heard w (Say bytes) = 0
most_heard w Now = 0
most_heard w (Draw len) = 0

-- the world that a failed call leaves: with its whole effect, or none but that its file is touched
abbrev pub failed_world : World → Action → Bool → World
failed_world w a true = after w a (most_heard w a)
failed_world w a false = touched_only w a

-- the faults of this part that the answer tells
abbrev pub faults_in : Result Answer BoardFault → Part → ℕ
faults_in (Ok answer) p = 0
faults_in (Err Memory) p = 0
faults_in (Err (Failed q)) p = cond (number_of q == number_of p) 1 0

-- A call fails exactly where its number is listed, as the list says, and that is what is counted.
pub record FailsAsListed (failures : List Failure) (old : Sight) (a : Action) (result : Result Answer BoardFault) (new : Sight) : Type 0 where
  pub listed : (done : Bool) → outcome_at failures (length old.past) ≡ Some done
      → (result ≡ Err (Failed (part_of a))) × (new.world ≡ failed_world old.world a done)
  pub unlisted : outcome_at failures (length old.past) ≡ None → (p : Part) → result ≢ Err (Failed p)
  pub counted : (p : Part) → new.faults p ≡ old.faults p + faults_in result p
