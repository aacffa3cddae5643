-- What it means that a call was noted.
use Rattle.std.specs.Prelude.{◌≡◌, ◌≤◌, ◌+◌, ℕ, Bool, cond, ◌&&◌, ◌==◌, ◌∷◌, length}
use Rattle.ls_board.specs.declared.action.Action.{Action}
use Rattle.ls_board.specs.declared.action.Action.TheVariants.{List as ListNames, Read, Make, Put, Poke, Remove, Sync, WeaverWrite, WeaverRead, GkSign, GkEnroll, GkVerify, GkForget, GkList, KeyPut, KeyOpen, KeyDrop, KeyList, ResumeStore, ResumeTake, Hear, Say, Now, Draw}
use Rattle.ls_board.specs.declared.action.Part.{Part}
use Rattle.ls_board.specs.Effect.{weight_of, part_of}
use Rattle.ls_board.specs.Images.{changing}
use Rattle.ls_board.specs.Acts.{Sight}
use Rattle.ls_memboard.specs.Replay.{after_call, number_of}

-- The call stands in the past, with the world that it met, and the room is used up.
pub record IsNoted (old : Sight) (a : Action) (whole failed : Bool) (count : ℕ) (new : Sight) : Type 0 where
  pub told : new.told ≡ old.told
  pub never_fails : new.never_fails ≡ old.never_fails
  pub slots : new.slots ≡ old.slots
  pub actions : new.actions + 1 ≡ old.actions
  pub bytes : new.bytes + weight_of a ≡ old.bytes
  pub world : new.world ≡ after_call old.world (changing a) whole count
  pub past : new.past ≡ (old.world, changing a) ∷ old.past
  pub faults : (p : Part)
      → new.faults p ≡ old.faults p + cond (failed && number_of (part_of a) == number_of p) 1 0

-- so many bytes can be heard of what is left, where the action hears any
abbrev pub IsHearable : Sight → Action → ℕ → Type 0
IsHearable s ListNames count = Unit {0}
IsHearable s (Read n) count = Unit {0}
IsHearable s (Make n len) count = Unit {0}
IsHearable s (Put n bytes) count = Unit {0}
IsHearable s (Poke n at bytes) count = Unit {0}
IsHearable s (Remove n) count = Unit {0}
IsHearable s Sync count = Unit {0}
IsHearable s (WeaverWrite slot key value) count = Unit {0}
IsHearable s (WeaverRead slot key moment) count = Unit {0}
IsHearable s (GkSign sid salt password) count = Unit {0}
IsHearable s (GkEnroll sid) count = Unit {0}
IsHearable s (GkVerify handle password moment) count = Unit {0}
IsHearable s (GkForget sid) count = Unit {0}
IsHearable s GkList count = Unit {0}
IsHearable s (KeyPut alias key) count = Unit {0}
IsHearable s (KeyOpen alias bytes) count = Unit {0}
IsHearable s (KeyDrop alias) count = Unit {0}
IsHearable s KeyList count = Unit {0}
IsHearable s (ResumeStore key) count = Unit {0}
IsHearable s ResumeTake count = Unit {0}
IsHearable s (Hear max) count = (count ≤ max) × (count ≤ length s.world.input)
IsHearable s (Say bytes) count = Unit {0}
IsHearable s Now count = Unit {0}
IsHearable s (Draw len) count = Unit {0}
