-- Which actions a plan may hold, and which change a file.
use Rattle.std.specs.Prelude.{ℕ, List, Option, None, Some}
use Rattle.ls_board.specs.declared.action.Action.{Action}
use Rattle.ls_board.specs.declared.action.Action.TheVariants.{List as ListNames, Read, Make, Put, Poke, Remove, Sync, WeaverWrite, WeaverRead, GkSign, GkEnroll, GkVerify, GkForget, GkList, KeyPut, KeyOpen, KeyDrop, KeyList, ResumeStore, ResumeTake, Hear, Say, Now, Draw}

-- a plan holds what changes and whose answer nobody needs: so the taking of an escrow key, where the key is of no use any more
abbrev pub IsPlanned : Action → Type 0
IsPlanned ListNames = ⊥
IsPlanned (Read n) = ⊥
IsPlanned (Make n len) = Unit {0}
IsPlanned (Put n bytes) = Unit {0}
IsPlanned (Poke n at bytes) = Unit {0}
IsPlanned (Remove n) = Unit {0}
IsPlanned Sync = Unit {0}
IsPlanned (WeaverWrite slot key value) = Unit {0}
IsPlanned (WeaverRead slot key moment) = ⊥
IsPlanned (GkSign sid salt password) = ⊥
IsPlanned (GkEnroll sid) = Unit {0}
IsPlanned (GkVerify handle password moment) = ⊥
IsPlanned (GkForget sid) = Unit {0}
IsPlanned GkList = ⊥
IsPlanned (KeyPut alias key) = Unit {0}
IsPlanned (KeyOpen alias bytes) = ⊥
IsPlanned (KeyDrop alias) = Unit {0}
IsPlanned KeyList = ⊥
IsPlanned (ResumeStore key) = Unit {0}
IsPlanned ResumeTake = Unit {0}
IsPlanned (Hear max) = ⊥
IsPlanned (Say bytes) = Unit {0}
IsPlanned Now = ⊥
IsPlanned (Draw len) = ⊥

-- the file that it changes, if it changes one
abbrev pub file_of : Action → Option (List ℕ)
file_of ListNames = None
file_of (Read n) = None
file_of (Make n len) = Some n
file_of (Put n bytes) = Some n
file_of (Poke n at bytes) = Some n
file_of (Remove n) = Some n
file_of Sync = None
file_of (WeaverWrite slot key value) = None
file_of (WeaverRead slot key moment) = None
file_of (GkSign sid salt password) = None
file_of (GkEnroll sid) = None
file_of (GkVerify handle password moment) = None
file_of (GkForget sid) = None
file_of GkList = None
file_of (KeyPut alias key) = None
file_of (KeyOpen alias bytes) = None
file_of (KeyDrop alias) = None
file_of KeyList = None
file_of (ResumeStore key) = None
file_of ResumeTake = None
file_of (Hear max) = None
file_of (Say bytes) = None
file_of Now = None
file_of (Draw len) = None
