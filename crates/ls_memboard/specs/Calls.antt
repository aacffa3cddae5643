-- What the kept calls stand for. A call's name and its bytes lie in a pool.
use Rattle.std.specs.Prelude.{◌≤◌, ◌+◌, ℕ, Bool, true, false, ◌&&◌, List, length, take, drop, Option, None, Some}
use Rattle.ls_board.specs.declared.action.Action.{Action}
use Rattle.ls_board.specs.declared.action.Action.TheVariants as act
use Rattle.ls_memboard.specs.declared.call.Kind.{Kind}
use Rattle.ls_memboard.specs.declared.call.Kind.TheVariants.{Quiet, Make, Put, Poke, Remove, Sync, WeaverWrite, WeaverRead, GkEnroll, GkVerify, GkForget, KeyPut, KeyDrop, ResumeStore, ResumeTake, Hear, Say, Now, Draw}
use Rattle.ls_memboard.specs.declared.call.Kept.{Kept}
use Rattle.ls_memboard.specs.declared.call.Entry.{Entry}

-- the call of this kind, with this name and these bytes
abbrev pub call_from : Kind → List ℕ → List ℕ → Option Action
call_from Quiet name bytes = None
call_from (Make len) name bytes = Some (act.Make name len)
call_from Put name bytes = Some (act.Put name bytes)
call_from (Poke at) name bytes = Some (act.Poke name at bytes)
call_from Remove name bytes = Some (act.Remove name)
call_from Sync name bytes = Some act.Sync
call_from (WeaverWrite slot key value) name bytes = Some (act.WeaverWrite slot key value)
call_from (WeaverRead slot key moment) name bytes = Some (act.WeaverRead slot key moment)
call_from (GkEnroll sid) name bytes = Some (act.GkEnroll sid)
call_from (GkVerify handle moment) name bytes = Some (act.GkVerify handle bytes moment)
call_from (GkForget sid) name bytes = Some (act.GkForget sid)
call_from (KeyPut alias key) name bytes = Some (act.KeyPut alias key)
call_from (KeyDrop alias) name bytes = Some (act.KeyDrop alias)
call_from (ResumeStore key) name bytes = Some (act.ResumeStore key)
call_from ResumeTake name bytes = Some act.ResumeTake
call_from (Hear max) name bytes = Some (act.Hear max)
call_from Say name bytes = Some (act.Say bytes)
call_from Now name bytes = Some act.Now
call_from (Draw len) name bytes = Some (act.Draw len)

-- the call that was kept so
abbrev pub call_of : List ℕ → Kept → Option Action
call_of pool k =
    call_from k.kind (take k.name (drop k.at pool)) (take k.bytes (drop (k.at + k.name) pool))

-- its bytes lie in the pool
abbrev pub IsIn : List ℕ → Kept → Type 0
IsIn pool k = (k.at + k.name) + k.bytes ≤ length pool

-- whether a whole call of this kind changes what a file holds
abbrev pub is_file_change : Kind → Bool
is_file_change Quiet = false
is_file_change (Make len) = true
is_file_change Put = true
is_file_change (Poke at) = true
is_file_change Remove = true
is_file_change Sync = false
is_file_change (WeaverWrite slot key value) = false
is_file_change (WeaverRead slot key moment) = false
is_file_change (GkEnroll sid) = false
is_file_change (GkVerify handle moment) = false
is_file_change (GkForget sid) = false
is_file_change (KeyPut alias key) = false
is_file_change (KeyDrop alias) = false
is_file_change (ResumeStore key) = false
is_file_change ResumeTake = false
is_file_change (Hear max) = false
is_file_change Say = false
is_file_change Now = false
is_file_change (Draw len) = false

-- whether the call changed what a file holds
abbrev pub changed_a_file : Entry → Bool
changed_a_file e = e.whole && is_file_change e.kept.kind

-- the call as far as it is kept without a name and without bytes
abbrev pub plain_call : Action → Option Action
plain_call act.List = None
plain_call (act.Read n) = None
plain_call (act.Make n len) = None
plain_call (act.Put n bytes) = None
plain_call (act.Poke n at bytes) = None
plain_call (act.Remove n) = None
plain_call act.Sync = Some act.Sync
plain_call (act.WeaverWrite slot key value) = Some (act.WeaverWrite slot key value)
plain_call (act.WeaverRead slot key moment) = Some (act.WeaverRead slot key moment)
plain_call (act.GkSign sid salt password) = None
plain_call (act.GkEnroll sid) = Some (act.GkEnroll sid)
plain_call (act.GkVerify handle password moment) = None
plain_call (act.GkForget sid) = Some (act.GkForget sid)
plain_call act.GkList = None
plain_call (act.KeyPut alias key) = Some (act.KeyPut alias key)
plain_call (act.KeyOpen alias bytes) = None
plain_call (act.KeyDrop alias) = Some (act.KeyDrop alias)
plain_call act.KeyList = None
plain_call (act.ResumeStore key) = Some (act.ResumeStore key)
plain_call act.ResumeTake = Some act.ResumeTake
plain_call (act.Hear max) = Some (act.Hear max)
plain_call (act.Say bytes) = None
plain_call act.Now = Some act.Now
plain_call (act.Draw len) = Some (act.Draw len)
