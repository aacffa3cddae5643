-- What one file holds after the calls done.
use Rattle.std.specs.Prelude.{◌≡◌, MatchOption, ℕ, Bool, true, false, cond, List, [], ◌∷◌, replicate, Option, None, Some}
use Rattle.std.specs.Ordering.{eq_by_cmp}
use Rattle.ls_board.specs.declared.action.Action.{Action}
use Rattle.ls_board.specs.declared.action.Action.TheVariants.{List as ListNames, Read, Make, Put, Poke, Remove, Sync, WeaverWrite, WeaverRead, GkSign, GkEnroll, GkVerify, GkForget, GkList, KeyPut, KeyOpen, KeyDrop, KeyList, ResumeStore, ResumeTake, Hear, Say, Now, Draw}
use Rattle.ls_board.specs.declared.action.Answer.{Answer}
use Rattle.ls_board.specs.declared.action.Answer.TheVariants.{Absent, Bytes}
use Rattle.ls_board.specs.Order.{byte_cmp}
use Rattle.ls_board.specs.Effect.{poked_content}
use Rattle.ls_memboard.specs.declared.call.Entry.{Entry}
use Rattle.ls_memboard.specs.Calls.{call_of}

-- what the file of the name q holds after a whole action, where it holds `now` before
abbrev pub content_by : Action → List ℕ → Option (List ℕ) → Option (List ℕ)
content_by ListNames q now = now
content_by (Read n) q now = now
content_by (Make n len) q now = cond (eq_by_cmp byte_cmp q n) (Some (replicate len 0)) now
content_by (Put n bytes) q now = cond (eq_by_cmp byte_cmp q n) (Some bytes) now
content_by (Poke n at bytes) q now = cond (eq_by_cmp byte_cmp q n) (poked_content now at bytes) now
content_by (Remove n) q now = cond (eq_by_cmp byte_cmp q n) None now
content_by Sync q now = now
content_by (WeaverWrite slot key value) q now = now
content_by (WeaverRead slot key moment) q now = now
content_by (GkSign sid salt password) q now = now
content_by (GkEnroll sid) q now = now
content_by (GkVerify handle password moment) q now = now
content_by (GkForget sid) q now = now
content_by GkList q now = now
content_by (KeyPut alias key) q now = now
content_by (KeyOpen alias bytes) q now = now
content_by (KeyDrop alias) q now = now
content_by KeyList q now = now
content_by (ResumeStore key) q now = now
content_by ResumeTake q now = now
content_by (Hear max) q now = now
content_by (Say bytes) q now = now
content_by Now q now = now
content_by (Draw len) q now = now

-- and after a call
abbrev pub content_after : Option Action → Bool → List ℕ → Option (List ℕ) → Option (List ℕ)
content_after None whole q now = now
content_after (Some a) true q now = content_by a q now
content_after (Some a) false q now = now

-- what it holds after these calls, the oldest first
abbrev pub contents_after : List ℕ → List Entry → List ℕ → Option (List ℕ) → Option (List ℕ)
contents_after pool [] q now = now
contents_after pool (e ∷ log) q now =
    contents_after pool log q (content_after (call_of pool e.kept) e.whole q now)

-- the file that was found, or that there is none
abbrev pub shown : Bool → List ℕ → Option (List ℕ)
shown true bytes = Some bytes
shown false bytes = None

-- the answer to a reading of a file that holds this
abbrev pub IsRead : Option (List ℕ) → Answer → List ℕ → Type 0
IsRead file answer out =
    MatchOption file ((answer ≡ Absent) × (out ≡ [])) (λ bytes. (answer ≡ Bytes) × (out ≡ bytes))
