-- The steps of a resume over a board.
use Rattle.std.proofs.Common.{◌≡◌, ℕ, Bool, true, false, cond, List, [], ◌++◌, Option, None, Some, Result, Ok, Err, IfOk, refl, sym, ◌∙◌, ap, subst}
use Rattle.ls_arming.specs.declared.arming.Arming.{Arming}
use Rattle.ls_board.specs.declared.action.Action.TheVariants.{ResumeTake}
use Rattle.ls_board.specs.declared.action.BoardFault.{BoardFault}
use Rattle.ls_board.specs.declared.world.World.{World}
use Rattle.ls_board.specs.Acts.{Sight}
use Rattle.ls_board.specs.Keys.{key_at}
use Rattle.ls_chain.specs.declared.fault.ChainFault.{ChainFault}
use Rattle.ls_chain.specs.declared.fault.ChainFault.TheVariants.{Corrupt as ChainCorrupt, Failed, Memory}
use Rattle.ls_chain.specs.declared.resume_file.ResumeFile.{ResumeFile}
use Rattle.ls_chain.specs.Looking.{Looks}
use Rattle.ls_chain.specs.Links.{links_at}
use Rattle.ls_chain.specs.ResumeFiles.{resume_files, resume_chain}
use Rattle.ls_record.specs.declared.row.UserRow.{UserRow}
use Rattle.ls_record.specs.Rows.{Rec}
use Rattle.ls_secret.specs.Secrets.{SecretValue}
use Rattle.ls_vault.specs.Arming.{is_good}
use Rattle.ls_resume.specs.declared.ending.ResumeEnd.{ResumeEnd}
use Rattle.ls_resume.specs.declared.ending.ResumeEnd.TheVariants.{NotArmed, Expired}
use Rattle.ls_resume.specs.declared.fault.FileFault.{FileFault}
use Rattle.ls_resume.specs.declared.reading.Found.{Found}
use Rattle.ls_resume.specs.declared.secrets.SecretRow.{SecretRow}
use Rattle.ls_resume.specs.Ascending.{IsAscending}
use Rattle.ls_resume.specs.Learning.{Learns, told_as}
use Rattle.ls_resume.specs.Each.{each_of, found_behind}
use Rattle.ls_resume.specs.Resuming.{protector_of, files_of, read_of, secret_of, open_of, found_users, opened_end, found_end, taken_end, armed_end, resume_end, taking}
use Rattle.ls_resume.proofs.LearnLemmas.{learn_chain, learn_known, learn_value, learn_look, learn_action, a_taking}

-- ---- one user

pub read_learns : (rows : List UserRow) (user id : ℕ) (old new : Sight) (r : Result ResumeFile ChainFault) (answer : Result (Result Found FileFault) BoardFault)
    → id ≡ protector_of rows user → answer ≡ told_as (files_of user id) r → Looks (λ w. resume_files (links_at w user id)) old r new
    → Learns None (λ w. read_of rows w user) old answer new
read_learns rows user id old new r answer its is looks =
    subst (λ (k : ℕ). Learns None (λ w. files_of user k (resume_files (links_at w user k))) old answer new) its
    (subst (λ (x : Result (Result Found FileFault) BoardFault). Learns None (λ w. files_of user id (resume_files (links_at w user id))) old x new) (sym is)
    (learn_chain (λ w. resume_files (links_at w user id)) (files_of user id) old new r looks))

pub read_owner : (user id : ℕ) (r : Result ResumeFile ChainFault) (answer : Result (Result Found FileFault) BoardFault) → answer ≡ told_as (files_of user id) r
    → IfOk answer (λ read. IfOk read (λ found. found.user ≡ user))
read_owner user id r answer is = subst (λ (x : Result (Result Found FileFault) BoardFault). IfOk x (λ read. IfOk read (λ found. found.user ≡ user))) (sym is) (by r)
  where
    by : (r : Result ResumeFile ChainFault) → IfOk (told_as (files_of user id) r) (λ read. IfOk read (λ found. found.user ≡ user))
    by (Ok file) = refl
    by (Err (ChainCorrupt spot)) = tt
    by (Err (Failed part)) = tt
    by (Err Memory) = tt

pub open_learns : (once : List ℕ) (found : Found) (old new : Sight) (r : Result SecretValue ChainFault) (answer : Result (Result SecretRow FileFault) BoardFault)
    → answer ≡ told_as (secret_of found.user) r → Looks (λ w. resume_chain (key_at w.keys 0) once found.file) old r new
    → Learns None (λ w. open_of once w found) old answer new
open_learns once found old new r answer is looks =
    subst (λ (x : Result (Result SecretRow FileFault) BoardFault). Learns None (λ w. open_of once w found) old x new) (sym is)
    (learn_chain (λ w. resume_chain (key_at w.keys 0) once found.file) (secret_of found.user) old new r looks)

pub open_owner : (user : ℕ) (r : Result SecretValue ChainFault) (answer : Result (Result SecretRow FileFault) BoardFault) → answer ≡ told_as (secret_of user) r
    → IfOk answer (λ opened. IfOk opened (λ row. row.user ≡ user))
open_owner user r answer is = subst (λ (x : Result (Result SecretRow FileFault) BoardFault). IfOk x (λ opened. IfOk opened (λ row. row.user ≡ user))) (sym is) (by r)
  where
    by : (r : Result SecretValue ChainFault) → IfOk (told_as (secret_of user) r) (λ opened. IfOk opened (λ row. row.user ≡ user))
    by (Ok secret) = refl
    by (Err (ChainCorrupt spot)) = tt
    by (Err (Failed part)) = tt
    by (Err Memory) = tt

-- ---- all of them

pub behind_nothing : {B E : Type 0} (r : Result (List B) E) → found_behind [] r ≡ r
behind_nothing (Ok more) = refl
behind_nothing (Err e) = refl

pub all_opened : (once : List ℕ) (found all : List Found) (before : List SecretRow) (old mid : Sight) (opened : Result (List SecretRow) FileFault) (end : ResumeEnd) → all ≡ found → before ≡ []
    → end ≡ opened_end opened → Learns None (λ w. found_behind before (each_of (open_of once w) all)) old (Ok opened) mid
    → Learns None (found_end once (Ok found)) old (Ok end) mid
all_opened once found all before old mid opened end same none is first =
    learn_value None (λ w. found_behind before (each_of (open_of once w) all)) (found_end once (Ok found)) old mid opened end
    (λ w e. is ∙ ap opened_end (e ∙ (λ i. found_behind (none i) (each_of (open_of once w) (same i))) ∙ behind_nothing (each_of (open_of once w) found))) first

pub order_read : (found : List Found) (users : List ℕ) (before : List Found) → before ≡ [] → found_users found ≡ found_users before ++ users → IsAscending users → IsAscending (found_users found)
order_read found users before none is ascending = subst IsAscending (sym (is ∙ ap (λ (l : List Found). found_users l ++ users) none)) ascending

-- ---- by the cell and the boot

module _ (armed boot : ℕ) (found : Result (List Found) FileFault) (old mid : Sight) where
  abbrev whole : World → ResumeEnd
  whole w = taken_end armed boot found w w.cell

  pub cell_empty : Learns (Some ResumeTake) (λ w. w.cell) old (Ok None) mid → Learns (Some ResumeTake) whole old (Ok NotArmed) mid
  cell_empty first = learn_value (Some ResumeTake) (λ w. w.cell) whole old mid None NotArmed (λ w e. ap (λ (o : Option (List ℕ)). taken_end armed boot found w o) e) first

  pub boot_bad : (once : List ℕ) → is_good armed boot ≡ false → Learns (Some ResumeTake) (λ w. w.cell) old (Ok (Some once)) mid
      → Learns (Some ResumeTake) whole old (Ok (Expired armed boot)) mid
  boot_bad once bad first =
      learn_value (Some ResumeTake) (λ w. w.cell) whole old mid (Some once) (Expired armed boot)
      (λ w e. ap (λ (b : Bool). cond b (found_end once found w) (Expired armed boot)) (sym bad) ∙ ap (λ (o : Option (List ℕ)). taken_end armed boot found w o) e) first

  pub boot_good : (once : List ℕ) (new : Sight) (r : Result ResumeEnd BoardFault) → is_good armed boot ≡ true → Learns (Some ResumeTake) (λ w. w.cell) old (Ok (Some once)) mid
      → Learns None (found_end once found) mid r new → Learns (Some ResumeTake) whole old r new
  boot_good once new r good first second =
      learn_look (Some ResumeTake) (λ w. w.cell) whole old mid a_taking (found_end once found) new (Some once) r
      (λ w e. ap (λ (b : Bool). cond b (found_end once found w) (Expired armed boot)) (sym good) ∙ ap (λ (o : Option (List ℕ)). taken_end armed boot found w o) e) first second

-- ---- by the arming

pub arming_learns : (rows : List UserRow) (a : Arming) (boot : ℕ) (users : List ℕ) (before : List Found) (old mid new : Sight) (found : Result (List Found) FileFault) (r : Result ResumeEnd BoardFault)
    → users ≡ a.users → before ≡ [] → Learns None (λ w. found_behind before (each_of (read_of rows w) users)) old (Ok found) mid
    → Learns (Some ResumeTake) (λ w. taken_end a.boot boot found w w.cell) mid r new
    → Learns (Some ResumeTake) (armed_end rows boot (Some a)) old r new
arming_learns rows a boot users before old mid new found r same none first second =
    learn_action (Some ResumeTake) a_taking (λ w. found_behind before (each_of (read_of rows w) users)) (armed_end rows boot (Some a)) (λ w. taken_end a.boot boot found w w.cell) old mid new found r
    (λ w e. ap (λ (f : Result (List Found) FileFault). taken_end a.boot boot f w w.cell)
    (e ∙ (λ i. found_behind (none i) (each_of (read_of rows w) (same i))) ∙ behind_nothing (each_of (read_of rows w) a.users))) first second

-- no users are armed
pub none_armed : (r : Rec) (boot : ℕ) (s : Sight) → r.armed ≡ None → Learns (taking r.armed) (resume_end r boot) s (Ok NotArmed) s
none_armed r boot s none =
    subst (λ (o : Option Arming). Learns (taking o) (armed_end r.users boot o) s (Ok NotArmed) s) (sym none)
    (learn_known (armed_end r.users boot None) s NotArmed (λ w. refl))

pub some_armed : (r : Rec) (rows : List UserRow) (boot : ℕ) (a : Arming) (old new : Sight) (answer : Result ResumeEnd BoardFault) → r.armed ≡ Some a → rows ≡ r.users
    → Learns (Some ResumeTake) (armed_end rows boot (Some a)) old answer new → Learns (taking r.armed) (resume_end r boot) old answer new
some_armed r rows boot a old new answer some same learns =
    subst (λ (o : Option Arming). Learns (taking o) (armed_end r.users boot o) old answer new) (sym some)
    (subst (λ (l : List UserRow). Learns (Some ResumeTake) (armed_end l boot (Some a)) old answer new) same learns)
