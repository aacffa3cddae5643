-- Users in their order, and their protectors.
use Rattle.std.proofs.Common.{◌≡◌, ◌≤◌, ◌<◌, ℕ, zero, suc, Bool, true, false, cond, List, [], ◌∷◌, ◌++◌, length, get_or, Result, Ok, Err, IfOk, append_assoc, sym, ◌∙◌, ap, subst, arith}
use Rattle.std.specs.Prelude.{◌==◌, ◌||◌}
use Rattle.std.specs.List.{AllByRecursion}
use Rattle.std.proofs.lemmas.List.{map-append}
use Rattle.ls_board.specs.declared.action.BoardFault.{BoardFault}
use Rattle.ls_record.specs.declared.row.UserRow.{UserRow}
use Rattle.ls_record.specs.Rows.{IsRow, has_row, is_protector_id}
use Rattle.ls_record.proofs.StepLemmas.{all_front}
use Rattle.ls_resume.specs.declared.fault.FileFault.{FileFault}
use Rattle.ls_resume.specs.declared.reading.Found.{Found}
use Rattle.ls_resume.specs.declared.secrets.SecretRow.{SecretRow}
use Rattle.ls_resume.specs.Ascending.{IsAscending}
use Rattle.ls_resume.specs.Resuming.{protector_of, found_users}
use Rattle.ls_resume.specs.Secrets.{users_of}
use Rattle.ls_resume.proofs.EachLemmas.{behind, behind_first}

-- ---- order

pairs_front : (xs ys : List ℕ) → IsAscending (xs ++ ys) → IsAscending xs
pairs_front [] ys h = tt
pairs_front (x ∷ xs) ys h = (all_front (λ y. x < y) xs ys h.0, pairs_front xs ys h.1)

-- the next user is above those before
pub next_above : (us : List ℕ) (found : List Found) (f : Found) (n : ℕ) → 1 ≤ length found → f ≡ get_or found 0 f → n ≡ f.user
    → IsAscending (us ++ found_users found) → IsAscending (us ++ n ∷ [])
next_above us [] f n some is user ascending = absurd (omega (arith, some))
next_above us (x ∷ more) f n some is user ascending =
    subst (λ (k : ℕ). IsAscending (us ++ k ∷ [])) (sym (user ∙ ap (λ (g : Found). g.user) is))
    (pairs_front (us ++ x.user ∷ []) (found_users more) (subst IsAscending (sym (append_assoc us (x.user ∷ []) (found_users more))) ascending))

-- and the others are above it
pub rest_above : (rows all : List SecretRow) (row : SecretRow) (found : List Found) (f : Found) → 1 ≤ length found → f ≡ get_or found 0 f → row.user ≡ f.user → all ≡ rows ++ row ∷ []
    → IsAscending (users_of rows ++ found_users found) → IsAscending (users_of all ++ found_users (behind found))
rest_above rows all row [] f some is user put ascending = absurd (omega (arith, some))
rest_above rows all row (x ∷ more) f some is user put ascending = subst IsAscending (sym same) ascending
  where
    same : users_of all ++ found_users (behind (x ∷ more)) ≡ users_of rows ++ found_users (x ∷ more)
    same =
        (λ i. users_of (put i) ++ found_users (behind_first x more i))
        ∙ ap (λ (l : List ℕ). l ++ found_users more) (map-append (λ (r : SecretRow). r.user) rows (row ∷ []))
        ∙ append_assoc (users_of rows) (row.user ∷ []) (found_users more)
        ∙ ap (λ (k : ℕ). users_of rows ++ k ∷ found_users more) (user ∙ ap (λ (g : Found). g.user) is)

-- whose files were read
users_read : (found mid all : List Found) (files : Found) (users : List ℕ) (user : ℕ) → 1 ≤ length users → user ≡ get_or users 0 user → files.user ≡ user → mid ≡ found ++ files ∷ []
    → found_users all ≡ found_users mid ++ behind users → found_users all ≡ found_users found ++ users
users_read found mid all files [] user some is its put rest = absurd (omega (arith, some))
users_read found mid all files (u ∷ more) user some is its put rest =
    rest
    ∙ (λ i. found_users (put i) ++ behind_first u more i)
    ∙ ap (λ (l : List ℕ). l ++ more) (map-append (λ (f : Found). f.user) found (files ∷ []))
    ∙ append_assoc (found_users found) (files.user ∷ []) more
    ∙ ap (λ (k : ℕ). found_users found ++ k ∷ more) (its ∙ is)

pub all_users_read : (found mid : List Found) (files : Found) (users : List ℕ) (user : ℕ) → 1 ≤ length users → user ≡ get_or users 0 user → files.user ≡ user → mid ≡ found ++ files ∷ []
    → (r : Result (Result (List Found) FileFault) BoardFault) → IfOk r (λ read. IfOk read (λ all. found_users all ≡ found_users mid ++ behind users))
    → IfOk r (λ read. IfOk read (λ all. found_users all ≡ found_users found ++ users))
all_users_read found mid files users user some is its put (Ok (Ok all)) rest = users_read found mid all files users user some is its put rest
all_users_read found mid files users user some is its put (Ok (Err fault)) rest = tt
all_users_read found mid files users user some is its put (Err e) rest = tt

-- ---- protectors

positive : (id : ℕ) → is_protector_id id ≡ true → 0 < id
positive zero is = absurd (cc)
positive (suc n) is = omega arith

protector_there : (rows : List UserRow) → AllByRecursion IsRow rows → (user : ℕ) → has_row rows user ≡ true → 0 < protector_of rows user
protector_there [] all user has = absurd (cc)
protector_there (row ∷ rows) all user has = by (row.user == user) has (λ (h : has_row rows user ≡ true). protector_there rows all.1 user h)
  where
    by : (b : Bool) → (b || has_row rows user) ≡ true → (has_row rows user ≡ true → 0 < protector_of rows user) → 0 < cond b row.protector (protector_of rows user)
    by true on later = positive row.protector all.0.protector.0
    by false on later = later on

pub protectors_there : (rows : List UserRow) (users : List ℕ) → AllByRecursion IsRow rows → AllByRecursion (λ u. has_row rows u ≡ true) users
    → AllByRecursion (λ u. 0 < protector_of rows u) users
protectors_there rows [] all has = tt
protectors_there rows (u ∷ users) all has = (protector_there rows all u has.0, protectors_there rows users all has.1)

-- of the first user, and of the others
pub first_id : (rows : List UserRow) (users : List ℕ) (user : ℕ) → 1 ≤ length users → user ≡ get_or users 0 user → AllByRecursion (λ u. 0 < protector_of rows u) users → 0 < protector_of rows user
first_id rows [] user some is all = absurd (omega (arith, some))
first_id rows (u ∷ users) user some is all = subst (λ (k : ℕ). 0 < protector_of rows k) (sym is) all.0

pub rest_ids : (rows : List UserRow) (users : List ℕ) → 1 ≤ length users → AllByRecursion (λ u. 0 < protector_of rows u) users → AllByRecursion (λ u. 0 < protector_of rows u) (behind users)
rest_ids rows [] some all = absurd (omega (arith, some))
rest_ids rows (u ∷ users) some all = subst (λ (l : List ℕ). AllByRecursion (λ k. 0 < protector_of rows k) l) (sym (behind_first u users)) all.1
