-- The plan of an arming: its files open, and it asks nothing.
use Rattle.std.proofs.Common.{◌≡◌, ◌≤◌, ◌<◌, ◌+◌, ◌*◌, ℕ, Bool, true, false, cond, List, [], ◌∷◌, ◌++◌, length, Some, append_assoc, refl, sym, ◌∙◌, ap, subst, arith}
use Rattle.std.specs.Prelude.{◌==◌, ◌||◌}
use Rattle.std.specs.List.{AllByRecursion}
use Rattle.std.proofs.lemmas.Bool.{eqb-true, eq-eqb}
use Rattle.ls_arming.specs.declared.arming.Arming.{Arming}
use Rattle.ls_board.specs.declared.action.Action.{Action}
use Rattle.ls_board.specs.declared.action.Action.TheVariants.{Put, KeyPut, ResumeStore, Sync}
use Rattle.ls_board.specs.declared.world.World.{World}
use Rattle.ls_board.specs.Effect.{after}
use Rattle.ls_board.specs.Runs.{AllSound, AllApply}
use Rattle.ls_edits.specs.Arming.{resume_of, IsResumeFor, AllOpen, arming_files}
use Rattle.ls_edits.proofs.ResumeLemmas.{resume_is}
use Rattle.ls_formats.specs.Contents.{AreBytes}
use Rattle.ls_formats.specs.PartNames.{part_name_text}
use Rattle.ls_record.specs.declared.row.UserRow.{UserRow}
use Rattle.ls_record.specs.Rows.{Rec, has}
use Rattle.ls_sealing.specs.Draws.{piece}
use Rattle.ls_sealing.proofs.ByteLemmas.{piece_are}
use Rattle.ls_secret.specs.Secrets.{SecretValue, IsSecret}
use Rattle.ls_vault.specs.declared.user.User.{User}
use Rattle.ls_vault.specs.declared.vault.Vault.{Vault}
use Rattle.ls_vault.specs.Users.{user_of}
use Rattle.ls_resume.specs.declared.secrets.SecretRow.{SecretRow}
use Rattle.ls_resume.specs.Ascending.{IsAscending}
use Rattle.ls_resume.specs.Secrets.{users_of, AreSecretsOf}
use Rattle.ls_resume.specs.Sealing.{arm_draw_size, once_key, store_key, sealed_file, file_from, file_of, arming_of}
use Rattle.ls_resume.specs.Pushing.{put_files}

-- ---- the files that are put

same_files : (f g : ℕ → List ℕ) (users : List ℕ) → AllByRecursion (λ u. f u ≡ g u) users → arming_files f users ≡ arming_files g users
same_files f g [] all = refl
same_files f g (u ∷ users) all = λ i. Put (part_name_text (resume_of u)) (all.0 i) ∷ same_files f g users all.1 i

apart : (m n : ℕ) → m < n → (m == n) ≡ false
apart m n less = by (m == n) refl
  where
    by : (b : Bool) → (m == n) ≡ b → (m == n) ≡ false
    by true hit = let e : m ≡ n = eqb-true m n hit in absurd (omega (arith, less, e))
    by false miss = miss

module _ (drawn : List ℕ) where
  -- the files of users behind one
  behind_one : (at : ℕ) (row : SecretRow) (rows : List SecretRow) (users : List ℕ) → AllByRecursion (λ v. row.user < v) users
      → AllByRecursion (λ u. file_from drawn (at + 24) rows u ≡ file_from drawn at (row ∷ rows) u) users
  behind_one at row rows [] above = tt
  behind_one at row rows (u ∷ users) above = (
    ap (λ (b : Bool). cond b (sealed_file drawn at row.secret) (file_from drawn (at + 24) rows u)) (sym (apart row.user u above.0)),
    behind_one at row rows users above.1,
  )

  files_put : (at : ℕ) (rows : List SecretRow) → IsAscending (users_of rows) → put_files drawn at rows ≡ arming_files (file_from drawn at rows) (users_of rows)
  files_put at [] ascending = refl
  files_put at (row ∷ rows) ascending = λ i. Put (part_name_text (resume_of row.user)) (own i) ∷ (files_put (at + 24) rows ascending.1 ∙ others) i
    where
      own : sealed_file drawn at row.secret ≡ file_from drawn at (row ∷ rows) row.user
      own = ap (λ (b : Bool). cond b (sealed_file drawn at row.secret) (file_from drawn (at + 24) rows row.user)) (sym (eq-eqb row.user row.user refl))

      others : arming_files (file_from drawn (at + 24) rows) (users_of rows) ≡ arming_files (file_from drawn at (row ∷ rows)) (users_of rows)
      others = same_files (file_from drawn (at + 24) rows) (file_from drawn at (row ∷ rows)) (users_of rows) (behind_one at row rows (users_of rows) ascending.0)

-- ---- the plan

module _ (drawn : List ℕ) (rows : List SecretRow) (ascending : IsAscending (users_of rows)) where
  abbrev made : List ℕ → List ℕ → List Action → List Action
  made key once files = KeyPut 0 key ∷ (files ++ ResumeStore once ∷ Sync ∷ [])

  pub plan_made : (slice : List SecretRow) (key once : List ℕ) (p0 p1 p2 p3 p4 : List Action) → slice ≡ rows → key ≡ store_key drawn → once ≡ once_key drawn → p0 ≡ [] → p1 ≡ p0 ++ KeyPut 0 key ∷ []
      → p2 ≡ p1 ++ put_files drawn 64 slice → p3 ≡ p2 ++ ResumeStore once ∷ [] → p4 ≡ p3 ++ Sync ∷ [] → p4 ≡ arming_of drawn rows
  plan_made slice key once p0 p1 p2 p3 p4 same key_is once_is e0 e1 e2 e3 e4 =
      e4
      ∙ ap (λ (p : List Action). p ++ Sync ∷ [])
      (e3 ∙ ap (λ (p : List Action). p ++ ResumeStore once ∷ [])
      (e2 ∙ ap (λ (p : List Action). p ++ put_files drawn 64 slice) (e1 ∙ ap (λ (p : List Action). p ++ KeyPut 0 key ∷ []) e0)))
      ∙ ap (λ (p : List Action). KeyPut 0 key ∷ p) (append_assoc (put_files drawn 64 slice) (ResumeStore once ∷ []) (Sync ∷ []))
      ∙ (λ i. made (key_is i) (once_is i) (put_files drawn 64 (same i)))
      ∙ ap (made (store_key drawn) (once_key drawn)) (files_put drawn 64 rows ascending)

-- ---- the files open

module _ (users : List User) (drawn : List ℕ) (n : ℕ) (are : AreBytes n drawn) (keys : 64 ≤ n) (row : UserRow) (u : User) (its : user_of users row.user ≡ Some u) where
  opens_at : (at : ℕ) (secret : SecretValue) → at + 24 ≤ n → IsSecret secret → u.secret ≡ secret → IsResumeFor (store_key drawn) (once_key drawn) (sealed_file drawn at secret) row u
  opens_at at secret within is same =
      subst (λ (s : SecretValue). IsResumeFor (store_key drawn) (once_key drawn) (sealed_file drawn at s) row u) same
      (resume_is row u (store_key drawn) (once_key drawn) (piece at 12 drawn) (piece (at + 12) 12 drawn)
      (piece_are n 32 32 drawn are (omega (arith, keys))) (piece_are n 0 32 drawn are (omega (arith, keys)))
      (piece_are n at 12 drawn are (omega (arith, within))) (piece_are n (at + 12) 12 drawn are (omega (arith, within)))
      (subst IsSecret (sym same) is))

  opens_from : (at : ℕ) (rows : List SecretRow) → at + 24 * length rows ≤ n → AreSecretsOf users rows → has (users_of rows) row.user ≡ true
      → IsResumeFor (store_key drawn) (once_key drawn) (file_from drawn at rows row.user) row u
  opens_from at [] within secrets on = absurd (cc)
  opens_from at (s ∷ rows) within secrets on = by (s.user == row.user) refl on (opens_from (at + 24) rows (omega (arith, within)) secrets.1)
    where
      by : (b : Bool) → (s.user == row.user) ≡ b → (b || has (users_of rows) row.user) ≡ true
          → (has (users_of rows) row.user ≡ true → IsResumeFor (store_key drawn) (once_key drawn) (file_from drawn (at + 24) rows row.user) row u)
          → IsResumeFor (store_key drawn) (once_key drawn) (cond b (sealed_file drawn at s.secret) (file_from drawn (at + 24) rows row.user)) row u
      by true hit found later =
          let there : user_of users s.user ≡ Some u = subst (λ (k : ℕ). user_of users k ≡ Some u) (sym (eqb-true s.user row.user hit)) its in
          opens_at at s.secret (omega (arith, within)) secrets.0.secret (secrets.0.its u there)
      by false miss found later = later found

pub all_open : (r : Rec) (v : Vault) (a : Arming) (rows : List SecretRow) (drawn : List ℕ) → AreBytes (arm_draw_size (length rows)) drawn → a.users ≡ users_of rows
    → AreSecretsOf v.users rows → AllOpen r v a (store_key drawn) (once_key drawn) (file_of drawn rows)
all_open r v a rows drawn are same secrets row u in_rows its on =
    opens_from v.users drawn (arm_draw_size (length rows)) are (omega arith) row u its 64 rows (omega arith) secrets
    (subst (λ (us : List ℕ). has us row.user ≡ true) same on)

-- ---- what it asks

pub all_sound : (slots : ℕ) (drawn : List ℕ) (rows : List SecretRow) → AllSound slots (arming_of drawn rows)
all_sound slots drawn rows = (tt, by (users_of rows))
  where
    by : (users : List ℕ) → AllSound slots (arming_files (file_of drawn rows) users ++ ResumeStore (once_key drawn) ∷ Sync ∷ [])
    by [] = (tt, (tt, tt))
    by (u ∷ users) = (tt, by users)

pub all_apply : (w : World) (drawn : List ℕ) (rows : List SecretRow) → AllApply w (arming_of drawn rows)
all_apply w drawn rows = (tt, by (users_of rows) (after w (KeyPut 0 (store_key drawn)) 0))
  where
    by : (users : List ℕ) (z : World) → AllApply z (arming_files (file_of drawn rows) users ++ ResumeStore (once_key drawn) ∷ Sync ∷ [])
    by [] z = (tt, (tt, tt))
    by (u ∷ users) z = (tt, by users (after z (Put (part_name_text (resume_of u)) (file_of drawn rows u)) 0))
