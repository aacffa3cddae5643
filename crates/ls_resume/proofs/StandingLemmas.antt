-- What a resume finds in a world that holds a record for a vault.
use Rattle.std.proofs.Common.{◌≡◌, ◌++◌, ◌||◌, ℕ, Bool, true, false, cond, List, [], ◌∷◌, Option, None, Some, Result, Ok, refl, sym, ◌∙◌, ap, subst}
use Rattle.std.specs.Prelude.{◌==◌, slice_index, unwrap_or, IfSome, IsSomeAnd}
use Rattle.std.specs.List.{AllByRecursion, Contains}
use Rattle.std.proofs.lemmas.Bool.{eqb-true, eq-eqb}
use Rattle.std.proofs.lemmas.List.Elements.{Contains-append_left, Contains-append_right}
use Rattle.ls_arming.specs.declared.arming.Arming.{Arming}
use Rattle.ls_blob.specs.declared.kind.BlobKind.TheVariants.{Credential}
use Rattle.ls_blob.specs.Blobs.{Spells}
use Rattle.ls_board.specs.declared.world.World.{World}
use Rattle.ls_board.specs.Keys.{key_at}
use Rattle.ls_chain.specs.declared.fault.Spot.{Spot}
use Rattle.ls_chain.specs.declared.resume_file.ResumeFile.{ResumeFile}
use Rattle.ls_chain.specs.Links.{next_of, sound_file, unless_at, Links, links_at}
use Rattle.ls_chain.specs.ResumeFiles.{version_file, resume_files, resumed_by, resumed_in, resume_chain}
use Rattle.ls_chain.proofs.SealLemmas.{blob_found, no_fault, linked}
use Rattle.ls_edits.specs.Arming.{resume_name}
use Rattle.ls_edits.proofs.ArmLemmas.{resume_read}
use Rattle.ls_edits.proofs.ZipLemmas.{user_there, held_there}
use Rattle.ls_formats.specs.declared.part.FilePart.{FilePart}
use Rattle.ls_formats.specs.declared.part.FilePart.TheVariants.{SpBlob, Handle, E0, P1, Resume}
use Rattle.ls_formats.specs.PartNames.{PartOf}
use Rattle.ls_naming.specs.Named.{only_if, is_armed, has_secure, user_parts, parts_of, credential_parts, token_files, row_files}
use Rattle.ls_record.specs.declared.row.UserRow.{UserRow}
use Rattle.ls_record.specs.Rows.{Rec, IsRecord, IsArming, has, has_row}
use Rattle.ls_sealing.specs.Chain.{opened_resume}
use Rattle.ls_sealing.specs.PartFormats.{format_fault}
use Rattle.ls_sealing.specs.Protectors.{has_weaver}
use Rattle.ls_sealing.specs.Seals.{content_of}
use Rattle.ls_standing.specs.Named.{user_file, held_of_row}
use Rattle.ls_standing.specs.Opening.{first_of, content_at}
use Rattle.ls_standing.specs.Standing.{Holds, HoldsUser, kept_arming}
use Rattle.ls_standing.proofs.CheckLemmas.{alone}
use Rattle.ls_standing.proofs.ContainsLemmas.{at_first, behind_first, in_map, any_contained}
use Rattle.ls_standing.proofs.PairLemmas.{all_from}
use Rattle.ls_vault.specs.declared.user.User.{User}
use Rattle.ls_vault.specs.declared.vault.Vault.{Vault}
use Rattle.ls_vault.specs.Arming.{is_good}
use Rattle.ls_vault.specs.Users.{user_of}
use Rattle.ls_resume.specs.declared.ending.ResumeEnd.TheVariants.{Resumed, NotArmed, Expired}
use Rattle.ls_resume.specs.declared.fault.FileFault.{FileFault}
use Rattle.ls_resume.specs.declared.reading.Found.{Found}
use Rattle.ls_resume.specs.declared.secrets.SecretRow.{SecretRow}
use Rattle.ls_resume.specs.Each.{next_by, each_of}
use Rattle.ls_resume.specs.Resuming.{protector_of, files_of, read_of, secret_of, open_of, opened_end, found_end, taken_end, armed_end, resume_end}
use Rattle.ls_resume.specs.Secrets.{users_of, IsSecretOf, AreSecretsOf}

-- ---- the row of a user

pub record HasRow (rows : List UserRow) (user : ℕ) : Type 0 where
  pub row : UserRow
  pub there : Contains rows row
  pub its : row.user ≡ user
  pub protector : protector_of rows user ≡ row.protector

row_there : (rows : List UserRow) (user : ℕ) → has_row rows user ≡ true → HasRow rows user
row_there [] user has = absurd (cc)
row_there (x ∷ rows) user has = by (x.user == user) refl has (λ (h : has_row rows user ≡ true). row_there rows user h)
  where
    by : (b : Bool) → (x.user == user) ≡ b → (b || has_row rows user) ≡ true → (has_row rows user ≡ true → HasRow rows user) → HasRow (x ∷ rows) user
    by true hit on later = record {
      row = x;
      there = at_first x rows;
      its = eqb-true x.user user hit;
      protector = ap (λ (b : Bool). cond b x.protector (protector_of rows user)) hit;
    }
    by false miss on later =
        let h = later on in
        record {
          row = h.row;
          there = behind_first x rows h.row h.there;
          its = h.its;
          protector = ap (λ (b : Bool). cond b x.protector (protector_of rows user)) miss ∙ h.protector;
        }

-- ---- what a row's files hold

some_file : (o : Option (List ℕ)) (P : List ℕ → Type 0) → IsSomeAnd o P → (x : List ℕ) × (o ≡ Some x) × P x
some_file None P h = absurd h
some_file (Some x) P h = (x, refl, h)

only_first : (a : Option ℕ) → first_of a None ≡ None → a ≡ None
only_first None e = refl
only_first (Some m) e = absurd (cc)

module _ (w : World) (r : Rec) (v : Vault) (is : IsRecord r) (holds : Holds w r v) (once : List ℕ) (cell : w.cell ≡ Some once) where
  module _ (row : UserRow) (u : User) (there : Contains r.users row) (found : user_of v.users row.user ≡ Some u) where
    abbrev l : Links
    l = links_at w row.user row.protector

    its : HoldsUser row (held_of_row w r.armed row) u
    its = held_there (λ x y. HoldsUser x (held_of_row w r.armed x) y) (λ x y h. h.says.number) r.users v.users holds.users is.pairs row there u found

    blob : (sound_file SpBlob (l.files SpBlob) ≡ Ok (unwrap_or (l.files SpBlob) [])) × (slice_index (unwrap_or (l.files SpBlob) []) 0 ≡ u.secret.version)
    blob = blob_found u.secret.version Credential (l.files SpBlob)
        (subst (λ (o : Option (List ℕ)). IsSomeAnd o (Spells (record { version = u.secret.version; kind = Credential; content = content_of o })))
        (sym (linked w row.user row.protector row.kind).blob) its.seals.blob)

    module _ (on : is_armed r.armed row.user ≡ true) where
      abbrev named : FilePart → PartOf
      named p = record { user = row.user; id = 0; part = p }

      armed_part : Contains (user_parts r.armed row) Resume
      armed_part =
          let front = only_if (has_secure row) (Handle ∷ []) in
          let mid = only_if row.escrow (E0 ∷ P1 ∷ []) in
          let last = only_if (is_armed r.armed row.user) (Resume ∷ []) in
          Contains-append_right front (mid ++ last) Resume (Contains-append_right mid last Resume
          (subst (λ (b : Bool). Contains (only_if b (Resume ∷ [])) Resume) (sym on) (at_first Resume [])))

      resume_named : Contains (row_files (has_weaver w) r.armed row) (resume_name row)
      resume_named = Contains-append_left (parts_of row.user 0 (user_parts r.armed row))
          (parts_of row.user row.protector (credential_parts (has_weaver w) row.kind) ++ token_files (has_weaver w) row) (resume_name row)
          (in_map named (user_parts r.armed row) Resume armed_part)

      resume_sound : (file : List ℕ) → user_file w row Resume ≡ Some file → sound_file Resume (l.files Resume) ≡ Ok file
      resume_sound file holds_it =
          let form : format_fault Resume (content_at w (resume_name row)) ≡ None =
          only_first (format_fault Resume (content_at w (resume_name row))) (alone w r holds.files row (resume_name row) there resume_named) in
          ap (sound_file Resume) holds_it
          ∙ ap (unless_at Resume file) (subst (λ (o : Option (List ℕ)). format_fault Resume (unwrap_or o []) ≡ None) holds_it form)

      abbrev with_version : List ℕ → ℕ → Result ResumeFile Spot
      with_version file n = Ok (record { file = file; version = n })

      files_there : (file : List ℕ) → user_file w row Resume ≡ Some file → resume_files l ≡ with_version file u.secret.version
      files_there file holds_it =
          ap (λ (x : Result (List ℕ) Spot). next_of x (version_file l)) (resume_sound file holds_it)
          ∙ ap (λ (x : Result (List ℕ) Spot). next_of x (λ b. with_version file (slice_index b 0))) blob.0
          ∙ ap (with_version file) blob.1

      chain_opens : (file : List ℕ) → opened_resume (key_at w.keys 0) once file ≡ Some u.secret.sp
          → resume_chain (key_at w.keys 0) once (record { file = file; version = u.secret.version }) ≡ Ok u.secret
      chain_opens file opens =
          ap (resumed_in u.secret.version) opens
          ∙ ap (resumed_by u.secret.version u.secret.sp) (no_fault u.secret its.seals.secret)

  -- ---- one user

  pub record IsResumed (user : ℕ) : Type 0 where
    pub found : Found
    pub row : SecretRow
    pub read : read_of r.users w user ≡ Ok found
    pub opened : open_of once w found ≡ Ok row
    pub whose : row.user ≡ user
    pub secret : IsSecretOf v.users row

  row_resumed : (row : UserRow) → Contains r.users row → is_armed r.armed row.user ≡ true → protector_of r.users row.user ≡ row.protector → IsResumed row.user
  row_resumed row there on protector =
      let user = user_there (λ x y. HoldsUser x (held_of_row w r.armed x) y) (λ x y h. h.says.number) r.users v.users holds.users row there in
      let file = some_file (user_file w row Resume) (λ f. opened_resume (key_at w.keys 0) once f ≡ Some user.0.secret.sp)
      (resume_read w r v is holds row user.0 once there user.1 on cell) in
      of user.0 user.1 file.0 file.1 file.2
    where
      of : (u : User) → user_of v.users row.user ≡ Some u → (file : List ℕ) → user_file w row Resume ≡ Some file → opened_resume (key_at w.keys 0) once file ≡ Some u.secret.sp
          → IsResumed row.user
      of u found file holds_it opens = record {
        found = record { user = row.user; file = record { file = file; version = u.secret.version } };
        row = record { user = row.user; secret = u.secret };
        read =
            ap (λ (id : ℕ). files_of row.user id (resume_files (links_at w row.user id))) protector
            ∙ ap (files_of row.user row.protector) (files_there row u there found on file holds_it);
        opened = ap (secret_of row.user) (chain_opens row u there found on file opens);
        whose = refl;
        secret = record {
          secret = (its row u there found).seals.secret;
          its = λ y e. ap (λ (o : Option User). (unwrap_or o u).secret) (sym e ∙ found);
        };
      }

  user_resumed : (user : ℕ) → has_row r.users user ≡ true → is_armed r.armed user ≡ true → IsResumed user
  user_resumed user has on =
      let h = row_there r.users user has in
      subst IsResumed h.its (row_resumed h.row h.there (ap (is_armed r.armed) h.its ∙ on) (ap (protector_of r.users) h.its ∙ h.protector))

  -- ---- all of them

  pub record AreResumed (users : List ℕ) : Type 0 where
    pub found : List Found
    pub rows : List SecretRow
    pub read : each_of (read_of r.users w) users ≡ Ok found
    pub opened : each_of (open_of once w) found ≡ Ok rows
    pub whose : users_of rows ≡ users
    pub secrets : AreSecretsOf v.users rows

  users_resumed : (users : List ℕ) → AllByRecursion (λ n. has_row r.users n ≡ true) users → AllByRecursion (λ n. is_armed r.armed n ≡ true) users → AreResumed users
  users_resumed [] all on = record { found = []; rows = []; read = refl; opened = refl; whose = refl; secrets = tt }
  users_resumed (n ∷ users) all on =
      let one = user_resumed n all.0 on.0 in
      let rest = users_resumed users all.1 on.1 in
      record {
        found = one.found ∷ rest.found;
        rows = one.row ∷ rest.rows;
        read =
            ap (λ (x : Result Found FileFault). next_by x (λ b. next_by (each_of (read_of r.users w) users) (λ more. Ok (b ∷ more)))) one.read
            ∙ ap (λ (x : Result (List Found) FileFault). next_by x (λ more. Ok (one.found ∷ more))) rest.read;
        opened =
            ap (λ (x : Result SecretRow FileFault). next_by x (λ b. next_by (each_of (open_of once w) rest.found) (λ more. Ok (b ∷ more)))) one.opened
            ∙ ap (λ (x : Result (List SecretRow) FileFault). next_by x (λ more. Ok (one.row ∷ more))) rest.opened;
        whose = λ i. one.whose i ∷ rest.whose i;
        secrets = (one.secret, rest.secrets);
      }

  arming_resumed : (a : Arming) → r.armed ≡ Some a → AreResumed a.users
  arming_resumed a some =
      let arming : IsArming r.users a = subst (λ (o : Option Arming). IfSome o (IsArming r.users)) some is.armed in
      users_resumed a.users arming.there
      (all_from (λ n. is_armed r.armed n ≡ true) a.users
      (λ n h. ap (λ (o : Option Arming). is_armed o n) some ∙ any_contained (λ i. i == n) a.users n h (eq-eqb n n refl)))

-- ---- by what is armed

module _ (w : World) (r : Rec) (boot : ℕ) where
  abbrev read : Arming → Result (List Found) FileFault
  read a = each_of (read_of r.users w) a.users

  none_kept : (armed : Option Arming) (cell : Option (List ℕ)) → w.cell ≡ cell → kept_arming armed cell ≡ None → armed_end r.users boot armed w ≡ NotArmed
  none_kept None cell is none = refl
  none_kept (Some a) None is none = ap (taken_end a.boot boot (read a) w) is
  none_kept (Some a) (Some once) is none = absurd (cc)

  some_kept : (armed : Option Arming) (cell : Option (List ℕ)) (a : Arming) → kept_arming armed cell ≡ Some a → (once : List ℕ) × (armed ≡ Some a) × (cell ≡ Some once)
  some_kept armed None a kept = absurd (cc)
  some_kept armed (Some once) a kept = (once, kept, refl)

  module _ (a : Arming) (once : List ℕ) (some : r.armed ≡ Some a) (cell : w.cell ≡ Some once) where
    by_boots : resume_end r boot w ≡ cond (is_good a.boot boot) (found_end once (read a) w) (Expired a.boot boot)
    by_boots = ap (λ (o : Option Arming). armed_end r.users boot o w) some ∙ ap (taken_end a.boot boot (read a) w) cell

    boots_apart : is_good a.boot boot ≡ false → resume_end r boot w ≡ Expired a.boot boot
    boots_apart apart = by_boots ∙ ap (λ (b : Bool). cond b (found_end once (read a) w) (Expired a.boot boot)) apart

    boots_good : is_good a.boot boot ≡ true → resume_end r boot w ≡ found_end once (read a) w
    boots_good good = by_boots ∙ ap (λ (b : Bool). cond b (found_end once (read a) w) (Expired a.boot boot)) good

  module _ (v : Vault) (is : IsRecord r) (holds : Holds w r v) where
    pub nothing_armed : v.arming ≡ None → resume_end r boot w ≡ NotArmed
    nothing_armed none = none_kept r.armed w.cell refl (sym holds.arming ∙ none)

    pub arming_expired : (a : Arming) → v.arming ≡ Some a → is_good a.boot boot ≡ false → resume_end r boot w ≡ Expired a.boot boot
    arming_expired a some apart = let kept = some_kept r.armed w.cell a (sym holds.arming ∙ some) in boots_apart a kept.0 kept.1 kept.2 apart

    pub users_opened : (a : Arming) → v.arming ≡ Some a → is_good a.boot boot ≡ true
        → (rows : List SecretRow) × (resume_end r boot w ≡ Resumed rows) × (users_of rows ≡ a.users) × AreSecretsOf v.users rows
    users_opened a some good =
        let kept = some_kept r.armed w.cell a (sym holds.arming ∙ some) in
        let all = arming_resumed w r v is holds kept.0 kept.2 a kept.1 in (
          all.rows,
          boots_good a kept.0 kept.1 kept.2 good
              ∙ ap (λ (x : Result (List Found) FileFault). opened_end (next_by x (each_of (open_of kept.0 w)))) all.read
              ∙ ap opened_end all.opened,
          all.whose,
          all.secrets,
        )
