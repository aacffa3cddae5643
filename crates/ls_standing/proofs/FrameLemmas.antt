-- Worlds with the same of all that a record names stand for the same.
use Rattle.std.proofs.Common.{◌≡◌, ℕ, Bool, true, false, List, [], ◌∷◌, ◌++◌, length, map, Option, None, Some, refl, sym, ap, subst, ◌∙◌}
use Rattle.std.specs.Prelude.{nat_lt, unwrap_or, slice_index}
use Rattle.std.specs.List.{Contains, AllZip, AllByRecursion}
use Rattle.ls_formats.specs.declared.part.FilePart.{FilePart}
use Rattle.ls_formats.specs.declared.part.FilePart.TheVariants.{SpBlob}
use Rattle.ls_formats.specs.declared.side.Side.{Side}
use Rattle.ls_formats.specs.declared.side.Side.TheVariants.{First, Second}
use Rattle.ls_formats.specs.PartNames.{PartOf, part_name_text}
use Rattle.ls_record.specs.declared.row.UserRow.{UserRow}
use Rattle.ls_arming.specs.declared.arming.Arming.{Arming}
use Rattle.ls_record.specs.Rows.{Rec}
use Rattle.ls_naming.specs.Named.{is_armed, has_secure, row_files, NamesFile, NamesEnrolled, NamesKey}
use Rattle.ls_naming.specs.Current.{Settled, current, is_open}
use Rattle.ls_naming.proofs.CurrentLemmas.{settings_follow}
use Rattle.ls_board.specs.declared.world.World.{World}
use Rattle.ls_board.specs.Effect.{file_at}
use Rattle.ls_board.specs.Gatekeeper.{record_at}
use Rattle.ls_board.specs.Keys.{key_at}
use Rattle.ls_settings.specs.Loaded.{IsWhole}
use Rattle.ls_vault.specs.declared.user.User.{User}
use Rattle.ls_vault.specs.declared.vault.Vault.{Vault}
use Rattle.ls_sealing.specs.Protectors.{Protector, has_part, is_enrolled, has_weaver, where_it_has, held}
use Rattle.ls_sealing.proofs.HeldLemmas.{held_same}
use Rattle.ls_standing.specs.Named.{credential_of, token_of, is_its_part, user_file, held_of_user, held_of_row}
use Rattle.ls_standing.specs.Opening.{file_fault, files_of_rows, content_at, slot_in, version_in, beside, foreign_or, first_foreign_of, first_foreign}
use Rattle.ls_standing.specs.Sound.{IsSoundFile}
use Rattle.ls_standing.specs.Standing.{HoldsUser, kept_arming, Holds, IsTargetWhole, StandsBy, NamedAreUntouched, StandsDurably}
use Rattle.ls_standing.specs.Same.{SameNamed, SameSettings}
use Rattle.ls_standing.proofs.NamedLemmas.{name_of, user_named, credential_named, token_named, credential_key, token_key, secure_enrolled, credential_enrolled, armed_key, slot_named}
use Rattle.ls_standing.proofs.ContainsLemmas.{at_first, behind_first, in_map, in_flat, of_map, of_flat}
use Rattle.ls_standing.proofs.PairLemmas.{all_from}

pub where_same : {X : Type 0} (b : Bool) (x y : Option X) → (b ≡ true → x ≡ y) → where_it_has b x ≡ where_it_has b y
where_same true x y same = same refl
where_same false x y same = refl

pub map_same : {X Y : Type 0} (f g : X → Y) (xs : List X) → ((x : X) → Contains xs x → f x ≡ g x) → map f xs ≡ map g xs
map_same f g [] same = refl
map_same f g (x ∷ xs) same = λ i. same x (at_first x xs) i ∷ map_same f g xs (λ y within. same y (behind_first x xs y within)) i

-- ---- the checks of opening

module _ (r : Rec) (old new : World) (count : length new.slots ≡ length old.slots)
    (file : (name : PartOf) → NamesFile (has_weaver old) r name → file_at new (part_name_text name) ≡ file_at old (part_name_text name)) where
  -- the files are the same, and so are those that they are checked against
  abbrev SameFile : UserRow × PartOf → Type 0
  SameFile file = (content_at new file.1 ≡ content_at old file.1) × (version_in new file.0 ≡ version_in old file.0)

  content_same : (name : PartOf) → NamesFile (has_weaver old) r name → content_at new name ≡ content_at old name
  content_same name named = ap (λ (o : Option (List ℕ)). unwrap_or o []) (file name named)

  file_same : (file : UserRow × PartOf) → Contains (files_of_rows (has_weaver old) r.armed r.users) file → SameFile file
  file_same file within =
      let found = of_flat (λ row. map (λ name. (row, name)) (row_files (has_weaver old) r.armed row)) r.users file within in
      let row = found.0 in
      let inner = of_map (λ name. (row, name)) (row_files (has_weaver old) r.armed row) file found.2 in
      let named : NamesFile (has_weaver old) r inner.0 = in_flat (row_files (has_weaver old) r.armed) r.users row inner.0 found.1 inner.1 in
      let blob = credential_named (has_weaver old) r row found.1 SpBlob refl in
      subst SameFile inner.2 (content_same inner.0 named, ap (λ (l : List ℕ). slice_index l 0) (content_same (name_of row.user row.protector SpBlob) blob))

  rest_same : (earlier : List ℕ) (files : List (UserRow × PartOf)) → AllByRecursion SameFile files → first_foreign_of new earlier files ≡ first_foreign_of old earlier files
  rest_same earlier [] all = refl
  rest_same earlier (file ∷ files) all =
      let slots : List ℕ → List ℕ = λ bytes. earlier ++ slot_in file.1.part bytes in
      (λ i. foreign_or file.1
      (file_fault (record { slots = count i; earlier = earlier; version = all.0.1 i }) file.0 file.1 (all.0.0 i))
      (first_foreign_of new (slots (all.0.0 i)) files))
      ∙ ap (foreign_or file.1 (file_fault (beside old earlier file.0) file.0 file.1 (content_at old file.1)))
      (rest_same (slots (content_at old file.1)) files all.1)

  -- a file that is sound stays so
  pub sound_by : (row : UserRow) (name : PartOf) → Contains r.users row → Contains (row_files (has_weaver old) r.armed row) name → IsSoundFile old row name → IsSoundFile new row name
  sound_by row name here its sound =
      let in_list = in_flat (λ (x : UserRow). map (λ n. (x, n)) (row_files (has_weaver old) r.armed x)) r.users row (row, name) here (in_map (λ n. (row, n)) (row_files (has_weaver old) r.armed row) name its) in
      let is = file_same (row, name) in_list in
      (λ i. file_fault (record { slots = count i; earlier = []; version = is.1 i }) row name (is.0 i)) ∙ sound

  pub foreign_by : first_foreign new r ≡ first_foreign old r
  foreign_by =
      ap (λ (b : Bool). first_foreign_of new [] (files_of_rows b r.armed r.users)) (ap (nat_lt 0) count)
      ∙ rest_same [] (files_of_rows (has_weaver old) r.armed r.users) (all_from SameFile (files_of_rows (has_weaver old) r.armed r.users) file_same)

-- ---- all that is named

module _ (r : Rec) (old new : World) (same : SameNamed r old new) where
  pub weaver_same : has_weaver new ≡ has_weaver old
  weaver_same = ap (nat_lt 0) same.count

  -- ---- a protector

  parts_same : (p : Protector) → ((part : FilePart) → has_part (has_weaver old) p.purpose part ≡ true → NamesFile (has_weaver old) r (name_of p.user p.id part))
      → (is_enrolled (has_weaver old) p.purpose ≡ true → NamesEnrolled (has_weaver old) r p.id) → NamesKey r p.id → held new p ≡ held old p
  parts_same p files counter key = held_same p old new (record {
    count = same.count;
    file = λ part has. same.file (name_of p.user p.id part) (files part has);
    slot = λ n is. same.slot n (slot_named old r p files n is);
    counter = λ en. same.counter p.id (counter en);
    device = same.device;
    key = same.key p.id key;
  })

  -- ---- a row

  module _ (row : UserRow) (here : Contains r.users row) where
    credential_same : held new (credential_of row) ≡ held old (credential_of row)
    credential_same =
        parts_same (credential_of row) (credential_named (has_weaver old) r row here) (credential_enrolled (has_weaver old) r row here)
        (credential_key (has_weaver old) r row here)

    token_same : (id : ℕ) → Contains row.tokens id → held new (token_of row id) ≡ held old (token_of row id)
    token_same id within =
        parts_same (token_of row id) (token_named (has_weaver old) r row here id within) (λ en. absurd (cc))
        (token_key (has_weaver old) r row here id within)

    user_same : held_of_user new r.armed row ≡ held_of_user old r.armed row
    user_same =
        let files : (part : FilePart) → where_it_has (is_its_part r.armed row part) (user_file new row part) ≡ where_it_has (is_its_part r.armed row part) (user_file old row part)
        = λ part. where_same (is_its_part r.armed row part) (user_file new row part) (user_file old row part)
        (λ has. same.file (name_of row.user 0 part) (user_named (has_weaver old) r row here part has)) in
        let counter = where_same (has_secure row) (record_at new.gk row.secure) (record_at old.gk row.secure)
        (λ has. same.counter row.secure (secure_enrolled (has_weaver old) r row here has)) in
        let key = where_same (is_armed r.armed row.user) (key_at new.keys 0) (key_at old.keys 0) (λ has. same.key 0 (armed_key r row.user has)) in
        let cell = where_same (is_armed r.armed row.user) new.cell old.cell (λ has. cell_by r.armed refl has) in
        λ i. record {
          files = λ part. files part i;
          counter = counter i;
          device = same.device i;
          key = key i;
          cell = cell i;
        }
      where
        cell_by : (o : Option Arming) → r.armed ≡ o → is_armed o row.user ≡ true → new.cell ≡ old.cell
        cell_by None is has = absurd (cc)
        cell_by (Some a) is has = same.cell a is

    pub row_same : held_of_row new r.armed row ≡ held_of_row old r.armed row
    row_same =
        let tokens = map_same (λ id. held new (token_of row id)) (λ id. held old (token_of row id)) row.tokens token_same in
        λ i. record {
          user = user_same i;
          credential = credential_same i;
          tokens = tokens i;
        }

  -- ---- all users

  users_same : (rows : List UserRow) (users : List User) → ((row : UserRow) → Contains rows row → Contains r.users row)
      → AllZip (λ row u. HoldsUser row (held_of_row old r.armed row) u) rows users → AllZip (λ row u. HoldsUser row (held_of_row new r.armed row) u) rows users
  users_same [] [] here all = tt
  users_same [] (u ∷ users) here all = absurd all
  users_same (row ∷ rows) [] here all = absurd all
  users_same (row ∷ rows) (u ∷ users) here all = (
    subst (λ h. HoldsUser row h u) (sym (row_same row (here row (at_first row rows)))) all.0,
    users_same rows users (λ other within. here other (behind_first row rows other within)) all.1,
  )

  pub sound_same : (row : UserRow) (name : PartOf) → Contains r.users row → Contains (row_files (has_weaver old) r.armed row) name → IsSoundFile old row name → IsSoundFile new row name
  sound_same = sound_by r old new same.count same.file

  pub foreign_same : first_foreign new r ≡ first_foreign old r
  foreign_same = foreign_by r old new same.count same.file

  -- ---- what the world stands for

  nothing_kept : (cell : Option (List ℕ)) → kept_arming None cell ≡ None
  nothing_kept None = refl
  nothing_kept (Some once) = refl

  arming_same : kept_arming r.armed new.cell ≡ kept_arming r.armed old.cell
  arming_same = by r.armed refl
    where
      by : (o : Option Arming) → r.armed ≡ o → kept_arming o new.cell ≡ kept_arming o old.cell
      by None is = nothing_kept new.cell ∙ sym (nothing_kept old.cell)
      by (Some a) is = ap (kept_arming (Some a)) (same.cell a is)

  pub holds_same : (v : Vault) → Holds old r v → Holds new r v
  holds_same v holds = record {
    users = users_same r.users v.users (λ row within. within) holds.users;
    files = foreign_same ∙ holds.files;
    arming = holds.arming ∙ sym arming_same;
  }

  pub untouched_same : NamedAreUntouched old r → NamedAreUntouched new r
  untouched_same none name named =
      let was : NamesFile (has_weaver old) r name = subst (λ (b : Bool). NamesFile b r name) weaver_same named in
      same.touch name was (none name was)

module _ (old new : World) (same : SameSettings old new) where
  pub current_same : current (file_at new) ≡ current (file_at old)
  current_same = settings_follow (file_at old) (file_at new) (same.file First) (same.file Second)

  pub target_same : (side : Option Side) → IsTargetWhole old side → IsTargetWhole new side
  target_same current whole side other opened =
      subst IsWhole (sym (same.file side)) (whole side other (ap is_open (sym (same.file side)) ∙ opened))

pub stands_same : (old new : World) (s : Settled) (v : Vault) → SameNamed s.rec old new → SameSettings old new → StandsBy old s v → StandsBy new s v
stands_same old new s v named settings stands = record {
  settings = current_same old new settings ∙ stands.settings;
  target = target_same old new settings s.side stands.target;
  holds = holds_same s.rec old new named v stands.holds;
}

pub durably_same : (old new : World) (s : Settled) (v : Vault) → SameNamed s.rec old new → SameSettings old new → StandsDurably old s v → StandsDurably new s v
durably_same old new s v named settings stands = record {
  stands = stands_same old new s v named settings stands.stands;
  settings = λ side. settings.touch side (stands.settings side);
  named = untouched_same s.rec old new named stands.named;
}
