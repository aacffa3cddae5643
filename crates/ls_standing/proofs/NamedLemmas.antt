-- What a row of a record names is named by the record.
use Rattle.std.proofs.Common.{◌≡◌, ℕ, ◌||◌, ◌&&◌, not, Bool, true, false, cond, List, [], ◌∷◌, ◌++◌, Option, None, Some, refl, sym, ap, ◌∙◌, arith}
use Rattle.std.specs.Prelude.{is_some}
use Rattle.std.specs.List.{Contains, flat_map, list_any}
use Rattle.std.proofs.Math.Dec.{eqb}
use Rattle.std.proofs.lemmas.Bool.{eqb-true}
use Rattle.std.proofs.lemmas.List.Elements.{Contains-append_left, Contains-append_right}
use Rattle.ls_formats.specs.declared.part.FilePart.{FilePart}
use Rattle.ls_formats.specs.declared.part.FilePart.TheVariants.{SpBlob, Pwd, Secdis, Weaver, Metrics, Handle, E0, P1, Resume}
use Rattle.ls_formats.specs.PartNames.{PartOf}
use Rattle.ls_record.specs.declared.row.UserRow.{UserRow}
use Rattle.ls_arming.specs.declared.arming.Arming.{Arming}
use Rattle.ls_record.specs.Rows.{Rec}
use Rattle.ls_naming.specs.Named.{only_if, is_armed, has_credential, has_secure, user_parts, credential_parts, token_parts, parts_of, token_files, row_files, NamesFile, NamesSlot, row_keys, NamesKey, row_enrolled, NamesEnrolled}
use Rattle.ls_naming.specs.Membership.{part_number, same_part}
use Rattle.ls_board.specs.declared.world.World.{World}
use Rattle.ls_board.specs.Effect.{file_at}
use Rattle.ls_sealing.specs.Protectors.{Protector, credential, token, has_part, is_enrolled, file_name, has_weaver, held_number}
use Rattle.ls_standing.specs.Named.{is_its_part}
use Rattle.ls_standing.proofs.ContainsLemmas.{at_first, behind_first, in_map, in_flat}
use Rattle.ls_standing.proofs.ProtectorLemmas.{has_slot}

in_only_if : {X : Type 0} (b : Bool) (x : X) → b ≡ true → Contains (only_if b (x ∷ [])) x
in_only_if true x e = at_first x []
in_only_if false x e = absurd (cc)

-- ---- parts

part_by : ℕ → FilePart
part_by n =
    cond (eqb n 0) SpBlob
    (cond (eqb n 1) Pwd
    (cond (eqb n 2) Secdis
    (cond (eqb n 3) Weaver
    (cond (eqb n 4) Metrics
    (cond (eqb n 5) Handle
    (cond (eqb n 6) E0
    (cond (eqb n 7) P1 Resume)))))))

part_again : (p : FilePart) → part_by (part_number p) ≡ p
unfolding part_by
part_again SpBlob = refl
part_again Pwd = refl
part_again Secdis = refl
part_again Weaver = refl
part_again Metrics = refl
part_again Handle = refl
part_again E0 = refl
part_again P1 = refl
part_again Resume = refl

part_is : (p q : FilePart) → same_part p q ≡ true → q ≡ p
part_is p q same = sym (part_again q) ∙ ap part_by (sym (eqb-true (part_number p) (part_number q) same)) ∙ part_again p

-- a part that is found is one of them
pub part_found : (part : FilePart) (parts : List FilePart) → list_any (same_part part) parts ≡ true → Contains parts part
part_found part [] found = absurd (cc)
part_found part (p ∷ parts) found = first (same_part part p) refl found (part_found part parts)
  where
    first : (b : Bool) → same_part part p ≡ b → (b || list_any (same_part part) parts) ≡ true → (list_any (same_part part) parts ≡ true → Contains parts part) → Contains (p ∷ parts) part
    first true same e later = (0, omega arith, part_is part p same)
    first false other e later = behind_first p parts part (later e)

abbrev pub name_of : ℕ → ℕ → FilePart → PartOf
name_of user id part = record { user = user; id = id; part = part }

module _ (weaver : Bool) (r : Rec) (row : UserRow) (here : Contains r.users row) where
  abbrev in_row : PartOf → Type 0
  in_row name = Contains (row_files weaver r.armed row) name

  row_named : (name : PartOf) → in_row name → NamesFile weaver r name
  row_named name inner = in_flat (row_files weaver r.armed) r.users row name here inner

  pub user_named : (part : FilePart) → is_its_part r.armed row part ≡ true → NamesFile weaver r (name_of row.user 0 part)
  user_named part has =
      let one = parts_of row.user 0 (user_parts r.armed row) in
      let rest = parts_of row.user row.protector (credential_parts weaver row.kind) ++ token_files weaver row in
      let name = name_of row.user 0 part in
      row_named name (Contains-append_left one rest name
      (in_map (λ p. name_of row.user 0 p) (user_parts r.armed row) part (part_found part (user_parts r.armed row) has)))

  pub credential_named : (part : FilePart) → has_part weaver (credential row.kind) part ≡ true
      → NamesFile weaver r (name_of row.user row.protector part)
  credential_named part has =
      let one = parts_of row.user 0 (user_parts r.armed row) in
      let two = parts_of row.user row.protector (credential_parts weaver row.kind) in
      let three = token_files weaver row in
      let name = name_of row.user row.protector part in
      row_named name (Contains-append_right one (two ++ three) name (Contains-append_left two three name
      (in_map (λ p. name_of row.user row.protector p) (credential_parts weaver row.kind) part (part_found part (credential_parts weaver row.kind) has))))

  pub token_named : (id : ℕ) → Contains row.tokens id → (part : FilePart) → has_part weaver token part ≡ true
      → NamesFile weaver r (name_of row.user id part)
  token_named id within part has =
      let one = parts_of row.user 0 (user_parts r.armed row) in
      let two = parts_of row.user row.protector (credential_parts weaver row.kind) in
      let three = token_files weaver row in
      let name = name_of row.user id part in
      row_named name (Contains-append_right one (two ++ three) name (Contains-append_right two three name
      (in_flat (λ t. parts_of row.user t (token_parts weaver)) row.tokens id name within
      (in_map (λ p. name_of row.user id p) (token_parts weaver) part (part_found part (token_parts weaver) has)))))

  -- ---- keys and Gatekeeper records

  key_in_row : (alias : ℕ) → Contains (row_keys row) alias → NamesKey r alias
  key_in_row alias inner = Contains-append_left (flat_map row_keys r.users) _ alias (in_flat row_keys r.users row alias here inner)

  pub credential_key : NamesKey r row.protector
  credential_key = key_in_row row.protector (at_first row.protector row.tokens)

  pub token_key : (id : ℕ) → Contains row.tokens id → NamesKey r id
  token_key id within = key_in_row id (behind_first row.protector row.tokens id within)

  pub secure_enrolled : has_secure row ≡ true → NamesEnrolled weaver r row.secure
  secure_enrolled has =
      in_flat (row_enrolled weaver) r.users row row.secure here
      (Contains-append_left (only_if (has_secure row) (row.secure ∷ [])) _ row.secure (in_only_if (has_secure row) row.secure has))

  pub credential_enrolled : is_enrolled weaver (credential row.kind) ≡ true → NamesEnrolled weaver r row.protector
  credential_enrolled en =
      in_flat (row_enrolled weaver) r.users row row.protector here
      (Contains-append_right (only_if (has_secure row) (row.secure ∷ [])) _ row.protector (in_only_if (not weaver && has_credential row.kind) row.protector en))

-- an arming is there where someone is armed
pub armed_key : (r : Rec) (user : ℕ) → is_armed r.armed user ≡ true → NamesKey r 0
armed_key r user armed = by r.armed refl armed
  where
    by : (o : Option Arming) → r.armed ≡ o → is_armed o user ≡ true → NamesKey r 0
    by None is h = absurd (cc)
    by (Some a) is h =
        Contains-append_right (flat_map row_keys r.users) (only_if (is_some r.armed) (0 ∷ [])) 0
        (in_only_if (is_some r.armed) 0 (ap is_some is))

-- ---- slots

-- a slot is named by a file that says its number
module _ (w : World) (r : Rec) (p : Protector) (named : (part : FilePart) → has_part (has_weaver w) p.purpose part ≡ true → NamesFile (has_weaver w) r (name_of p.user p.id part)) where
  pub slot_named : (n : ℕ) → held_number w p ≡ Some n → NamesSlot (has_weaver w) r (file_at w) n
  slot_named n e =
      let is = has_slot (has_part (has_weaver w) p.purpose Weaver) (file_at w (file_name p Weaver)) n e in
      record {
        name = name_of p.user p.id Weaver;
        named = named Weaver is.has_it;
        part = refl;
        small = is.small;
        holds = is.holds;
      }
