-- What is known of the files of a row that a world holds for a user.
use Rattle.std.proofs.Common.{◌≡◌, ℕ, Bool, true, false, List, [], ◌∷◌, ◌++◌, Option, None, Some, refl}
use Rattle.std.specs.Prelude.{unwrap_or}
use Rattle.std.specs.List.{Contains, AllZip}
use Rattle.std.proofs.lemmas.List.Elements.{Contains-append_left}
use Rattle.ls_formats.specs.declared.part.FilePart.{FilePart}
use Rattle.ls_formats.specs.PartNames.{PartOf, part_name_text}
use Rattle.ls_record.specs.declared.row.UserRow.{UserRow}
use Rattle.ls_record.specs.Rows.{Rec}
use Rattle.ls_naming.specs.Named.{user_parts, credential_parts, token_files, parts_of, row_files}
use Rattle.ls_board.specs.declared.world.World.{World}
use Rattle.ls_board.specs.Effect.{file_at}
use Rattle.ls_sealing.specs.PartFormats.{format_fault}
use Rattle.ls_sealing.specs.Protectors.{Protector, held, has_weaver, has_part, parts_for, where_it_has, file_name}
use Rattle.ls_vault.specs.declared.user.User.{User}
use Rattle.ls_vault.specs.declared.vault.Vault.{Vault}
use Rattle.ls_standing.specs.Named.{held_of_row, user_file, is_its_part}
use Rattle.ls_standing.specs.NamedProtectors.{row_protectors}
use Rattle.ls_standing.specs.Opening.{first_of, content_at, beside, part_checks, first_failing, first_foreign}
use Rattle.ls_standing.specs.Standing.{Holds, HoldsUser}
use Rattle.ls_standing.proofs.CheckLemmas.{alone}
use Rattle.ls_standing.proofs.ContainsLemmas.{in_map, at_first, behind_first}
use Rattle.ls_standing.proofs.NamedLemmas.{part_found, name_of}
use Rattle.ls_standing.proofs.ProtectorLemmas.{in_row}
use Rattle.ls_chain.specs.Linked.{IsInForm, HasForm}
use Rattle.ls_attempts.specs.StandingRows.{HoldsRow}

-- ---- files

-- a file with no fault has none of its format
format_first : (a b : Option ℕ) → first_of a b ≡ None → a ≡ None
format_first None b none = refl
format_first (Some m) None none = absurd (cc)
format_first (Some m) (Some n) none = absurd (cc)

form_of : (part : FilePart) (file : Option (List ℕ)) → format_fault part (unwrap_or file []) ≡ None → IsInForm part file
form_of part None is = tt
form_of part (Some bytes) is = is

module _ (w : World) (r : Rec) (row : UserRow) (u : User) (is : HoldsRow w r row u) where
  named_form : (name : PartOf) → Contains (row_files (has_weaver w) r.armed row) name → IsInForm name.part (file_at w (part_name_text name))
  named_form name within =
      let bytes = content_at w name in
      form_of name.part (file_at w (part_name_text name))
      (format_first (format_fault name.part bytes) (first_failing bytes (part_checks name.part (beside w [] row) row name.id bytes)) (alone w r is.files row name is.there within))

  -- each file of a protector of the row
  pub protector_form : (p : Protector) → Contains (row_protectors row) p → (part : FilePart) → HasForm (held w p) part
  protector_form p own part = by (has_part (has_weaver w) p.purpose part) refl
    where
      by : (has : Bool) → has_part (has_weaver w) p.purpose part ≡ has → IsInForm part (where_it_has has (file_at w (file_name p part)))
      by true e =
          let parts = parts_for (has_weaver w) p.purpose in
          let name = name_of p.user p.id part in
          named_form name (in_row (has_weaver w) r.armed row p name own (in_map (λ (x : FilePart). name_of p.user p.id x) parts part (part_found part parts e)))
      by false e = tt

  -- and of the user itself
  pub own_form : (part : FilePart) → is_its_part r.armed row part ≡ true → IsInForm part (user_file w row part)
  own_form part has =
      let parts = user_parts r.armed row in
      let others = parts_of row.user row.protector (credential_parts (has_weaver w) row.kind) ++ token_files (has_weaver w) row in
      let name = name_of row.user 0 part in
      named_form name (Contains-append_left (parts_of row.user 0 parts) others name (in_map (λ (x : FilePart). name_of row.user 0 x) parts part (part_found part parts has)))

-- ---- rows

module _ (w : World) (r : Rec) (fine : first_foreign w r ≡ None) where
  each_row : (rows : List UserRow) (users : List User) → ((row : UserRow) → Contains rows row → Contains r.users row)
      → AllZip (λ row u. HoldsUser row (held_of_row w r.armed row) u) rows users → AllZip (HoldsRow w r) rows users
  each_row [] [] among all = tt
  each_row [] (u ∷ users) among all = absurd all
  each_row (row ∷ rows) [] among all = absurd all
  each_row (row ∷ rows) (u ∷ users) among all = (
    record { there = among row (at_first row rows); holds = all.0; files = fine },
    each_row rows users (λ x h. among x (behind_first row rows x h)) all.1,
  )

pub rows_hold : (w : World) (r : Rec) (v : Vault) → Holds w r v → AllZip (HoldsRow w r) r.users v.users
rows_hold w r v is = each_row w r is.files r.users v.users (λ row h. h) is.users
