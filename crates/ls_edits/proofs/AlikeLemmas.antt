-- A file that is checked for the same in two rows passes the checks of both.
use Rattle.std.proofs.Common.{◌≡◌, ◌≢◌, ℕ, ◌||◌, Bool, true, false, cond, List, [], ◌∷◌, None, refl, ap, subst, sym, ◌∙◌}
use Rattle.std.specs.Prelude.{◌==◌, slice_index}
use Rattle.std.proofs.lemmas.Bool.{eqb-false}
use Rattle.ls_blob.specs.declared.kind.BlobKind.TheVariants.{Credential, StrongToken}
use Rattle.ls_blob.specs.Kinds.{kind_byte}
use Rattle.ls_board.specs.declared.world.World.{World}
use Rattle.ls_credential.specs.Codes.{code_of}
use Rattle.ls_credential.specs.declared.kind.Kind.{Kind}
use Rattle.ls_formats.specs.declared.part.FilePart.{FilePart}
use Rattle.ls_formats.specs.declared.part.FilePart.TheVariants.{SpBlob, Pwd, Secdis, Weaver, Metrics, Handle, E0, P1, Resume}
use Rattle.ls_formats.specs.PartNames.{PartOf}
use Rattle.ls_record.specs.declared.row.UserRow.{UserRow}
use Rattle.ls_standing.specs.Opening.{Check, check, beside, part_checks, has_handle_length, number_at, first_of, first_failing, content_at, version_in}
use Rattle.ls_sealing.specs.PartFormats.{format_fault}
use Rattle.ls_standing.specs.Sound.{IsSoundFile}
use Rattle.ls_edits.specs.SoundRows.{IsCheckedAlike}

module _ (w : World) (old row : UserRow) (id : ℕ) (bytes : List ℕ) where
  -- the checks of a blob
  blob_checks : Bool → ℕ → List Check
  blob_checks its version =
      check 1 1 (slice_index bytes 1 == kind_byte (cond its Credential StrongToken)) ∷ check 0 1 (its || (slice_index bytes 0 == version)) ∷ []

  same_blob : (id == row.protector) ≡ (id == old.protector) → (id ≢ row.protector → version_in w row ≡ version_in w old)
      → blob_checks (id == row.protector) (version_in w row) ≡ blob_checks (id == old.protector) (version_in w old)
  unfolding blob_checks
  same_blob same version = by (id == row.protector) refl ∙ ap (λ (b : Bool). blob_checks b (version_in w old)) same
    where
      by : (b : Bool) → (id == row.protector) ≡ b → blob_checks b (version_in w row) ≡ blob_checks b (version_in w old)
      by true e = refl
      by false e = ap (blob_checks false) (version (eqb-false id row.protector e))

  same_checks : (part : FilePart) → (part ≡ Pwd → row.kind ≡ old.kind) → (part ≡ Handle → row.secure ≡ old.secure)
      → (part ≡ SpBlob → (id == row.protector) ≡ (id == old.protector)) → (part ≡ SpBlob → id ≢ row.protector → version_in w row ≡ version_in w old)
      → part_checks part (beside w [] row) row id bytes ≡ part_checks part (beside w [] old) old id bytes
  unfolding blob_checks
  same_checks SpBlob kind secure purpose version = same_blob (purpose refl) (version refl)
  same_checks Pwd kind secure purpose version =
      ap (λ (k : Kind). check 0 1 (slice_index bytes 0 == code_of k) ∷ check 20 1 (has_handle_length (beside w [] old).slots (slice_index bytes 20))
      ∷ check 21 1 (slice_index bytes 21 == 1) ∷ check 22 8 (number_at bytes 22 8 == id) ∷ []) (kind refl)
  same_checks Secdis kind secure purpose version = refl
  same_checks Weaver kind secure purpose version = refl
  same_checks Metrics kind secure purpose version = refl
  same_checks Handle kind secure purpose version =
      ap (λ (n : ℕ). check 0 1 (slice_index bytes 0 == 1) ∷ check 1 8 (number_at bytes 1 8 == n) ∷ []) (secure refl)
  same_checks E0 kind secure purpose version = refl
  same_checks P1 kind secure purpose version = refl
  same_checks Resume kind secure purpose version = refl

pub alike_sound : (w : World) (old row : UserRow) (name : PartOf) → IsCheckedAlike w old row name → IsSoundFile w old name → IsSoundFile w row name
alike_sound w old row name alike sound =
    subst (λ (checks : List Check). first_of (format_fault name.part (content_at w name)) (first_failing (content_at w name) checks) ≡ None)
    (sym (same_checks w old row name.id (content_at w name) name.part alike.kind alike.secure alike.purpose alike.version)) sound
