-- Files that keep their format pass the checks of opening where what is checked is right.
use Rattle.std.proofs.Common.{◌≡◌, ◌≤◌, ◌<◌, ◌^◌, ◌⊎◌, inl, inr, ℕ, ◌+◌, ◌&&◌, ◌||◌, not, Bool, true, false, cond, List, [], ◌∷◌, ◌++◌, length, drop, Option, None, Some, refl, sym, ap, subst, ◌∙◌, arith}
use Rattle.std.specs.Prelude.{nat_le, nat_lt, min, slice_index, is_some, ◌==◌, if◌then◌else◌}
use Rattle.std.specs.List.{AllByRecursion}
use Rattle.std.specs.Option.{option_map}
use Rattle.std.proofs.Math.Dec.{eqb, leb}
use Rattle.std.proofs.lemmas.Bool.{eq-eqb, lt-leb}
use Rattle.std.proofs.lemmas.List.{length-append, drop_at, drop-drop, get_or-drop}
use Rattle.ls_credential.specs.Codes.{code_of}
use Rattle.ls_blob.specs.declared.kind.BlobKind.{BlobKind}
use Rattle.ls_blob.specs.declared.kind.BlobKind.TheVariants.{Credential, StrongToken}
use Rattle.ls_blob.specs.Kinds.{kind_byte, content_size}
use Rattle.ls_blob.specs.Blobs.{Spells}
use Rattle.ls_blob.specs.Parsing.{kind_fault, first_fault as blob_fault}
use Rattle.ls_formats.specs.declared.part.FilePart.{FilePart}
use Rattle.ls_formats.specs.declared.part.FilePart.TheVariants.{SpBlob, Pwd, Secdis, Weaver, Metrics}
use Rattle.ls_formats.specs.Format.{Format, IsIn, first_fault}
use Rattle.ls_formats.specs.Faults.{IsFirstFault}
use Rattle.ls_formats.specs.Files.{format_of}
use Rattle.ls_formats.specs.Contents.{AreBytes, Pwd as PwdValue, IsPwd, handle_part, pwd_bytes}
use Rattle.ls_formats.proofs.ContentLemmas.{slot_format, pwd_format}
use Rattle.ls_formats.proofs.FieldLemmas.{plain_in}
use Rattle.ls_formats.proofs.FaultLemmas.{IsLive, told}
use Rattle.ls_formats.proofs.FileLemmas.{format_lives}
use Rattle.ls_record.specs.declared.row.UserRow.{UserRow}
use Rattle.byteorder.specs.Endian.{big_number}
use Rattle.ls_board.specs.Gatekeeper.{version_of, sid_of}
use Rattle.ls_record.specs.Rows.{has}
use Rattle.ls_standing.proofs.SlotFileLemmas.{of_slot, slot_passes}
use Rattle.ls_blob.specs.Parsing.{blob_place}
use Rattle.ls_sealing.specs.PartFormats.{format_fault}
use Rattle.ls_standing.specs.Opening.{discardable_length, has_handle_length, number_at, Check, check, fails, first_of, first_failing, Beside, part_checks}

-- ---- checks

none_of_two : (a b : Option ℕ) → a ≡ None → b ≡ None → first_of a b ≡ None
none_of_two a b none also = ap (λ x. first_of x b) none ∙ also

-- the check is right, or isn't made
abbrev pub Passes : List ℕ → Check → Type 0
Passes bytes c = fails bytes c ≡ false

all_pass : (bytes : List ℕ) (checks : List Check) → AllByRecursion (Passes bytes) checks → first_failing bytes checks ≡ None
all_pass bytes [] all = refl
all_pass bytes (c ∷ checks) all = none_of_two _ _ (ap (λ b. cond b (Some c.at) None) all.0) (all_pass bytes checks all.1)

pub right_passes : (bytes : List ℕ) (c : Check) → c.right ≡ true → Passes bytes c
right_passes bytes c right = by (nat_le (c.at + c.size) (length bytes)) c.right right
  where
    by : (there right : Bool) → right ≡ true → (there && not right) ≡ false
    by true true e = refl
    by false true e = refl
    by there false e = absurd (cc)

-- ---- formats

no_fault_in : (f : Format) → IsLive f → (bytes : List ℕ) → IsIn f bytes → first_fault f bytes ≡ None
no_fault_in f live bytes is = by (first_fault f bytes) refl
  where
    by : (at : Option ℕ) → first_fault f bytes ≡ at → first_fault f bytes ≡ None
    by None e = e
    by (Some at) e = let fault : IsFirstFault (IsIn f) bytes at = told f live bytes (Some at) (sym e) in absurd (fault.outside is)

pub in_form : (part : FilePart) (bytes : List ℕ) → IsIn (format_of part) bytes → first_fault (format_of part) bytes ≡ None
in_form part bytes is = no_fault_in (format_of part) (format_lives part) bytes is

-- ---- blobs

spelled_none : (v : ℕ) (k : BlobKind) (content : List ℕ) → (v ≡ 2) ⊎ (v ≡ 3) → length content ≡ content_size k → blob_fault (v ∷ kind_byte k ∷ content) ≡ None
spelled_none v k content version size = by version ∙ sized k size
  where
    by : (v ≡ 2) ⊎ (v ≡ 3) → blob_fault (v ∷ kind_byte k ∷ content) ≡ kind_fault (kind_byte k) (2 + length content)
    by (inl e) = ap (λ x. blob_fault (x ∷ kind_byte k ∷ content)) e
    by (inr e) = ap (λ x. blob_fault (x ∷ kind_byte k ∷ content)) e

    sized : (k : BlobKind) → length content ≡ content_size k → kind_fault (kind_byte k) (2 + length content) ≡ None
    sized Credential size = ap (λ n. kind_fault 0 (2 + n)) size
    sized StrongToken size = ap (λ n. kind_fault 1 (2 + n)) size

module _ (b : Beside) (row : UserRow) (id : ℕ) where
  abbrev pub SoundPart : FilePart → List ℕ → Type 0
  SoundPart part bytes = first_of (format_fault part bytes) (first_failing bytes (part_checks part b row id bytes)) ≡ None

  -- a file that keeps its format and passes its checks
  pub sound_part : (part : FilePart) (bytes : List ℕ) → format_fault part bytes ≡ None → AllByRecursion (Passes bytes) (part_checks part b row id bytes) → SoundPart part bytes
  sound_part part bytes form all = none_of_two _ _ form (all_pass bytes (part_checks part b row id bytes) all)

  abbrev its_kind : Bool → BlobKind
  its_kind own = if own then Credential else StrongToken

  pub blob_sound : (own : Bool) (bytes : List ℕ) (v : ℕ) (content : List ℕ) → eqb id row.protector ≡ own → Spells (record { version = v; kind = its_kind own; content = content }) bytes
      → (own ≡ false → v ≡ b.version) → SoundPart SpBlob bytes
  blob_sound own bytes v content is spells version =
      subst (SoundPart SpBlob) (sym spells.spelling)
      (sound_part SpBlob spelled (ap (option_map blob_place) (spelled_none v (its_kind own) content spells.version spells.size)) (
        right_passes spelled (check 1 1 (slice_index spelled 1 == kind_byte (its_kind (eqb id row.protector)))) (kind_right own is),
        (right_passes spelled (check 0 1 (eqb id row.protector || (slice_index spelled 0 == b.version))) (version_right own is version), tt),
      ))
    where
      spelled : List ℕ
      spelled = v ∷ kind_byte (its_kind own) ∷ content

      kind_right : (own : Bool) → eqb id row.protector ≡ own → (kind_byte (its_kind own) == kind_byte (its_kind (eqb id row.protector))) ≡ true
      kind_right own is = ap (λ (x : Bool). kind_byte (its_kind own) == kind_byte (its_kind x)) is ∙ eq-eqb (kind_byte (its_kind own)) (kind_byte (its_kind own)) refl

      version_right : (own : Bool) → eqb id row.protector ≡ own → (own ≡ false → v ≡ b.version) → (eqb id row.protector || (v == b.version)) ≡ true
      version_right true is version = ap (λ (x : Bool). x || (v == b.version)) is
      version_right false is version = ap (λ (x : Bool). x || (v == b.version)) is ∙ eq-eqb v b.version (version refl)

  -- ---- plain files

  -- a file of so many bytes, for which nothing else is checked
  bytes_are : (n : ℕ) (bytes : List ℕ) → length bytes ≡ n → ((i : ℕ) → slice_index bytes i < 256) → AreBytes n bytes
  bytes_are n bytes long each = record { long = long; each = each }

  pub metrics_sound : (bytes : List ℕ) → length bytes ≡ 38 → ((i : ℕ) → slice_index bytes i < 256) → SoundPart Metrics bytes
  metrics_sound bytes long each = sound_part Metrics bytes (in_form Metrics bytes (plain_in 38 bytes (bytes_are 38 bytes long each))) tt

  pub discardable_sound : (bytes : List ℕ) → length bytes ≡ discardable_length b.slots → ((i : ℕ) → slice_index bytes i < 256) → SoundPart Secdis bytes
  discardable_sound bytes long each =
      sound_part Secdis bytes (form (nat_lt 0 b.slots) long)
      (right_passes bytes (check (min (length bytes) (discardable_length b.slots)) 0 (length bytes == discardable_length b.slots)) (eq-eqb (length bytes) (discardable_length b.slots) long), tt)
    where
      form : (weaver : Bool) → length bytes ≡ (if weaver then 16412 else 16384) → first_fault (format_of Secdis) bytes ≡ None
      form true long = in_form Secdis bytes (inr (plain_in 16412 bytes (bytes_are 16412 bytes long each)))
      form false long = in_form Secdis bytes (inl (plain_in 16384 bytes (bytes_are 16384 bytes long each)))

  pub slot_sound : (n : ℕ) → n < 2 ^ 32 → n < b.slots → has b.earlier n ≡ false → SoundPart Weaver (of_slot n)
  slot_sound n small within fresh =
      none_of_two _ _ (in_form Weaver (of_slot n) (slot_format.writes (record { slot = n }) small)) (slot_passes b row id n small within fresh)

-- ---- a `pwd` file

length_right : (weaver some : Bool) → some ≡ not weaver → (if weaver then not (cond some 49 0 == 49) else (cond some 49 0 == 49)) ≡ true
length_right true true e = absurd (cc)
length_right true false e = refl
length_right false true e = refl
length_right false false e = absurd (cc)

module _ (b : Beside) (row : UserRow) (id : ℕ) (v : PwdValue) (keeps : IsPwd v) (kind : v.kind ≡ row.kind) (has : is_some v.handle ≡ not (nat_lt 0 b.slots))
    (named : (handle : List ℕ) → v.handle ≡ Some handle → (version_of handle ≡ 1) × (sid_of handle ≡ id)) where
  abbrev text : List ℕ
  text = v.salt ++ handle_part v.handle

  abbrev bytes : List ℕ
  bytes = pwd_bytes v

  behind_salt : drop 16 text ≡ handle_part v.handle
  behind_salt = drop_at v.salt (handle_part v.handle) 16 keeps.salt.long

  behind_length : drop 17 text ≡ drop 1 (handle_part v.handle)
  behind_length = sym (drop-drop 1 16 text) ∙ ap (drop 1) behind_salt

  length_byte : slice_index bytes 20 ≡ cond (is_some v.handle) 49 0
  length_byte = sym (get_or-drop 16 text 0 0) ∙ ap (λ (l : List ℕ). slice_index l 0) behind_salt ∙ of_part v.handle
    where
      of_part : (o : Option (List ℕ)) → slice_index (handle_part o) 0 ≡ cond (is_some o) 49 0
      of_part None = refl
      of_part (Some handle) = refl

  -- a check of the handle passes where it is right, or where there is no handle
  handle_check : (c : Check) → 22 ≤ c.at + c.size → ((handle : List ℕ) → v.handle ≡ Some handle → c.right ≡ true) → Passes bytes c
  handle_check c far right = by v.handle refl
    where
      by : (o : Option (List ℕ)) → v.handle ≡ o → Passes bytes c
      by None is =
          let long : length bytes ≡ 21 = rw is (omega (arith, keeps.salt.long, length-append v.salt (0 ∷ []))) in
          ap (λ (there : Bool). there && not c.right) (lt-leb (c.at + c.size) (length bytes) (omega (arith, long, far)))
      by (Some handle) is = right_passes bytes c (right handle is)

  version_right : (handle : List ℕ) → v.handle ≡ Some handle → (slice_index bytes 21 == 1) ≡ true
  version_right handle is =
      eq-eqb (slice_index bytes 21) 1
      (sym (get_or-drop 17 text 0 0) ∙ ap (λ (l : List ℕ). slice_index l 0) (behind_length ∙ ap (λ (o : Option (List ℕ)). drop 1 (handle_part o)) is) ∙ (named handle is).0)

  id_right : (handle : List ℕ) → v.handle ≡ Some handle → (number_at bytes 22 8 == id) ≡ true
  id_right handle is =
      let rest : drop 18 text ≡ drop 1 handle = sym (drop-drop 1 17 text) ∙ ap (drop 1) (behind_length ∙ ap (λ (o : Option (List ℕ)). drop 1 (handle_part o)) is) in
      eq-eqb (number_at bytes 22 8) id (ap (big_number 8) rest ∙ (named handle is).1)

  pub pwd_sound : SoundPart b row id Pwd bytes
  pwd_sound =
      sound_part b row id Pwd bytes (in_form Pwd bytes (pwd_format.writes v keeps)) (
        right_passes bytes (check 0 1 (slice_index bytes 0 == code_of row.kind)) (eq-eqb (code_of v.kind) (code_of row.kind) (ap code_of kind)),
        (
          right_passes bytes (check 20 1 (has_handle_length b.slots (slice_index bytes 20)))
              (ap (has_handle_length b.slots) length_byte ∙ length_right (nat_lt 0 b.slots) (is_some v.handle) has),
          (
            handle_check (check 21 1 (slice_index bytes 21 == 1)) (omega arith) version_right,
            (handle_check (check 22 8 (number_at bytes 22 8 == id)) (omega arith) id_right, tt),
          ),
        ),
      )
