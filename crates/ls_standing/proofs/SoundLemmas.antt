-- Files of a protector that seals pass the checks of opening.
use Rattle.std.proofs.Common.{◌≡◌, ◌≢◌, ◌≤◌, ◌<◌, ◌^◌, ℕ, ◌+◌, ◌-◌, ◌&&◌, not, Bool, true, false, cond, List, [], ◌∷◌, ◌++◌, length, drop, Option, None, Some, refl, sym, ap, subst, ◌∙◌, arith}
use Rattle.std.specs.Prelude.{MatchBool, MatchOption, IsSome, IsSomeAnd, nat_le, nat_lt, bytes_eq, slice_index, slice_get, unwrap_or, is_some, ◌==◌, if◌then◌else◌}
use Rattle.std.specs.List.{AllByRecursion}
use Rattle.std.specs.Option.{option_and_then}
use Rattle.std.proofs.Math.Dec.{leb}
use Rattle.std.proofs.lemmas.Bool.{not-true, eq-eqb, ne_eqb, leb-true, ltb-true, ltb-false}
use Rattle.std.proofs.lemmas.Option.{slice_get_past}
use Rattle.std.proofs.lemmas.List.{length-take-le, length-drop}
use Rattle.ls_credential.specs.declared.kind.Kind.{Kind}
use Rattle.ls_credential.specs.declared.kind.Kind.TheVariants.{Empty, Pattern, Pin, Password}
use Rattle.ls_credential.specs.Rules.{KindAndText}
use Rattle.sha2.proofs.Facts512.{length-sha512}
use Rattle.ls_hash.specs.Padding.{padded}
use Rattle.ls_hash.specs.Personal.{personalised_hash}
use Rattle.ls_blob.specs.Personal.{personal_key, opened_under}
use Rattle.ls_weaver.specs.declared.slot.Slot.{Slot}
use Rattle.ls_gcm.specs.Gcm.{crypted, gcm_tag, gcm_open, iv_of, body_of, tag_of}
use Rattle.ls_gcm.proofs.SealingLemmas.{length-crypted}
use Rattle.ls_blob.specs.declared.kind.BlobKind.TheVariants.{Credential, StrongToken}
use Rattle.ls_blob.specs.Blobs.{Spells}
use Rattle.ls_formats.specs.declared.part.FilePart.{FilePart}
use Rattle.ls_formats.specs.declared.part.FilePart.TheVariants.{SpBlob, Pwd, Secdis, Weaver, Metrics, Handle, E0, P1, Resume}
use Rattle.ls_formats.specs.PartNames.{is_of_user}
use Rattle.ls_formats.specs.Format.{IsIn}
use Rattle.ls_formats.specs.Rules.{field_then}
use Rattle.ls_formats.specs.Files.{format_of}
use Rattle.ls_formats.specs.Contents.{AreBytes, pwd_of, metrics_bytes}
use Rattle.ls_formats.proofs.FieldLemmas.{plain_in}
use Rattle.ls_record.specs.declared.row.UserRow.{UserRow}
use Rattle.ls_naming.specs.Named.{credential_parts, token_parts}
use Rattle.ls_credential.specs.Counts.{metrics_of}
use Rattle.ls_secret.specs.declared.personal.Personal.TheVariants.{PasswordMetrics}
use Rattle.ls_secret.specs.Derivation.{subkey_of}
use Rattle.ls_secret.specs.Subkeys.{subkey_bytes}
use Rattle.ls_secret.specs.Secrets.{SecretValue}
use Rattle.ls_board.specs.declared.world.World.{World}
use Rattle.ls_board.specs.Effect.{file_at}
use Rattle.ls_board.specs.Gatekeeper.{version_of, sid_of, salt_of}
use Rattle.ls_sealing.specs.Chain.{stretched, gatekeeper_password, discardable_personal, opened_discardable}
use Rattle.ls_sealing.specs.Seals.{content_of, IsPwdFile, IsHandleOf, slot_value, Seals, ShowsMetrics, IsTokenSlot, SealsToken}
use Rattle.ls_sealing.proofs.ByteLemmas.{signed_sid}
use Rattle.ls_standing.specs.Named.{credential_of, token_of, user_file}
use Rattle.ls_sealing.specs.Protectors.{Purpose, credential, token, Protector, Held, held, held_number, has_part, has_weaver, file_name, where_it_has}
use Rattle.ls_sealing.specs.HeldBytes.{HoldsBytes, AllHoldBytes}
use Rattle.ls_standing.specs.Sound.{IsOwnFile, IsSoundFile}
use Rattle.ls_standing.proofs.NamedLemmas.{name_of, part_found}
use Rattle.ls_standing.proofs.PairLemmas.{each_in}
use Rattle.ls_standing.proofs.ProtectorLemmas.{has_slot}
use Rattle.ls_record.specs.Rows.{has}
use Rattle.ls_standing.specs.Opening.{version_in, beside, number_at, check, Beside}
use Rattle.ls_standing.proofs.PassingLemmas.{right_passes, in_form, SoundPart, sound_part, blob_sound, metrics_sound, discardable_sound, slot_sound, pwd_sound}

-- ---- sealed files

length-personal_key : (key personal : List ℕ) → length (personal_key key personal) ≡ 32
unfolding personalised_hash
length-personal_key key personal = length-take-le 32 (personalised_hash personal key) (omega (arith, length-sha512 (padded 128 personal ++ key)))

-- a sealed text has 28 bytes more than what it opens to
opened_long : (key s text : List ℕ) → length key ≡ 32 → gcm_open key s ≡ Some text → length s ≡ 28 + length text
unfolding gcm_open
opened_long key s text size e = by (nat_le 28 (length s)) (bytes_eq (gcm_tag key (iv_of s) (body_of s)) (tag_of s)) refl e
  where
    by : (long right : Bool) → nat_le 28 (length s) ≡ long → cond (long && right) (Some (crypted key (iv_of s) (body_of s))) None ≡ Some text → length s ≡ 28 + length text
    by true true fits found =
        let le : 28 ≤ length s = leb-true 28 (length s) fits in
        let is : crypted key (iv_of s) (body_of s) ≡ text = ap (λ o. unwrap_or o text) found in
        let body = length-take-le (length s - 28) (drop 12 s) (omega (arith, le, length-drop 12 s)) in
        omega (arith, le, body, ap length is, length-crypted key (iv_of s) (body_of s) size)
    by true false fits found = absurd (cc)
    by false right fits found = absurd (cc)

sealed_long : (key personal s text : List ℕ) → opened_under key personal s ≡ Some text → length s ≡ 28 + length text
sealed_long key personal s text e = opened_long (personal_key key personal) s text (length-personal_key key personal) e

-- ---- what is there

by_true : (b : Bool) (A B : Type 0) → b ≡ true → MatchBool b A B → A
by_true true A B e h = h
by_true false A B e h = absurd (cc)

by_false : (b : Bool) (A B : Type 0) → b ≡ false → MatchBool b A B → B
by_false true A B e h = absurd (cc)
by_false false A B e h = h

some_part : (o : Option (List ℕ)) (P : List ℕ → Type 0) → IsSomeAnd o P → P (unwrap_or o [])
some_part None P h = absurd h
some_part (Some file) P h = h

match_part : (o : Option (List ℕ)) (N : Type 0) (P : List ℕ → Type 0) → MatchOption o N P → ¬ N → P (unwrap_or o [])
match_part None N P h some = absurd (some h)
match_part (Some file) N P h some = h

bytes_part : (o : Option (List ℕ)) → HoldsBytes o → (i : ℕ) → slice_index (unwrap_or o []) i < 256
bytes_part None h i = omega arith
bytes_part (Some file) h i = h i

slot_there : (slots : List Slot) (o : Option ℕ) (Q : Slot → Type 0) → IsSomeAnd (option_and_then (slice_get slots) o) Q → (n : ℕ) × (o ≡ Some n) × (n < length slots)
slot_there slots None Q h = absurd h
slot_there slots (Some n) Q h = (n, refl, by (nat_lt n (length slots)) refl)
  where
    by : (b : Bool) → nat_lt n (length slots) ≡ b → n < length slots
    by true e = ltb-true n (length slots) e
    by false e = let past : length slots ≤ n = ltb-false n (length slots) e in absurd (subst (λ o. IsSomeAnd o Q) (slice_get_past slots n past) h)

-- ---- the parts of a protector

pwd_some : (b : Bool) (kind : Kind) → has_part b (credential kind) Pwd ≡ true → kind ≢ Empty
pwd_some b kind has empty = by b (subst (λ k. has_part b (credential k) Pwd ≡ true) empty has)
  where
    by : (b : Bool) → has_part b (credential Empty) Pwd ≡ true → ⊥
    by true e = absurd (cc)
    by false e = absurd (cc)

metrics_some : (b : Bool) (kind : Kind) → has_part b (credential kind) Metrics ≡ true → kind ≢ Empty
metrics_some b kind has empty = by b (subst (λ k. has_part b (credential k) Metrics ≡ true) empty has)
  where
    by : (b : Bool) → has_part b (credential Empty) Metrics ≡ true → ⊥
    by true e = absurd (cc)
    by false e = absurd (cc)

slot_weaver : (b : Bool) (kind : Kind) → has_part b (credential kind) Weaver ≡ true → b ≡ true
slot_weaver true kind e = refl
slot_weaver false Empty e = absurd (cc)
slot_weaver false Pattern e = absurd (cc)
slot_weaver false Pin e = absurd (cc)
slot_weaver false Password e = absurd (cc)

discardable_plain : (b : Bool) (kind : Kind) → has_part b (credential kind) Secdis ≡ true → b ≡ false
discardable_plain false kind e = refl
discardable_plain true Empty e = absurd (cc)
discardable_plain true Pattern e = absurd (cc)
discardable_plain true Pin e = absurd (cc)
discardable_plain true Password e = absurd (cc)

token_weaver : (b : Bool) → has_part b token Weaver ≡ true → b ≡ true
token_weaver true e = refl
token_weaver false e = absurd (cc)

abbrev OfProtector : FilePart → Type 0
OfProtector p = is_of_user p ≡ false

credential_all : (b : Bool) (kind : Kind) → AllByRecursion OfProtector (credential_parts b kind)
credential_all true Empty = (refl, (refl, tt))
credential_all false Empty = (refl, (refl, tt))
credential_all true Pattern = (refl, (refl, (refl, (refl, tt))))
credential_all false Pattern = (refl, (refl, (refl, (refl, tt))))
credential_all true Pin = (refl, (refl, (refl, (refl, tt))))
credential_all false Pin = (refl, (refl, (refl, (refl, tt))))
credential_all true Password = (refl, (refl, (refl, (refl, tt))))
credential_all false Password = (refl, (refl, (refl, (refl, tt))))

token_all : (b : Bool) → AllByRecursion OfProtector (token_parts b)
token_all true = (refl, (refl, (refl, tt)))
token_all false = (refl, (refl, tt))

of_protector : (b : Bool) (purpose : Purpose) (part : FilePart) → has_part b purpose part ≡ true → is_of_user part ≡ false
of_protector b (credential kind) part has = each_in OfProtector (credential_parts b kind) part (credential_all b kind) (part_found part (credential_parts b kind) has)
of_protector b token part has = each_in OfProtector (token_parts b) part (token_all b) (part_found part (token_parts b) has)

no_user_part : (b : Bool) (purpose : Purpose) (part : FilePart) → is_of_user part ≡ true → has_part b purpose part ≡ true → ⊥
no_user_part b purpose part user has = let own = of_protector b purpose part has in let bad : true ≡ false = sym user ∙ own in absurd (cc)

-- ---- a protector in a world

module _ (w : World) (row : UserRow) (p : Protector) (bytes : AllHoldBytes (held w p)) where
  abbrev h : Held
  h = held w p

  abbrev content : FilePart → List ℕ
  content part = unwrap_or (h.files part) []

  abbrev Sound : FilePart → Type 0
  Sound part = IsSoundFile w row (name_of p.user p.id part)

  each_byte : (part : FilePart) (i : ℕ) → slice_index (content part) i < 256
  each_byte part = bytes_part (h.files part) (bytes part)

  sound_at : (part : FilePart) → has_part (has_weaver w) p.purpose part ≡ true → SoundPart (beside w [] row) row p.id part (content part) → Sound part
  sound_at part has sound =
      subst (SoundPart (beside w [] row) row p.id part)
      (ap (λ (b : Bool). unwrap_or (where_it_has b (file_at w (file_name p part))) []) has) sound

  slot_file_sound : has_part (has_weaver w) p.purpose Weaver ≡ true → (Q : Slot → Type 0) → IsSomeAnd h.slot Q → Sound Weaver
  slot_file_sound has Q there =
      let found = slot_there w.slots (held_number w p) Q there in
      let is = has_slot (has_part (has_weaver w) p.purpose Weaver) (file_at w (file_name p Weaver)) found.0 found.1 in
      subst (λ (o : Option (List ℕ)). SoundPart (beside w [] row) row p.id Weaver (unwrap_or o [])) (sym is.holds)
      (slot_sound (beside w [] row) row p.id found.0 is.small found.2 refl)

-- ---- a user's own files

resume_in : (content : List ℕ) → AreBytes 184 content → IsIn (format_of Resume) (1 ∷ content)
unfolding field_then
resume_in content are = (refl, plain_in 184 content are)

own_part : (b : Beside) (row : UserRow) (part : FilePart) (file : List ℕ) → IsOwnFile row part file → SoundPart b row 0 part file
own_part b row Handle file is =
    sound_part b row 0 Handle file (in_form Handle file (plain_in 49 file is.0)) (
      right_passes file (check 0 1 (slice_index file 0 == 1)) (eq-eqb (slice_index file 0) 1 is.1),
      (right_passes file (check 1 8 (number_at file 1 8 == row.secure)) (eq-eqb (number_at file 1 8) row.secure is.2), tt),
    )
own_part b row E0 file is = sound_part b row 0 E0 file (in_form E0 file (plain_in 60 file is)) tt
own_part b row P1 file is = sound_part b row 0 P1 file (in_form P1 file (plain_in 32 file is)) tt
own_part b row Resume file (content, spelled, are) =
    subst (SoundPart b row 0 Resume) (sym spelled) (sound_part b row 0 Resume (1 ∷ content) (in_form Resume (1 ∷ content) (resume_in content are)) tt)
own_part b row SpBlob file is = absurd is
own_part b row Pwd file is = absurd is
own_part b row Secdis file is = absurd is
own_part b row Weaver file is = absurd is
own_part b row Metrics file is = absurd is

pub own_sound : (w : World) (row : UserRow) (part : FilePart) (bytes : List ℕ) → user_file w row part ≡ Some bytes → IsOwnFile row part bytes
    → IsSoundFile w row (name_of row.user 0 part)
own_sound w row part bytes there is =
    subst (λ (o : Option (List ℕ)). SoundPart (beside w [] row) row 0 part (unwrap_or o [])) (sym there) (own_part (beside w [] row) row part bytes is)

-- ---- a credential

module _ (w : World) (row : UserRow) (c : KindAndText) (s : SecretValue) (seals : Seals row.protector (held w (credential_of row)) c s) where
  abbrev blob : List ℕ
  blob = unwrap_or ((held w (credential_of row)).files SpBlob) []

  spells : Spells (record { version = s.version; kind = Credential; content = content_of ((held w (credential_of row)).files SpBlob) }) blob
  spells = some_part ((held w (credential_of row)).files SpBlob) (Spells (record { version = s.version; kind = Credential; content = content_of ((held w (credential_of row)).files SpBlob) })) seals.blob

  pub version_is : version_in w row ≡ s.version
  version_is = ap (λ (l : List ℕ). slice_index l 0) spells.spelling

  module _ (metrics : ShowsMetrics (held w (credential_of row)) c s) (bytes : AllHoldBytes (held w (credential_of row))) (kind : c.kind ≡ row.kind) (small : row.protector < 2 ^ 64) where
    abbrev its : Held
    its = held w (credential_of row)

    some_kind : row.kind ≢ Empty → ¬ (c.kind ≡ Empty)
    some_kind some empty = some (sym kind ∙ empty)

    handle_named : (file handle : List ℕ) → its.files Pwd ≡ Some file → its.weaver ≡ false → (pwd_of file).handle ≡ Some handle
        → (version_of handle ≡ 1) × (sid_of handle ≡ row.protector)
    handle_named file handle there plain is =
        let stretch = stretched (its.files Pwd) c.text in
        let accepts = by_false its.weaver _ _ plain seals.accepts in
        let in_file = subst (λ (o : Option (List ℕ)). MatchOption o (Unit {0}) (λ f. IsSome its.counter × IsSomeAnd (pwd_of f).handle (IsHandleOf its.device row.protector stretch))) there accepts in
        let its_handle : IsHandleOf its.device row.protector stretch handle = subst (λ (o : Option (List ℕ)). IsSomeAnd o (IsHandleOf its.device row.protector stretch)) is in_file.1 in
        (ap version_of its_handle, ap sid_of its_handle ∙ signed_sid its.device row.protector (salt_of handle) (gatekeeper_password stretch) small)

    pwd_file_sound : (file : List ℕ) → its.files Pwd ≡ Some file → IsPwdFile its.weaver c.kind file → SoundPart (beside w [] row) row row.protector Pwd file
    pwd_file_sound file there is =
        subst (SoundPart (beside w [] row) row row.protector Pwd) is.spelled
        (pwd_sound (beside w [] row) row row.protector (pwd_of file) is.rules (is.says ∙ kind) is.handle
        (λ handle has. handle_named file handle there (plain_by its.weaver (sym is.handle ∙ ap is_some has)) has))
      where
        plain_by : (b : Bool) → not b ≡ true → b ≡ false
        plain_by b e = not-true b e

    pwd_part_sound : (o : Option (List ℕ)) → its.files Pwd ≡ o → MatchOption o (c.kind ≡ Empty) (IsPwdFile its.weaver c.kind) → ¬ (c.kind ≡ Empty)
        → SoundPart (beside w [] row) row row.protector Pwd (unwrap_or o [])
    pwd_part_sound None there is some = absurd (some is)
    pwd_part_sound (Some file) there is some = pwd_file_sound file there is

    pub credential_sound : (part : FilePart) → has_part (has_weaver w) (credential row.kind) part ≡ true → IsSoundFile w row (name_of row.user row.protector part)
    credential_sound SpBlob has =
        sound_at w row (credential_of row) bytes SpBlob has
        (blob_sound (beside w [] row) row row.protector true blob s.version (content_of (its.files SpBlob)) (eq-eqb row.protector row.protector refl) spells (λ e. absurd (cc)))
    credential_sound Pwd has =
        sound_at w row (credential_of row) bytes Pwd has
        (pwd_part_sound (its.files Pwd) refl seals.kind (some_kind (pwd_some (has_weaver w) row.kind has)))
    credential_sound Secdis has =
        let plain = discardable_plain (has_weaver w) row.kind has in
        let long = some_part (its.files Secdis) (λ file. length file ≡ 16384) (by_false its.weaver _ _ plain seals.discardable) in
        sound_at w row (credential_of row) bytes Secdis has
        (discardable_sound (beside w [] row) row row.protector (unwrap_or (its.files Secdis) [])
        (long ∙ ap (λ (b : Bool). cond b 16412 16384) (sym plain)) (each_byte w row (credential_of row) bytes Secdis))
    credential_sound Weaver has =
        slot_file_sound w row (credential_of row) bytes has _ (by_true its.weaver _ _ (slot_weaver (has_weaver w) row.kind has) seals.accepts)
    credential_sound Metrics has =
        let shown = match_part (its.files Metrics) (c.kind ≡ Empty) _ metrics (some_kind (metrics_some (has_weaver w) row.kind has)) in
        sound_at w row (credential_of row) bytes Metrics has
        (metrics_sound (beside w [] row) row row.protector (unwrap_or (its.files Metrics) [])
        (sealed_long (subkey_bytes (subkey_of s PasswordMetrics)) [] (unwrap_or (its.files Metrics) []) (metrics_bytes (metrics_of c)) shown)
        (each_byte w row (credential_of row) bytes Metrics))
    credential_sound Handle has = absurd (no_user_part (has_weaver w) (credential row.kind) Handle refl has)
    credential_sound E0 has = absurd (no_user_part (has_weaver w) (credential row.kind) E0 refl has)
    credential_sound P1 has = absurd (no_user_part (has_weaver w) (credential row.kind) P1 refl has)
    credential_sound Resume has = absurd (no_user_part (has_weaver w) (credential row.kind) Resume refl has)

-- ---- a token

module _ (w : World) (row : UserRow) (id : ℕ) (p1 : Option (List ℕ)) (text : List ℕ) (s : SecretValue) (p0 : List ℕ)
    (seals : SealsToken (held w (token_of row id)) p1 text s p0) (bytes : AllHoldBytes (held w (token_of row id))) (apart : id ≢ row.protector) (version : version_in w row ≡ s.version) where
  abbrev of_token : Held
  of_token = held w (token_of row id)

  discardable_long : (b : Bool) (file : Option (List ℕ)) → IsSomeAnd (if b then option_and_then (opened_discardable (slot_value of_token.slot)) file else file) (λ l. length l ≡ 16384)
      → length (unwrap_or file []) ≡ (if b then 16412 else 16384)
  discardable_long true None h = absurd h
  discardable_long false None h = absurd h
  discardable_long false (Some file) h = h
  discardable_long true (Some file) h = by (opened_discardable (slot_value of_token.slot) file) refl h
    where
      by : (o : Option (List ℕ)) → opened_discardable (slot_value of_token.slot) file ≡ o → IsSomeAnd o (λ l. length l ≡ 16384) → length file ≡ 16412
      by None e h = absurd h
      by (Some l) e h = let long = sealed_long (slot_value of_token.slot) discardable_personal file l e in omega (arith, long, h)

  pub token_sound : (part : FilePart) → has_part (has_weaver w) token part ≡ true → IsSoundFile w row (name_of row.user id part)
  token_sound SpBlob has =
      let content = content_of (of_token.files SpBlob) in
      let spells = some_part (of_token.files SpBlob) (Spells (record { version = s.version; kind = StrongToken; content = content })) seals.blob in
      sound_at w row (token_of row id) bytes SpBlob has
      (blob_sound (beside w [] row) row id false (unwrap_or (of_token.files SpBlob) []) s.version content (ne_eqb id row.protector apart) spells (λ e. sym version))
  token_sound Secdis has =
      sound_at w row (token_of row id) bytes Secdis has
      (discardable_sound (beside w [] row) row id (unwrap_or (of_token.files Secdis) []) (discardable_long of_token.weaver (of_token.files Secdis) seals.discardable)
      (each_byte w row (token_of row id) bytes Secdis))
  token_sound Weaver has =
      slot_file_sound w row (token_of row id) bytes has IsTokenSlot (by_true of_token.weaver _ _ (token_weaver (has_weaver w) has) seals.slot)
  token_sound Pwd has = absurd (no_pwd (has_weaver w) has)
    where
      no_pwd : (b : Bool) → has_part b token Pwd ≡ true → ⊥
      no_pwd true e = absurd (cc)
      no_pwd false e = absurd (cc)
  token_sound Metrics has = absurd (no_metrics (has_weaver w) has)
    where
      no_metrics : (b : Bool) → has_part b token Metrics ≡ true → ⊥
      no_metrics true e = absurd (cc)
      no_metrics false e = absurd (cc)
  token_sound Handle has = absurd (no_user_part (has_weaver w) token Handle refl has)
  token_sound E0 has = absurd (no_user_part (has_weaver w) token E0 refl has)
  token_sound P1 has = absurd (no_user_part (has_weaver w) token P1 refl has)
  token_sound Resume has = absurd (no_user_part (has_weaver w) token Resume refl has)
