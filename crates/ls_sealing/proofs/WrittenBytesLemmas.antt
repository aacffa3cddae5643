-- What is written for a protector are bytes.
use Rattle.std.proofs.Common.{◌≡◌, ◌≢◌, ◌≤◌, ◌<◌, ℕ, ◌||◌, ◌&&◌, Bool, true, false, List, [], ◌∷◌, ◌++◌, length, drop, Option, None, Some, refl, subst, arith}
use Rattle.std.specs.Prelude.{nat_le, is_some, ◌==◌}
use Rattle.std.specs.List.{list_all}
use Rattle.std.proofs.lemmas.Bool.{and_parts, leb-true, eqb-true}
use Rattle.ls_credential.specs.declared.kind.Kind.{Kind}
use Rattle.ls_credential.specs.declared.kind.Kind.TheVariants.{Empty, Pattern, Pin, Password}
use Rattle.ls_credential.specs.Codes.{code_of}
use Rattle.ls_credential.specs.Counts.{KindAndCounts, metrics_of, IsSmall}
use Rattle.ls_credential.specs.Rules.{KindAndText}
use Rattle.ls_blob.specs.declared.kind.BlobKind.{BlobKind}
use Rattle.ls_blob.specs.declared.kind.BlobKind.TheVariants.{Credential, StrongToken}
use Rattle.ls_blob.specs.Kinds.{kind_byte}
use Rattle.ls_blob.specs.Personal.{sealed_under}
use Rattle.ls_blob.proofs.PersonalLemmas.{sealed_under_bytes}
use Rattle.ls_secret.specs.declared.personal.Personal.TheVariants.{PasswordMetrics}
use Rattle.ls_secret.specs.Derivation.{subkey_of}
use Rattle.ls_secret.specs.Subkeys.{subkey_bytes}
use Rattle.ls_secret.specs.Secrets.{SecretValue, IsSecret, is_upper_digit, is_version}
use Rattle.ls_formats.specs.declared.part.FilePart.{FilePart}
use Rattle.ls_formats.specs.declared.part.FilePart.TheVariants.{SpBlob, Pwd, Secdis, Weaver, Metrics as MetricsPart, Handle, E0, P1, Resume}
use Rattle.ls_formats.specs.Contents.{handle_part, metrics_bytes}
use Rattle.ls_formats.proofs.ContentLemmas.{big_are_bytes}
use Rattle.ls_bytes.specs.Fields.{be32}
use Rattle.ls_bytes.specs.ByteLists.{AllAreBytes}
use Rattle.ls_bytes.proofs.ByteListLemmas.{bytes_nil, bytes_cons, bytes_append, bytes_take, bytes_drop}
use Rattle.ls_gcm.proofs.SealedBytesLemmas.{seal_small}
use Rattle.ls_naming.specs.Named.{has_credential}
use Rattle.ls_board.specs.Gatekeeper.{signed}
use Rattle.ls_sealing.specs.Chain.{gatekeeper_password, discardable_share, discardable_personal, layer_personal, layered}
use Rattle.ls_sealing.specs.Protectors.{has_part, credential, where_it_has}
use Rattle.ls_sealing.specs.Draws.{CredentialDraw, credential_draw, TokenDraw, token_draw, device_place, piece}
use Rattle.ls_sealing.specs.Building.{for_credential, for_token, purpose_of, held_of, writing_of, blob_bytes, slot_file, new_stretched, new_share, new_handle, discardable_file}
use Rattle.ls_sealing.proofs.ByteLemmas.{signed_are}
use Rattle.ls_sealing.specs.HeldBytes.{HoldsBytes, AllHoldBytes}

-- ---- parts of what is written

piece_small : (at len : ℕ) (drawn : List ℕ) → AllAreBytes drawn → AllAreBytes (piece at len drawn)
piece_small at len drawn small = bytes_take len (drop at drawn) (bytes_drop at drawn small)

layered_small : (key secret inner_iv outer_iv text : List ℕ) → AllAreBytes key → AllAreBytes inner_iv → AllAreBytes outer_iv → AllAreBytes text → AllAreBytes (layered key secret inner_iv outer_iv text)
layered_small key secret inner_iv outer_iv text small inner outer plain =
    seal_small key outer_iv (sealed_under secret layer_personal inner_iv text) small outer (sealed_under_bytes secret layer_personal inner_iv text inner plain)

kind_small : (kind : BlobKind) → kind_byte kind < 256
kind_small Credential = omega arith
kind_small StrongToken = omega arith

blob_small : (version : ℕ) (kind : BlobKind) (content : List ℕ) → version < 256 → AllAreBytes content → AllAreBytes (blob_bytes version kind content)
blob_small version kind content lt small = bytes_cons version (kind_byte kind ∷ content) lt (bytes_cons (kind_byte kind) content (kind_small kind) small)

slot_small : (slot : Option ℕ) → AllAreBytes (slot_file slot)
slot_small None = bytes_cons 1 (be32 0) (omega arith) (big_are_bytes 4 0).each
slot_small (Some n) = bytes_cons 1 (be32 n) (omega arith) (big_are_bytes 4 n).each

code_small : (kind : Kind) → code_of kind < 256
code_small Empty = omega arith
code_small Pattern = omega arith
code_small Pin = omega arith
code_small Password = omega arith

-- ---- a secret's text

digit_small : (b : ℕ) → is_upper_digit b ≡ true → b < 256
digit_small b e = by (nat_le 0x30 b && nat_le b 0x39) refl e
  where
    by : (t : Bool) → (nat_le 0x30 b && nat_le b 0x39) ≡ t → (t || (nat_le 0x41 b && nat_le b 0x46)) ≡ true → b < 256
    by true is e = let le : b ≤ 0x39 = leb-true b 0x39 (and_parts (nat_le 0x30 b) (nat_le b 0x39) is).1 in omega (arith, le)
    by false is e = let le : b ≤ 0x46 = leb-true b 0x46 (and_parts (nat_le 0x41 b) (nat_le b 0x46) e).1 in omega (arith, le)

pub digits_small : (text : List ℕ) → list_all is_upper_digit text ≡ true → AllAreBytes text
digits_small [] e = bytes_nil
digits_small (b ∷ text) e = let parts = and_parts (is_upper_digit b) (list_all is_upper_digit text) e in bytes_cons b text (digit_small b parts.0) (digits_small text parts.1)

version_small : (version : ℕ) → is_version version ≡ true → version < 256
version_small version e = by (version == 2) refl e
  where
    by : (t : Bool) → (version == 2) ≡ t → (t || (version == 3)) ≡ true → version < 256
    by true is e = let two : version ≡ 2 = eqb-true version 2 is in omega (arith, two)
    by false is e = let three : version ≡ 3 = eqb-true version 3 e in omega (arith, three)

-- ---- the files

held_bytes : (b : Bool) (file : List ℕ) → (b ≡ true → AllAreBytes file) → HoldsBytes (where_it_has b (Some file))
held_bytes true file small = small refl
held_bytes false file small = tt

handle_small : (id : ℕ) (slot : Option ℕ) (c : KindAndText) (d : CredentialDraw) (gk_key : List ℕ) → AllAreBytes (handle_part (new_handle id slot c d gk_key))
handle_small id None c d gk_key = by (has_credential c.kind)
  where
    by : (b : Bool) → AllAreBytes (handle_part (where_it_has b (Some (signed gk_key id d.handle_salt (gatekeeper_password (new_stretched c d))))))
    by true = bytes_cons 49 (signed gk_key id d.handle_salt (gatekeeper_password (new_stretched c d))) (omega arith) (signed_are gk_key id d.handle_salt (gatekeeper_password (new_stretched c d))).each
    by false = bytes_cons 0 [] (omega arith) bytes_nil
handle_small id (Some n) c d gk_key = bytes_cons 0 [] (omega arith) bytes_nil

counts_small : (m : KindAndCounts) → IsSmall m → AllAreBytes (metrics_bytes m)
counts_small m small =
    bytes_cons (code_of m.kind) (m.length ∷ m.letters ∷ m.upper ∷ m.lower ∷ m.numeric ∷ m.symbols ∷ m.non_letter ∷ m.non_numeric ∷ m.run ∷ []) (code_small m.kind)
    (bytes_cons m.length (m.letters ∷ m.upper ∷ m.lower ∷ m.numeric ∷ m.symbols ∷ m.non_letter ∷ m.non_numeric ∷ m.run ∷ []) (omega (arith, small.length))
    (bytes_cons m.letters (m.upper ∷ m.lower ∷ m.numeric ∷ m.symbols ∷ m.non_letter ∷ m.non_numeric ∷ m.run ∷ []) (omega (arith, small.letters))
    (bytes_cons m.upper (m.lower ∷ m.numeric ∷ m.symbols ∷ m.non_letter ∷ m.non_numeric ∷ m.run ∷ []) (omega (arith, small.upper))
    (bytes_cons m.lower (m.numeric ∷ m.symbols ∷ m.non_letter ∷ m.non_numeric ∷ m.run ∷ []) (omega (arith, small.lower))
    (bytes_cons m.numeric (m.symbols ∷ m.non_letter ∷ m.non_numeric ∷ m.run ∷ []) (omega (arith, small.numeric))
    (bytes_cons m.symbols (m.non_letter ∷ m.non_numeric ∷ m.run ∷ []) (omega (arith, small.symbols))
    (bytes_cons m.non_letter (m.non_numeric ∷ m.run ∷ []) (omega (arith, small.non_letter))
    (bytes_cons m.non_numeric (m.run ∷ []) (omega (arith, small.non_numeric))
    (bytes_cons m.run [] (omega (arith, small.run)) bytes_nil)))))))))

-- only a credential has metrics
no_metrics : (b : Bool) → has_part b (credential Empty) MetricsPart ≡ true → ⊥
no_metrics true e = absurd (cc)
no_metrics false e = absurd (cc)

module _ (id : ℕ) (slot : Option ℕ) (c : KindAndText) (s : SecretValue) (drawn gk_key : List ℕ) (secret : IsSecret s) (counts : c.kind ≢ Empty → IsSmall (metrics_of c)) (small : AllAreBytes drawn) where
  abbrev d : CredentialDraw
  d = credential_draw c.kind drawn

  abbrev content : FilePart → List ℕ
  content part = (writing_of id slot (for_credential c s) drawn gk_key).content part

  abbrev has_it : FilePart → Bool
  has_it part = has_part (is_some slot) (credential c.kind) part

  pub credential_bytes : AllHoldBytes (held_of (purpose_of (for_credential c s)) slot (writing_of id slot (for_credential c s) drawn gk_key) gk_key)
  credential_bytes SpBlob = held_bytes (has_it SpBlob) (content SpBlob) (λ has.
      blob_small s.version Credential (layered d.key (new_stretched c d ++ new_share slot d) d.inner_iv d.outer_iv s.sp) (version_small s.version secret.version)
      (layered_small d.key (new_stretched c d ++ new_share slot d) d.inner_iv d.outer_iv s.sp (piece_small 0 32 drawn small) (piece_small 32 12 drawn small) (piece_small 44 12 drawn small)
      (digits_small s.sp (and_parts (length s.sp == 128) (list_all is_upper_digit s.sp) secret.sp).1)))
  credential_bytes Pwd = held_bytes (has_it Pwd) (content Pwd) (λ has.
      let rest : List ℕ = d.salt ++ handle_part (new_handle id slot c d gk_key) in
      bytes_cons (code_of c.kind) (11 ∷ 3 ∷ 1 ∷ rest) (code_small c.kind) (bytes_cons 11 (3 ∷ 1 ∷ rest) (omega arith) (bytes_cons 3 (1 ∷ rest) (omega arith) (bytes_cons 1 rest (omega arith)
      (bytes_append d.salt (handle_part (new_handle id slot c d gk_key)) (piece_small 56 16 drawn small) (handle_small id slot c d gk_key))))))
  credential_bytes Secdis = held_bytes (has_it Secdis) (content Secdis) (λ has. piece_small (device_place c.kind) 16384 drawn small)
  credential_bytes Weaver = held_bytes (has_it Weaver) (content Weaver) (λ has. slot_small slot)
  credential_bytes MetricsPart = held_bytes (has_it MetricsPart) (content MetricsPart) (λ has.
      sealed_under_bytes (subkey_bytes (subkey_of s PasswordMetrics)) [] d.metrics_iv (metrics_bytes (metrics_of c)) (piece_small 72 12 drawn small)
      (counts_small (metrics_of c) (counts (λ empty. no_metrics (is_some slot) (subst (λ (k : Kind). has_part (is_some slot) (credential k) MetricsPart ≡ true) empty has)))))
  credential_bytes Handle = held_bytes (has_it Handle) [] (λ has. bytes_nil)
  credential_bytes E0 = held_bytes (has_it E0) [] (λ has. bytes_nil)
  credential_bytes P1 = held_bytes (has_it P1) [] (λ has. bytes_nil)
  credential_bytes Resume = held_bytes (has_it Resume) [] (λ has. bytes_nil)

discardable_small : (slot : Option ℕ) (drawn : List ℕ) → AllAreBytes drawn → AllAreBytes (discardable_file slot (token_draw drawn))
unfolding discardable_file
discardable_small None drawn small = piece_small 56 16384 drawn small
discardable_small (Some n) drawn small = sealed_under_bytes (token_draw drawn).value discardable_personal (token_draw drawn).discardable_iv (token_draw drawn).discardable (piece_small 16456 12 drawn small) (piece_small 56 16384 drawn small)

module _ (id : ℕ) (slot : Option ℕ) (bytes : List ℕ) (version : ℕ) (p0 drawn gk_key : List ℕ) (is : is_version version ≡ true) (half : AllAreBytes p0) (small : AllAreBytes drawn) where
  abbrev t : TokenDraw
  t = token_draw drawn

  abbrev written : FilePart → List ℕ
  written part = (writing_of id slot (for_token bytes version p0) drawn gk_key).content part

  abbrev its : FilePart → Bool
  its part = has_part (is_some slot) (purpose_of (for_token bytes version p0)) part

  pub token_bytes : AllHoldBytes (held_of (purpose_of (for_token bytes version p0)) slot (writing_of id slot (for_token bytes version p0) drawn gk_key) gk_key)
  token_bytes SpBlob = held_bytes (its SpBlob) (written SpBlob) (λ has.
      blob_small version StrongToken (layered t.key (bytes ++ discardable_share t.discardable) t.inner_iv t.outer_iv p0) (version_small version is)
      (layered_small t.key (bytes ++ discardable_share t.discardable) t.inner_iv t.outer_iv p0 (piece_small 0 32 drawn small) (piece_small 32 12 drawn small) (piece_small 44 12 drawn small) half))
  token_bytes Pwd = held_bytes (its Pwd) [] (λ has. bytes_nil)
  token_bytes Secdis = held_bytes (its Secdis) (discardable_file slot t) (λ has. discardable_small slot drawn small)
  token_bytes Weaver = held_bytes (its Weaver) (written Weaver) (λ has. slot_small slot)
  token_bytes MetricsPart = held_bytes (its MetricsPart) [] (λ has. bytes_nil)
  token_bytes Handle = held_bytes (its Handle) [] (λ has. bytes_nil)
  token_bytes E0 = held_bytes (its E0) [] (λ has. bytes_nil)
  token_bytes P1 = held_bytes (its P1) [] (λ has. bytes_nil)
  token_bytes Resume = held_bytes (its Resume) [] (λ has. bytes_nil)
