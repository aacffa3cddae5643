-- The actions that the code pushes are those that write the protector.
use Rattle.std.proofs.Common.{◌≡◌, ◌≤◌, ◌+◌, ℕ, Bool, true, false, List, [], ◌∷◌, ◌++◌, replicate, Option, None, Some, refl, sym, ap, subst, ◌∙◌, arith}
use Rattle.std.specs.Prelude.{Result, Ok, Err, IfOk, IsErrAnd, OnOk, is_some, not, ◌&&◌, if◌then◌else◌, map}
use Rattle.ls_credential.specs.declared.kind.Kind.{Kind}
use Rattle.ls_credential.specs.Rules.{KindAndText}
use Rattle.ls_credential.specs.Counts.{metrics_of}
use Rattle.ls_blob.specs.declared.kind.BlobKind.TheVariants.{Credential, StrongToken}
use Rattle.ls_blob.specs.Personal.{sealed_under}
use Rattle.ls_secret.specs.declared.personal.Personal.TheVariants.{PasswordMetrics}
use Rattle.ls_secret.specs.Derivation.{subkey_of}
use Rattle.ls_secret.specs.Subkeys.{subkey_bytes}
use Rattle.ls_secret.specs.Secrets.{SecretValue}
use Rattle.ls_formats.specs.declared.part.FilePart.{FilePart}
use Rattle.ls_formats.specs.declared.part.FilePart.TheVariants.{SpBlob, Pwd, Secdis, Weaver, Metrics}
use Rattle.ls_formats.specs.Contents.{pwd, pwd_bytes, metrics_bytes}
use Rattle.ls_naming.specs.Named.{only_if, has_credential}
use Rattle.ls_board.specs.declared.action.Action.{Action}
use Rattle.ls_board.specs.declared.action.Action.TheVariants.{KeyPut, GkEnroll}
use Rattle.ls_sealing.specs.Chain.{layered, weaver_key, discardable_share, discardable_personal, sealed_discardable}
use Rattle.ls_sealing.specs.Protectors.{credential, token, is_enrolled}
use Rattle.ls_sealing.specs.Draws.{piece, device_place, credential_draw, credential_draw_size, token_draw}
use Rattle.ls_sealing.specs.Building.{Writing, slot_writes, blob_bytes, slot_file, new_stretched, new_share, writing_actions, credential_writing, discardable_file, token_writing}
use Rattle.ls_sealing.specs.Pushing.{part_put, device_writes, share_put, slot_put}
use Rattle.ls_sealing.proofs.CredentialLemmas.{parts_by}

-- ---- sizes

size_by : (has weaver : Bool) → has ≡ true → 84 ≤ (if has then 84 else 56) + (if weaver then 16 else 16384 + (if has then 8 else 0))
size_by true true e = omega arith
size_by true false e = omega arith
size_by false weaver e = absurd (cc)

-- a draw for a credential holds the salt and the iv of the metrics
pub draw_long : (slot : Option ℕ) (kind : Kind) (n : ℕ) → n ≡ credential_draw_size (is_some slot) kind → has_credential kind ≡ true → 84 ≤ n
draw_long slot kind n e has = let le = size_by (has_credential kind) (is_some slot) has in omega (arith, e, le)

-- ---- the whole list

abbrev written_by : Bool → ℕ → ℕ → Option ℕ → Writing → List Action
written_by has user id slot m =
    KeyPut id m.key ∷ (only_if (not (is_some slot) && has) (GkEnroll id ∷ [])
    ++ (slot_writes slot m.slot_key m.value
    ++ map (λ part. part_put user id part (m.content part)) (parts_by (is_some slot) has)))

abbrev pushed_by : Bool → ℕ → ℕ → Option ℕ → Writing → List Action
pushed_by has user id slot m =
    [] ++ device_writes id (not (is_some slot) && has) slot m.key m.slot_key m.value
    ++ part_put user id SpBlob (m.content SpBlob) ∷ []
    ++ only_if has (part_put user id Pwd (m.content Pwd) ∷ [])
    ++ share_put user id slot (m.content Secdis) ∷ []
    ++ only_if has (part_put user id Metrics (m.content Metrics) ∷ [])

same_list : (has : Bool) (user id : ℕ) (slot : Option ℕ) (m : Writing) → m.content Weaver ≡ slot_file slot → pushed_by has user id slot m ≡ written_by has user id slot m
same_list true user id None m e = refl
same_list true user id (Some n) m e = λ i. KeyPut id m.key ∷ (slot_writes (Some n) m.slot_key m.value ++ (part_put user id SpBlob (m.content SpBlob) ∷ part_put user id Pwd (m.content Pwd) ∷ part_put user id Weaver (sym e i) ∷ part_put user id Metrics (m.content Metrics) ∷ []))
same_list false user id None m e = refl
same_list false user id (Some n) m e = λ i. KeyPut id m.key ∷ (slot_writes (Some n) m.slot_key m.value ++ (part_put user id SpBlob (m.content SpBlob) ∷ part_put user id Weaver (sym e i) ∷ []))

pub credential_pushed : (user id : ℕ) (slot : Option ℕ) (c : KindAndText) (s : SecretValue) (drawn : List ℕ) (handle : Option (List ℕ)) (p0 p1 p2 : List Action) (en : Bool) (key slot_key value protector stretched share : List ℕ)
    → let d = credential_draw c.kind drawn in
    p0 ≡ [] → p1 ≡ p0 ++ device_writes id en slot key slot_key value
    → p2 ≡ p1
    ++ part_put user id SpBlob (blob_bytes s.version Credential (layered (piece 0 32 drawn) protector (piece 32 12 drawn) (piece 44 12 drawn) s.sp)) ∷ []
    ++ only_if (has_credential c.kind) (part_put user id Pwd (pwd_bytes (pwd c.kind 11 3 1 (piece 56 16 drawn) handle)) ∷ [])
    ++ share_put user id slot (piece (device_place c.kind) 16384 drawn) ∷ []
    ++ only_if (has_credential c.kind) (part_put user id Metrics (sealed_under (subkey_bytes (subkey_of s PasswordMetrics)) [] (piece 72 12 drawn) (metrics_bytes (metrics_of c))) ∷ [])
    → en ≡ is_enrolled (is_some slot) (credential c.kind) → key ≡ d.key → slot_key ≡ weaver_key stretched → value ≡ d.value
    → protector ≡ stretched ++ share → stretched ≡ new_stretched c d → share ≡ new_share slot d
    → p2 ≡ writing_actions (record { user = user; id = id; purpose = credential c.kind }) slot (credential_writing slot c s d handle)
credential_pushed user id slot c s drawn handle p0 p1 p2 en key slot_key value protector stretched share e0 e1 e2 ee ek es ev ep est esh =
    let d = credential_draw c.kind drawn in
    let protector_is : protector ≡ new_stretched c d ++ new_share slot d = ep ∙ (λ i. est i ++ esh i) in
    let slot_key_is : slot_key ≡ weaver_key (new_stretched c d) = es ∙ ap weaver_key est in
    e2 ∙ (λ i. (e1 ∙ (λ j. e0 j ++ device_writes id (ee j) slot (ek j) (slot_key_is j) (ev j))) i
    ++ part_put user id SpBlob (blob_bytes s.version Credential (layered (piece 0 32 drawn) (protector_is i) (piece 32 12 drawn) (piece 44 12 drawn) s.sp)) ∷ []
    ++ only_if (has_credential c.kind) (part_put user id Pwd (pwd_bytes (pwd c.kind 11 3 1 (piece 56 16 drawn) handle)) ∷ [])
    ++ share_put user id slot (piece (device_place c.kind) 16384 drawn) ∷ []
    ++ only_if (has_credential c.kind) (part_put user id Metrics (sealed_under (subkey_bytes (subkey_of s PasswordMetrics)) [] (piece 72 12 drawn) (metrics_bytes (metrics_of c))) ∷ []))
    ∙ same_list (has_credential c.kind) user id slot (credential_writing slot c s d handle) refl

-- ---- a token

token_list : (user id : ℕ) (slot : Option ℕ) (m : Writing) → m.content Weaver ≡ slot_file slot
    → [] ++ device_writes id false slot m.key m.slot_key m.value
    ++ part_put user id SpBlob (m.content SpBlob) ∷ [] ++ part_put user id Secdis (m.content Secdis) ∷ [] ++ slot_put user id slot
    ≡ writing_actions (record { user = user; id = id; purpose = token }) slot m
token_list user id None m e = refl
token_list user id (Some n) m e = λ i. KeyPut id m.key ∷ (slot_writes (Some n) m.slot_key m.value ++ (part_put user id SpBlob (m.content SpBlob) ∷ part_put user id Secdis (m.content Secdis) ∷ part_put user id Weaver (sym e i) ∷ []))

-- without a slot no value is written
same_writes : (slot : Option ℕ) (key value other : List ℕ) → ((n : ℕ) → slot ≡ Some n → value ≡ other) → slot_writes slot key value ≡ slot_writes slot key other
same_writes None key value other same = refl
same_writes (Some n) key value other same = ap (slot_writes (Some n) key) (same n refl)

pub token_pushed : (user id : ℕ) (slot : Option ℕ) (bytes : List ℕ) (version : ℕ) (p0 drawn : List ℕ) (a0 a1 a2 a3 a4 : List Action) (key value protector : List ℕ)
    → let d = token_draw drawn in
    a0 ≡ [] → a1 ≡ a0 ++ device_writes id false slot key (replicate 16 0) value
    → a2 ≡ a1 ++ part_put user id SpBlob (blob_bytes version StrongToken (layered (piece 0 32 drawn) protector (piece 32 12 drawn) (piece 44 12 drawn) p0)) ∷ []
    → a3 ≡ a2 ++ part_put user id Secdis (discardable_file slot d) ∷ []
    → a4 ≡ a3 ++ slot_put user id slot
    → key ≡ d.key → ((n : ℕ) → slot ≡ Some n → value ≡ d.value) → protector ≡ bytes ++ discardable_share d.discardable
    → a4 ≡ writing_actions (record { user = user; id = id; purpose = token }) slot (token_writing slot bytes version p0 d)
token_pushed user id slot bytes version p0 drawn a0 a1 a2 a3 a4 key value protector e0 e1 e2 e3 e4 ek ev ep =
    let d = token_draw drawn in
    let writes = same_writes slot (replicate 16 0) value d.value ev in
    let devices = e1 ∙ (λ j. e0 j ++ KeyPut id (ek j) ∷ writes j) in
    let blob = e2 ∙ (λ i. devices i ++ part_put user id SpBlob (blob_bytes version StrongToken (layered (piece 0 32 drawn) (ep i) (piece 32 12 drawn) (piece 44 12 drawn) p0)) ∷ []) in
    let file = e3 ∙ ap (λ (l : List Action). l ++ part_put user id Secdis (discardable_file slot d) ∷ []) blob in
    e4 ∙ ap (λ (l : List Action). l ++ slot_put user id slot) file
    ∙ token_list user id slot (token_writing slot bytes version p0 d) refl

-- ---- steps of the code

pub sealed_by : {E : Type 0} (r : Result (List ℕ) E) (v value i iv b bytes : List ℕ) → v ≡ value → i ≡ iv → b ≡ bytes
    → IfOk r (λ f. f ≡ sealed_under v discardable_personal i b) → IfOk r (λ f. f ≡ sealed_discardable value iv bytes)
sealed_by r v value i iv b bytes ev ei eb h = subst (λ (x : List ℕ). IfOk r (λ f. f ≡ x)) (λ j. sealed_under (ev j) discardable_personal (ei j) (eb j)) h

pub put_by : {T E : Type 0} (r : Result T E) (new old : List Action) (user id : ℕ) (part : FilePart) (bytes file : List ℕ) → bytes ≡ file
    → OnOk r (new ≡ old ++ part_put user id part bytes ∷ []) → OnOk r (new ≡ old ++ part_put user id part file ∷ [])
put_by r new old user id part bytes file e h = subst (λ (x : List ℕ). OnOk r (new ≡ old ++ part_put user id part x ∷ [])) e h

pub err_only : {T E : Type 0} (r : Result T E) (P : T → Type 0) (Q : E → Type 0) → IsErrAnd r Q → IfOk r P
err_only (Ok x) P Q h = absurd h
err_only (Err e) P Q h = tt
