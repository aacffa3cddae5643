-- What is held fixes what it seals, and only what is equal opens it.
use Rattle.std.proofs.Common.{◌≡◌, ◌≢◌, ◌⊎◌, inl, inr, ℕ, Bool, true, false, List, get_or, Option, None, Some, sym, ap, ◌∙◌}
use Rattle.std.specs.Prelude.{IsSomeAnd, MatchOption, MatchBool, bytes_eq, IsSome}
use Rattle.std.proofs.lemmas.Bool.{cases_Bool}
use Rattle.std.proofs.lemmas.Slice.Eq.{bytes_eq-Decides}
use Rattle.ls_credential.specs.declared.kind.Kind.{Kind}
use Rattle.ls_credential.specs.declared.kind.Kind.TheVariants.{Empty}
use Rattle.ls_credential.specs.Rules.{KindAndText}
use Rattle.ls_blob.specs.declared.kind.BlobKind.{BlobKind}
use Rattle.ls_blob.specs.declared.kind.BlobKind.TheVariants.{Credential, StrongToken}
use Rattle.ls_blob.specs.Blobs.{Spells}
use Rattle.ls_weaver.specs.declared.slot.Slot.{Slot}
use Rattle.ls_secret.specs.Secrets.{SecretValue, synthetic_password}
use Rattle.ls_formats.specs.declared.part.FilePart.TheVariants.{SpBlob, Pwd}
use Rattle.ls_formats.specs.Contents.{pwd_of}
use Rattle.ls_sealing.specs.Chain.{stretched, weaver_key}
use Rattle.ls_sealing.specs.Protectors.{Held}
use Rattle.ls_sealing.specs.Seals.{content_of, blob_text, IsPwdFile, IsHandleOf, credential_secret, token_secret, Accepts, CompletesTo, Seals, SealsToken}
use Rattle.ls_sealing.specs.Apart.{Refuses, IsApart, IsTokenApart}

-- ---- the kind and the version

same_kind : (weaver : Bool) (file : Option (List ℕ)) (k l : Kind) → MatchOption file (k ≡ Empty) (IsPwdFile weaver k) → MatchOption file (l ≡ Empty) (IsPwdFile weaver l) → k ≡ l
same_kind weaver None k l one two = one ∙ sym two
same_kind weaver (Some file) k l one two = sym one.says ∙ two.says

same_version : (file : Option (List ℕ)) (kind other : BlobKind) (v w : ℕ) (content more : List ℕ) → IsSomeAnd file (Spells (record { version = v; kind = kind; content = content }))
    → IsSomeAnd file (Spells (record { version = w; kind = other; content = more })) → v ≡ w
same_version None kind other v w content more one two = absurd one
same_version (Some file) kind other v w content more one two = ap (λ (l : List ℕ). get_or l 0 0) (sym one.spelling ∙ two.spelling)

some_same : (a b : List ℕ) (o : Option (List ℕ)) → o ≡ Some a → o ≡ Some b → a ≡ b
some_same a b o one two = cc

secret_is : (s t : SecretValue) → s.version ≡ t.version → s.sp ≡ t.sp → s ≡ t
secret_is s t version sp = λ i. record { version = version i; sp = sp i }

pub one_kind : (id : ℕ) (h : Held) (c d : KindAndText) (s t : SecretValue) → Seals id h c s → Seals id h d t → c.kind ≡ d.kind
one_kind id h c d s t one two = same_kind h.weaver (h.files Pwd) c.kind d.kind one.kind two.kind

pub one_secret : (id : ℕ) (h : Held) (c d : KindAndText) (s t : SecretValue) → Seals id h c s → Seals id h d t → c.text ≡ d.text → s ≡ t
one_secret id h c d s t one two e =
    secret_is s t (same_version (h.files SpBlob) Credential Credential s.version t.version (content_of (h.files SpBlob)) (content_of (h.files SpBlob)) one.blob two.blob)
    (some_same s.sp t.sp (blob_text h (credential_secret h d.text)) (sym (ap (λ (x : List ℕ). blob_text h (credential_secret h x)) e) ∙ one.opened) two.opened)

pub one_half : (h : Held) (p1 : Option (List ℕ)) (bytes p0 q0 : List ℕ) (s t : SecretValue) → SealsToken h p1 bytes s p0 → SealsToken h p1 bytes t q0 → p0 ≡ q0
one_half h p1 bytes p0 q0 s t one two = some_same p0 q0 (blob_text h (token_secret h bytes)) one.opened two.opened

completed : (p1 : Option (List ℕ)) (s t : SecretValue) (p0 q0 : List ℕ) → p0 ≡ q0 → IsSomeAnd p1 (CompletesTo s p0) → IsSomeAnd p1 (CompletesTo t q0) → s.sp ≡ t.sp
completed None s t p0 q0 e one two = absurd one
completed (Some half) s t p0 q0 e one two = sym one.1 ∙ ap (λ (x : List ℕ). synthetic_password x half) e ∙ two.1

pub one_token_secret : (h : Held) (p1 : Option (List ℕ)) (bytes p0 q0 : List ℕ) (s t : SecretValue) → SealsToken h p1 bytes s p0 → SealsToken h p1 bytes t q0 → s ≡ t
one_token_secret h p1 bytes p0 q0 s t one two =
    secret_is s t (same_version (h.files SpBlob) StrongToken StrongToken s.version t.version (content_of (h.files SpBlob)) (content_of (h.files SpBlob)) one.blob two.blob)
    (completed p1 s t p0 q0 (one_half h p1 bytes p0 q0 s t one two) one.whole two.whole)

-- ---- matches

-- bytes are equal or not
pub equal_or : (a b : List ℕ) → (a ≡ b) ⊎ (a ≢ b)
equal_or a b = by (cases_Bool (bytes_eq a b))
  where
    by : (bytes_eq a b ≡ true) ⊎ (bytes_eq a b ≡ false) → (a ≡ b) ⊎ (a ≢ b)
    by (inl hit) = inl ((bytes_eq-Decides a b).0 hit)
    by (inr miss) = inr (λ e. let hit : bytes_eq a b ≡ true = (bytes_eq-Decides a b).1 e in let wrong : true ≡ false = sym hit ∙ miss in cc)

-- what is refused isn't accepted
refused_slot : (slot : Option Slot) (st : List ℕ) → IsSomeAnd slot (λ x. x.key ≡ weaver_key st) → IsSomeAnd slot (λ x. x.key ≢ weaver_key st) → ⊥
refused_slot None st accepts refuses = accepts
refused_slot (Some slot) st accepts refuses = refuses accepts

refused_handle : (handle : Option (List ℕ)) (device : List ℕ) (id : ℕ) (st : List ℕ) → IsSomeAnd handle (IsHandleOf device id st) → IsSomeAnd handle (λ x. ¬ IsHandleOf device id st x) → ⊥
refused_handle None device id st accepts refuses = accepts
refused_handle (Some handle) device id st accepts refuses = refuses accepts

refused_file : (counter : Type 0) (file : Option (List ℕ)) (device : List ℕ) (id : ℕ) (st : List ℕ)
    → MatchOption file (Unit {0}) (λ f. counter × IsSomeAnd (pwd_of f).handle (IsHandleOf device id st))
    → MatchOption file ⊥ (λ f. IsSomeAnd (pwd_of f).handle (λ x. ¬ IsHandleOf device id st x)) → ⊥
refused_file counter None device id st accepts refuses = refuses
refused_file counter (Some file) device id st accepts refuses = refused_handle (pwd_of file).handle device id st accepts.1 refuses

refused_by : (weaver : Bool) (A B C D : Type 0) → (A → C → ⊥) → (B → D → ⊥) → MatchBool weaver A B → MatchBool weaver C D → ⊥
refused_by true A B C D slot file accepts refuses = slot accepts refuses
refused_by false A B C D slot file accepts refuses = file accepts refuses

refused : (id : ℕ) (h : Held) (st : List ℕ) → Accepts id h st → Refuses id h st → ⊥
refused id h st accepts refuses =
    refused_by h.weaver _ _ _ _ (refused_slot h.slot st) (refused_file (IsSome h.counter) (h.files Pwd) h.device id st) accepts refuses

pub only_equal : (id : ℕ) (h : Held) (c d : KindAndText) (s t : SecretValue) → Seals id h c s → Seals id h d t → IsApart id h c d → d ≡ c
only_equal id h c d s t one two apart = by (equal_or d.text c.text)
  where
    kind : d.kind ≡ c.kind
    kind = one_kind id h d c t s two one

    by : (d.text ≡ c.text) ⊎ (d.text ≢ c.text) → d ≡ c
    by (inl same) = λ i. record { kind = kind i; text = same i }
    by (inr other) = absurd (refused id h (stretched (h.files Pwd) d.text) two.accepts (apart kind other))

pub only_equal_token : (h : Held) (p1 : Option (List ℕ)) (bytes other p0 q0 : List ℕ) (s t : SecretValue) → SealsToken h p1 bytes s p0 → SealsToken h p1 other t q0
    → IsTokenApart h bytes other → other ≡ bytes
only_equal_token h p1 bytes other p0 q0 s t one two apart = by (equal_or other bytes)
  where
    by : (other ≡ bytes) ⊎ (other ≢ bytes) → other ≡ bytes
    by (inl same) = same
    by (inr differs) = let closed = apart differs in let open_too = two.opened in absurd (let wrong : None ≡ Some q0 = sym closed ∙ open_too in cc)
