-- Bytes without a fault are a blob, and a blob's bytes have no fault.
use Rattle.std.proofs.Common.{◌≡◌, ◌+◌, ◌||◌, ◌==◌, ◌⊎◌, ℕ, Bool, true, false, cond, List, [], ◌∷◌, length, Option, Some, None, inl, inr, refl, ap, ◌∙◌, arith}
use Rattle.std.specs.Prelude.{nat_lt}
use Rattle.std.proofs.lemmas.Bool.Decides.{nat_tests}
use Rattle.ls_blob.specs.declared.fault.BlobFault.{BlobFault}
use Rattle.ls_blob.specs.declared.fault.BlobFault.TheVariants.{Short, Version, Kind, Extra}
use Rattle.ls_blob.specs.declared.kind.BlobKind.{BlobKind}
use Rattle.ls_blob.specs.declared.kind.BlobKind.TheVariants.{Credential, StrongToken}
use Rattle.ls_blob.specs.Kinds.{kind_byte, content_size}
use Rattle.ls_blob.specs.Blobs.{Blob, Spells}
use Rattle.ls_blob.specs.Parsing.{size_fault, kind_fault, first_fault}

-- a test that gives no fault either way
no_fault : (t : Bool) (x y : Option BlobFault) → cond t x y ≡ None → ((t ≡ true) × (x ≡ None)) ⊎ ((t ≡ false) × (y ≡ None))
no_fault true x y h = inl (refl, h)
no_fault false x y h = inr (refl, h)

is_size : (n size : ℕ) → size_fault n size ≡ None → n ≡ size
is_size n size h = elim (no_fault (nat_lt n size) (Some (Short n)) (cond (nat_lt size n) (Some (Extra size)) None) h) [
  | inl short ↦ let e = short.1 in cc
  | inr long ↦ elim (no_fault (nat_lt size n) (Some (Extra size)) None long.1) [
    | inl extra ↦ let e = extra.1 in cc
    | inr none ↦
        let a : nat_lt n size ≡ false = long.0 in
        let b : nat_lt size n ≡ false = none.0 in
        grind (arith, nat_tests)
  ]
]

is_kind : (k n : ℕ) → kind_fault k n ≡ None → ((k ≡ 0) × (n ≡ 186)) ⊎ ((k ≡ 1) × (n ≡ 90))
is_kind k n h = elim (no_fault (k == 0) (size_fault n 186) (cond (k == 1) (size_fault n 90) (Some (Kind k))) h) [
  | inl credential ↦
      let t : (k == 0) ≡ true = credential.0 in
      inl (grind (arith, nat_tests), is_size n 186 credential.1)
  | inr other ↦ elim (no_fault (k == 1) (size_fault n 90) (Some (Kind k)) other.1) [
    | inl token ↦
        let t : (k == 1) ≡ true = token.0 in
        inr (grind (arith, nat_tests), is_size n 90 token.1)
    | inr unknown ↦ let e = unknown.1 in cc
  ]
]

is_version : (v : ℕ) → ((v == 2) || (v == 3)) ≡ true → (v ≡ 2) ⊎ (v ≡ 3)
is_version v t = grind (arith, nat_tests)

pub spelled_without_fault : (bytes : List ℕ) → first_fault bytes ≡ None → (blob : Blob) × Spells blob bytes
spelled_without_fault [] h = cc
spelled_without_fault (v ∷ []) h = cc
spelled_without_fault (v ∷ k ∷ content) h =
    elim (no_fault ((v == 2) || (v == 3)) (kind_fault k (2 + length content)) (Some (Version v)) h) [
      | inl known ↦ elim (is_kind k (2 + length content) known.1) [
        | inl credential ↦ (
          record { version = v; kind = Credential; content = content },
          record { version = is_version v known.0; size = omega arith; spelling = ap (λ (b : ℕ). v ∷ b ∷ content) credential.0 },
        )
        | inr token ↦ (
          record { version = v; kind = StrongToken; content = content },
          record { version = is_version v known.0; size = omega arith; spelling = ap (λ (b : ℕ). v ∷ b ∷ content) token.0 },
        )
      ]
      | inr unknown ↦ let e = unknown.1 in cc
    ]

of_version : (v b : ℕ) (content : List ℕ) → (v ≡ 2) ⊎ (v ≡ 3)
    → first_fault (v ∷ b ∷ content) ≡ kind_fault b (2 + length content)
of_version v b content (inl e) = ap (λ x. first_fault (x ∷ b ∷ content)) e
of_version v b content (inr e) = ap (λ x. first_fault (x ∷ b ∷ content)) e

of_size : (k : BlobKind) (n : ℕ) → n ≡ content_size k → kind_fault (kind_byte k) (2 + n) ≡ None
of_size Credential n e = ap (λ n. kind_fault 0 (2 + n)) e
of_size StrongToken n e = ap (λ n. kind_fault 1 (2 + n)) e

pub spelled_has_no_fault : (blob : Blob) (bytes : List ℕ) → Spells blob bytes → first_fault bytes ≡ None
spelled_has_no_fault blob bytes spells =
    ap first_fault spells.spelling
    ∙ of_version blob.version (kind_byte blob.kind) blob.content spells.version
    ∙ of_size blob.kind (length blob.content) spells.size
