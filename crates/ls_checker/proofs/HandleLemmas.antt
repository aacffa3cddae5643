-- A handle, compared with the one that is signed for the salt in it.
use Rattle.std.proofs.Common.{◌≡◌, ◌≢◌, ◌++◌, List, ℕ, Bool, Option, Some, length, sym, ap, subst, ◌∙◌, arith}
use Rattle.std.specs.Prelude.{◌↔◌, false, IsTrue, IsSomeAnd}
use Rattle.sha2.proofs.Facts256.{length-sha256}
use Rattle.ls_bytes.specs.Fields.{be64}
use Rattle.ls_hash.specs.Hmac.{hmac_sha256}
use Rattle.ls_board.specs.Gatekeeper.{signed, salt_of}

false-not-true : IsTrue false → ⊥
false-not-true h = cc

tag_long : (key text : List ℕ) → length (hmac_sha256 key text) ≡ 32
unfolding hmac_sha256
tag_long key text = length-sha256 _

signed_long : (device : List ℕ) (id salt : ℕ) (password : List ℕ) → length (signed device id salt password) ≡ 49
signed_long device id salt password =
    let tag : length (hmac_sha256 device (be64 id ++ be64 salt ++ password)) ≡ 32 = tag_long device (be64 id ++ be64 salt ++ password) in
    omega (arith, tag)

-- what hasn't 49 bytes is no handle
pub no_handle : (handle device : List ℕ) (id : ℕ) (password : List ℕ) → length handle ≢ 49
    → IsTrue false ↔ (handle ≡ signed device id (salt_of handle) password)
no_handle handle device id password other = (
  λ h. absurd (false-not-true h),
  λ is. absurd (other (ap length is ∙ signed_long device id (salt_of handle) password)),
)

pub is_handle : (handle device : List ℕ) (id : ℕ) (password : List ℕ) (salt : ℕ) (made : List ℕ) (b : Bool)
    → salt ≡ salt_of handle → made ≡ signed device id salt password → IsTrue b ↔ (handle ≡ made)
    → IsTrue b ↔ (handle ≡ signed device id (salt_of handle) password)
is_handle handle device id password salt made b at sealed decided =
    let whole : made ≡ signed device id (salt_of handle) password = sealed ∙ ap (λ (n : ℕ). signed device id n password) at in (
      λ h. decided.0 h ∙ whole,
      λ is. decided.1 (is ∙ sym whole),
    )

-- a handle that may not be there, by a password that is the same
pub held_handle : (o : Option (List ℕ)) (handle device : List ℕ) (id : ℕ) (password same : List ℕ) (b : Bool)
    → o ≡ Some handle → password ≡ same
    → IsTrue b ↔ (handle ≡ signed device id (salt_of handle) password)
    → IsTrue b ↔ IsSomeAnd o (λ handle. handle ≡ signed device id (salt_of handle) same)
held_handle o handle device id password same b there is decided =
    let decides : Option (List ℕ) → List ℕ → Type 0 = λ x p. IsTrue b ↔ IsSomeAnd x (λ h. h ≡ signed device id (salt_of h) p) in
    subst (λ (x : Option (List ℕ)). decides x same) (sym there) (subst (decides (Some handle)) is decided)
