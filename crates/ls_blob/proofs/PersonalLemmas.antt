-- What is sealed under a key and a personalisation opens under them, and is made of bytes.
use Rattle.std.proofs.Common.{◌≡◌, ◌+◌, ◌++◌, ℕ, zero, suc, List, length, get_or, Some, refl, arith}
use Rattle.std.proofs.lemmas.List.{length-take-le}
use Rattle.std.specs.Int.{w64, to_be_bytes}
use Rattle.sha2.specs.Sha512.{sha512, digest_bytes}
use Rattle.sha2.proofs.Facts512.{length-sha512}
use Rattle.ls_bytes.specs.ByteLists.{AllAreBytes}
use Rattle.ls_bytes.proofs.ByteListLemmas.{bytes_nil, bytes_append, bytes_take, bytes_big}
use Rattle.ls_hash.specs.Padding.{padded}
use Rattle.ls_hash.specs.Personal.{personalised_hash}
use Rattle.ls_gcm.proofs.SealedBytesLemmas.{seal_small}
use Rattle.ls_gcm.proofs.SealingLemmas.{gcm_open-gcm_seal, parts}
use Rattle.ls_blob.specs.Personal.{personal_key, sealed_under, opened_under}

length-personal_key : (key personal : List ℕ) → length (personal_key key personal) ≡ 32
unfolding personalised_hash
length-personal_key key personal =
    length-take-le 32 (personalised_hash personal key) (omega (arith, length-sha512 (padded 128 personal ++ key)))

-- whatever the key and the personalisation are
pub opened_under-sealed_under : (key personal iv plain : List ℕ) → length iv ≡ 12
    → opened_under key personal (sealed_under key personal iv plain) ≡ Some plain
opened_under-sealed_under key personal iv plain long =
    gcm_open-gcm_seal (personal_key key personal) iv plain (sealed_under key personal iv plain)
    (length-personal_key key personal) long refl

pub length-sealed_under : (key personal iv plain : List ℕ) → length iv ≡ 12
    → length (sealed_under key personal iv plain) ≡ length plain + 28
length-sealed_under key personal iv plain long =
    let p = parts (personal_key key personal) iv plain (sealed_under key personal iv plain)
    (length-personal_key key personal) long refl in
    omega (arith, p.0)

digest_small : (h : List ℕ) (n : ℕ) → AllAreBytes (digest_bytes h n)
unfolding digest_bytes
digest_small h zero = bytes_nil
digest_small h (suc n) =
    bytes_append (digest_bytes h n) (to_be_bytes w64 (get_or h n 0)) (digest_small h n)
    (bytes_big 8 (get_or h n 0))

hash_small : (personal message : List ℕ) → AllAreBytes (personalised_hash personal message)
unfolding personalised_hash sha512
hash_small personal message = digest_small _ 8

-- the key that seals is made of bytes, whatever it is made from
pub sealed_under_bytes : (key personal iv plain : List ℕ) → AllAreBytes iv → AllAreBytes plain
    → AllAreBytes (sealed_under key personal iv plain)
sealed_under_bytes key personal iv plain =
    seal_small (personal_key key personal) iv plain
    (bytes_take 32 (personalised_hash personal key) (hash_small personal key))
