-- Pieces of drawn bytes, and handles, as so many bytes.
use Rattle.std.proofs.Common.{◌≡◌, ◌≤◌, ◌<◌, ◌^◌, ◌+◌, ◌*◌, ℕ, zero, suc, List, [], ◌∷◌, ◌++◌, length, drop, get_or, refl, sym, ap, subst, ◌∙◌, arith, length-append, length-drop}
use Rattle.std.specs.Int.{to_be_bytes, w32}
use Rattle.std.proofs.lemmas.List.{take_all, length-take-le, get_or-drop, append_assoc, drop_at}
use Rattle.sha2.specs.Sha256.{sha256, digest_bytes}
use Rattle.byteorder.specs.Endian.{big_number}
use Rattle.byteorder.specs.Numbers.{big_from-lt}
use Rattle.ls_bytes.specs.Fields.{be64}
use Rattle.ls_bytes.proofs.ByteListLemmas.{bytes_take}
use Rattle.ls_bytes.proofs.FieldLemmas.{big_number-be64}
use Rattle.ls_hash.specs.Hmac.{hmac_sha256}
use Rattle.ls_formats.specs.Contents.{AreBytes}
use Rattle.ls_formats.proofs.ContentLemmas.{big_are_bytes}
use Rattle.ls_board.specs.Gatekeeper.{signed, sid_of, salt_of}
use Rattle.ls_sealing.specs.Draws.{piece}

-- ---- pieces

-- a piece that lies in the drawn bytes
pub piece_are : (n at len : ℕ) (drawn : List ℕ) → AreBytes n drawn → at + len ≤ n → AreBytes len (piece at len drawn)
piece_are n at len drawn are le = record {
  long = length-take-le len (drop at drawn) (omega (arith, length-drop at drawn, are.long));
  each = bytes_take len (drop at drawn) (λ i. subst (λ (k : ℕ). k < 256) (sym (get_or-drop at drawn i 0)) (are.each (at + i)));
}

pub whole_piece : (n : ℕ) (xs : List ℕ) → length xs ≡ n → piece 0 n xs ≡ xs
whole_piece n xs long = take_all n xs (omega arith)

-- a number that is read of some bytes
pub number_small : (bytes : List ℕ) → ((i : ℕ) → get_or bytes i 0 < 256) → big_number 8 bytes < 2 ^ 64
number_small bytes small = big_from-lt 0 8 bytes small

-- ---- joined bytes

pub joined_are : (m n : ℕ) (xs ys : List ℕ) → AreBytes m xs → AreBytes n ys → AreBytes (m + n) (xs ++ ys)
joined_are m n xs ys front back = record {
  long = omega (arith, length-append xs ys, front.long, back.long);
  each = small xs front.each;
}
  where
    small : (zs : List ℕ) → ((i : ℕ) → get_or zs i 0 < 256) → (i : ℕ) → get_or (zs ++ ys) i 0 < 256
    small [] each i = back.each i
    small (z ∷ zs) each zero = each 0
    small (z ∷ zs) each (suc i) = small zs (λ k. each (suc k)) i

-- ---- hashes and handles

digest_are : (h : List ℕ) (n : ℕ) → AreBytes (4 * n) (digest_bytes h n)
unfolding digest_bytes
digest_are h zero = record { long = refl; each = λ i. omega arith }
digest_are h (suc n) = let more = joined_are (4 * n) 4 (digest_bytes h n) (to_be_bytes w32 (get_or h n 0)) (digest_are h n) (big_are_bytes 4 (get_or h n 0)) in record { long = omega (arith, more.long); each = more.each }

pub hmac_are : (key text : List ℕ) → AreBytes 32 (hmac_sha256 key text)
unfolding hmac_sha256 sha256
hmac_are key text = digest_are _ 8

pub signed_are : (device : List ℕ) (sid salt : ℕ) (password : List ℕ) → AreBytes 49 (signed device sid salt password)
signed_are device sid salt password =
    let head : AreBytes 9 (1 ∷ be64 sid) = joined_are 1 8 (1 ∷ []) (be64 sid) (record { long = refl; each = one }) (big_are_bytes 8 sid) in
    joined_are 17 32 ((1 ∷ be64 sid) ++ be64 salt) (hmac_sha256 device (be64 sid ++ be64 salt ++ password))
    (joined_are 9 8 (1 ∷ be64 sid) (be64 salt) head (big_are_bytes 8 salt)) (hmac_are device (be64 sid ++ be64 salt ++ password))
  where
    one : (i : ℕ) → get_or (1 ∷ []) i 0 < 256
    one zero = omega arith
    one (suc i) = omega arith

-- the salt that stands in a handle
pub signed_salt : (device : List ℕ) (sid salt : ℕ) (password : List ℕ) → salt < 2 ^ 64 → salt_of (signed device sid salt password) ≡ salt
signed_salt device sid salt password small =
    let tag = hmac_sha256 device (be64 sid ++ be64 salt ++ password) in
    let long : length (1 ∷ be64 sid) ≡ 9 = let e = (big_are_bytes 8 sid).long in omega arith in
    ap (λ (l : List ℕ). big_number 8 (drop 9 l)) (append_assoc (1 ∷ be64 sid) (be64 salt) tag)
    ∙ ap (big_number 8) (drop_at (1 ∷ be64 sid) (be64 salt ++ tag) 9 long)
    ∙ big_number-be64 salt tag small

-- and the id
pub signed_sid : (device : List ℕ) (sid salt : ℕ) (password : List ℕ) → sid < 2 ^ 64 → sid_of (signed device sid salt password) ≡ sid
signed_sid device sid salt password small =
    let tag = hmac_sha256 device (be64 sid ++ be64 salt ++ password) in
    ap (big_number 8) (append_assoc (be64 sid) (be64 salt) tag) ∙ big_number-be64 sid (be64 salt ++ tag) small
