-- The lengths of what is derived, and the blocks of PBKDF2 written one behind the other.
use Rattle.std.proofs.Common.{◌≡◌, ℕ, zero, suc, ◌+◌, ◌*◌, ◌/◌, ◌<◌, ◌≤◌, List, [], ◌++◌, length, take, drop, refl, sym, arith, ap, ◌∙◌, add-one}
use Rattle.std.proofs.lemmas.List.{append-nil, drop-drop, drop_all, drop_at, take_all, take_at, length-append, length-take-le}
use Rattle.std.proofs.lemmas.Slice.{take-put_mid}
use borrow.Rule.Slice.PartMut.{put_mid}
use lib.Seq.{take-add}
use Rattle.sha2.proofs.Facts256.{length-sha256}
use Rattle.ls_hash.specs.Hmac.{hmac_sha256}
use Rattle.ls_hash.specs.Pbkdf2.{pbkdf2_block, pbkdf2_blocks, pbkdf2_one}

length-block : (password salt : List ℕ) (i : ℕ) → length (pbkdf2_block password salt i) ≡ 32
unfolding pbkdf2_block hmac_sha256
length-block password salt i = length-sha256 _

length-blocks : (password salt : List ℕ) (n : ℕ) → length (pbkdf2_blocks password salt n) ≡ 32 * n
unfolding pbkdf2_blocks
length-blocks password salt zero = refl
length-blocks password salt (suc n) =
    omega (arith, length-append (pbkdf2_blocks password salt n) (pbkdf2_block password salt (n + 1)), length-blocks password salt n, length-block password salt (n + 1))

-- the derived key has the length that was asked for
pub length-pbkdf2_one : (password salt : List ℕ) (n : ℕ) → length (pbkdf2_one password salt n) ≡ n
unfolding pbkdf2_one
length-pbkdf2_one password salt n =
    length-take-le n _ (omega (arith, length-blocks password salt ((n + 31) / 32)))

-- one more whole block, in place
pub filled_more : (password salt out x : List ℕ) (i k : ℕ)
    → take (32 * i) out ≡ pbkdf2_blocks password salt i → 32 * i ≤ length out → length x ≡ 32
    → x ≡ pbkdf2_block password salt (i + 1)
    → take (32 * (i + 1)) (put_mid (32 * i) k out x) ≡ pbkdf2_blocks password salt (i + 1)
unfolding pbkdf2_blocks
filled_more password salt out x i k held fits long is =
    take-put_mid (32 * i) k out x (32 * (i + 1)) (omega arith) fits
    ∙ rw (held, is) (ap (pbkdf2_blocks password salt) (sym (add-one i)))

-- no block is cut
pub filled_whole : (password salt out : List ℕ) (i m : ℕ) → m ≡ length out
    → take (32 * i) out ≡ pbkdf2_blocks password salt i → length out ≡ 32 * i
    → out ≡ pbkdf2_one password salt m
unfolding pbkdf2_one
filled_whole password salt out i m em held long =
    let count : (length out + 31) / 32 ≡ i = omega arith in
    let all : take (32 * i) out ≡ out = take_all (32 * i) out (omega arith) in
    rw (em, count, ← held, all) (sym (take_all (length out) out (omega arith)))

take_sum : (xs ys : List ℕ) (n k : ℕ) → length xs ≡ n → xs ++ take k ys ≡ take (n + k) (xs ++ ys)
take_sum xs ys n k e = sym (take-add n k (xs ++ ys) ∙ rw (take_at xs ys n e, drop_at xs ys n e) refl)

-- the last block is cut
pub filled_cut : (password salt out x y : List ℕ) (i k m : ℕ) → m ≡ length out
    → take (32 * i) out ≡ pbkdf2_blocks password salt i → length out ≡ 32 * i + k → 0 < k → k < 32
    → y ≡ take k x → length x ≡ 32 → x ≡ pbkdf2_block password salt (i + 1)
    → put_mid (32 * i) k out y ≡ pbkdf2_one password salt m
unfolding pbkdf2_one pbkdf2_blocks
filled_cut password salt out x y i k m em held long low high cut lx is =
    let count : (length out + 31) / 32 ≡ suc i = omega arith in
    let past : drop k (drop (32 * i) out) ≡ [] =
    drop-drop k (32 * i) out ∙ drop_all (32 * i + k) out (omega arith) in
    let front : length (pbkdf2_blocks password salt i) ≡ 32 * i = length-blocks password salt i in
    let left : put_mid (32 * i) k out y ≡ pbkdf2_blocks password salt i ++ take k x =
    rw (past, append-nil y, held, cut) refl in
    left ∙ rw (em, count, ← is, long) (take_sum (pbkdf2_blocks password salt i) x (32 * i) k front)
