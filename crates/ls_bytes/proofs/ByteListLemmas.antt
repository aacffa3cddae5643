-- What is made of lists of bytes is one again.
use Rattle.std.proofs.Common.{◌+◌, ◌<◌, ◌/◌, ◌^◌, ℕ, zero, suc, List, [], ◌∷◌, ◌++◌, take, drop, map, bit_xor, sym, subst, arith}
use Rattle.std.specs.Int.{byte_at}
use Rattle.std.proofs.Math.Nat.{mod-lt}
use Rattle.std.proofs.lemmas.List.{get_or-drop}
use Rattle.std.proofs.lemmas.Nat.{xor_lt}
use Rattle.byteorder.specs.Endian.{big_bytes}
use Rattle.ls_bytes.specs.Joined.{xor}
use Rattle.ls_bytes.specs.ByteLists.{AllAreBytes}

pub bytes_nil : AllAreBytes []
bytes_nil i = omega arith

pub bytes_cons : (x : ℕ) (xs : List ℕ) → x < 256 → AllAreBytes xs → AllAreBytes (x ∷ xs)
bytes_cons x xs first rest zero = first
bytes_cons x xs first rest (suc i) = rest i

pub bytes_append : (xs ys : List ℕ) → AllAreBytes xs → AllAreBytes ys → AllAreBytes (xs ++ ys)
bytes_append [] ys front back = back
bytes_append (x ∷ xs) ys front back =
    bytes_cons x (xs ++ ys) (front 0) (bytes_append xs ys (λ i. front (suc i)) back)

pub bytes_take : (n : ℕ) (xs : List ℕ) → AllAreBytes xs → AllAreBytes (take n xs)
bytes_take zero xs are i = omega arith
bytes_take (suc n) [] are i = omega arith
bytes_take (suc n) (x ∷ xs) are zero = are 0
bytes_take (suc n) (x ∷ xs) are (suc i) = bytes_take n xs (λ k. are (suc k)) i

pub bytes_drop : (n : ℕ) (xs : List ℕ) → AllAreBytes xs → AllAreBytes (drop n xs)
bytes_drop n xs are = λ i. subst (λ (k : ℕ). k < 256) (sym (get_or-drop n xs i 0)) (are (n + i))

pub bytes_map : (f : ℕ → ℕ) → ((x : ℕ) → f x < 256) → (xs : List ℕ) → AllAreBytes (map f xs)
bytes_map f lt [] = bytes_nil
bytes_map f lt (x ∷ xs) = bytes_cons (f x) (map f xs) (lt x) (bytes_map f lt xs)

pub bytes_xor : (xs ys : List ℕ) → AllAreBytes xs → AllAreBytes ys → AllAreBytes (xor xs ys)
bytes_xor [] ys front back = bytes_nil
bytes_xor (x ∷ xs) [] front back = bytes_nil
bytes_xor (x ∷ xs) (y ∷ ys) front back =
    bytes_cons (bit_xor x y) (xor xs ys) (xor_lt 8 x y (front 0) (back 0))
    (bytes_xor xs ys (λ i. front (suc i)) (λ i. back (suc i)))

byte_at_small : (k x : ℕ) → byte_at k x < 256
byte_at_small zero x = omega arith
byte_at_small (suc k) x = mod-lt (x / 256 ^ suc k) (omega arith)

-- the bytes of a number, the highest first
pub bytes_big : (n x : ℕ) → AllAreBytes (big_bytes n x)
bytes_big zero x = bytes_nil
bytes_big (suc n) x = bytes_cons _ _ (byte_at_small n x) (bytes_big n x)
