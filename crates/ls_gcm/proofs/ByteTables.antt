-- The tables of bytes are what they stand for, in all their places.
use Rattle.std.proofs.Common.{◌≡◌, ℕ, zero, suc, ◌*◌, ◌%◌, ◌^◌, ◌<◌, Bool, true, false, List, [], ◌∷◌, ◌&&◌, bytes_eq, slice_index, refl, ap, ◌∙◌, arith, inl, inr}
use Rattle.std.proofs.lemmas.Bool.{cases_lt}
use Rattle.std.proofs.lemmas.Slice.Eq.{bytes_eq-Decides}
use Rattle.std.specs.Int.{w32, rotate_right, to_be_bytes}
use Rattle.ls_gcm.specs.declared.byte.TheConstants.{SBOX, MIXED}
use Rattle.ls_gcm.specs.declared.expansion.TheConstants.{RCON}
use Rattle.ls_gcm.specs.declared.table.TheConstants.{REDUCED}
use Rattle.ls_gcm.specs.Aes.{rcon}
use Rattle.ls_gcm.specs.Byte.{sbox, inverse_below, product_of, product}
use Rattle.ls_gcm.specs.Blocks as block

-- two functions agree at each number below n
abbrev agree : (ℕ → List ℕ) → (ℕ → List ℕ) → ℕ → Bool
agree f g zero = true
agree f g (suc n) = bytes_eq (f n) (g n) && agree f g n

both : (a b : Bool) → (a && b) ≡ true → (a ≡ true) × (b ≡ true)
both true b h = (refl, h)
both false b h = cc

agree_at : (f g : ℕ → List ℕ) (n k : ℕ) → agree f g n ≡ true → k < n → f k ≡ g k
agree_at f g zero k h lt = absurd (omega arith)
agree_at f g (suc n) k h lt = elim (cases_lt k n) [
  | inl under ↦ agree_at f g n k (both (bytes_eq (f n) (g n)) (agree f g n) h).1 under
  | inr over ↦
      let e : k ≡ n = omega arith in
      rw e ((bytes_eq-Decides (f n) (g n)).0 (both (bytes_eq (f n) (g n)) (agree f g n) h).0)
]

-- the same of numbers
module _ (f g : ℕ → ℕ) where
  numbers_agree_at : (n k : ℕ) → agree (λ b. f b ∷ []) (λ b. g b ∷ []) n ≡ true → k < n → f k ≡ g k
  numbers_agree_at n k h lt = ap (λ (xs : List ℕ). slice_index xs 0) (agree_at (λ b. f b ∷ []) (λ b. g b ∷ []) n k h lt)

sbox_table : agree (λ b. slice_index SBOX b ∷ []) (λ b. sbox b ∷ []) 256 ≡ true
unfolding sbox inverse_below product_of
sbox_table = refl

pub sbox_at : (b : ℕ) → b < 256 → slice_index SBOX b ≡ sbox b
sbox_at b lt = numbers_agree_at (slice_index SBOX) sbox 256 b sbox_table lt

pub rcon_at : (n : ℕ) → n < 8 → slice_index RCON n ≡ rcon n
unfolding rcon product_of
rcon_at n lt = numbers_agree_at (slice_index RCON) rcon 8 n refl lt

-- the column of a byte of the S-box, turned down by 0 to 3 rows
abbrev pub turned_0 : ℕ → List ℕ
turned_0 s = product 2 s ∷ s ∷ s ∷ product 3 s ∷ []

abbrev pub turned_1 : ℕ → List ℕ
turned_1 s = product 3 s ∷ product 2 s ∷ s ∷ s ∷ []

abbrev pub turned_2 : ℕ → List ℕ
turned_2 s = s ∷ product 3 s ∷ product 2 s ∷ s ∷ []

abbrev pub turned_3 : ℕ → List ℕ
turned_3 s = s ∷ s ∷ product 3 s ∷ product 2 s ∷ []

pub mixed_at_0 : (b : ℕ) → b < 256 → to_be_bytes w32 (slice_index MIXED b) ≡ turned_0 (sbox b)
unfolding product_of
mixed_at_0 b lt =
    agree_at (λ b. to_be_bytes w32 (slice_index MIXED b)) (λ b. turned_0 (slice_index SBOX b)) 256 b refl lt
    ∙ ap turned_0 (sbox_at b lt)

pub mixed_at_1 : (b : ℕ) → b < 256 → to_be_bytes w32 (rotate_right w32 (slice_index MIXED b) 8) ≡ turned_1 (sbox b)
unfolding product_of
mixed_at_1 b lt =
    agree_at (λ b. to_be_bytes w32 (rotate_right w32 (slice_index MIXED b) 8)) (λ b. turned_1 (slice_index SBOX b)) 256 b refl lt
    ∙ ap turned_1 (sbox_at b lt)

pub mixed_at_2 : (b : ℕ) → b < 256 → to_be_bytes w32 (rotate_right w32 (slice_index MIXED b) 16) ≡ turned_2 (sbox b)
unfolding product_of
mixed_at_2 b lt =
    agree_at (λ b. to_be_bytes w32 (rotate_right w32 (slice_index MIXED b) 16)) (λ b. turned_2 (slice_index SBOX b)) 256 b refl lt
    ∙ ap turned_2 (sbox_at b lt)

pub mixed_at_3 : (b : ℕ) → b < 256 → to_be_bytes w32 (rotate_right w32 (slice_index MIXED b) 24) ≡ turned_3 (sbox b)
unfolding product_of
mixed_at_3 b lt =
    agree_at (λ b. to_be_bytes w32 (rotate_right w32 (slice_index MIXED b) 24)) (λ b. turned_3 (slice_index SBOX b)) 256 b refl lt
    ∙ ap turned_3 (sbox_at b lt)

-- x ^ 4 times the last four bits
pub reduced_at : (n : ℕ) → n < 16 → slice_index REDUCED n * 2 ^ 112 % 2 ^ 128 ≡ block.times_x4 n
unfolding block.times_x
reduced_at n lt = numbers_agree_at (λ n. slice_index REDUCED n * 2 ^ 112 % 2 ^ 128) block.times_x4 16 n refl lt
