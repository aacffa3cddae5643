-- The file of the users, field by field.
use Rattle.std.proofs.Common.{◌≡◌, ◌<◌, ◌≤◌, ◌+◌, ◌*◌, ◌-◌, ◌/◌, ◌^◌, ◌++◌, ℕ, zero, suc, List, [], ◌∷◌, length, get_or, take, drop, replicate, refl, sym, ◌∙◌, ap, arith, length-append}
use Rattle.std.specs.List.{flat_map, All}
use Rattle.std.proofs.lemmas.List.{take_at, drop-drop, ext_get_or, length-replicate}
use Rattle.byteorder.specs.Endian.{big_number}
use Rattle.byteorder.specs.Numbers.{big_number-reads_back}
use Rattle.ls_bytes.specs.Fields.{be32, be64}
use Rattle.ls_top.specs.UsersFile.{body_of, file_of, padded}
use Rattle.ls_top.specs.Vault.{IsVault}

pub length-fields : (users : List ℕ) → length (flat_map be32 users) ≡ 4 * length users
length-fields [] = refl
length-fields (user ∷ users) = omega (arith, length-fields users)

-- the number in the field at a place
field_at : (users : List ℕ) (k : ℕ) → k < length users → All (λ n. n < 2 ^ 32) users
    → big_number 4 (drop (4 * k) (flat_map be32 users)) ≡ get_or users k 0
field_at [] k lt each = absurd (omega arith)
field_at (user ∷ users) zero lt each = big_number-reads_back 4 user (flat_map be32 users) (each 0 0 (omega arith))
field_at (user ∷ users) (suc k) lt each =
    let place : 4 * suc k ≡ 4 + 4 * k = omega arith in
    ap (λ (n : ℕ). big_number 4 (drop n (flat_map be32 (user ∷ users)))) place
    ∙ ap (big_number 4) (sym (drop-drop (4 * k) 4 (flat_map be32 (user ∷ users))))
    ∙ field_at users k (omega arith) (λ i d below. each (suc i) d (omega arith))

-- numbers that were read field by field are those that were written
pub fields_read : (users numbers fields : List ℕ) → All (λ n. n < 2 ^ 32) users → fields ≡ flat_map be32 users
    → length numbers ≡ length fields / 4
    → ((k : ℕ) → k < length fields / 4 → get_or numbers k 0 ≡ big_number 4 (drop (4 * k) fields))
    → numbers ≡ users
fields_read users numbers fields each is long read =
    let many : length fields / 4 ≡ length users = omega (arith, ap length is, length-fields users) in
    ext_get_or 0 numbers users (omega (arith, long, many))
    (λ i lt. read i (omega (arith, long)) ∙ ap (λ (l : List ℕ). big_number 4 (drop (4 * i) l)) is ∙ field_at users i (omega (arith, long, many)) each)

-- ---- the places of the file

length-padded : (bytes : List ℕ) → length bytes ≤ 4096 → length (padded bytes) ≡ 4096
length-padded bytes few =
    length-append bytes (replicate (4096 - length bytes) 0)
    ∙ ap (λ (n : ℕ). length bytes + n) (length-replicate (4096 - length bytes) 0)
    ∙ omega arith

module _ (users : List ℕ) (vault : IsVault users) where
  pub length-file : length (file_of users) ≡ 4096
  length-file = length-padded (0xa5 ∷ be64 (length users) ++ be32 (2 + 4 * length users) ++ body_of users) (omega (arith, vault.few, length-fields users))

  pub file_count : get_or (file_of users) 14 0 ≡ length users
  file_count = refl

  pub file_fields : take (4 * length users) (drop 15 (file_of users)) ≡ flat_map be32 users
  file_fields = take_at (flat_map be32 users) _ (4 * length users) (length-fields users)

  -- what is read from the place of the fields
  pub fields_of : (bytes : List ℕ) → bytes ≡ file_of users
      → take ((15 + 4 * get_or bytes 14 0) - 15) (drop 15 bytes) ≡ flat_map be32 users
  fields_of bytes is =
      let count : get_or bytes 14 0 ≡ length users = ap (λ (l : List ℕ). get_or l 14 0) is in
      let long : (15 + 4 * get_or bytes 14 0) - 15 ≡ 4 * length users = omega arith in
      ap (λ (n : ℕ). take n (drop 15 bytes)) long ∙ ap (λ (l : List ℕ). take (4 * length users) (drop 15 l)) is ∙ file_fields
