-- The lengths of what AES and GCM give, and that a text is crypted back.
use Rattle.std.proofs.Common.{◌≡◌, ℕ, zero, suc, ◌+◌, ◌-◌, ◌*◌, ◌/◌, ◌%◌, ◌≤◌, Bool, true, false, cond, eqb, List, [], ◌∷◌, ◌++◌, length, take, drop, bit_xor, refl, ap, sym, ◌<◌, ◌&&◌, nat_le, bytes_eq, Some, None, ◌∙◌, arith}
use Rattle.std.proofs.lemmas.List.{length-append, length-drop, length-take-le, length-map, take_at, drop_at, append_assoc}
use Rattle.std.proofs.lemmas.Bool.Decides.{nat_tests}
use Rattle.std.proofs.lemmas.Simd.{length-zip2}
use Rattle.std.proofs.lemmas.Slice.Eq.{bytes_eq-Decides}
use lib.Bits.{xor_assoc, xor_self, xor_zero_r}
use Rattle.ls_gcm.specs.Byte.{sbox}
use Rattle.ls_bytes.specs.Joined.{xor}
use Rattle.ls_gcm.specs.Aes.{aes256, encrypted, expanded, key_step, rcon, rot_word, round_key, rounds, shift_rows, sub_bytes, word}
use Rattle.ls_gcm.specs.Gcm.{block_count, counter, crypted, hash, gcm_open, gcm_seal, gcm_tag, stream, iv_of, body_of, tag_of, HasWrongTag}
use Rattle.std.specs.Int.{w128, to_be_bytes}
use Rattle.ls_gcm.proofs.ElementLemmas.{as_elements}

length-key_step : (t : List ℕ) (i : ℕ) → length t ≡ 4 → length (key_step t i) ≡ 4
length-key_step t i e =
    let listed = as_elements 4 t e in
    elim (eqb (i % 8) 0) as (λ (b : Bool). length (cond b (xor (sub_bytes (rot_word t)) (rcon (i / 8) ∷ 0 ∷ 0 ∷ 0 ∷ [])) (cond (eqb (i % 8) 4) (sub_bytes t) t)) ≡ 4) [
      | true ↦ rw listed refl
      | false ↦ elim (eqb (i % 8) 4) as (λ (b : Bool). length (cond b (sub_bytes t) t) ≡ 4) [ true ↦ length-map t sbox ∙ e | false ↦ e ]
    ]

length-word : (w : List ℕ) (i : ℕ) → 4 * i + 4 ≤ length w → length (word w i) ≡ 4
length-word w i le = length-take-le 4 (drop (4 * i) w) (omega (arith, length-drop (4 * i) w))

length-expanded : (key : List ℕ) (n : ℕ) → length key ≡ 32 → length (expanded key n) ≡ 32 + 4 * n
unfolding expanded
length-expanded key zero e = e
length-expanded key (suc n) e =
    let w = expanded key n in
    let before : length w ≡ 32 + 4 * n = length-expanded key n e in
    let old = length-word w n (omega arith) in
    let step = length-key_step (word w (n + 7)) (n + 8) (length-word w (n + 7) (omega arith)) in
    let new = length-zip2 bit_xor (word w n) (key_step (word w (n + 7)) (n + 8)) (old ∙ sym step) in
    omega (arith, length-append w (xor (word w n) (key_step (word w (n + 7)) (n + 8))), new, old)

pub length-aes256 : (key s : List ℕ) → length key ≡ 32 → length (aes256 key s) ≡ 16
unfolding aes256 encrypted shift_rows
length-aes256 key s e =
    let w = expanded key 52 in
    let long : length w ≡ 240 = length-expanded key 52 e in
    let last : length (round_key w 14) ≡ 16 = length-take-le 16 (drop 224 w) (omega (arith, length-drop 224 w)) in
    length-zip2 bit_xor (shift_rows (sub_bytes (rounds w s 13))) (round_key w 14) (sym last)

pub length-stream : (key iv : List ℕ) (n : ℕ) → length key ≡ 32 → length (stream key iv n) ≡ 16 * n
unfolding stream
length-stream key iv zero e = refl
length-stream key iv (suc n) e =
    omega (arith, length-append (stream key iv n) (aes256 key (counter iv (n + 1))), length-stream key iv n e, length-aes256 key (counter iv (n + 1)) e)

-- a list xor another that is at least as long, twice
twice : (xs ys : List ℕ) → length xs ≤ length ys → (length (xor xs ys) ≡ length xs) × (xor (xor xs ys) ys ≡ xs)
twice [] ys e = (refl, refl)
twice (x ∷ xs) [] e = absurd (omega arith)
twice (x ∷ xs) (y ∷ ys) e =
    let rest = twice xs ys (omega arith) in
    let same : bit_xor (bit_xor x y) y ≡ x = xor_assoc x y y ∙ ap (bit_xor x) (xor_self y) ∙ xor_zero_r x in
    (ap suc rest.0, rw (same, rest.1) refl)

pub length-crypted : (key iv m : List ℕ) → length key ≡ 32 → length (crypted key iv m) ≡ length m
unfolding crypted
length-crypted key iv m e = (twice m (stream key iv (block_count (length m))) (omega (arith, length-stream key iv (block_count (length m)) e))).0

-- crypted twice is the text
pub crypted-crypted : (key iv m : List ℕ) → length key ≡ 32 → crypted key iv (crypted key iv m) ≡ m
crypted-crypted key iv m e =
    let long = length-crypted key iv m e in
    let again : crypted key iv (crypted key iv m) ≡ xor (crypted key iv m) (stream key iv (block_count (length m))) =
    unfold crypted in ap (λ (n : ℕ). xor (crypted key iv m) (stream key iv (block_count n))) long in
    again ∙ unfold crypted in (twice m (stream key iv (block_count (length m))) (omega (arith, length-stream key iv (block_count (length m)) e))).1

length-gcm_tag : (key iv c : List ℕ) → length key ≡ 32 → length (gcm_tag key iv c) ≡ 16
unfolding gcm_tag
length-gcm_tag key iv c e = length-zip2 bit_xor (to_be_bytes w128 (hash key c)) (aes256 key (counter iv 0)) (sym (length-aes256 key (counter iv 0) e))

-- the parts of what was sealed
pub parts : (key iv m s : List ℕ) → length key ≡ 32 → length iv ≡ 12 → s ≡ gcm_seal key iv m
    → (length s ≡ 28 + length m) × (iv_of s ≡ iv) × (body_of s ≡ crypted key iv m) × (tag_of s ≡ gcm_tag key iv (crypted key iv m))
unfolding gcm_seal
parts key iv m s ek ei es =
    let c : List ℕ = crypted key iv m in
    let t : List ℕ = gcm_tag key iv c in
    let lc : length c ≡ length m = length-crypted key iv m ek in
    let lt : length t ≡ 16 = length-gcm_tag key iv c ek in
    let split : s ≡ iv ++ (c ++ t) = es ∙ append_assoc iv c t in
    let long : length s ≡ 28 + length m = omega (arith, ap length es, length-append (iv ++ c) t, length-append iv c) in
    let front : drop 12 s ≡ c ++ t = ap (drop 12) split ∙ drop_at iv (c ++ t) 12 ei in (
      long,
      ap (take 12) split ∙ take_at iv (c ++ t) 12 ei,
      ap (take (length s - 28)) front ∙ take_at c t (length s - 28) (omega arith),
      ap (drop (length s - 16)) es ∙ drop_at (iv ++ c) t (length s - 16) (omega (arith, length-append iv c)),
    )

-- ---- what a sealed text opens to

-- its test
abbrev opens : List ℕ → List ℕ → Bool
opens key s = nat_le 28 (length s) && bytes_eq (gcm_tag key (iv_of s) (body_of s)) (tag_of s)

and_false : (a : Bool) → (a && false) ≡ false
and_false true = refl
and_false false = refl

opens_by : (t : Bool) (key s : List ℕ) → opens key s ≡ t
    → gcm_open key s ≡ cond t (Some (crypted key (iv_of s) (body_of s))) None
unfolding gcm_open
opens_by t key s e = rw e refl

pub gcm_open_short : (key s : List ℕ) → length s < 28 → gcm_open key s ≡ None
gcm_open_short key s lt = opens_by false key s (grind (arith, nat_tests))

pub gcm_open_right : (key s : List ℕ) → 28 ≤ length s → gcm_tag key (iv_of s) (body_of s) ≡ tag_of s
    → gcm_open key s ≡ Some (crypted key (iv_of s) (body_of s))
gcm_open_right key s long right =
    let e : bytes_eq (gcm_tag key (iv_of s) (body_of s)) (tag_of s) ≡ true =
    (bytes_eq-Decides (gcm_tag key (iv_of s) (body_of s)) (tag_of s)).1 right in
    opens_by true key s (grind (arith, nat_tests))

pub gcm_open_wrong : (key s : List ℕ) → HasWrongTag key s → gcm_open key s ≡ None
gcm_open_wrong key s wrong =
    let e : bytes_eq (gcm_tag key (iv_of s) (body_of s)) (tag_of s) ≡ false =
    elim (bytes_eq (gcm_tag key (iv_of s) (body_of s)) (tag_of s)) as (λ (t : Bool). (t ≡ true → ⊥) → t ≡ false) [
      | true ↦ λ no. absurd (no refl)
      | false ↦ λ no. refl
    ] (λ yes. wrong.1 ((bytes_eq-Decides (gcm_tag key (iv_of s) (body_of s)) (tag_of s)).0 yes)) in
    opens_by false key s (rw e (and_false (nat_le 28 (length s))))

-- what was sealed opens to the plain text
pub gcm_open-gcm_seal : (key iv plain s : List ℕ) → length key ≡ 32 → length iv ≡ 12 → s ≡ gcm_seal key iv plain
    → gcm_open key s ≡ Some plain
gcm_open-gcm_seal key iv plain s ek ei es =
    let p = parts key iv plain s ek ei es in
    gcm_open_right key s (omega (arith, p.0)) (rw (p.1, p.2, p.3) refl)
    ∙ ap Some (rw (p.1, p.2) (crypted-crypted key iv plain ek))
