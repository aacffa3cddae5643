-- What is sealed are bytes, where the key, the iv and the text are.
--
-- The rounds before the last need no look: what SubBytes gives are bytes, whatever it gets.
use Rattle.std.proofs.Common.{◌≤◌, ◌<◌, ◌^◌, ◌+◌, ◌-◌, ◌*◌, ◌/◌, ◌%◌, ℕ, zero, suc, Bool, true, false, cond, List, [], ◌∷◌, ◌++◌, length, drop, bit_xor, arith}
use Rattle.std.specs.Prelude.{◌==◌}
use Rattle.std.specs.Int.{w8, w128, to_be_bytes, rotate_left}
use Rattle.std.proofs.lemmas.Nat.{xor_lt, or_lt, shr_le}
use Rattle.std.proofs.Math.Nat.{mod-lt}
use Rattle.ls_bytes.specs.ByteLists.{AllAreBytes}
use Rattle.ls_bytes.specs.Joined.{xor}
use Rattle.ls_bytes.proofs.ByteListLemmas.{bytes_nil, bytes_cons, bytes_append, bytes_take, bytes_drop, bytes_map, bytes_xor, bytes_big}
use Rattle.ls_gcm.specs.Byte.{sbox, product, product_of, inverse_below}
use Rattle.ls_gcm.specs.Aes.{aes256, encrypted, expanded, key_step, rcon, rot_word, round_key, rounds, shift_rows, sub_bytes, word, cell, shifted_column}
use Rattle.ls_gcm.specs.Gcm.{block_count, counter, crypted, hash, gcm_seal, gcm_tag, stream}

-- ---- AES

inverse_small : (n a : ℕ) → inverse_below (suc n) a < suc n
unfolding inverse_below
inverse_small zero a = by (product a 0 == 1)
  where
    by : (b : Bool) → cond b 0 0 < 1
    by true = omega arith
    by false = omega arith
inverse_small (suc n) a = by (product a (suc n) == 1) (inverse_small n a)
  where
    by : (b : Bool) → inverse_below (suc n) a < suc n → cond b (suc n) (inverse_below (suc n) a) < suc (suc n)
    by true lt = omega arith
    by false lt = omega arith

turned_small : (b k : ℕ) → b < 256 → rotate_left w8 b k < 256
turned_small b k lt =
    let down : b / 2 ^ ((8 - k % 8) % 8) ≤ b = shr_le b ((8 - k % 8) % 8) in
    or_lt 8 (b * 2 ^ (k % 8) % 2 ^ 8) (b / 2 ^ ((8 - k % 8) % 8)) (mod-lt (b * 2 ^ (k % 8)) (omega arith)) (omega (arith, lt, down))

sbox_small : (a : ℕ) → sbox a < 256
unfolding sbox
sbox_small a =
    let b : ℕ = inverse_below 256 a in
    let lt : b < 256 = inverse_small 255 a in
    let one : bit_xor b (rotate_left w8 b 1) < 256 = xor_lt 8 b (rotate_left w8 b 1) lt (turned_small b 1 lt) in
    let two = xor_lt 8 (bit_xor b (rotate_left w8 b 1)) (rotate_left w8 b 2) one (turned_small b 2 lt) in
    let three = xor_lt 8 (bit_xor (bit_xor b (rotate_left w8 b 1)) (rotate_left w8 b 2)) (rotate_left w8 b 3) two (turned_small b 3 lt) in
    let four = xor_lt 8 (bit_xor (bit_xor (bit_xor b (rotate_left w8 b 1)) (rotate_left w8 b 2)) (rotate_left w8 b 3)) (rotate_left w8 b 4) three (turned_small b 4 lt) in
    xor_lt 8 (bit_xor (bit_xor (bit_xor (bit_xor b (rotate_left w8 b 1)) (rotate_left w8 b 2)) (rotate_left w8 b 3)) (rotate_left w8 b 4)) 0x63 four (omega arith)

sub_small : (s : List ℕ) → AllAreBytes (sub_bytes s)
sub_small s = bytes_map sbox sbox_small s

column_small : (s : List ℕ) (c : ℕ) → AllAreBytes s → AllAreBytes (shifted_column s c)
column_small s c small =
    let last : List ℕ = cell s 3 ((c + 3) % 4) ∷ [] in
    let third : List ℕ = cell s 2 ((c + 2) % 4) ∷ last in
    let second : List ℕ = cell s 1 ((c + 1) % 4) ∷ third in
    bytes_cons (cell s 0 c) second (small (0 + 4 * c)) (bytes_cons (cell s 1 ((c + 1) % 4)) third (small (1 + 4 * ((c + 1) % 4)))
    (bytes_cons (cell s 2 ((c + 2) % 4)) last (small (2 + 4 * ((c + 2) % 4))) (bytes_cons (cell s 3 ((c + 3) % 4)) [] (small (3 + 4 * ((c + 3) % 4))) bytes_nil)))

shift_small : (s : List ℕ) → AllAreBytes s → AllAreBytes (shift_rows s)
unfolding shift_rows
shift_small s small =
    bytes_append (shifted_column s 0 ++ shifted_column s 1 ++ shifted_column s 2) (shifted_column s 3)
    (bytes_append (shifted_column s 0 ++ shifted_column s 1) (shifted_column s 2)
    (bytes_append (shifted_column s 0) (shifted_column s 1) (column_small s 0 small) (column_small s 1 small)) (column_small s 2 small))
    (column_small s 3 small)

rcon_small : (k : ℕ) → k ≤ 7 → rcon k < 256
unfolding rcon product_of
rcon_small zero le = omega arith
rcon_small (suc zero) le = omega arith
rcon_small (suc (suc zero)) le = omega arith
rcon_small (suc (suc (suc zero))) le = omega arith
rcon_small (suc (suc (suc (suc zero)))) le = omega arith
rcon_small (suc (suc (suc (suc (suc zero))))) le = omega arith
rcon_small (suc (suc (suc (suc (suc (suc zero)))))) le = omega arith
rcon_small (suc (suc (suc (suc (suc (suc (suc zero))))))) le = omega arith
rcon_small (suc (suc (suc (suc (suc (suc (suc (suc k)))))))) le = absurd (omega arith)

step_small : (t : List ℕ) (i : ℕ) → AllAreBytes t → i / 8 ≤ 7 → AllAreBytes (key_step t i)
step_small t i small le = by (i % 8 == 0) (i % 8 == 4)
  where
    by : (a b : Bool) → AllAreBytes (cond a (xor (sub_bytes (rot_word t)) (rcon (i / 8) ∷ 0 ∷ 0 ∷ 0 ∷ [])) (cond b (sub_bytes t) t))
    by true b =
        bytes_xor (sub_bytes (rot_word t)) (rcon (i / 8) ∷ 0 ∷ 0 ∷ 0 ∷ []) (sub_small (rot_word t))
        (bytes_cons (rcon (i / 8)) (0 ∷ 0 ∷ 0 ∷ []) (rcon_small (i / 8) le) (bytes_cons 0 (0 ∷ 0 ∷ []) (omega arith) (bytes_cons 0 (0 ∷ []) (omega arith) (bytes_cons 0 [] (omega arith) bytes_nil))))
    by false true = sub_small t
    by false false = small

word_small : (w : List ℕ) (i : ℕ) → AllAreBytes w → AllAreBytes (word w i)
word_small w i small = bytes_take 4 (drop (4 * i) w) (bytes_drop (4 * i) w small)

expanded_small : (key : List ℕ) (n : ℕ) → n ≤ 52 → AllAreBytes key → AllAreBytes (expanded key n)
unfolding expanded
expanded_small key zero le small = small
expanded_small key (suc n) le small =
    let before = expanded_small key n (omega arith) small in
    bytes_append (expanded key n) (xor (word (expanded key n) n) (key_step (word (expanded key n) (n + 7)) (n + 8))) before
    (bytes_xor (word (expanded key n) n) (key_step (word (expanded key n) (n + 7)) (n + 8)) (word_small (expanded key n) n before)
    (step_small (word (expanded key n) (n + 7)) (n + 8) (word_small (expanded key n) (n + 7) before) (omega arith)))

aes_small : (key s : List ℕ) → AllAreBytes key → AllAreBytes (aes256 key s)
unfolding aes256 encrypted
aes_small key s small =
    let w = expanded key 52 in
    bytes_xor (shift_rows (sub_bytes (rounds w s 13))) (round_key w 14) (shift_small (sub_bytes (rounds w s 13)) (sub_small (rounds w s 13)))
    (bytes_take 16 (drop (16 * 14) w) (bytes_drop (16 * 14) w (expanded_small key 52 (omega arith) small)))

-- ---- GCM

stream_small : (key iv : List ℕ) (n : ℕ) → AllAreBytes key → AllAreBytes (stream key iv n)
unfolding stream
stream_small key iv zero small = bytes_nil
stream_small key iv (suc n) small = bytes_append (stream key iv n) (aes256 key (counter iv (n + 1))) (stream_small key iv n small) (aes_small key (counter iv (n + 1)) small)

crypted_small : (key iv text : List ℕ) → AllAreBytes key → AllAreBytes text → AllAreBytes (crypted key iv text)
unfolding crypted
crypted_small key iv text small plain = bytes_xor text (stream key iv (block_count (length text))) plain (stream_small key iv (block_count (length text)) small)

tag_small : (key iv c : List ℕ) → AllAreBytes key → AllAreBytes (gcm_tag key iv c)
unfolding gcm_tag
tag_small key iv c small = bytes_xor (to_be_bytes w128 (hash key c)) (aes256 key (counter iv 0)) (bytes_big 16 (hash key c)) (aes_small key (counter iv 0) small)

pub seal_small : (key iv text : List ℕ) → AllAreBytes key → AllAreBytes iv → AllAreBytes text → AllAreBytes (gcm_seal key iv text)
unfolding gcm_seal
seal_small key iv text small front plain =
    bytes_append (iv ++ crypted key iv text) (gcm_tag key iv (crypted key iv text))
    (bytes_append iv (crypted key iv text) front (crypted_small key iv text small plain)) (tag_small key iv (crypted key iv text) small)
