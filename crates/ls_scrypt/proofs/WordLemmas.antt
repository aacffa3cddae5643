-- Words, and the bytes that they are written as, low byte first.
use Rattle.std.proofs.Common.{◌≡◌, ℕ, zero, suc, ◌<◌, ◌≤◌, ◌+◌, ◌*◌, ◌/◌, ◌%◌, ◌^◌, List, [], ◌∷◌, ◌++◌, length, take, drop, slice_index, bit_xor, arith, refl, sym, ap, ◌∙◌, inl, inr, ◌-◌}
use Rattle.std.proofs.lemmas.Bool.{cases_lt}
use Rattle.std.proofs.lemmas.List.{append_assoc, get_or-append_right, get_or_append_left, get_or-drop, length-append, length-drop, length-take-le, take_all}
use Rattle.std.proofs.lemmas.Nat.{from_le_bytes-to_le_bytes_4, le_bytes_4, xor_mod, xor_shr}
use Rattle.std.proofs.lemmas.Simd.{get_or-zip2}
use Rattle.std.specs.Int.{w32, from_le_bytes, to_le_bytes}
use Rattle.std.specs.Simd.Lanes.{zip2}
use lib.Lanes.{digits_l, number_l}
use lib.Seq.{take-add}
use Rattle.ls_bytes.specs.Joined.{xor}
use Rattle.ls_scrypt.specs.BlockMix.{block}
use Rattle.ls_scrypt.specs.Salsa.{bytes, word_at, words}

-- ---- a word xor another is xor byte by byte

-- one byte, and what is above it
xor-byte : (x y a b : ℕ) → x < 256 → a < 256
    → bit_xor (x + 256 * y) (a + 256 * b) ≡ bit_xor x a + 256 * bit_xor y b
xor-byte x y a b hx ha =
    let n : ℕ = bit_xor (x + 256 * y) (a + 256 * b) in
    let low : n % 256 ≡ bit_xor ((x + 256 * y) % 256) ((a + 256 * b) % 256) = xor_mod (x + 256 * y) (a + 256 * b) 8 in
    let high : n / 256 ≡ bit_xor ((x + 256 * y) / 256) ((a + 256 * b) / 256) = xor_shr (x + 256 * y) (a + 256 * b) 8 in
    let x_is : (x + 256 * y) % 256 ≡ x = omega arith in
    let a_is : (a + 256 * b) % 256 ≡ a = omega arith in
    let y_is : (x + 256 * y) / 256 ≡ y = omega arith in
    let b_is : (a + 256 * b) / 256 ≡ b = omega arith in
    let low' : n % 256 ≡ bit_xor x a = rw (x_is, a_is) at low in
    let high' : n / 256 ≡ bit_xor y b = rw (y_is, b_is) at high in
    omega arith

xor-word : (x0 x1 x2 x3 y0 y1 y2 y3 : ℕ) → x0 < 256 → x1 < 256 → x2 < 256 → y0 < 256 → y1 < 256 → y2 < 256
    → from_le_bytes w32 (bit_xor x0 y0 ∷ bit_xor x1 y1 ∷ bit_xor x2 y2 ∷ bit_xor x3 y3 ∷ [])
    ≡ bit_xor (from_le_bytes w32 (x0 ∷ x1 ∷ x2 ∷ x3 ∷ [])) (from_le_bytes w32 (y0 ∷ y1 ∷ y2 ∷ y3 ∷ []))
xor-word x0 x1 x2 x3 y0 y1 y2 y3 hx0 hx1 hx2 hy0 hy1 hy2 =
    let x : from_le_bytes w32 (x0 ∷ x1 ∷ x2 ∷ x3 ∷ []) ≡ x0 + 256 * (x1 + 256 * (x2 + 256 * x3)) = omega arith in
    let y : from_le_bytes w32 (y0 ∷ y1 ∷ y2 ∷ y3 ∷ []) ≡ y0 + 256 * (y1 + 256 * (y2 + 256 * y3)) = omega arith in
    let e0 = xor-byte x0 (x1 + 256 * (x2 + 256 * x3)) y0 (y1 + 256 * (y2 + 256 * y3)) hx0 hy0 in
    let e1 = xor-byte x1 (x2 + 256 * x3) y1 (y2 + 256 * y3) hx1 hy1 in
    let e2 = xor-byte x2 x3 y2 y3 hx2 hy2 in
    rw (x, y, e0, e1, e2) (omega arith)

-- ---- the words of two lists

abbrev IsBytes : List ℕ → Type 0
IsBytes xs = (i : ℕ) → slice_index xs i < 256

word_at-xor : (xs ys : List ℕ) (i : ℕ) → i + 4 ≤ length xs → i + 4 ≤ length ys → IsBytes xs → IsBytes ys
    → word_at (xor xs ys) i ≡ bit_xor (word_at xs i) (word_at ys i)
word_at-xor xs ys i lx ly hx hy =
    let b0 = get_or-zip2 bit_xor xs ys i 0 0 0 (omega arith) (omega arith) in
    let b1 = get_or-zip2 bit_xor xs ys (i + 1) 0 0 0 (omega arith) (omega arith) in
    let b2 = get_or-zip2 bit_xor xs ys (i + 2) 0 0 0 (omega arith) (omega arith) in
    let b3 = get_or-zip2 bit_xor xs ys (i + 3) 0 0 0 (omega arith) (omega arith) in
    rw (b0, b1, b2, b3)
    (xor-word (slice_index xs i) (slice_index xs (i + 1)) (slice_index xs (i + 2)) (slice_index xs (i + 3))
    (slice_index ys i) (slice_index ys (i + 1)) (slice_index ys (i + 2)) (slice_index ys (i + 3))
    (hx i) (hx (i + 1)) (hx (i + 2)) (hy i) (hy (i + 1)) (hy (i + 2)))

zip2-append : (f : ℕ → ℕ → ℕ) (ps bs cs ds : List ℕ) → length ps ≡ length cs
    → zip2 f (ps ++ bs) (cs ++ ds) ≡ zip2 f ps cs ++ zip2 f bs ds
zip2-append f [] bs [] ds e = refl
zip2-append f [] bs (c ∷ cs) ds e = absurd (omega arith)
zip2-append f (a ∷ ps) bs [] ds e = absurd (omega arith)
zip2-append f (a ∷ ps) bs (c ∷ cs) ds e =
    ap (λ (t : List ℕ). f a c ∷ t) (zip2-append f ps bs cs ds (omega arith))

length-words : (n : ℕ) (b : List ℕ) → length (words n b) ≡ n
unfolding words
length-words zero b = refl
length-words (suc n) b = omega (arith, length-append (words n b) (word_at b (4 * n) ∷ []), length-words n b)

-- the words of a list xor another
pub words-xor : (n : ℕ) (xs ys : List ℕ) → 4 * n ≤ length xs → 4 * n ≤ length ys → IsBytes xs → IsBytes ys
    → words n (xor xs ys) ≡ zip2 bit_xor (words n xs) (words n ys)
unfolding words
words-xor zero xs ys lx ly hx hy = refl
words-xor (suc n) xs ys lx ly hx hy =
    let before = words-xor n xs ys (omega arith) (omega arith) hx hy in
    let word = word_at-xor xs ys (4 * n) (omega arith) (omega arith) hx hy in
    let same : length (words n xs) ≡ length (words n ys) = length-words n xs ∙ sym (length-words n ys) in
    rw (before, word)
    (sym (zip2-append bit_xor (words n xs) (word_at xs (4 * n) ∷ []) (words n ys) (word_at ys (4 * n) ∷ []) same))

-- ---- words written as bytes

pub length-bytes : (n : ℕ) (w : List ℕ) → length (bytes n w) ≡ 4 * n
unfolding bytes
length-bytes zero w = refl
length-bytes (suc n) w =
    omega (arith, length-append (bytes n w) (to_le_bytes w32 (slice_index w n)), length-bytes n w)

IsBytes-word : (n : ℕ) → IsBytes (to_le_bytes w32 n)
IsBytes-word n zero = omega arith
IsBytes-word n (suc zero) = omega arith
IsBytes-word n (suc (suc zero)) = omega arith
IsBytes-word n (suc (suc (suc zero))) = omega arith
IsBytes-word n (suc (suc (suc (suc i)))) = omega arith

pub IsBytes-bytes : (n : ℕ) (w : List ℕ) → IsBytes (bytes n w)
unfolding bytes
IsBytes-bytes zero w i = omega arith
IsBytes-bytes (suc n) w i = elim (cases_lt i (4 * n)) [
  | inl under ↦
      let left = get_or_append_left (bytes n w) (to_le_bytes w32 (slice_index w n)) 0 i (omega (arith, length-bytes n w)) in
      rw left (IsBytes-bytes n w i)
  | inr over ↦
      let right = get_or-append_right (bytes n w) (to_le_bytes w32 (slice_index w n)) (4 * n) i 0 (length-bytes n w) over in
      rw right (IsBytes-word (slice_index w n) (i - 4 * n))
]

take-suc-get : (m : ℕ) (w : List ℕ) → m < length w → take (suc m) w ≡ take m w ++ slice_index w m ∷ []
take-suc-get m [] lt = absurd (omega arith)
take-suc-get zero (x ∷ w) lt = refl
take-suc-get (suc m) (x ∷ w) lt = ap (λ (t : List ℕ). x ∷ t) (take-suc-get m w (omega arith))

take_small : (xs : List ℕ) (k n : ℕ) → IsBytes xs → slice_index (take n xs) k < 256
take_small xs k zero small = omega arith
take_small [] k (suc n) small = omega arith
take_small (x ∷ xs) zero (suc n) small = small 0
take_small (x ∷ xs) (suc k) (suc n) small = take_small xs k n (λ j. small (suc j))

-- a word that stands among bytes
word_at-bytes : (n : ℕ) (w : List ℕ) (i : ℕ) → i < n → slice_index w i < 2 ^ 32 → word_at (bytes n w) (4 * i) ≡ slice_index w i
unfolding bytes
word_at-bytes zero w i lt small = absurd (omega arith)
word_at-bytes (suc n) w i lt small =
    let front = bytes n w in
    let last = to_le_bytes w32 (slice_index w n) in
    let long : length front ≡ 4 * n = length-bytes n w in
    elim (cases_lt i n) [
      | inl under ↦
          let b0 = get_or_append_left front last 0 (4 * i) (omega arith) in
          let b1 = get_or_append_left front last 0 (4 * i + 1) (omega arith) in
          let b2 = get_or_append_left front last 0 (4 * i + 2) (omega arith) in
          let b3 = get_or_append_left front last 0 (4 * i + 3) (omega arith) in
          rw (b0, b1, b2, b3) (word_at-bytes n w i under small)
      | inr over ↦
          let e : i ≡ n = omega arith in
          let b0 = get_or-append_right front last (4 * n) (4 * n) 0 long (omega arith) in
          let b1 = get_or-append_right front last (4 * n) (4 * n + 1) 0 long (omega arith) in
          let b2 = get_or-append_right front last (4 * n) (4 * n + 2) 0 long (omega arith) in
          let b3 = get_or-append_right front last (4 * n) (4 * n + 3) 0 long (omega arith) in
          let z0 : 4 * n - 4 * n ≡ 0 = omega arith in
          let z1 : 4 * n + 1 - 4 * n ≡ 1 = omega arith in
          let z2 : 4 * n + 2 - 4 * n ≡ 2 = omega arith in
          let z3 : 4 * n + 3 - 4 * n ≡ 3 = omega arith in
          let small' : slice_index w n < 2 ^ 32 = rw e at small in
          rw (e, b0, b1, b2, b3, z0, z1, z2, z3) (from_le_bytes-to_le_bytes_4 (slice_index w n) small')
    ]

words-bytes_front : (m n : ℕ) (w : List ℕ) → m ≤ n → n ≤ length w → ((i : ℕ) → slice_index w i < 2 ^ 32) → words m (bytes n w) ≡ take m w
unfolding words
words-bytes_front zero n w le long small = refl
words-bytes_front (suc m) n w le long small =
    rw (words-bytes_front m n w (omega arith) long small, word_at-bytes n w m (omega arith) (small m))
    (sym (take-suc-get m w (omega arith)))

-- the words of the bytes of words
pub words-bytes : (n : ℕ) (w : List ℕ) → length w ≡ n → ((i : ℕ) → slice_index w i < 2 ^ 32) → words n (bytes n w) ≡ w
words-bytes n w long small =
    words-bytes_front n n w (omega arith) (omega arith) small ∙ take_all n w (omega arith)

bytes-append : (n : ℕ) (w v : List ℕ) → n ≤ length w → bytes n (w ++ v) ≡ bytes n w
unfolding bytes
bytes-append zero w v le = refl
bytes-append (suc n) w v le =
    rw (bytes-append n w v (omega arith), get_or_append_left w v 0 n (omega arith)) refl

four_bytes : (xs : List ℕ) → 4 ≤ length xs
    → take 4 xs ≡ slice_index xs 0 ∷ slice_index xs 1 ∷ slice_index xs 2 ∷ slice_index xs 3 ∷ []
four_bytes (a ∷ b ∷ c ∷ d ∷ xs) le = refl
four_bytes [] le = absurd (omega arith)
four_bytes (a ∷ []) le = absurd (omega arith)
four_bytes (a ∷ b ∷ []) le = absurd (omega arith)
four_bytes (a ∷ b ∷ c ∷ []) le = absurd (omega arith)

-- the bytes of a word that was read
word_written : (b : List ℕ) (i : ℕ) → i + 4 ≤ length b → IsBytes b → to_le_bytes w32 (word_at b i) ≡ take 4 (drop i b)
word_written b i le small =
    let rest = drop i b in
    let long : 4 ≤ length rest = omega (arith, length-drop i b) in
    let cells = four_bytes rest long in
    let b0 : slice_index rest 0 ≡ slice_index b i = get_or-drop i b 0 0 ∙ ap (slice_index b) (omega arith) in
    let b1 : slice_index rest 1 ≡ slice_index b (i + 1) = get_or-drop i b 1 0 in
    let b2 : slice_index rest 2 ≡ slice_index b (i + 2) = get_or-drop i b 2 0 in
    let b3 : slice_index rest 3 ≡ slice_index b (i + 3) = get_or-drop i b 3 0 in
    let same : take 4 rest ≡ slice_index b i ∷ slice_index b (i + 1) ∷ slice_index b (i + 2) ∷ slice_index b (i + 3) ∷ [] =
    cells ∙ rw (b0, b1, b2, b3) refl in
    le_bytes_4 (take 4 rest) (word_at b i) (length-take-le 4 rest long) (λ k. take_small rest k 4 (λ j. rw (get_or-drop i b j 0) (small (i + j)))) (ap (from_le_bytes w32) (sym same))

-- the bytes of the words of bytes
pub bytes-words : (n : ℕ) (b : List ℕ) → 4 * n ≤ length b → IsBytes b → bytes n (words n b) ≡ take (4 * n) b
unfolding bytes words
bytes-words zero b le small = refl
bytes-words (suc n) b le small =
    let front : bytes n (words n b ++ word_at b (4 * n) ∷ []) ≡ take (4 * n) b =
    bytes-append n (words n b) (word_at b (4 * n) ∷ []) (omega (arith, length-words n b)) ∙ bytes-words n b (omega arith) small in
    let same : n - n ≡ 0 = omega arith in
    let word : slice_index (words n b ++ word_at b (4 * n) ∷ []) n ≡ word_at b (4 * n) =
    get_or-append_right (words n b) (word_at b (4 * n) ∷ []) n n 0 (length-words n b) (omega arith) ∙ rw same refl in
    let four : 4 * suc n ≡ 4 * n + 4 = omega arith in
    rw (front, word, four, take-add (4 * n) 4 b, word_written b (4 * n) (omega arith) small) refl

take_drop_small : (b : List ℕ) (i k n : ℕ) → IsBytes b → slice_index (take n (drop i b)) k < 256
take_drop_small b i k n small = take_small (drop i b) k n (λ j. rw (get_or-drop i b j 0) (small (i + j)))

-- a block as words, and then as bytes again
pub bytes-words_block : (b : List ℕ) (i : ℕ) → 64 * i + 64 ≤ length b → IsBytes b
    → bytes 16 (words 16 (block b i)) ≡ block b i
bytes-words_block b i le small =
    let long : length (block b i) ≡ 64 = length-take-le 64 (drop (64 * i) b) (omega (arith, length-drop (64 * i) b)) in
    bytes-words 16 (block b i) (omega arith) (λ k. take_drop_small b (64 * i) k 64 small)
    ∙ take_all 64 (block b i) (omega arith)

bytes-cons : (n x : ℕ) (w : List ℕ) → bytes (suc n) (x ∷ w) ≡ to_le_bytes w32 x ++ bytes n w
unfolding bytes
bytes-cons zero x w = refl
bytes-cons (suc n) x w =
    rw (bytes-cons n x w) (append_assoc (to_le_bytes w32 x) (bytes n w) (to_le_bytes w32 (slice_index w n)))

-- the digits of a vector of words are its bytes
pub digits-bytes : (n : ℕ) (w : List ℕ) → length w ≡ n → ((i : ℕ) → slice_index w i < 2 ^ 32)
    → digits_l 256 (4 * n) (number_l (2 ^ 32) w) ≡ bytes n w
unfolding bytes
digits-bytes zero w long small = refl
digits-bytes (suc n) [] long small = absurd (omega arith)
digits-bytes (suc n) (x ∷ w) long small =
    let rest : ℕ = number_l (2 ^ 32) w in
    let all : ℕ = x + 2 ^ 32 * rest in
    let first : x < 2 ^ 32 = small 0 in
    let four : 4 * suc n ≡ suc (suc (suc (suc (4 * n)))) = omega arith in
    let b0 : all % 256 ≡ x % 256 = omega arith in
    let b1 : all / 256 % 256 ≡ x / 256 % 256 = omega arith in
    let b2 : all / 256 / 256 % 256 ≡ x / 65536 % 256 = omega arith in
    let b3 : all / 256 / 256 / 256 % 256 ≡ x / 16777216 % 256 = omega arith in
    let above : all / 256 / 256 / 256 / 256 ≡ rest = omega arith in
    rw (four, b0, b1, b2, b3, above, digits-bytes n w (omega arith) (λ i. small (suc i))) (sym (bytes-cons n x w))
