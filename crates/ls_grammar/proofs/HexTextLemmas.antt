-- Bytes in hex.
use Rattle.std.proofs.Common.{◌≡◌, ℕ, zero, suc, ◌+◌, ◌-◌, ◌*◌, ◌/◌, ◌%◌, ◌<◌, ◌≤◌, Bool, true, false, cond, List, [], ◌∷◌, length, get_or, Ok, Err, refl, sym, ap, subst, ◌∙◌, arith, inl, inr}
use Rattle.std.specs.Prelude.{nat_lt, nat_le, ◌&&◌, ◌==◌, min}
use Rattle.std.specs.List.{prefix_len, AllByRecursion}
use Rattle.std.proofs.lemmas.Bool.{cases_Bool, cases_lt, cases_eq, false≢true}
use Rattle.std.proofs.lemmas.Bool.Decides.{nat_tests}
use Rattle.hex.specs.Hex.{encode_lower, encode_with, lower_digits, decode_of, decode_sized, IsBytes}
use Rattle.std.specs.Int.{w64, to_be_bytes, from_be_bytes}
use Rattle.std.proofs.lemmas.Nat.{be_bytes_8}
use Rattle.hex.proofs.HexLemmas.{length-encode_with, decode_of-encode_lower, decode_sized-twice}
use Rattle.ls_grammar.specs.Words.{Word, fixed, number, hex, credential, word_text, some_hex, IsOf}
use Rattle.ls_grammar.specs.Reads.{shared, Reads}
use Rattle.ls_grammar.specs.Reading.{read_hex, is_hex, hex_value, unhex}
use Rattle.ls_grammar.proofs.SharedLemmas.{HasNoSpace, shared-le, shared-same, shared-apart}
use Rattle.ls_grammar.proofs.FurthestLemmas.{furthest_at}
use Rattle.ls_grammar.proofs.SequenceLemmas.{Fits, IsLawful}

abbrev pub AreHex : List ℕ → Type 0
AreHex text = AllByRecursion (λ b. is_hex b ≡ true) text

abbrev pub AreBytes : List ℕ → Type 0
AreBytes bytes = AllByRecursion (λ b. b < 256) bytes

-- ---- digits

-- a test of each number below n
abbrev below : ℕ → (ℕ → Bool) → Bool
below zero test = true
below (suc n) test = test n && below n test

below-at : (n : ℕ) (test : ℕ → Bool) → below n test ≡ true → (k : ℕ) → k < n → test k ≡ true
below-at zero test h k lt = absurd (omega arith)
below-at (suc n) test h k lt =
    let two = both (test n) (below n test) h in
    elim (cases_eq k n) [
      | inl e ↦ subst (λ (x : ℕ). test x ≡ true) (sym e) two.0
      | inr e ↦ below-at n test two.1 k (omega arith)
    ]
  where
    both : (a b : Bool) → (a && b) ≡ true → (a ≡ true) × (b ≡ true)
    both true b e = (refl, e)
    both false b e = absurd (false≢true e)

digit_hex : (d : ℕ) → d < 16 → is_hex (get_or lower_digits d 0) ≡ true
digit_hex d lt = below-at 16 (λ d. is_hex (get_or lower_digits d 0)) refl d lt

digit_back : (d : ℕ) → d < 16 → (hex_value (get_or lower_digits d 0) == d) ≡ true
digit_back d lt = below-at 16 (λ d. hex_value (get_or lower_digits d 0) == d) refl d lt

back : (d : ℕ) → d < 16 → hex_value (get_or lower_digits d 0) ≡ d
back d lt = let h = digit_back d lt in grind (arith, nat_tests)

hex_range : (b : ℕ) → is_hex b ≡ true → b < 128
hex_range b h = grind (arith, nat_tests)

digit_own : (b : ℕ) → is_hex b ≡ true
    → (hex_value b < 16) × (get_or lower_digits (hex_value b) 0 ≡ b)
digit_own b h =
    let t = below-at 128 (λ b. cond (is_hex b) (nat_lt (hex_value b) 16 && get_or lower_digits (hex_value b) 0 == b) true) refl b (hex_range b h) in
    let k : (nat_lt (hex_value b) 16 && get_or lower_digits (hex_value b) 0 == b) ≡ true = rw h at t in
    let small : hex_value b < 16 = grind (arith, nat_tests) in
    let same : get_or lower_digits (hex_value b) 0 ≡ b = grind (arith, nat_tests) in
    (small, same)

-- ---- bytes

pub encode_hex : (bytes : List ℕ) → AreBytes bytes → AreHex (encode_lower bytes)
unfolding encode_with
encode_hex [] h = tt
encode_hex (b ∷ bytes) h = (digit_hex (b / 16) (omega arith), (digit_hex (b % 16) (omega arith), encode_hex bytes h.1))

pub unhex-encode : (bytes : List ℕ) → AreBytes bytes → unhex (encode_lower bytes) ≡ bytes
unfolding encode_with unhex
unhex-encode [] h = refl
unhex-encode (b ∷ bytes) h =
    let high = back (b / 16) (omega arith) in
    let low = back (b % 16) (omega arith) in
    let e : hex_value (get_or lower_digits (b / 16) 0) * 16 + hex_value (get_or lower_digits (b % 16) 0) ≡ b = omega arith in
    cc (e, unhex-encode bytes h.1)

pub encode-unhex : (text : List ℕ) → AreHex text → length text % 2 ≡ 0
    → (encode_lower (unhex text) ≡ text) × AreBytes (unhex text)
unfolding encode_with unhex
encode-unhex [] h even = (refl, tt)
encode-unhex (b ∷ []) h even = absurd (omega arith)
encode-unhex (b ∷ c ∷ text) h even =
    let high = digit_own b h.0 in
    let low = digit_own c h.1.0 in
    let ih = encode-unhex text h.1.1 (omega arith) in
    let q : (hex_value b * 16 + hex_value c) / 16 ≡ hex_value b = omega (arith, high.0, low.0) in
    let r : (hex_value b * 16 + hex_value c) % 16 ≡ hex_value c = omega (arith, high.0, low.0) in
    let e0 : get_or lower_digits ((hex_value b * 16 + hex_value c) / 16) 0 ≡ b = ap (λ (d : ℕ). get_or lower_digits d 0) q ∙ high.1 in
    let e1 : get_or lower_digits ((hex_value b * 16 + hex_value c) % 16) 0 ≡ c = ap (λ (d : ℕ). get_or lower_digits d 0) r ∙ low.1 in
    (cc (e0, e1, ih.0), (omega (arith, high.0, low.0), ih.1))

pub length-unhex : (text : List ℕ) → length (unhex text) ≡ length text / 2
unfolding unhex
length-unhex [] = omega arith
length-unhex (b ∷ []) = omega arith
length-unhex (b ∷ c ∷ text) = omega (arith, length-unhex text)

-- ---- how far the digits go

prefix_is_hex : (text : List ℕ) → prefix_len is_hex text ≡ length text → AreHex text
prefix_is_hex [] h = tt
prefix_is_hex (b ∷ text) h =
    elim (cases_Bool (is_hex b)) [
      | inl t ↦ (t, prefix_is_hex text (let k : prefix_len is_hex (b ∷ text) ≡ 1 + prefix_len is_hex text = rw t refl in omega arith))
      | inr f ↦ let k : prefix_len is_hex (b ∷ text) ≡ 0 = rw f refl in absurd (omega arith)
    ]

hex_is_prefix : (text : List ℕ) → AreHex text → prefix_len is_hex text ≡ length text
hex_is_prefix [] h = refl
hex_is_prefix (b ∷ text) h = let k : prefix_len is_hex (b ∷ text) ≡ 1 + prefix_len is_hex text = rw h.0 refl in omega (arith, hex_is_prefix text h.1)

shared_is_hex : (x text : List ℕ) → AreHex x → shared x text ≤ prefix_len is_hex text
shared_is_hex [] text h = omega arith
shared_is_hex (c ∷ x) [] h = omega arith
shared_is_hex (c ∷ x) (b ∷ text) h =
    elim (cases_eq c b) [
      | inl e ↦
          let t : is_hex b ≡ true = subst (λ (y : ℕ). is_hex y ≡ true) e h.0 in
          let k : prefix_len is_hex (b ∷ text) ≡ 1 + prefix_len is_hex text = rw t refl in
          subst (λ (y : ℕ). shared (y ∷ x) (b ∷ text) ≤ prefix_len is_hex (b ∷ text)) (sym e) (omega (arith, shared-same b x text, shared_is_hex x text h.1))
      | inr e ↦ omega (arith, shared-apart c b x text e)
    ]

-- hex digits that go along for n bytes, and then zeros, of the length that is asked
with_zeros : (n more : ℕ) (text : List ℕ) → n ≤ prefix_len is_hex text
    → (x : List ℕ) × AreHex x × (length x ≡ n + more) × (n ≤ shared x text)
with_zeros zero zero text h = ([], tt, refl, omega arith)
with_zeros zero (suc more) text h =
    let x = with_zeros 0 more [] (omega arith) in
    (48 ∷ x.0, (refl, x.1), omega (arith, x.2), omega arith)
with_zeros (suc n) more [] h = absurd (omega arith)
with_zeros (suc n) more (b ∷ text) h =
    elim (cases_Bool (is_hex b)) [
      | inl t ↦
          let k : prefix_len is_hex (b ∷ text) ≡ 1 + prefix_len is_hex text = rw t refl in
          let x = with_zeros n more text (omega arith) in
          (b ∷ x.0, (t, x.1), omega (arith, x.2), omega (arith, shared-same b x.0 text, x.3))
      | inr f ↦ let k : prefix_len is_hex (b ∷ text) ≡ 0 = rw f refl in absurd (omega arith)
    ]

-- hex digits are what the hex of their bytes is, so they decode to these
pub decode_digits : (text : List ℕ) → prefix_len is_hex text ≡ length text → length text % 2 ≡ 0
    → (decode_of text ≡ Ok (unhex text)) × IsBytes (unhex text)
decode_digits text all even =
    let e = encode-unhex text (prefix_is_hex text all) even in
    let are = bytes_at (unhex text) e.1 in
    (ap decode_of (sym e.0) ∙ decode_of-encode_lower (unhex text) are, are)
  where
    bytes_at : (bytes : List ℕ) → AreBytes bytes → IsBytes bytes
    bytes_at [] h i = omega arith
    bytes_at (b ∷ bytes) h zero = h.0
    bytes_at (b ∷ bytes) h (suc i) = bytes_at bytes h.1 i

pub sized_digits : (text : List ℕ) → length text ≡ 16 → prefix_len is_hex text ≡ length text
    → length text % 2 ≡ 0 → decode_sized text 8 ≡ Ok (unhex text)
sized_digits text sixteen all even = decode_sized-twice text 8 sixteen ∙ (decode_digits text all even).0

-- and to the number of which these are the bytes
pub number_of_digits : (text out : List ℕ) (n : ℕ) → length text ≡ 16
    → prefix_len is_hex text ≡ length text → length text % 2 ≡ 0
    → out ≡ unhex text → n ≡ from_be_bytes w64 out → to_be_bytes w64 n ≡ unhex text
number_of_digits text out n sixteen all even same is =
    be_bytes_8 (unhex text) n (omega (arith, length-unhex text)) (decode_digits text all even).1 (is ∙ ap (from_be_bytes w64) same)

-- ---- the words

no_others : (low high : ℕ) (P : Word → Type 0)
    → ((bytes : List ℕ) → low ≤ length bytes → length bytes ≤ high → AreBytes bytes → P (hex bytes))
    → (w : Word) → IsOf (some_hex low high) w → P w
no_others low high P h (fixed y) g = absurd g
no_others low high P h (number m) g = absurd g
no_others low high P h (hex bytes) g = h bytes g.0 g.1 g.2
no_others low high P h (credential kind y) g = absurd g

len : (bytes : List ℕ) → length (encode_lower bytes) ≡ 2 * length bytes
len bytes = length-encode_with lower_digits bytes

abbrev passes : ℕ → ℕ → List ℕ → Bool
passes low high text = prefix_len is_hex text == length text && length text % 2 == 0 && nat_le (2 * low) (length text) && nat_le (length text) (2 * high)

passes_true : (low high a b : ℕ)
    → (a == b && b % 2 == 0 && nat_le (2 * low) b && nat_le b (2 * high)) ≡ true
    → (a ≡ b) × (b % 2 ≡ 0) × (2 * low ≤ b) × (b ≤ 2 * high)
passes_true low high a b h = grind (arith, nat_tests)

passes_holds : (low high a b : ℕ) → a ≡ b → b % 2 ≡ 0 → 2 * low ≤ b → b ≤ 2 * high
    → (a == b && b % 2 == 0 && nat_le (2 * low) b && nat_le b (2 * high)) ≡ true
passes_holds low high a b e even l h = grind (arith, nat_tests)

hex_found : (low high room : ℕ) (text : List ℕ) → 2 * high ≤ room → AreHex text
    → length text % 2 ≡ 0 → 2 * low ≤ length text → length text ≤ 2 * high
    → Reads (Fits (some_hex low high) room) word_text text (Ok (hex (unhex text)))
hex_found low high room text fits all even l h =
    let e = encode-unhex text all even in
    let n = length-unhex text in (
      ((omega arith, omega arith, e.1), omega (arith, ap length e.0)),
      e.0,
      λ w g k. no_others low high (λ w. word_text w ≡ text → w ≡ hex (unhex text))
          (λ bytes bl bh are j. ap hex (sym (unhex-encode bytes are) ∙ ap unhex j)) w g.0 k,
    )

hex_furthest : (low high room : ℕ) (text : List ℕ) (w : Word) → Fits (some_hex low high) room w
    → shared (word_text w) text ≤ min (prefix_len is_hex text) (2 * high)
hex_furthest low high room text w g =
    no_others low high (λ w. shared (word_text w) text ≤ min (prefix_len is_hex text) (2 * high))
    (λ bytes bl bh are. omega (arith, len bytes, shared-le (encode_lower bytes) text, shared_is_hex (encode_lower bytes) text (encode_hex bytes are))) w g.0

-- so many zeros make a text of whole bytes, and not too short
zeros : (low high n : ℕ) → low ≤ high → n ≤ 2 * high
    → (more : ℕ) × ((n + more) % 2 ≡ 0) × (2 * low ≤ n + more) × (n + more ≤ 2 * high)
zeros low high n le fits =
    elim (cases_lt n (2 * low)) [
      | inl lt ↦ (2 * low - n, omega arith, omega arith, omega arith)
      | inr ge ↦ (n % 2, omega arith, omega arith, omega arith)
    ]

hex_stops : (low high room : ℕ) (text : List ℕ) → low ≤ high → 2 * high ≤ room
    → passes low high text ≡ false
    → Reads (Fits (some_hex low high) room) word_text text (Err (min (prefix_len is_hex text) (2 * high)))
hex_stops low high room text le fits f =
    let n = min (prefix_len is_hex text) (2 * high) in
    let more = zeros low high n le (omega arith) in
    let x = with_zeros n more.0 text (omega arith) in
    let e = encode-unhex x.0 x.1 (omega (arith, x.2, more.1)) in
    let l = length-unhex x.0 in (
      furthest_at (Fits (some_hex low high) room) word_text text n (hex (unhex x.0))
          ((omega (arith, x.2, more), omega (arith, x.2, more), e.1), omega (arith, ap length e.0, x.2, more))
          (subst (λ (y : List ℕ). n ≤ shared y text) (sym e.0) x.3)
          (hex_furthest low high room text),
      λ w g k. no_others low high (λ w. ¬ (word_text w ≡ text))
          (λ bytes bl bh are j. false≢true (sym f ∙ passes_holds low high (prefix_len is_hex text) (length text)
          (hex_is_prefix text (subst AreHex j (encode_hex bytes are))) (omega (arith, ap length j, len bytes)) (omega (arith, ap length j, len bytes)) (omega (arith, ap length j, len bytes))))
          w g.0 k,
    )

hex_reads : (low high room : ℕ) (text : List ℕ) → low ≤ high → 2 * high ≤ room
    → Reads (Fits (some_hex low high) room) word_text text (read_hex low high text)
unfolding read_hex
hex_reads low high room text le fits =
    elim (cases_Bool (passes low high text)) [
      | inl t ↦
          let p = passes_true low high (prefix_len is_hex text) (length text) t in
          rw t (hex_found low high room text fits (prefix_is_hex text p.0) p.1 p.2 p.3)
      | inr f ↦ rw f (hex_stops low high room text le fits f)
    ]

no_space_in_hex : (text : List ℕ) → AreHex text → HasNoSpace text
no_space_in_hex [] h = tt
no_space_in_hex (b ∷ text) h =
    (λ e. let k : is_hex 32 ≡ true = subst (λ (x : ℕ). is_hex x ≡ true) e h.0 in absurd (false≢true k), no_space_in_hex text h.1)

null_bytes : (n : ℕ) → (bytes : List ℕ) × AreBytes bytes × (length bytes ≡ n)
null_bytes zero = ([], tt, refl)
null_bytes (suc n) = let b = null_bytes n in (0 ∷ b.0, (omega arith, b.1), ap suc b.2)

pub hex_lawful : (low high : ℕ) → low ≤ high → IsLawful (some_hex low high)
hex_lawful low high le =
    let s = null_bytes low in
    record {
      reads = λ room text fits. hex_reads low high room text le fits;
      no_space = no_others low high (λ w. HasNoSpace (word_text w)) (λ bytes l h are. no_space_in_hex (encode_lower bytes) (encode_hex bytes are));
      shortest = hex s.0;
      shortest_is = (omega (arith, s.2), omega (arith, s.2), s.1);
      shortest_len = omega (arith, len s.0, s.2);
      at_least = no_others low high (λ w. 2 * low ≤ length (word_text w)) (λ bytes l h are. omega (arith, len bytes));
      at_most = λ room w g. no_others low high (λ w. length (word_text w) ≤ 2 * high) (λ bytes l h are. omega (arith, len bytes)) w g.0;
      least_room = omega arith;
    }
