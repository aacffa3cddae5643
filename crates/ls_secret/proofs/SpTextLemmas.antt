-- The hex text of a hash is a synthetic password.
use Rattle.std.proofs.Common.{◌≡◌, ◌<◌, ◌&&◌, ◌/◌, ◌%◌, ◌==◌, ℕ, suc, Bool, true, List, [], ◌∷◌, length, get_or, slice_index, refl, arith, eq-eqb}
use Rattle.std.specs.List.{list_all}
use Rattle.std.proofs.lemmas.List.Sums.{AllPass-from_list_all}
use Rattle.hex.specs.Hex.{encode_upper, encode_with, upper_digits}
use Rattle.hex.proofs.HexLemmas.{length-encode_with}
use Rattle.ls_secret.specs.Secrets.{is_upper_digit, is_sp_text}

both_true : (a b : Bool) → a ≡ true → b ≡ true → (a && b) ≡ true
both_true a b ea eb = rw (ea, eb) refl

digit_at : (d : ℕ) → d < 16 → is_upper_digit (slice_index upper_digits d) ≡ true
digit_at d lt = AllPass-from_list_all is_upper_digit upper_digits refl d 0 lt

-- each byte gives two digits
all_digits : (bytes : List ℕ) → ((i : ℕ) → get_or bytes i 0 < 256) → list_all is_upper_digit (encode_upper bytes) ≡ true
unfolding encode_with
all_digits [] small = refl
all_digits (b ∷ bytes) small =
    let byte : b < 256 = small 0 in
    both_true (is_upper_digit (slice_index upper_digits (b / 16))) _ (digit_at (b / 16) (omega arith))
    (both_true (is_upper_digit (slice_index upper_digits (b % 16))) _ (digit_at (b % 16) (omega arith))
    (all_digits bytes (λ i. small (suc i))))

-- 64 bytes give 128
pub sp_text_is : (hash text : List ℕ) → length hash ≡ 64 → ((i : ℕ) → get_or hash i 0 < 256) → text ≡ encode_upper hash
    → is_sp_text text ≡ true
sp_text_is hash text long small e =
    let size : length (encode_upper hash) ≡ 128 = omega (arith, length-encode_with upper_digits hash) in
    rw e (both_true (length (encode_upper hash) == 128) _ (eq-eqb (length (encode_upper hash)) 128 size) (all_digits hash small))
