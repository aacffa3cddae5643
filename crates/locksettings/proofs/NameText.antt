-- The bytes of a name are a text.
use Rattle.std.specs.Prelude.{◌≡◌, ◌<◌, ℕ, true, List, [], ◌∷◌}
use Rattle.std.specs.List.{AllPass}
use Rattle.std.specs.Str.{IsAscii, IsUtf8}
use Rattle.std.proofs.Common.{arith, zero, suc}
use Rattle.std.proofs.lemmas.Bool.Decides.{nat_tests}
use Rattle.std.proofs.lemmas.Str.{IsUtf8-from_ascii}
use Rattle.ls_bytes.specs.Names.{is_name_byte, IsName}

below_128 : (b : ℕ) → is_name_byte b ≡ true → b < 128
below_128 b passes = grind (arith, nat_tests)

is_ascii : (text : List ℕ) → AllPass is_name_byte text → IsAscii text
is_ascii [] each i = omega arith
is_ascii (b ∷ text) each zero = below_128 b (each zero 0 (omega arith))
is_ascii (b ∷ text) each (suc i) = is_ascii text (λ k d lt. each (suc k) d (omega arith)) i

pub is_utf8 : (text name : List ℕ) → text ≡ name → IsName name → IsUtf8 text
is_utf8 text name same is_name = rw same (IsUtf8-from_ascii name (is_ascii name is_name.each))
