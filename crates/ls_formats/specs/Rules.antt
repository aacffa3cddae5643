-- Fields of a fixed width, and which bytes may stand in them.
use Rattle.std.specs.Prelude.{ℕ, zero, suc, ◌==◌, ◌&&◌, ◌||◌, nat_le, nat_lt, Bool, List, [], ◌∷◌, sum_by, ◌+◌, Option}
use Rattle.std.specs.Option.{option_map}
use Rattle.ls_formats.specs.declared.field.Rule.{Rule}
use Rattle.ls_formats.specs.declared.field.Rule.TheVariants.{Any, Between, StoredKind, HexDigit}
use Rattle.ls_formats.specs.declared.field.Field.{Field}
use Rattle.ls_formats.specs.Format.{Format, ended, byte}

-- the rule lets the byte stand
abbrev pub passes : Rule → ℕ → Bool
passes Any b = nat_lt b 256
passes (Between low high) b = nat_le low b && nat_le b high
-- the number of a kind other than none
passes StoredKind b = (b == 1) || ((b == 3) || (b == 4))
-- `0` to `9` and `a` to `f`
passes HexDigit b = (nat_le 0x30 b && nat_le b 0x39) || (nat_le 0x61 b && nat_le b 0x66)

-- so many bytes that the rule lets stand, and then what may follow these
unfoldable pub field_then : ℕ → Rule → (List ℕ → Format) → Format
field_then zero rule next = next []
field_then (suc n) rule next = byte (passes rule) (λ b. field_then n rule (λ bytes. next (b ∷ bytes)))

-- a place in the bytes behind a front, seen from its beginning
abbrev pub behind : ℕ → Option ℕ → Option ℕ
behind front at = option_map (λ k. front + k) at

-- fields one after another, and then nothing more
abbrev pub row : List Field → Format
row [] = ended
row (f ∷ fields) = field_then f.width f.rule (λ bytes. row fields)

-- the bytes of all the fields
abbrev pub width_of : List Field → ℕ
width_of fields = sum_by (λ f. f.width) fields
