-- Names of files.
use Rattle.std.specs.Prelude.{◌≤◌, ◌==◌, ◌&&◌, ◌||◌, ℕ, nat_le, nat_lt, if◌then◌else◌, Bool, not, List, length, Option, Some, None}
use Rattle.std.specs.List.{AllPass, prefix_len}
use Rattle.ls_bytes.specs.declared.name.NameFault.{NameFault}
use Rattle.ls_bytes.specs.declared.name.NameFault.TheVariants.{Length, Byte}

-- a printable byte of ASCII that is no space and no slash
abbrev pub is_name_byte : ℕ → Bool
is_name_byte b = nat_le 0x21 b && nat_le b 0x7e && not (b == 0x2f)

-- 1 to 64 such bytes
pub record IsName (text : List ℕ) : Type 0 where
  pub some : 1 ≤ length text
  pub most : length text ≤ 64
  pub each : AllPass is_name_byte text

-- why bytes are no name: their length, or else the first byte that can't stand in one
abbrev pub name_fault : List ℕ → Option NameFault
name_fault text =
    if (length text == 0) || nat_lt 64 (length text) then Some Length
    else if nat_lt (prefix_len is_name_byte text) (length text) then Some (Byte (prefix_len is_name_byte text))
    else None
