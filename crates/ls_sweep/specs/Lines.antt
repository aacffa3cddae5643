-- Lines of names.
use Rattle.std.specs.Prelude.{◌≡◌, ◌==◌, ◌++◌, ℕ, not, List}
use Rattle.std.specs.List.{AllByRecursion, flat_map, prefix_len}
use Rattle.ls_bytes.specs.Names.{IsName}
use Rattle.ls_board.specs.Listing.{line_of}

-- how many bytes stand before the first line feed
abbrev pub up_to_feed : List ℕ → ℕ
up_to_feed bytes = prefix_len (λ b. not (b == 10)) bytes

-- names, each ended by a line feed, in any order
pub record AreLines (bytes : List ℕ) : Type 0 where
  pub names : List (List ℕ)
  pub each : AllByRecursion IsName names
  pub is : bytes ≡ flat_map line_of names

-- the bytes are the line of this name, and lines behind it
pub record BeginsWith (bytes line behind : List ℕ) : Type 0 where
  pub is : bytes ≡ line_of line ++ behind
  pub name : IsName line
  pub lines : AreLines behind
