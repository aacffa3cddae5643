-- The bytes by which a board gives its names and numbers.
use Rattle.std.specs.Prelude.{◌≡◌, ◌<◌, ◌^◌, ℕ, List, [], ◌∷◌, ◌++◌, map}
use Rattle.std.specs.Ordering.{nat_cmp}
use Rattle.std.specs.List.{AllByRecursion, flat_map}
use Rattle.ls_bytes.specs.Fields.{be64}
use Rattle.ls_bytes.specs.Names.{IsName}
use Rattle.ls_board.specs.Order.{byte_cmp, IsAscending}

-- a name, ended by a line feed
abbrev pub line_of : List ℕ → List ℕ
line_of name = name ++ 10 ∷ []

-- the names of these files, each ended
abbrev pub listing : List (List ℕ × List ℕ) → List ℕ
listing files = flat_map (λ file. line_of file.0) files

-- the numbers of these rows, each in eight bytes
abbrev pub key_fields : {X : Type 0} → List (ℕ × X) → List ℕ
key_fields rows = flat_map (λ row. be64 row.0) rows

-- names in their order, each ended
pub record IsListing (bytes : List ℕ) : Type 0 where
  pub names : List (List ℕ)
  pub each : AllByRecursion IsName names
  pub ascending : IsAscending byte_cmp names
  pub is : bytes ≡ flat_map line_of names

-- numbers of 64 bits in their order, each in eight bytes
pub record IsFields (bytes : List ℕ) : Type 0 where
  pub numbers : List ℕ
  pub each : AllByRecursion (λ number. number < 2 ^ 64) numbers
  pub ascending : IsAscending nat_cmp numbers
  pub is : bytes ≡ flat_map be64 numbers

-- the listing of these files, each of which has a name
pub record IsListingOf (files : List (List ℕ × List ℕ)) (out : List ℕ) : Type 0 where
  pub is : out ≡ listing files
  pub each : AllByRecursion IsName (map (λ file. file.0) files)

-- the numbers of these rows, each of 64 bits
pub record AreFieldsOf {X : Type 0} (rows : List (ℕ × X)) (out : List ℕ) : Type 0 where
  pub is : out ≡ key_fields rows
  pub each : AllByRecursion (λ number. number < 2 ^ 64) (map (λ row. row.0) rows)
