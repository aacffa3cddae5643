-- What contracts see of a derived key: its bytes.
use Rattle.std.specs.Prelude.{ℕ, List}
use Rattle.ls_secret.specs.declared.subkey.Subkey.{Subkey}
use Rattle.ls_secret.specs.declared.subkey.Subkey.TheVariants.{Short, Long}

-- the bytes of a key
abbrev pub subkey_bytes : Subkey → List ℕ
subkey_bytes (Short bytes) = bytes
subkey_bytes (Long bytes) = bytes

-- how many they are
abbrev pub subkey_size : Subkey → ℕ
subkey_size (Short _) = 32
subkey_size (Long _) = 64
