-- The kinds of blobs.
use Rattle.std.specs.Prelude.{◌==◌, ℕ, Option, Some, None, if◌then◌else◌}
use Rattle.ls_blob.specs.declared.kind.BlobKind.{BlobKind}
use Rattle.ls_blob.specs.declared.kind.BlobKind.TheVariants.{Credential, StrongToken}

-- the byte of a kind
abbrev pub kind_byte : BlobKind → ℕ
kind_byte Credential = 0x00
kind_byte StrongToken = 0x01

-- how many bytes a sealed synthetic password has, and a sealed half of what one is made of: 128 and
-- 32 bytes in two layers that add 28 each
abbrev pub content_size : BlobKind → ℕ
content_size Credential = 184
content_size StrongToken = 88

-- the kind of a byte
abbrev pub kind_of : ℕ → Option BlobKind
kind_of byte =
    if byte == 0x00 then Some Credential
    else if byte == 0x01 then Some StrongToken
    else None
