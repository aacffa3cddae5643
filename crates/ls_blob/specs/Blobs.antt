-- A blob, and the bytes that spell it.
use Rattle.std.specs.Prelude.{◌≡◌, ◌⊎◌, ◌∷◌, ℕ, List, length}
use Rattle.ls_blob.specs.declared.kind.BlobKind.{BlobKind}
use Rattle.ls_blob.specs.Kinds.{kind_byte, content_size}

-- a version, a kind and a content, which is sealed
pub record Blob : Type 0 where
  pub version : ℕ
  pub kind : BlobKind
  pub content : List ℕ

-- bytes spell a blob: a byte of version 2 or 3, a byte of the kind, and a content of the kind's
-- size
pub record Spells (blob : Blob) (bytes : List ℕ) : Type 0 where
  pub version : (blob.version ≡ 2) ⊎ (blob.version ≡ 3)
  pub size : length blob.content ≡ content_size blob.kind
  pub spelling : bytes ≡ blob.version ∷ kind_byte blob.kind ∷ blob.content
