-- What a contract sees of a blob in the code.
use Rattle.ls_blob.specs.declared.sp_blob.SpBlob.{SpBlob}
use Rattle.ls_blob.specs.declared.parsing.Parts.{Parts}
use Rattle.ls_blob.specs.Blobs.{Blob}

-- its fields
abbrev pub blob_of : SpBlob → Blob
blob_of b = record { version = b.version; kind = b.kind; content = b.content }

-- the blob of parts whose content is only looked at
abbrev pub blob_in : Parts → Blob
blob_in p = record { version = p.version; kind = p.kind; content = p.content.now }
