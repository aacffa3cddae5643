-- The first fault of bytes that are to be a blob.
use Rattle.std.specs.Prelude.{◌+◌, ◌||◌, ◌==◌, ℕ, nat_lt, List, [], ◌∷◌, length, Option, Some, None, if◌then◌else◌}
use Rattle.ls_blob.specs.declared.fault.BlobFault.{BlobFault}
use Rattle.ls_blob.specs.declared.fault.BlobFault.TheVariants.{Short, Version, Kind, Extra, Memory}

-- bytes of n in all, where size are wanted
abbrev pub size_fault : ℕ → ℕ → Option BlobFault
size_fault n size =
    if nat_lt n size then Some (Short n)
    else if nat_lt size n then Some (Extra size)
    else None

-- behind the byte of the version: the byte k of the kind, and n bytes in all
abbrev pub kind_fault : ℕ → ℕ → Option BlobFault
kind_fault k n =
    if k == 0x00 then size_fault n 186
    else if k == 0x01 then size_fault n 90
    else Some (Kind k)

-- fewer than two bytes are short, whatever they are; then come the version, the kind and the size
abbrev pub first_fault : List ℕ → Option BlobFault
first_fault [] = Some (Short 0)
first_fault (version ∷ []) = Some (Short 1)
first_fault (version ∷ kind ∷ content) =
    if (version == 2) || (version == 3) then kind_fault kind (2 + length content)
    else Some (Version version)

-- the place of a fault, from 0
abbrev pub blob_place : BlobFault → ℕ
blob_place (Short at) = at
blob_place (Version version) = 0
blob_place (Kind kind) = 1
blob_place (Extra at) = at
blob_place Memory = 0
