-- The actions that write a protector one after another, as the code pushes them.
use Rattle.std.specs.Prelude.{◌++◌, ◌∷◌, ℕ, Bool, List, [], Option, None, Some}
use Rattle.ls_formats.specs.declared.part.FilePart.{FilePart}
use Rattle.ls_formats.specs.declared.part.FilePart.TheVariants.{Secdis, Weaver}
use Rattle.ls_formats.specs.Contents.{slot_bytes}
use Rattle.ls_formats.specs.PartNames.{part_name_text}
use Rattle.ls_naming.specs.Named.{only_if}
use Rattle.ls_board.specs.declared.action.Action.{Action}
use Rattle.ls_board.specs.declared.action.Action.TheVariants.{Put, GkEnroll, KeyPut}
use Rattle.ls_sealing.specs.Building.{slot_writes}

-- the file of a part is put
abbrev pub part_put : ℕ → ℕ → FilePart → List ℕ → Action
part_put user id part bytes =
    Put (part_name_text (record { user = user; id = id; part = part })) bytes

-- the devices come first: the key store, the Gatekeeper, Weaver
abbrev pub device_writes : ℕ → Bool → Option ℕ → List ℕ → List ℕ → List ℕ → List Action
device_writes id enrolled slot key slot_key value =
    KeyPut id key ∷ (only_if enrolled (GkEnroll id ∷ []) ++ slot_writes slot slot_key value)

-- the file of a credential's share: that of the slot, or without Weaver the discardable bytes
abbrev pub share_put : ℕ → ℕ → Option ℕ → List ℕ → Action
share_put user id None discardable = part_put user id Secdis discardable
share_put user id (Some slot) discardable =
    part_put user id Weaver (slot_bytes (record { slot = slot }))

-- the file that names the slot, where there is one
abbrev pub slot_put : ℕ → ℕ → Option ℕ → List Action
slot_put user id None = []
slot_put user id (Some slot) =
    part_put user id Weaver (slot_bytes (record { slot = slot })) ∷ []
