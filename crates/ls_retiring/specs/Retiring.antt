-- Protectors that were built and are taken away, and the files of users themselves.
use Rattle.std.specs.Prelude.{ℕ, List, map, Option, None, Some, is_some}
use Rattle.std.specs.List.{flat_map}
use Rattle.ls_credential.specs.declared.kind.Kind.{Kind}
use Rattle.ls_formats.specs.declared.part.FilePart.{FilePart}
use Rattle.ls_formats.specs.PartNames.{part_name_text}
use Rattle.ls_board.specs.declared.action.Action.{Action}
use Rattle.ls_board.specs.declared.action.Action.TheVariants.{Put, Remove}
use Rattle.ls_sealing.specs.Protectors.{Purpose, credential, token, Protector, parts_for, file_name}
use Rattle.ls_sealing.specs.Building.{erasing_actions, removes}
use Rattle.ls_retiring.specs.declared.built.Built.{Built}

-- ---- protectors

-- a protector is that of a credential of this kind, or of a token
abbrev pub purpose_of : Option Kind → Purpose
purpose_of None = token
purpose_of (Some kind) = credential kind

abbrev pub protector_of : Built → Protector
protector_of b = record { user = b.place.user; id = b.place.id; purpose = purpose_of b.kind }

-- its slot is blanked, its key is dropped, and its Gatekeeper record is forgotten
abbrev pub erasing_of : Built → List Action
erasing_of b = erasing_actions (protector_of b) b.place.slot

-- and so for all of these, one after the other
abbrev pub erasing_all : List Built → List Action
erasing_all all = flat_map erasing_of all

-- each of its files is removed, in their order
abbrev pub removing_of : Built → List Action
removing_of b = removes (protector_of b) (parts_for (is_some b.place.slot) (purpose_of b.kind))

-- the names of its files
abbrev pub file_names : Built → List (List ℕ)
file_names b = map (file_name (protector_of b)) (parts_for (is_some b.place.slot) (purpose_of b.kind))

-- ---- files of a user itself

-- the name of such a file, which has the id 0
abbrev pub own_name : ℕ → FilePart → List ℕ
own_name user part = part_name_text (record { user = user; id = 0; part = part })

abbrev pub own_put : ℕ → FilePart → List ℕ → Action
own_put user part bytes = Put (own_name user part) bytes

abbrev pub own_removes : ℕ → List FilePart → List Action
own_removes user parts = map (λ part. Remove (own_name user part)) parts
