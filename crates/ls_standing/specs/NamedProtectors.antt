-- Which protectors a record names.
use Rattle.std.specs.Prelude.{◌≡◌, ◌≢◌, ℕ, List, ◌∷◌, map, Option, Some}
use Rattle.std.specs.List.{flat_map, Contains}
use Rattle.ls_record.specs.declared.row.UserRow.{UserRow}
use Rattle.ls_record.specs.Rows.{Rec}
use Rattle.ls_board.specs.declared.world.World.{World}
use Rattle.ls_sealing.specs.Protectors.{Protector, held_number}
use Rattle.ls_standing.specs.Named.{credential_of, token_of}

-- the protector of the credential, and those of the tokens in order
abbrev pub row_protectors : UserRow → List Protector
row_protectors row = credential_of row ∷ map (token_of row) row.tokens

abbrev pub named_protectors : Rec → List Protector
named_protectors r = flat_map row_protectors r.users

abbrev pub NamesProtector : Rec → Protector → Type 0
NamesProtector r p = Contains (named_protectors r) p

-- the protector has another id than this one, and not this slot
pub record IsElsewhere (w : World) (id : ℕ) (slot : Option ℕ) (q : Protector) : Type 0 where
  pub id_apart : q.id ≢ id
  pub slot_apart : (n : ℕ) → held_number w q ≡ Some n → slot ≢ Some n
