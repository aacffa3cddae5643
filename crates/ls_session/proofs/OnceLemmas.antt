-- Each protector that a record names is kept once, and no slot of two.
use Rattle.std.proofs.Common.{◌≡◌, ◌≢◌, ℕ, List, [], ◌∷◌, Some, None, sym, ◌∙◌, ap, subst}
use Rattle.std.specs.Prelude.{map}
use Rattle.std.specs.List.{AllByRecursion, AllZip}
use Rattle.ls_board.specs.declared.world.World.{World}
use Rattle.ls_formats.specs.declared.parts.Parts.{Parts}
use Rattle.ls_record.specs.Rows.{Rec, IsBefore, IsRecord, Pairs}
use Rattle.ls_sealing.specs.Protectors.{Protector}
use Rattle.ls_standing.specs.NamedProtectors.{row_protectors, named_protectors}
use Rattle.ls_standing.specs.Opening.{first_foreign}
use Rattle.ls_standing.proofs.IdLemmas.{OtherId, ids_of_row, ids_of_rows}
use Rattle.ls_standing.proofs.PairLemmas.{pairs_flat, pairs_map, pairs_weaker}
use Rattle.ls_standing.proofs.ProtectorLemmas.{one_id}
use Rattle.ls_turn.specs.Agreeing.{parts_in}
use Rattle.ls_turn.specs.Serving.{IsKeptAs, KeepOnce, KeepApart}

-- no two protectors of a record have one id
ids_apart : (r : Rec) → IsRecord r → Pairs OtherId (named_protectors r)
ids_apart r is = pairs_flat OtherId row_protectors IsBefore r.users is.pairs (ids_of_row r is) (ids_of_rows r is)

-- ---- by place

module _ (slots : ℕ) where
  id_kept : (p : Protector) (q : Parts) → IsKeptAs slots p q → q.id ≡ p.id
  id_kept p q kept = ap (λ (x : Parts). x.id) kept.2

  all_other : (p : Protector) (q : Parts) → IsKeptAs slots p q → (protectors : List Protector) (parts : List Parts) → AllZip (IsKeptAs slots) protectors parts
      → AllByRecursion (OtherId p) protectors → AllByRecursion (λ (s : Parts). q.id ≢ s.id) parts
  all_other p q kept [] [] zip each = tt
  all_other p q kept [] (y ∷ parts) zip each = absurd zip
  all_other p q kept (x ∷ protectors) [] zip each = absurd zip
  all_other p q kept (x ∷ protectors) (y ∷ parts) zip each = (
    λ same. each.0 (sym (id_kept p q kept) ∙ same ∙ id_kept x y zip.0),
    all_other p q kept protectors parts zip.1 each.1,
  )

  zip_once : (protectors : List Protector) (parts : List Parts) → AllZip (IsKeptAs slots) protectors parts → Pairs OtherId protectors → KeepOnce parts
  zip_once [] [] zip apart = tt
  zip_once [] (y ∷ parts) zip apart = absurd zip
  zip_once (x ∷ protectors) [] zip apart = absurd zip
  zip_once (x ∷ protectors) (y ∷ parts) zip apart = (all_other x y zip.0 protectors parts zip.1 apart.0, zip_once protectors parts zip.1 apart.1)

-- ---- of a record

-- so each is kept once
pub kept_once : (slots : ℕ) (r : Rec) → IsRecord r → (parts : List Parts) → AllZip (IsKeptAs slots) (named_protectors r) parts → KeepOnce parts
kept_once slots r is parts zip = zip_once slots (named_protectors r) parts zip (ids_apart r is)

-- these have not one slot
abbrev OtherSlot : Parts → Parts → Type 0
OtherSlot p q = (n : ℕ) → p.slot ≡ Some n → q.slot ≢ Some n

-- and no slot of two, where no file is at fault
pub kept_apart : (w : World) (r : Rec) → IsRecord r → first_foreign w r ≡ None → (parts : List Parts) → parts ≡ map (parts_in w) (named_protectors r) → KeepApart parts
kept_apart w r is fine parts found =
    subst KeepApart (sym found)
    (pairs_map OtherSlot (parts_in w) (named_protectors r)
    (pairs_weaker OtherId (λ p q. OtherSlot (parts_in w p) (parts_in w q)) (named_protectors r)
    (λ p q hp hq other n np nq. other (one_id w r fine p q n hp hq np nq)) (ids_apart r is)))
