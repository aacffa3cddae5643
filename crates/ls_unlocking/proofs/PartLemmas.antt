-- The parts that a session keeps of a protector, in every world.
use Rattle.std.proofs.Common.{◌≡◌, ◌≢◌, ◌<◌, ◌⊎◌, inl, inr, ℕ, map, Option, None, Some, sym, ap, subst}
use Rattle.std.specs.Prelude.{IfSome}
use Rattle.std.specs.List.{Contains}
use Rattle.ls_board.specs.declared.world.World.{World}
use Rattle.ls_board.specs.Acts.{Sight}
use Rattle.ls_formats.specs.declared.parts.Parts.{Parts}
use Rattle.ls_record.specs.declared.row.UserRow.{UserRow}
use Rattle.ls_record.specs.Rows.{Rec, IsRecord, has}
use Rattle.ls_sealing.specs.Protectors.{Protector}
use Rattle.ls_standing.specs.Named.{credential_of, token_of}
use Rattle.ls_standing.specs.NamedProtectors.{row_protectors, NamesProtector}
use Rattle.ls_standing.proofs.ContainsLemmas.{at_first, behind_first, in_map, in_flat}
use Rattle.ls_standing.proofs.PairLemmas.{pair_cases}
use Rattle.ls_standing.proofs.ProtectorLemmas.{numbers}
use Rattle.ls_turn.specs.declared.session.Session.{Session}
use Rattle.ls_turn.specs.Agreeing.{Agrees, parts_in}
use Rattle.ls_turn.specs.Serving.{CanServe, FitsBoard}

module _ (r : Rec) (row : UserRow) (here : Contains r.users row) where
  pub credential_named : NamesProtector r (credential_of row)
  credential_named = in_flat row_protectors r.users row (credential_of row) here (at_first (credential_of row) (map (token_of row) row.tokens))

  pub token_named : (id : ℕ) → Contains row.tokens id → NamesProtector r (token_of row id)
  token_named id has = in_flat row_protectors r.users row (token_of row id) here
      (behind_first (credential_of row) (map (token_of row) row.tokens) (token_of row id) (in_map (token_of row) row.tokens id has))

-- a slot that fits a board is one of its slots
fits : (slots : ℕ) (slot : Option ℕ) → FitsBoard slots slot → IfSome slot (λ n. n < slots)
fits slots None is = tt
fits slots (Some n) is = is

module _ (b : Sight) (x : Session) (can : CanServe b x) (is : IsRecord x.settings.settled.rec) where
  module _ (p : Protector) (is_named : NamesProtector x.settings.settled.rec p) where
    -- its parts are kept
    pub there : (q : Parts) × Contains x.named.items q × (q.id ≡ p.id)
    there = let kept = can.each p is_named in (kept.0, kept.1, ap (λ (q : Parts). q.id) kept.2.2)

    pub some_id : (q : Parts) → q.id ≡ p.id → 0 < q.id
    some_id q same = subst (λ (n : ℕ). 0 < n) (sym same) (numbers x.settings.settled.rec is p is_named).some

  -- its slot is one of the board's
  pub its_slot : (q : Parts) → Contains x.named.items q → IfSome q.slot (λ n. n < b.slots)
  its_slot q has =
      let kept = can.only q has in
      subst (λ (n : ℕ). IfSome q.slot (λ m. m < n)) can.slots
      (subst (λ (o : Option ℕ). IfSome o (λ m. m < x.slots)) (sym (ap (λ (q : Parts). q.slot) kept.2.2)) (fits x.slots kept.2.0 kept.2.1))

-- parts of one id are the same
pub same_parts : (b : Sight) (x : Session) → CanServe b x → (p q : Parts) → Contains x.named.items p → Contains x.named.items q → p.id ≡ q.id → p ≡ q
same_parts b x can p q has_p has_q same = by (pair_cases (λ p q. p.id ≢ q.id) x.named.items can.once p q has_p has_q)
  where
    by : (p ≡ q) ⊎ ((p.id ≢ q.id) ⊎ (q.id ≢ p.id)) → p ≡ q
    by (inl e) = e
    by (inr (inl apart)) = absurd (apart same)
    by (inr (inr apart)) = absurd (apart (sym same))

-- and in a world in which the session agrees they are those that it has
pub parts_are : (b : Sight) (x : Session) → CanServe b x → (w : World) (s : _) → Agrees w x s → (p : Protector) → NamesProtector x.settings.settled.rec p
    → (q : Parts) → Contains x.named.items q → q.id ≡ p.id → q ≡ parts_in w p
parts_are b x can w s agrees p is_named q has same = same_parts b x can q (parts_in w p) has (agrees.named.each p is_named) same
