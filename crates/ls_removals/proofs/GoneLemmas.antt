-- The protectors that go: what is known of their parts.
use Rattle.std.proofs.Common.{◌≡◌, ◌≢◌, ◌⊎◌, inl, inr, ℕ, Bool, true, false, IsTrue, List, Option, Some, refl, sym, ◌∙◌, ap, subst}
use Rattle.std.specs.Prelude.{map, is_some}
use Rattle.std.specs.List.{Contains}
use Rattle.ls_board.specs.Acts.{Sight}
use Rattle.ls_board.specs.declared.action.Action.{Action}
use Rattle.ls_edits.proofs.FilterLemmas.{filtered_in}
use Rattle.ls_formats.specs.declared.parts.Parts.{Parts}
use Rattle.ls_protector.specs.Clear.{IsClear}
use Rattle.ls_protector.specs.Parts.{parts_of}
use Rattle.ls_protector.proofs.PartLemmas.{unnamed_clear}
use Rattle.ls_record.specs.declared.row.UserRow.{UserRow}
use Rattle.ls_record.specs.Rows.{Rec, IsRecord, is_protector_id}
use Rattle.ls_sealing.specs.Protectors.{Protector, token, is_enrolled, held_number}
use Rattle.ls_standing.specs.Named.{credential_of, token_of}
use Rattle.ls_standing.specs.NamedProtectors.{row_protectors, NamesProtector, IsElsewhere}
use Rattle.ls_standing.specs.Quiet.{IsUnnamedProtector}
use Rattle.ls_standing.proofs.ContainsLemmas.{first_or_behind, of_map, of_flat}
use Rattle.ls_standing.proofs.IdLemmas.{is_row, one_protector}
use Rattle.ls_standing.proofs.PairLemmas.{pair_cases}
use Rattle.ls_standing.proofs.ProtectorLemmas.{numbers}
use Rattle.ls_standing.proofs.UnnamedLemmas.{unnamed_protector}
use Rattle.ls_turn.specs.declared.session.Session.{Session}
use Rattle.ls_turn.specs.Serving.{CanServe, FitsBoard}
use Rattle.ls_removals.specs.declared.going.Going.{Going}
use Rattle.ls_removals.specs.Going.{goes, leaving}
use Rattle.ls_removals.specs.Letting.{LeavesOut}

-- a protector that is enrolled is that of a credential, and has an even id
pub even_id : (r : Rec) → IsRecord r → (b : Bool) (p : Protector) → NamesProtector r p → is_enrolled b p.purpose ≡ true → is_protector_id p.id ≡ true
even_id r is b p h enrolled = by (of_flat row_protectors r.users p h)
  where
    in_row : (row : UserRow) → Contains r.users row → (credential_of row ≡ p) ⊎ Contains (map (token_of row) row.tokens) p → is_protector_id p.id ≡ true
    in_row row within (inl e) = subst (λ (q : Protector). is_protector_id q.id ≡ true) e (is_row r is row within).protector.0
    in_row row within (inr k) =
        let found = of_map (token_of row) row.tokens p k in
        let bad : is_enrolled b token ≡ true = ap (λ (q : Protector). is_enrolled b q.purpose) found.2 ∙ enrolled in
        absurd (cc)

    by : (row : UserRow) × Contains r.users row × Contains (row_protectors row) p → is_protector_id p.id ≡ true
    by (row, within, own) = in_row row within (first_or_behind (credential_of row) (map (token_of row) row.tokens) p own)

-- these are the parts of a protector that the record names and that goes
pub record IsGone (slots : ℕ) (r : Rec) (g : Going) (q : Parts) : Type 0 where
  pub p : Protector
  pub named : NamesProtector r p
  pub its : goes g p.user p.id ≡ true
  pub slot : Option ℕ
  pub fits : FitsBoard slots slot
  pub is : q ≡ parts_of (is_some slot) p slot

module _ (b : Sight) (x : Session) (can : CanServe b x) (g : Going) (q : Parts) (has : Contains (leaving g x.named.items) q) where
  within : Contains x.named.items q × (goes g q.user q.id ≡ true)
  within = filtered_in (λ p. goes g p.user p.id) x.named.items q has

  pub gone_of : IsGone x.slots x.settings.settled.rec g q
  gone_of =
      let o = can.only q within.0 in
      record {
        p = o.0;
        named = o.1;
        its = ap (λ (z : Parts). goes g z.user z.id) (sym o.2.2) ∙ within.1;
        slot = o.2.0;
        fits = o.2.1;
        is = o.2.2;
      }

  -- the next record names nothing of it
  module _ (is : IsRecord x.settings.settled.rec) (next : Rec) (after : List Action) (l : LeavesOut x.settings.settled.rec next (goes g) after) (told : IsTrue b.told) where
    abbrev d : IsGone x.slots x.settings.settled.rec g q
    d = gone_of

    elsewhere : (p : Protector) → NamesProtector next p → IsElsewhere b.world d.p.id d.slot p
    elsewhere p named = record { id_apart = other_id; slot_apart = other_slot }
      where
        left : NamesProtector x.settings.settled.rec p × (goes g p.user p.id ≡ false)
        left = l.back p named

        other_id : p.id ≢ d.p.id
        other_id same =
            let one = one_protector x.settings.settled.rec is p d.p left.0 d.named same in
            let bad : true ≡ false = sym d.its ∙ (ap (λ (z : Protector). goes g z.user z.id) (sym one) ∙ left.1) in
            absurd (cc)

        other_slot : (n : ℕ) → held_number b.world p ≡ Some n → d.slot ≢ Some n
        other_slot n number its =
            by (pair_cases (λ (y z : Parts). (m : ℕ) → y.slot ≡ Some m → z.slot ≢ Some m) x.named.items (can.apart told) kept q (can.numbers told p left.0 n number) within.0)
          where
            kept : Parts
            kept = parts_of (is_some (Some n)) p (Some n)

            q_slot : q.slot ≡ Some n
            q_slot = ap (λ (z : Parts). z.slot) d.is ∙ its

            by : (kept ≡ q) ⊎ (((m : ℕ) → kept.slot ≡ Some m → q.slot ≢ Some m) ⊎ ((m : ℕ) → q.slot ≡ Some m → kept.slot ≢ Some m)) → ⊥
            by (inl e) = other_id (ap (λ (z : Parts). z.id) (e ∙ d.is))
            by (inr (inl h)) = h n refl q_slot
            by (inr (inr h)) = h n q_slot refl

    pub unnamed_gone : IsUnnamedProtector b.world next d.p d.slot
    unnamed_gone = unnamed_protector b.world next l.rules d.p d.slot (numbers x.settings.settled.rec is d.p d.named) (even_id x.settings.settled.rec is (is_some d.slot) d.p d.named) elsewhere

    pub gone_clear : IsClear b.world next q
    gone_clear = subst (IsClear b.world next) (sym d.is) (unnamed_clear b.world next d.p d.slot l.rules unnamed_gone)
