-- A token is tried in a world that stands for a vault: its slot is left as it was.
use Rattle.std.proofs.Common.{◌≡◌, inr, ℕ, Bool, true, false, Option, None, Some, Result, Ok, Err, refl, sym, ◌∙◌, ap, subst}
use Rattle.std.specs.Prelude.{is_some, slice_get, IsSomeAnd, MatchBool}
use Rattle.std.specs.Option.{option_and_then}
use Rattle.std.proofs.lemmas.Option.{get_or_from_slice_get}
use Rattle.ls_board.specs.declared.action.Action.{Action}
use Rattle.ls_board.specs.declared.action.Action.TheVariants.{WeaverRead}
use Rattle.ls_board.specs.declared.world.World.{World}
use Rattle.ls_board.specs.Effect.{slot_at, file_at}
use Rattle.ls_formats.specs.declared.part.FilePart.TheVariants.{Weaver}
use Rattle.ls_chain.specs.declared.fault.Spot.{Spot}
use Rattle.ls_chain.specs.declared.token.TokenFiles.{TokenFiles}
use Rattle.ls_chain.specs.Links.{links_at}
use Rattle.ls_chain.specs.Tokens.{token_files}
use Rattle.ls_chain.specs.TokenAttempts.{zero_key, token_action, token_asked}
use Rattle.ls_chain.specs.Trying.{asked_of}
use Rattle.ls_naming.specs.Current.{Settled}
use Rattle.ls_record.specs.declared.row.UserRow.{UserRow}
use Rattle.ls_record.specs.Rows.{IsRecord}
use Rattle.ls_sealing.specs.Protectors.{Protector, token, held, held_number, has_part, where_it_has, slot_number, file_name}
use Rattle.ls_sealing.specs.Seals.{IsTokenSlot}
use Rattle.ls_sealing.proofs.ReadingLemmas.{token_slot_kept}
use Rattle.ls_standing.specs.Named.{token_of}
use Rattle.ls_standing.specs.NamedProtectors.{NamesProtector}
use Rattle.ls_standing.specs.Standing.{StandsDurably}
use Rattle.ls_standing.proofs.ProtectorLemmas.{named}
use Rattle.ls_vault.specs.declared.vault.Vault.{Vault}
use Rattle.ls_weaver.specs.declared.slot.Slot.{Slot}
use Rattle.ls_weaver.specs.Slots.{blank_slot, slot_after}
use Rattle.ls_unlocking.proofs.LeadLemmas.{Leads, leads_none, leads_quiet, slot_stays}

module _ (w : World) (s : Settled) (v : Vault) (row : UserRow) (id : ℕ) (is : IsRecord s.rec) (stands : StandsDurably w s v) (is_named : NamesProtector s.rec (token_of row id))
    (slotted : MatchBool (held w (token_of row id)).weaver (IsSomeAnd (held w (token_of row id)).slot IsTokenSlot) (Unit {0})) where
  abbrev p : Protector
  p = token_of row id

  abbrev Tries : Option Action → Type 0
  Tries a = Leads w s v v a

  abbrev asked : Option ℕ → Option Action
  asked o = token_asked row.user id (is_some o) o w

  none_asked : (x : Result TokenFiles Spot) → Tries (asked_of x (token_action None))
  none_asked (Ok files) = leads_none w s v stands
  none_asked (Err e) = leads_none w s v stands

  slot_asked : (n : ℕ) (slot : Slot) → Some n ≡ held_number w p → slice_get w.slots n ≡ Some slot → IsTokenSlot slot → (x : Result TokenFiles Spot) → Tries (asked_of x (token_action (Some n)))
  slot_asked n slot number there as_token (Ok files) =
      let was : slot_at w n ≡ slot = get_or_from_slice_get w.slots n slot blank_slot there in
      let kept : slot_after (slot_at w n) zero_key 0 ≡ slot_at w n = ap (λ (x : Slot). slot_after x zero_key 0) was ∙ token_slot_kept slot 0 as_token ∙ sym was in
      leads_quiet w s v stands (WeaverRead n zero_key 0) is (inr (slot_stays w n zero_key 0 kept slot there)) (named w s.rec p n is_named (sym number))
  slot_asked n slot number there as_token (Err e) = leads_none w s v stands

  -- ---- with Weaver

  module _ (weaver : (held w p).weaver ≡ true) where
    has_slot : IsSomeAnd (held w p).slot IsTokenSlot
    has_slot = subst (λ (b : Bool). MatchBool b (IsSomeAnd (held w p).slot IsTokenSlot) (Unit {0})) weaver slotted

    slot_there : (n : ℕ) (x : Option Slot) → Some n ≡ held_number w p → slice_get w.slots n ≡ x → Tries (asked (Some n))
    slot_there n None number none = absurd (subst (λ (o : Option Slot). IsSomeAnd o IsTokenSlot) (ap (option_and_then (slice_get w.slots)) (sym number) ∙ none) has_slot)
    slot_there n (Some slot) number there =
        slot_asked n slot number there
        (subst (λ (o : Option Slot). IsSomeAnd o IsTokenSlot) (ap (option_and_then (slice_get w.slots)) (sym number) ∙ there) has_slot)
        (token_files (links_at w row.user id) true)

    with_weaver : (o : Option ℕ) → o ≡ held_number w p → Tries (asked o)
    with_weaver None number = none_asked (token_files (links_at w row.user id) false)
    with_weaver (Some n) number = slot_there n (slice_get w.slots n) number refl

  -- ---- without it

  without : (held w p).weaver ≡ false → (o : Option ℕ) → o ≡ held_number w p → Tries (asked o)
  without plain o number =
      let none : held_number w p ≡ None = ap (λ (b : Bool). option_and_then slot_number (where_it_has (has_part b token Weaver) (file_at w (file_name p Weaver)))) plain in
      subst Tries (sym (ap asked (number ∙ none))) (none_asked (token_files (links_at w row.user id) false))

  -- the slot is left as it was
  pub token_leads : (o : Option ℕ) → o ≡ held_number w p → Leads w s v v (asked o)
  token_leads o number = by (held w p).weaver refl
    where
      by : (b : Bool) → (held w p).weaver ≡ b → Tries (asked o)
      by true weaver = with_weaver weaver o number
      by false plain = without plain o number
