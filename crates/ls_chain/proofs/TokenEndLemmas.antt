-- How an attempt with a token ends on what is sealed, where nothing matches by chance.
use Rattle.std.proofs.Common.{◌≡◌, ◌≢◌, ◌⊎◌, inl, inr, ℕ, Bool, true, false, cond, List, Option, None, Some, Result, Ok, refl, sym, ◌∙◌, ap, subst}
use Rattle.std.specs.Prelude.{is_some, bytes_eq, slice_get, IsSomeAnd, MatchBool}
use Rattle.std.specs.Option.{option_and_then}
use Rattle.std.proofs.lemmas.Option.{get_or_from_slice_get}
use Rattle.std.proofs.lemmas.Slice.Eq.{bytes_eq-Decides}
use Rattle.ls_weaver.specs.declared.slot.Slot.{Slot}
use Rattle.ls_weaver.specs.Slots.{blank_slot, slot_answer}
use Rattle.ls_secret.specs.Secrets.{SecretValue, IsSecret}
use Rattle.ls_secret.specs.Escrow.{opened_e0}
use Rattle.ls_formats.specs.declared.part.FilePart.TheVariants.{Secdis, P1, E0, Weaver}
use Rattle.ls_board.specs.declared.world.World.{World}
use Rattle.ls_board.specs.Effect.{file_at, slot_at, read_answer}
use Rattle.ls_sealing.specs.Protectors.{Protector, Held, token, held, held_number, has_part, where_it_has, file_name, slot_number}
use Rattle.ls_sealing.specs.Seals.{SealsToken, IsTokenSlot, slot_value}
use Rattle.ls_sealing.specs.Apart.{IsTokenApart}
use Rattle.ls_sealing.proofs.MatchLemmas.{equal_or}
use Rattle.ls_chain.specs.declared.fault.Spot.{Spot}
use Rattle.ls_chain.specs.declared.token.TokenFiles.{TokenFiles}
use Rattle.ls_chain.specs.Links.{Links, links_at, next_of}
use Rattle.ls_chain.specs.Linked.{AreTokenLinks, AreTokenFiles, HasForm, IsInForm, weaver_value}
use Rattle.ls_chain.specs.Tokens.{token_files, token_chain}
use Rattle.ls_chain.specs.TokenAttempts.{zero_key, token_by, token_files_end, token_end}
use Rattle.ls_chain.specs.SealedEnds.{protector_of, sealed_token_end}
use Rattle.ls_chain.proofs.HeldLinkLemmas.{files_held, files_linked, token_linked}
use Rattle.ls_chain.proofs.OfferSealLemmas.{files_lead}
use Rattle.ls_chain.proofs.TokenSealLemmas.{token_leads, others_lead}
use Rattle.ls_chain.proofs.SealedEndLemmas.{same_test}

module _ (w : World) (user id : ℕ) (bytes offered : List ℕ) (s : SecretValue) (p0 : List ℕ) (files : TokenFiles) where
  abbrev p : Protector
  p = record { user = user; id = id; purpose = token }

  abbrev h : Held
  h = held w p

  abbrev l : Links
  l = links_at w user id

  abbrev right : Bool
  right = bytes_eq offered bytes

  module _ (seals : SealsToken h (l.files P1) bytes s p0) (apart : IsTokenApart h bytes offered) (keeps : IsSecret s) (there : AreTokenFiles h l files) (links : AreTokenLinks h s p0 l files (weaver_value h)) where
    chain_ends : token_chain l offered files (weaver_value h) ≡ Ok (sealed_token_end s right)
    chain_ends = by (equal_or offered bytes)
      where
        by : (offered ≡ bytes) ⊎ (offered ≢ bytes) → token_chain l offered files (weaver_value h) ≡ Ok (sealed_token_end s right)
        by (inl e) =
            ap (λ (t : List ℕ). token_chain l t files (weaver_value h)) e
            ∙ token_leads h l bytes s p0 files (weaver_value h) seals keeps links
            ∙ ap (λ (b : Bool). Ok (sealed_token_end s b)) (sym ((bytes_eq-Decides offered bytes).1 e))
        by (inr other) =
            others_lead h l bytes s p0 files (weaver_value h) seals keeps links offered (apart other)
            ∙ ap (λ (b : Bool). Ok (sealed_token_end s b)) (sym (same_test right false (λ e. absurd (other ((bytes_eq-Decides offered bytes).0 e))) (λ e. absurd (cc))))

    abbrev Ends : Option ℕ → Type 0
    Ends o = token_end user id (is_some o) o offered w ≡ Ok (sealed_token_end s right)

    found : (b : Bool) → h.weaver ≡ b → token_files l b ≡ Ok files
    found b weaver = ap (token_files l) (sym weaver) ∙ files_lead h l bytes s p0 files seals there

    -- ---- with Weaver

    module _ (weaver : h.weaver ≡ true) where
      slotted : IsSomeAnd h.slot IsTokenSlot
      slotted = subst (λ (b : Bool). MatchBool b (IsSomeAnd h.slot IsTokenSlot) (Unit {0})) weaver seals.slot

      slot_asked : (n : ℕ) (slot : Slot) → Some n ≡ held_number w p → slice_get w.slots n ≡ Some slot → Ends (Some n)
      slot_asked n slot is got =
          let its : h.slot ≡ Some slot = ap (option_and_then (slice_get w.slots)) (sym is) ∙ got in
          let was : slot_at w n ≡ slot = get_or_from_slice_get w.slots n slot blank_slot got in
          let as_token : IsTokenSlot slot = subst (λ (o : Option Slot). IsSomeAnd o IsTokenSlot) its slotted in
          let value : Some slot.value ≡ weaver_value h = sym (ap (λ (b : Bool). cond b (Some (slot_value h.slot)) None) weaver ∙ ap (λ (o : Option Slot). Some (slot_value o)) its) in
          ap (λ (x : Result TokenFiles Spot). next_of x (λ files. token_files_end user id (Some n) offered files w)) (found true weaver)
          ∙ ap (λ (x : Slot). token_by l offered files (read_answer (slot_answer x zero_key 0))) (was ∙ as_token)
          ∙ ap (λ (v : Option (List ℕ)). token_chain l offered files v) value
          ∙ chain_ends

      slot_there : (n : ℕ) (x : Option Slot) → Some n ≡ held_number w p → slice_get w.slots n ≡ x → Ends (Some n)
      slot_there n None is none = absurd (subst (λ (o : Option Slot). IsSomeAnd o IsTokenSlot) (ap (option_and_then (slice_get w.slots)) (sym is) ∙ none) slotted)
      slot_there n (Some slot) is got = slot_asked n slot is got

      with_weaver : (o : Option ℕ) → o ≡ held_number w p → Ends o
      with_weaver None is = absurd (subst (λ (o : Option Slot). IsSomeAnd o IsTokenSlot) (ap (option_and_then (slice_get w.slots)) (sym is)) slotted)
      with_weaver (Some n) is = slot_there n (slice_get w.slots n) is refl

    -- ---- without it

    without : h.weaver ≡ false → (o : Option ℕ) → o ≡ held_number w p → Ends o
    without plain o is =
        let none : held_number w p ≡ None = ap (λ (b : Bool). option_and_then slot_number (where_it_has (has_part b token Weaver) (file_at w (file_name p Weaver)))) plain in
        let value : None ≡ weaver_value h = sym (ap (λ (b : Bool). cond b (Some (slot_value h.slot)) None) plain) in
        ap (λ (x : Option ℕ). token_end user id (is_some x) x offered w) (is ∙ none)
        ∙ ap (λ (x : Result TokenFiles Spot). next_of x (λ files. token_files_end user id None offered files w)) (found false plain)
        ∙ ap (λ (v : Option (List ℕ)). token_chain l offered files v) value
        ∙ chain_ends

    pub token_ends : (o : Option ℕ) → o ≡ held_number w p → Ends o
    token_ends o is = by h.weaver refl
      where
        by : (b : Bool) → h.weaver ≡ b → Ends o
        by true weaver = with_weaver weaver o is
        by false plain = without plain o is

-- where each file that is read is in its format
pub token_opens : (w : World) (user id : ℕ) (bytes offered : List ℕ) (s : SecretValue) (p0 : List ℕ) (slot : Option ℕ) → let h = held w (protector_of user id token) in let l = links_at w user id in
    SealsToken h (l.files P1) bytes s p0 → IsTokenApart h bytes offered → IsSecret s → option_and_then (opened_e0 s) (l.files E0) ≡ Some p0 → HasForm h Secdis → HasForm h Weaver
    → IsInForm P1 (l.files P1) → IsInForm E0 (l.files E0) → slot ≡ held_number w (protector_of user id token)
    → token_end user id (is_some slot) slot offered w ≡ Ok (sealed_token_end s (bytes_eq offered bytes))
token_opens w user id bytes offered s p0 slot seals apart keeps opens secdis weaver p1 e0 is =
    token_ends w user id bytes offered s p0 (files_held w user id bytes s p0) seals apart keeps (files_linked w user id bytes s p0 seals secdis weaver) (token_linked w user id bytes s p0 seals p1 e0 opens) slot is
