-- The draft of a token's protector.
use Rattle.std.proofs.Common.{◌≡◌, ◌<◌, ◌%◌, ℕ, true, List, Option, sym, ◌∙◌, ap, subst, arith}
use Rattle.std.specs.Prelude.{is_some, IfSome}
use Rattle.std.proofs.lemmas.Bool.{eqb-true}
use Rattle.ls_board.specs.declared.action.Action.{Action}
use Rattle.ls_board.specs.Reach.{AllTouchOnly}
use Rattle.ls_record.specs.Rows.{is_odd}
use Rattle.ls_sealing.specs.Building.{Writing, token_writing, writing_actions, Offer, protector_for, writing_of, protector_actions}
use Rattle.ls_sealing.specs.Draws.{TokenDraw}
use Rattle.ls_sealing.specs.Protectors.{Protector}
use Rattle.ls_sealing.proofs.ActionLemmas.{sound, applies}
use Rattle.ls_formats.specs.declared.parts.Parts.{Parts}
use Rattle.ls_protector.specs.Drafts.{drafted, MayBeAsked}
use Rattle.ls_protector.specs.Parts.{parts_of, reach_of_parts}
use Rattle.ls_protector.specs.Steps.{Drafted}
use Rattle.ls_protector.proofs.DraftLemmas.{drafted_touch}

-- an odd id isn't 0
pub odd_some : (id : ℕ) → is_odd id ≡ true → 0 < id
odd_some id odd = let one = eqb-true (id % 2) 1 odd in omega (arith, one)

-- what writes the protector of a token touches its parts alone
pub written_touches : (p : Protector) (slot : Option ℕ) (bytes : List ℕ) (version : ℕ) (p0 : List ℕ) (d : TokenDraw) (parts : Parts) (plan : List Action)
    → parts ≡ parts_of (is_some slot) p slot → plan ≡ writing_actions p slot (token_writing slot bytes version p0 d) → AllTouchOnly (reach_of_parts parts) plan
written_touches p slot bytes version p0 d parts plan its is = drafted_touch p slot (token_writing slot bytes version p0 d) parts plan its is

-- a draft of its parts, by what writes it
pub draft_is : (user id : ℕ) (slot : Option ℕ) (offer : Offer) (drawn gk_key : List ℕ) (d : Drafted) (parts : Parts) (plan : List Action) → d ≡ record { parts = parts; plan = plan }
    → parts ≡ parts_of (is_some slot) (protector_for user id offer) slot → plan ≡ protector_actions user id slot offer drawn gk_key → d ≡ drafted user id slot offer drawn gk_key
draft_is user id slot offer drawn gk_key d parts plan is its written = is ∙ (λ i. record { parts = its i; plan = written i })

module _ (user id : ℕ) (slot : Option ℕ) (offer : Offer) (drawn gk_key : List ℕ) (d : Drafted) (is : d ≡ drafted user id slot offer drawn gk_key) where
  abbrev p : Protector
  p = protector_for user id offer

  abbrev m : Writing
  m = writing_of id slot offer drawn gk_key

  pub draft_touches : AllTouchOnly (reach_of_parts d.parts) d.plan
  draft_touches = drafted_touch p slot m d.parts d.plan (ap (λ (x : Drafted). x.parts) is) (ap (λ (x : Drafted). x.plan) is)

  -- a board may be asked for its plan
  pub draft_asks : (slots : ℕ) → IfSome slot (λ n. n < slots) → MayBeAsked slots d.plan
  draft_asks slots fits = subst (λ (x : Drafted). MayBeAsked slots x.plan) (sym is) (record { sound = sound p m slots slot fits; applies = λ w. applies p m w slot })
