-- The draft of a credential's protector.
use Rattle.std.proofs.Common.{◌≡◌, ◌≤◌, ◌<◌, ◌+◌, ℕ, Bool, true, false, cond, List, length, Option, None, Some, Result, Ok, Err, refl, sym, ◌∙◌, ap, subst, arith}
use Rattle.std.specs.Prelude.{is_some, IfSome, MatchOption}
use Rattle.byteorder.specs.Endian.{big_number}
use Rattle.ls_credential.specs.declared.kind.Kind.{Kind}
use Rattle.ls_credential.specs.Rules.{KindAndText}
use Rattle.ls_naming.specs.Named.{has_credential}
use Rattle.ls_board.specs.declared.action.Action.{Action}
use Rattle.ls_board.specs.declared.action.Action.TheVariants.{GkSign}
use Rattle.ls_board.specs.declared.action.Answer.{Answer}
use Rattle.ls_board.specs.declared.action.Answer.TheVariants.{Handle}
use Rattle.ls_board.specs.declared.action.BoardFault.{BoardFault}
use Rattle.ls_board.specs.Acts.{Sight, Acts, Readies}
use Rattle.ls_board.specs.Gatekeeper.{signed}
use Rattle.ls_board.specs.Reach.{AllTouchOnly}
use Rattle.ls_secret.specs.Secrets.{SecretValue}
use Rattle.ls_reading.specs.Reading.{Sees}
use Rattle.ls_reading.proofs.SeeLemmas.{reads_acted, reads_failed, sees_value, sees_as}
use Rattle.ls_sealing.specs.Chain.{gatekeeper_password}
use Rattle.ls_sealing.specs.Building.{Writing, writing_actions, credential_writing, for_credential, protector_for, new_handle, new_stretched}
use Rattle.ls_sealing.specs.Draws.{piece, CredentialDraw, credential_draw, credential_draw_size}
use Rattle.ls_sealing.specs.Protectors.{Protector, credential, is_enrolled, where_it_has}
use Rattle.ls_sealing.proofs.ActionLemmas.{sound, applies}
use Rattle.ls_formats.specs.declared.parts.Parts.{Parts}
use Rattle.ls_protector.specs.Parts.{parts_of, reach_of_parts}
use Rattle.ls_protector.specs.Drafts.{drafted, signed_draft, MayBeAsked}
use Rattle.ls_protector.specs.Steps.{Drafted}
use Rattle.ls_protector.proofs.PartLemmas.{written_touch}

-- ---- what is drawn

least : (weaver has : Bool) (n : ℕ) → n ≡ cond has 84 56 + cond weaver 16 (16384 + cond has 8 0) → 72 ≤ n
least true true n is = omega (arith, is)
least true false n is = omega (arith, is)
least false true n is = omega (arith, is)
least false false n is = omega (arith, is)

-- the salt of a text is among them
pub text_salt_drawn : (slot : Option ℕ) (kind : Kind) (drawn : List ℕ) → length drawn ≡ credential_draw_size (is_some slot) kind → 72 ≤ length drawn
text_salt_drawn slot kind drawn is = least (is_some slot) (has_credential kind) (length drawn) is

module _ (slot : Option ℕ) (kind : Kind) (enrolled : is_enrolled (is_some slot) (credential kind) ≡ true) where
  has : has_credential kind ≡ true
  has = by slot enrolled
    where
      by : (slot : Option ℕ) → is_enrolled (is_some slot) (credential kind) ≡ true → has_credential kind ≡ true
      by None is = is
      by (Some n) is = absurd (let wrong : false ≡ true = is in cc)

  plain : is_some slot ≡ false
  plain = by slot enrolled
    where
      by : (slot : Option ℕ) → is_enrolled (is_some slot) (credential kind) ≡ true → is_some slot ≡ false
      by None is = refl
      by (Some n) is = absurd (let wrong : false ≡ true = is in cc)

  -- and so is that of a handle
  pub handle_salt_drawn : (drawn : List ℕ) → length drawn ≡ credential_draw_size (is_some slot) kind → 16476 ≤ length drawn
  handle_salt_drawn drawn is =
      let size : length drawn ≡ 16476 = is
      ∙ ap (λ (b : Bool). credential_draw_size b kind) plain
      ∙ ap (λ (b : Bool). cond b 84 56 + (16384 + cond b 8 0)) has in
      omega (arith, size)

  pub handle_salt_is : (drawn : List ℕ) → big_number 8 (piece 16468 8 drawn) ≡ (credential_draw kind drawn).handle_salt
  handle_salt_is drawn = sym (ap (λ (b : Bool). big_number 8 (piece (cond b 84 56 + 16384) 8 drawn)) has)

-- ---- the handle

module _ (id : ℕ) (slot : Option ℕ) (c : KindAndText) (d : CredentialDraw) where
  by_enrolled : (slot : Option ℕ) (gk_key : List ℕ) → new_handle id slot c d gk_key
      ≡ where_it_has (is_enrolled (is_some slot) (credential c.kind)) (Some (signed gk_key id d.handle_salt (gatekeeper_password (new_stretched c d))))
  by_enrolled None gk_key = refl
  by_enrolled (Some n) gk_key = refl

  pub no_handle : is_enrolled (is_some slot) (credential c.kind) ≡ false → (gk_key : List ℕ) → None ≡ new_handle id slot c d gk_key
  no_handle none gk_key =
      sym (by_enrolled slot gk_key ∙ ap (λ (b : Bool). where_it_has b (Some (signed gk_key id d.handle_salt (gatekeeper_password (new_stretched c d))))) none)

  the_handle : is_enrolled (is_some slot) (credential c.kind) ≡ true → (gk_key : List ℕ)
      → Some (signed gk_key id d.handle_salt (gatekeeper_password (new_stretched c d))) ≡ new_handle id slot c d gk_key
  the_handle some gk_key =
      sym (by_enrolled slot gk_key ∙ ap (λ (b : Bool). where_it_has b (Some (signed gk_key id d.handle_salt (gatekeeper_password (new_stretched c d))))) some)

  pub handle_signed : (old new : Sight) (handle password stretched : List ℕ) (salt : ℕ) → is_enrolled (is_some slot) (credential c.kind) ≡ true
      → salt ≡ d.handle_salt → password ≡ gatekeeper_password stretched → stretched ≡ new_stretched c d
      → Sees (λ w. signed w.gk_key id salt password) old (Ok handle) new → Sees (λ w. new_handle id slot c d w.gk_key) old (Ok (Some handle)) new
  handle_signed old new handle password stretched salt some salted is text sees =
      sees_as (λ w. Some (signed w.gk_key id salt password)) (λ w. new_handle id slot c d w.gk_key) old new (Ok (Some handle))
      (λ told. (λ i. Some (signed old.world.gk_key id (salted i) ((is ∙ ap gatekeeper_password text) i))) ∙ the_handle some old.world.gk_key)
      (sees_value (λ w. signed w.gk_key id salt password) old new (λ h w. Some h) handle (Some handle) sees (λ w. refl))

-- the Gatekeeper was asked
module _ (old ready new : Sight) {E : Type 0} (actions bytes : ℕ) (made : Result Unit E) (readies : Readies old actions bytes made ready) (result : Result Answer BoardFault) (out : List ℕ)
    (sid salt : ℕ) (password : List ℕ) (a : Action) (is : a ≡ GkSign sid salt password) (acts : Acts ready a result out new) where
  asked : Acts ready (GkSign sid salt password) result out new
  asked = subst (λ (x : Action). Acts ready x result out new) is acts

  pub sign_failed : (fault : BoardFault) → result ≡ Err fault → Sees {T = List ℕ} (λ w. signed w.gk_key sid salt password) old (Err fault) new
  sign_failed fault was = reads_failed (λ w t. t ≡ signed w.gk_key sid salt password) old ready new actions bytes made readies (GkSign sid salt password) (λ w mid within. within) (λ w count. refl) refl result out asked fault was

  pub sign_done : (handle : List ℕ) → result ≡ Ok (Handle handle) → Sees {T = List ℕ} (λ w. signed w.gk_key sid salt password) old (Ok handle) new
  sign_done handle was = reads_acted (λ w t. t ≡ signed w.gk_key sid salt password) old ready new actions bytes made readies (GkSign sid salt password) (λ w mid within. within) (λ w count. refl) refl result out asked (Handle handle) handle was
      (λ w answers. same (signed w.gk_key sid salt password) answers.0)
    where
      same : (right : List ℕ) → Handle handle ≡ Handle right → handle ≡ right
      same right e = cc

-- ---- the draft

pub drafted_touch : (p : Protector) (slot : Option ℕ) (m : Writing) (parts : Parts) (plan : List Action) → parts ≡ parts_of (is_some slot) p slot → plan ≡ writing_actions p slot m → AllTouchOnly (reach_of_parts parts) plan
drafted_touch p slot m parts plan its is =
    subst (λ (x : Parts). AllTouchOnly (reach_of_parts x) plan) (sym its)
    (subst (λ (x : List Action). AllTouchOnly (reach_of_parts (parts_of (is_some slot) p slot)) x) (sym is) (written_touch p slot m))

-- a slot that is given is one of the board's
within : (slots : ℕ) (slot : Option ℕ) → MatchOption slot (slots ≡ 0) (λ n. n < slots) → IfSome slot (λ n. n < slots)
within slots None fits = tt
within slots (Some n) fits = fits

module _ (user id : ℕ) (slot : Option ℕ) (c : KindAndText) (s : SecretValue) (drawn : List ℕ) (d : Drafted) (handle : Option (List ℕ)) (is : d ≡ signed_draft user id slot c s drawn handle) where
  pub draft_sees : (old new : Sight) → Sees (λ w. new_handle id slot c (credential_draw c.kind drawn) w.gk_key) old (Ok handle) new → Sees (λ w. drafted user id slot (for_credential c s) drawn w.gk_key) old (Ok d) new
  draft_sees old new sees = sees_value (λ w. new_handle id slot c (credential_draw c.kind drawn) w.gk_key) old new (λ h w. signed_draft user id slot c s drawn h) handle d sees (λ w. is)

  pub draft_asks : (slots : ℕ) → MatchOption slot (slots ≡ 0) (λ n. n < slots) → MayBeAsked slots d.plan
  draft_asks slots fits =
      let p = protector_for user id (for_credential c s) in
      let m = credential_writing slot c s (credential_draw c.kind drawn) handle in
      subst (λ (x : Drafted). MayBeAsked slots x.plan) (sym is) (record {
        sound = sound p m slots slot (within slots slot fits);
        applies = λ w. applies p m w slot;
      })
