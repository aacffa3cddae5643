-- The devices of an attempt.
use Rattle.std.proofs.Common.{◌≡◌, ℕ, List, Option, None, Some, Result, sym, subst, inl, inr, refl}
use Rattle.ls_board.specs.declared.action.Action.TheVariants.{WeaverRead, GkVerify}
use Rattle.ls_board.specs.Acts.{Sight}
use Rattle.ls_sealing.specs.Chain.{weaver_key, gatekeeper_password}
use Rattle.ls_chain.specs.declared.fault.ChainFault.{ChainFault}
use Rattle.ls_chain.specs.declared.offered.Offered.{Offered}
use Rattle.ls_chain.specs.declared.trying.AttemptEnd.{AttemptEnd}
use Rattle.ls_chain.specs.Looking.{Looks}
use Rattle.ls_chain.specs.Links.{links_at}
use Rattle.ls_chain.specs.Trying.{Tries, MayTry}
use Rattle.ls_chain.specs.Attempting.{opened_end, handle_end, slot_end, handle_asked, device_asked, stored_end, device_end}
use Rattle.ls_chain.proofs.MayTryLemmas.{tries_one, tries_none, MayBeDevice}

-- the devices of an attempt
gatekeeper : (handle : Option (List ℕ)) (stretched : List ℕ) (moment : ℕ) → MayBeDevice (handle_asked handle stretched moment)
gatekeeper (Some handle) stretched moment = record { absent = λ w. inl refl; whole = λ w. inr refl }
gatekeeper None stretched moment = tt

pub devices : (slot : Option ℕ) (moment : ℕ) (o : Offered) → MayBeDevice (device_asked slot moment o)
devices (Some slot) moment o = record { absent = λ w. inl refl; whole = λ w. inr refl }
devices None moment o = gatekeeper o.handle o.stretched moment

-- by the handle, and by the slot
pub stored_some : (user id : ℕ) (x : Option (List ℕ)) (handle stretched : List ℕ) (moment : ℕ) (old : Sight) (r : Result AttemptEnd ChainFault) (new : Sight) → x ≡ Some handle
    → Tries (GkVerify handle (gatekeeper_password stretched) moment) (handle_end user id handle stretched moment) old r new → MayTry (λ w. handle_asked x stretched moment) (stored_end user id x stretched moment) old r new
stored_some user id x handle stretched moment old r new is t = subst (λ (y : Option (List ℕ)). MayTry (λ w. handle_asked y stretched moment) (stored_end user id y stretched moment) old r new) (sym is) (tries_one _ _ old r new t)

pub stored_none : (user id : ℕ) (x : Option (List ℕ)) (stretched : List ℕ) (moment : ℕ) (old : Sight) (r : Result AttemptEnd ChainFault) (new : Sight) → x ≡ None
    → Looks (λ w. opened_end (links_at w user id) stretched None) old r new → MayTry (λ w. handle_asked x stretched moment) (stored_end user id x stretched moment) old r new
stored_none user id x stretched moment old r new is l = subst (λ (y : Option (List ℕ)). MayTry (λ w. handle_asked y stretched moment) (stored_end user id y stretched moment) old r new) (sym is) (tries_none _ old r new l)

pub slot_some : (user id : ℕ) (x : Option ℕ) (slot : ℕ) (o : Offered) (moment : ℕ) (old : Sight) (r : Result AttemptEnd ChainFault) (new : Sight) → x ≡ Some slot
    → Tries (WeaverRead slot (weaver_key o.stretched) moment) (slot_end user id slot o.stretched moment) old r new → MayTry (λ w. device_asked x moment o) (device_end user id x moment o) old r new
slot_some user id x slot o moment old r new is t = subst (λ (y : Option ℕ). MayTry (λ w. device_asked y moment o) (device_end user id y moment o) old r new) (sym is) (tries_one _ _ old r new t)

pub slot_none : (user id : ℕ) (x : Option ℕ) (o : Offered) (moment : ℕ) (old : Sight) (r : Result AttemptEnd ChainFault) (new : Sight) → x ≡ None
    → MayTry (λ w. handle_asked o.handle o.stretched moment) (stored_end user id o.handle o.stretched moment) old r new → MayTry (λ w. device_asked x moment o) (device_end user id x moment o) old r new
slot_none user id x o moment old r new is t = subst (λ (y : Option ℕ). MayTry (λ w. device_asked y moment o) (device_end user id y moment o) old r new) (sym is) t
