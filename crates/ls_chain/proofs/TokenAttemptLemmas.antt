-- The device of a token.
use Rattle.std.proofs.Common.{◌≡◌, ℕ, List, Option, None, Some, Result, sym, subst, inl, inr, refl}
use Rattle.ls_board.specs.declared.action.Action.TheVariants.{WeaverRead}
use Rattle.ls_board.specs.Acts.{Sight}
use Rattle.ls_chain.specs.declared.fault.ChainFault.{ChainFault}
use Rattle.ls_chain.specs.declared.token.TokenEnd.{TokenEnd}
use Rattle.ls_chain.specs.declared.token.TokenFiles.{TokenFiles}
use Rattle.ls_chain.specs.Looking.{Looks}
use Rattle.ls_chain.specs.Links.{links_at}
use Rattle.ls_chain.specs.Tokens.{token_chain}
use Rattle.ls_chain.specs.TokenAttempts.{zero_key, token_slot_end, token_action, token_files_end}
use Rattle.ls_chain.specs.Trying.{Tries, MayTry}
use Rattle.ls_chain.proofs.TryLemmas.{IsDevice}
use Rattle.ls_chain.proofs.MayTryLemmas.{tries_one, tries_none, MayBeDevice}

pub slot_device : (slot : ℕ) → IsDevice (WeaverRead slot zero_key 0)
slot_device slot = record { absent = λ w. inl refl; whole = λ w. inr refl }

pub token_devices : (slot : Option ℕ) (files : TokenFiles) → MayBeDevice (token_action slot files)
token_devices (Some slot) files = slot_device slot
token_devices None files = tt

module _ (user id : ℕ) (x : Option ℕ) (token : List ℕ) (files : TokenFiles) (old : Sight) (r : Result TokenEnd ChainFault) (new : Sight) where
  abbrev May : Option ℕ → Type 0
  May y = MayTry (λ w. token_action y files) (token_files_end user id y token files) old r new

  pub token_some : (slot : ℕ) → x ≡ Some slot → Tries (WeaverRead slot zero_key 0) (token_slot_end user id slot token files) old r new → May x
  token_some slot is t = subst (λ (y : Option ℕ). May y) (sym is) (tries_one _ _ old r new t)

  pub token_none : x ≡ None → Looks (λ w. token_chain (links_at w user id) token files None) old r new → May x
  token_none is l = subst (λ (y : Option ℕ). May y) (sym is) (tries_none _ old r new l)
