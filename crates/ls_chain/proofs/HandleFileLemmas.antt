-- Whether the Gatekeeper knows the secret of a user.
use Rattle.std.proofs.Common.{◌≡◌, ℕ, List, Result, Ok, Err, subst, inl, inr, refl}
use Rattle.ls_board.specs.declared.action.Answer.{Answer}
use Rattle.ls_board.specs.declared.action.Action.TheVariants.{GkVerify}
use Rattle.ls_board.specs.declared.action.Part.{Part}
use Rattle.ls_board.specs.declared.world.World.{World}
use Rattle.ls_board.specs.Acts.{Sight, Readies}
use Rattle.ls_board.specs.Gatekeeper.{verify_answer}
use Rattle.ls_chain.specs.declared.asking.HandleAnswer.{HandleAnswer}
use Rattle.ls_chain.specs.declared.fault.Spot.{Spot}
use Rattle.ls_chain.specs.declared.fault.ChainFault.{ChainFault}
use Rattle.ls_chain.specs.declared.fault.ChainFault.TheVariants.{Corrupt, Failed, Memory}
use Rattle.ls_chain.specs.Looking.{Finds, Gives, Looks}
use Rattle.ls_chain.specs.Asking.{AsksDevice, verify_of}
use Rattle.ls_chain.specs.Trying.{Tries, MayTry}
use Rattle.ls_chain.specs.HandleFile.{handle_password, confirmed_by, confirmed_end, confirm_action, handle_checked, check_asked, check_end}
use Rattle.ls_chain.specs.Links.{links_at}
use Rattle.ls_secret.specs.Secrets.{SecretValue}
use Rattle.ls_chain.proofs.MayTryLemmas.{MayBeDevice, asked_err, asked_both, tries_one}
use Rattle.ls_chain.proofs.TryLemmas.{IsDevice, device_ends, device_failed}

calm : {T : Type 0} (expected : Result T Spot) (r : Result T ChainFault) → Gives expected r → (p : Part) → ◌≡◌ {A = Result T ChainFault} r (Err (Failed p)) → ⊥
calm expected (Ok t) g p is = cc
calm expected (Err (Corrupt spot)) g p is = cc
calm expected (Err (Failed q)) g p is = g
calm expected (Err Memory) g p is = cc

found : {T : Type 0} (expected : Result T Spot) (r : Result T ChainFault) → Gives expected r → Finds expected r
found expected (Ok t) g = g
found expected (Err (Corrupt spot)) g = g
found expected (Err (Failed q)) g = tt
found expected (Err Memory) g = tt

module _ (secure : ℕ) (handle password : List ℕ) (s0 s1 s2 : Sight) {E : Type 0} (actions bytes : ℕ) (made : Result Unit E) (readies : Readies s0 actions bytes made s1) where
  abbrev look : World → Result ℕ Spot
  look w = confirmed_by secure (verify_answer w.gk_key w.gk handle password 0)

  device : IsDevice (GkVerify handle password 0)
  device = record { absent = λ w. inl refl; whole = λ w. inr refl }

  pub confirms : (q : HandleAnswer) → AsksDevice (GkVerify handle password 0) verify_of s1 (Ok q) s2 → (r : Result ℕ ChainFault) → Gives (confirmed_by secure (verify_of q)) r → Tries (GkVerify handle password 0) look s0 r s2
  confirms q asks r g = device_ends (GkVerify handle password 0) device look verify_of s0 s1 actions bytes made readies s2 q asks r (calm (confirmed_by secure (verify_of q)) r g)
      (λ w answers. subst (λ (x : Answer). Finds (confirmed_by secure x) r) answers.0 (found (confirmed_by secure (verify_of q)) r g))

  pub confirm_failed : (part : Part) → AsksDevice (GkVerify handle password 0) verify_of s1 (Err part) s2 → Tries (GkVerify handle password 0) look s0 (Err (Failed part)) s2
  confirm_failed part asks = device_failed (GkVerify handle password 0) device look verify_of s0 s1 actions bytes made readies s2 part asks

-- ---- the file before it

module _ (user secure : ℕ) (s : SecretValue) (old mid : Sight) where
  abbrev file_look : World → Result (List ℕ) Spot
  file_look w = handle_checked (links_at w user 0)

  is_device : (file : List ℕ) → MayBeDevice (confirm_action s file)
  is_device file = record { absent = λ w. inl refl; whole = λ w. inr refl }

  pub no_handle : (e : ChainFault) → Looks file_look old (Err e) mid → MayTry (check_asked user s) (check_end user secure s) old (Err e) mid
  no_handle e looks = asked_err file_look old mid (confirm_action s) is_device (confirmed_end secure s) e looks

  pub handle_tried : (new : Sight) (file handle : List ℕ) (r : Result ℕ ChainFault) → handle ≡ file → Looks file_look old (Ok file) mid
      → Tries (GkVerify handle (handle_password s) 0) (confirmed_end secure s handle) mid r new → MayTry (check_asked user s) (check_end user secure s) old r new
  handle_tried new file handle r is looks tries = asked_both file_look old mid (confirm_action s) is_device (confirmed_end secure s) new file r looks
      (tries_one (GkVerify file (handle_password s) 0) (confirmed_end secure s file) mid r new
      (subst (λ (h : List ℕ). Tries (GkVerify h (handle_password s) 0) (confirmed_end secure s h) mid r new) is tries))
