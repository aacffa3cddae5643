-- The Gatekeeper confirms the secret of a user that a world holds.
use Rattle.std.proofs.Common.{◌≡◌, ◌<◌, ◌^◌, ℕ, Bool, true, cond, List, Option, None, Some, Result, Ok, Err, sym, ◌∙◌, ap}
use Rattle.std.specs.Prelude.{◌==◌}
use Rattle.std.proofs.lemmas.Bool.{eq-eqb}
use Rattle.std.proofs.lemmas.Slice.Eq.{bytes_eq-Decides}
use Rattle.ls_secret.specs.Secrets.{SecretValue}
use Rattle.ls_formats.specs.declared.part.FilePart.TheVariants.{Handle}
use Rattle.ls_board.specs.declared.devices.Counter.{Counter}
use Rattle.ls_board.specs.declared.world.World.{World}
use Rattle.ls_board.specs.Gatekeeper.{signed, version_of, sid_of, salt_of, is_signed, no_fails, record_at, counter_of, answer_by}
use Rattle.ls_sealing.proofs.ByteLemmas.{signed_sid}
use Rattle.ls_chain.specs.declared.fault.Spot.{Spot}
use Rattle.ls_chain.specs.HandleFile.{handle_password, confirmed_by, confirmed_end}
use Rattle.ls_chain.specs.Links.{spot, next_of, unless_at, sound_file}
use Rattle.ls_chain.specs.Linked.{IsInForm}

-- ---- a handle that the device signed for an id with a record

module _ (w : World) (secure : ℕ) (s : SecretValue) (handle : List ℕ) (is : handle ≡ signed w.gk_key secure (salt_of handle) (handle_password s)) (small : secure < 2 ^ 64) (fresh : record_at w.gk secure ≡ Some no_fails) where
  abbrev password : List ℕ
  password = handle_password s

  sid : sid_of handle ≡ secure
  sid = ap sid_of is ∙ signed_sid w.gk_key secure (salt_of handle) password small

  counter : counter_of w.gk handle ≡ Some no_fails
  counter = ap (λ (v : ℕ). cond (v == 1) (record_at w.gk (sid_of handle)) None) (ap version_of is) ∙ ap (record_at w.gk) sid ∙ fresh

  signs : is_signed w.gk_key handle password ≡ true
  signs = (bytes_eq-Decides handle (signed w.gk_key (sid_of handle) (salt_of handle) password)).1 (is ∙ ap (λ (n : ℕ). signed w.gk_key n (salt_of handle) password) (sym sid))

  confirmed : confirmed_end secure s handle w ≡ Ok secure
  confirmed =
      ap (λ (k : Option Counter). confirmed_by secure (answer_by (sid_of handle) (is_signed w.gk_key handle password) 0 k)) counter
      ∙ ap (λ (b : Bool). confirmed_by secure (answer_by (sid_of handle) b 0 (Some no_fails))) signs
      ∙ ap (λ (b : Bool). cond b (Ok (sid_of handle)) (Err (spot Handle 0))) (eq-eqb (sid_of handle) secure sid)
      ∙ ap (λ (n : ℕ). Ok n) sid

  -- the file that holds it
  pub file_confirms : (file : Option (List ℕ)) → file ≡ Some handle → IsInForm Handle file → next_of (sound_file Handle file) (λ h. confirmed_end secure s h w) ≡ Ok secure
  file_confirms None there form = absurd (cc)
  file_confirms (Some bytes) there form =
      ap (λ (at : Option ℕ). next_of (unless_at Handle bytes at) (λ h. confirmed_end secure s h w)) form
      ∙ ap (λ (f : Option (List ℕ)). next_of (plain f) (λ h. confirmed_end secure s h w)) there
      ∙ confirmed
    where
      plain : Option (List ℕ) → Result (List ℕ) Spot
      plain None = Err (spot Handle 0)
      plain (Some bytes) = Ok bytes
