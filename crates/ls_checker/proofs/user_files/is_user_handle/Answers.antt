use Rattle.std.proofs.Common.{List, ℕ, Some, ap, sym, ◌∙◌}
use Rattle.ls_secret.specs.declared.personal.Personal.TheVariants.{SpGkAuthentication}
use Rattle.ls_secret.specs.declared.subkey.Subkey.{Subkey}
use Rattle.ls_secret.specs.Derivation.{subkey_of}
use Rattle.ls_secret.specs.Subkeys.{subkey_bytes}
use Rattle.ls_checker.proofs.HandleLemmas.{held_handle}
use Rattle.ls_checker.proofs.user_files.is_user_handle.Goals as goal

pub returns : goal.returns
returns c = record {
  decided = held_handle c.args.handle.now c.as_slice.result.now c.args.device.now c.args.user.now.secure c.as_slice-2.result.now
      (subkey_bytes (subkey_of c.args.user.now.secret SpGkAuthentication)) c.is_handle_of.result
      (c.in-Some.is ∙ ap (λ (x : List ℕ). Some x) (sym c.as_slice.ensures.same))
      (c.as_slice-2.ensures.same ∙ ap (λ (k : Subkey). subkey_bytes k) c.subkey-key.ensures.same) c.is_handle_of.ensures.decided;
}
