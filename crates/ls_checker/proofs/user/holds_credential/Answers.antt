use Rattle.std.proofs.Common.{subst}
use Rattle.std.specs.Prelude.{◌↔◌, IsTrue, IfOk}
use Rattle.ls_sealing.specs.Protectors.{Held}
use Rattle.ls_checker.specs.Parts.{HoldsCredential}
use Rattle.ls_checker.proofs.user.holds_credential.Goals as goal

pub returns : goal.returns
returns c = record {
  decided = subst (λ (h : Held). IfOk c.seals_credential.result (λ holds. IsTrue holds ↔
      HoldsCredential c.args.row.now.protector h c.args.user.now)) c.in_ok-parts.ensures.held c.seals_credential.ensures.decided;
}
