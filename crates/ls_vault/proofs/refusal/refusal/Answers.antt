use Rattle.std.proofs.Common.{sym, ◌∙◌, ap}
use Rattle.ls_vault.specs.Refusals.{bytes_refusal, of_user, refusal}
use Rattle.ls_vault.specs.Tokens.{token_of}
use Rattle.ls_vault.specs.Users.{user_of}
use Rattle.ls_vault.proofs.refusal.refusal.Goals as goal

pub returns-in-Change : goal.returns-in-Change
returns-in-Change c = record { same = c.change_refusal.ensures.same ∙ ap (λ k. refusal c.args.slots c.args.state.now k c.args.moment) (sym c.in-Change.is) }

pub returns-in-TokenDrop : goal.returns-in-TokenDrop
returns-in-TokenDrop c = record { same = c.token_drop_refusal.ensures.same ∙ ap (λ k. refusal c.args.slots c.args.state.now k c.args.moment) (sym c.in-TokenDrop.is) }

pub returns-in-TokenAttempt : goal.returns-in-TokenAttempt
returns-in-TokenAttempt c = record {
  same =
      c.token_attempt_refusal.ensures.same
      ∙ (ap (λ bytes. of_user (user_of c.args.state.now.vault.users c.in-TokenAttempt.user) (λ u. bytes_refusal bytes (token_of u.tokens c.in-TokenAttempt.id))) c.as_slice.ensures.same
      ∙ ap (λ k. refusal c.args.slots c.args.state.now k c.args.moment) (sym c.in-TokenAttempt.is));
}
