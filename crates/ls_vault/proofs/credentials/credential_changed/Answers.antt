use Rattle.std.proofs.Common.{ℕ, List, sym, ◌∙◌, ap}
use Rattle.ls_credential.specs.Rules.{KindAndText}
use Rattle.ls_vault.proofs.UserLemmas.{changed_missing, changed_alike}
use Rattle.ls_vault.specs.Credentials.{secure_after, given}
use Rattle.ls_vault.specs.States.{with_users, committed}
use Rattle.ls_vault.specs.Users.{user_of}
use Rattle.ls_vault.specs.declared.user.User.{User}
use Rattle.ls_vault.proofs.credentials.credential_changed.Goals as goal

-- the user with this credential and this secure id
abbrev with_both : KindAndText → ℕ → User → User
with_both new secure u = record u { credential = new; fails = 0; until = 0; secure = secure }

pub returns-in_default : goal.returns-in_default
returns-in_default c =
    let s = c.args.state in
    let users = s.vault.users in
    let missing = changed_missing users c.args.user (given users c.args.new c.args.drawn.now)
    (sym (c.in_default.ensures.same ∙ ap (λ (us : List User). user_of us c.args.user) c.as_slice.ensures.same)) in
    record { same = c.committed.ensures.same ∙ ap (λ (us : List User). committed (with_users s us)) missing }

pub returns : goal.returns
returns c =
    let s = c.args.state in
    let users = s.vault.users in
    let u = c.in-Some.u.now in
    let alike = changed_alike users c.args.user (with_both c.args.new c.in_ok-secure.secure) (given users c.args.new c.args.drawn.now) u
    (sym (c.in-Some.ensures.same ∙ ap (λ (us : List User). user_of us c.args.user) c.as_slice.ensures.same))
    (ap (λ id. with_both c.args.new id u) (c.in_ok-secure.ensures.same ∙ ap (λ (us : List User). secure_after us c.args.new c.args.drawn.now u) c.as_slice-2.ensures.same)) in
    record { same = c.committed-2.ensures.same ∙ ap (λ (us : List User). committed (with_users s us)) (c.give.ensures.same ∙ alike) }
