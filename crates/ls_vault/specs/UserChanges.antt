-- Users come and go.
use Rattle.std.specs.Prelude.{ℕ, Bool, false, List, [], take, drop}
use Rattle.ls_credential.specs.declared.kind.Kind.TheVariants.{Empty}
use Rattle.ls_secret.specs.Secrets.{new_secret}
use Rattle.ls_vault.specs.declared.state.State.{State}
use Rattle.ls_vault.specs.declared.user.User.{User}
use Rattle.ls_vault.specs.States.{with_users, committed}
use Rattle.ls_vault.specs.Tokens.{pending_of_others}
use Rattle.ls_vault.specs.Users.{with_user, without_user}
use Rattle.ls_arming.specs.Disarming.{disarmed}
use Rattle.ls_arming.specs.Numbers.{without_number}

-- a new user: a secret of version 3 of the first 64 drawn bytes, and no credential
abbrev pub new_user : ℕ → Bool → List ℕ → User
new_user number escrow drawn = record {
  number = number;
  secret = new_secret (take 32 drawn) (take 32 (drop 32 drawn));
  credential = record { kind = Empty; text = [] };
  fails = 0;
  until = 0;
  secure = 0;
  escrow = escrow;
  auto = false;
  tokens = [];
}

-- the user is added, closed
abbrev pub added : State → ℕ → Bool → List ℕ → State
added s number escrow drawn =
    committed (with_users s (with_user s.vault.users (new_user number escrow drawn)))

-- nothing is left of the user
abbrev pub dropped : State → ℕ → State
dropped s user = committed (record {
  vault = record {
    users = without_user s.vault.users user;
    arming = disarmed s.vault.arming user;
  };
  books = record s.books { dead = without_number s.books.dead user };
  session = record s.session {
    opened = without_number s.session.opened user;
    pending = pending_of_others s.session.pending user;
    captured = without_number s.session.captured user;
  };
})
