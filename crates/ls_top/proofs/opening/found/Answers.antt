use Rattle.std.proofs.Common.{rules, ◌≡◌, ◌≢◌, ℕ, List, inr, subst}
use Rattle.std.specs.Prelude.{Option, IfSome}
use Rattle.ls_board.specs.declared.action.Answer.TheVariants.{Absent}
use Rattle.ls_top.specs.UsersFile.{file_of}
use Rattle.ls_top.specs.Vault.{IsVault}
use Rattle.ls_top.proofs.opening.found.Goals as goal

pub returns-in-Some : goal.returns-in-Some
returns-in-Some c =
    let other : c.args.answer ≢ Absent = search rules in
    let read : IsVault c.in-Some.users × (c.args.bytes.now ≡ file_of c.in-Some.users) =
    subst (λ (o : Option (List ℕ)). IfSome o (λ users. IsVault users × (c.args.bytes.now ≡ file_of users))) c.in-Some.is c.in_ok-users.ensures.read in
    record {
      found = inr (
        other,
        record {
          vault = read.0;
          file = read.1;
          only = λ others vault is. cc (c.in_ok-users.ensures.only others vault is);
        },
      );
    }
