-- What follows the adding of a token.
use Rattle.std.specs.Prelude.{ℕ, Bool, true, false, List, [], ◌∷◌, Option, Some, None}
use Rattle.ls_credential.specs.declared.kind.Kind.{Kind}
use Rattle.ls_credential.specs.declared.kind.Kind.TheVariants.{Empty}
use Rattle.ls_script.specs.declared.command.Command.{Command}
use Rattle.ls_script.specs.declared.command.Command.TheVariants as command

-- What follows the adding of a token. The standing of a user says whether it is opened, and the
-- kind that is stored for it. An opened user activates its tokens; one without a credential is
-- opened first; for any other the token stays pending.
abbrev pub activation : ℕ → Option (Bool × Kind) → List Command
activation user None = []
activation user (Some (true, kind)) = command.Activate user ∷ []
activation user (Some (false, Empty)) =
    command.Attempt user (record { kind = Empty; text = [] }) ∷ command.Activate user ∷ []
activation user (Some (false, _)) = []
