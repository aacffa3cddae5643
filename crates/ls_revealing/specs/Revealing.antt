-- What is told of a user whose secret was opened.
--
-- Where the user has a secure id, the Gatekeeper has to accept the `handle` file for the secret, with
-- that id; and where it has a credential, the `metrics` file has to open under the secret.
use Rattle.std.specs.Prelude.{ℕ, List, if◌then◌else◌, Option, None, Some, Result, Ok, Err}
use Rattle.ls_board.specs.declared.action.Action.{Action}
use Rattle.ls_board.specs.declared.world.World.{World}
use Rattle.ls_chain.specs.declared.fault.Spot.{Spot}
use Rattle.ls_chain.specs.HandleFile.{check_asked, check_end}
use Rattle.ls_chain.specs.Links.{spot, next_of, links_at}
use Rattle.ls_chain.specs.MetricsFile.{metrics_chain}
use Rattle.ls_credential.specs.Counts.{KindAndCounts}
use Rattle.ls_formats.specs.declared.part.FilePart.TheVariants.{Metrics}
use Rattle.ls_formats.specs.Contents.{metrics_of}
use Rattle.ls_formats.specs.Files.{metrics_format}
use Rattle.ls_formats.specs.Format.{first_fault}
use Rattle.ls_naming.specs.Named.{has_credential, has_secure}
use Rattle.ls_record.specs.declared.row.UserRow.{UserRow}
use Rattle.ls_script.specs.declared.reply.Revealed.{Revealed}
use Rattle.ls_secret.specs.Derivation.{derived_of}
use Rattle.ls_secret.specs.Secrets.{SecretValue}

-- ---- the `handle` file

-- the Gatekeeper is asked where the user has a secure id
abbrev pub secure_asked : UserRow → SecretValue → World → Option Action
secure_asked row s w = if has_secure row then check_asked row.user s w else None

abbrev pub secure_end : UserRow → SecretValue → World → Result ℕ Spot
secure_end row s w = if has_secure row then check_end row.user row.secure s w else Ok row.secure

-- ---- the `metrics` file

-- the counts that its ten bytes are
abbrev pub counts_unless : List ℕ → Option ℕ → Result KindAndCounts Spot
counts_unless text None = Ok (metrics_of text)
counts_unless text (Some at) = Err (spot Metrics 0)

abbrev pub counts_of : List ℕ → Result KindAndCounts Spot
counts_of text = counts_unless text (first_fault metrics_format text)

-- those of the user's credential, if there is one
abbrev pub counts_end : UserRow → SecretValue → World → Result (Option KindAndCounts) Spot
counts_end row s w =
    if has_credential row.kind
    then next_of (metrics_chain (links_at w row.user row.protector) s)
    (λ text. next_of (counts_of text) (λ counts. Ok (Some counts)))
    else Ok None

-- ---- both

abbrev pub told_of : UserRow → SecretValue → Option KindAndCounts → Revealed
told_of row s counts = record {
  user = row.user;
  derived = derived_of s;
  secure = row.secure;
  metrics = counts;
}

abbrev pub counts_told : UserRow → SecretValue → World → Result Revealed Spot
counts_told row s w = next_of (counts_end row s w) (λ counts. Ok (told_of row s counts))

abbrev pub reveal_end : UserRow → SecretValue → World → Result Revealed Spot
reveal_end row s w = next_of (secure_end row s w) (λ secure. counts_told row s w)
