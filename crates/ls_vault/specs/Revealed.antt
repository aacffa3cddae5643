-- What is told of a user.
use Rattle.std.specs.Prelude.{ℕ, ◌&&◌, nat_le, if◌then◌else◌, List, length, Option, Some, None}
use Rattle.std.specs.Prelude.{filter_map, option_map}
use Rattle.ls_credential.specs.Counts.{KindAndCounts, metrics_of}
use Rattle.ls_credential.specs.Rules.{KindAndText}
use Rattle.ls_script.specs.declared.reply.Revealed.{Revealed}
use Rattle.ls_secret.specs.Derivation.{derived_of}
use Rattle.ls_vault.specs.declared.user.User.{User}
use Rattle.ls_vault.specs.Kinds.{is_empty, is_pin}
use Rattle.ls_vault.specs.Users.{user_of}

-- what is counted of a credential, none where there is none
abbrev pub shown_metrics : KindAndText → Option KindAndCounts
shown_metrics c = if is_empty c.kind then None else Some (metrics_of c)

-- what an unlock reveals: the number, the keys that are derived from the secret, the secure id, and
-- the metrics
abbrev pub revealed : User → Revealed
revealed u = record {
  user = u.number;
  derived = derived_of u.secret;
  secure = u.secure;
  metrics = shown_metrics u.credential;
}

-- the same of each of these users
abbrev pub all_revealed : List User → List ℕ → List Revealed
all_revealed users numbers = filter_map (λ n. option_map revealed (user_of users n)) numbers

-- What the lock screen knows of the credential: the length of a PIN of 6 digits or more, where the
-- user allows it. 0 is nothing.
abbrev pub shown_length : User → ℕ
shown_length u =
    if u.auto && is_pin u.credential.kind && nat_le 6 (length u.credential.text)
    then length u.credential.text else 0
