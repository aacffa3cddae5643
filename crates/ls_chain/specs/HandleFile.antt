-- Whether the Gatekeeper knows the secret of a user, by the handle of its `handle` file.
use Rattle.std.specs.Prelude.{◌==◌, ℕ, List, if◌then◌else◌, Option, Some, Result, Ok, Err}
use Rattle.ls_secret.specs.Secrets.{SecretValue}
use Rattle.ls_secret.specs.Derivation.{subkey_of}
use Rattle.ls_secret.specs.Subkeys.{subkey_bytes}
use Rattle.ls_secret.specs.declared.personal.Personal.TheVariants.{SpGkAuthentication}
use Rattle.ls_formats.specs.declared.part.FilePart.TheVariants.{Handle}
use Rattle.ls_board.specs.declared.action.Action.{Action}
use Rattle.ls_board.specs.declared.action.Action.TheVariants.{GkVerify}
use Rattle.ls_board.specs.declared.action.Answer.{Answer}
use Rattle.ls_board.specs.declared.action.Answer.TheVariants.{Accepted}
use Rattle.ls_board.specs.declared.world.World.{World}
use Rattle.ls_board.specs.Gatekeeper.{verify_answer}
use Rattle.ls_chain.specs.declared.fault.Spot.{Spot}
use Rattle.ls_chain.specs.Links.{spot, next_of, sound_file, Links, links_at}
use Rattle.ls_chain.specs.Trying.{asked_of}

-- the password of the `handle` file
abbrev pub handle_password : SecretValue → List ℕ
handle_password s = subkey_bytes (subkey_of s SpGkAuthentication)

-- accepted, with the id of the record
abbrev pub confirmed_by : ℕ → Answer → Result ℕ Spot
confirmed_by secure (Accepted sid) = if sid == secure then Ok sid else Err (spot Handle 0)
confirmed_by secure _ = Err (spot Handle 0)

-- what the Gatekeeper answers to a handle, at moment 0, leads to
abbrev pub confirmed_end : ℕ → SecretValue → List ℕ → World → Result ℕ Spot
confirmed_end secure s handle w =
    confirmed_by secure (verify_answer w.gk_key w.gk handle (handle_password s) 0)

-- the Gatekeeper is asked, where the user has the file and it is in its format
abbrev pub confirm_action : SecretValue → List ℕ → Option Action
confirm_action s file = Some (GkVerify file (handle_password s) 0)

abbrev pub handle_checked : Links → Result (List ℕ) Spot
handle_checked l = sound_file Handle (l.files Handle)

abbrev pub check_asked : ℕ → SecretValue → World → Option Action
check_asked user s w = asked_of (handle_checked (links_at w user 0)) (confirm_action s)

abbrev pub check_end : ℕ → ℕ → SecretValue → World → Result ℕ Spot
check_end user secure s w =
    next_of (handle_checked (links_at w user 0)) (λ file. confirmed_end secure s file w)
