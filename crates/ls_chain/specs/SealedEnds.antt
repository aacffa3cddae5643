-- How an attempt ends on a protector that seals, where nothing matches by chance.
use Rattle.std.specs.Prelude.{◌-◌, ℕ, Bool, nat_lt, if◌then◌else◌}
use Rattle.ls_secret.specs.Secrets.{SecretValue}
use Rattle.ls_weaver.specs.Throttle.{timeout, more_fails}
use Rattle.ls_board.specs.declared.devices.Counter.{Counter}
use Rattle.ls_sealing.specs.Protectors.{Purpose, Protector}
use Rattle.ls_chain.specs.declared.token.TokenEnd.{TokenEnd}
use Rattle.ls_chain.specs.declared.token.TokenEnd.TheVariants.{Opened as TokenOpened, WrongToken}
use Rattle.ls_chain.specs.declared.trying.AttemptEnd.{AttemptEnd}
use Rattle.ls_chain.specs.declared.trying.AttemptEnd.TheVariants.{Opened, Wrong, Throttled}

-- the protector of a user with this id
abbrev pub protector_of : ℕ → ℕ → Purpose → Protector
protector_of user id purpose = record { user = user; id = id; purpose = purpose }

-- With these failures before it: while the device rests no text is looked at. Else the right one
-- opens, and a wrong one is one failure more.
abbrev pub sealed_end : Counter → SecretValue → Bool → ℕ → AttemptEnd
sealed_end counter s right moment =
    if nat_lt moment counter.until then Throttled (counter.until - moment)
    else if right then Opened s
    else Wrong (timeout (more_fails counter.fails))

-- the bytes of a token
abbrev pub sealed_token_end : SecretValue → Bool → TokenEnd
sealed_token_end s right = if right then TokenOpened s else WrongToken
