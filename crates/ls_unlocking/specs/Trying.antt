-- A credential or a token is tried, and where it opens it is looked up what is told of the user.
use Rattle.std.specs.Prelude.{◌≡◌, ℕ, List, Option, is_some, Result, Ok, Err}
use Rattle.ls_board.specs.declared.action.Action.{Action}
use Rattle.ls_board.specs.declared.world.World.{World}
use Rattle.ls_board.specs.Acts.{Sight}
use Rattle.ls_chain.specs.declared.fault.Spot.{Spot}
use Rattle.ls_chain.specs.declared.fault.ChainFault.{ChainFault}
use Rattle.ls_chain.specs.declared.token.TokenEnd.{TokenEnd}
use Rattle.ls_chain.specs.declared.token.TokenEnd.TheVariants.{Opened as TokenOpened, WrongToken as TokenWrong}
use Rattle.ls_chain.specs.declared.trying.AttemptEnd.{AttemptEnd}
use Rattle.ls_chain.specs.declared.trying.AttemptEnd.TheVariants as attempt
use Rattle.ls_chain.specs.Attempting.{attempt_asked, attempt_end}
use Rattle.ls_chain.specs.Links.{next_of}
use Rattle.ls_chain.specs.TokenAttempts.{token_asked, token_end}
use Rattle.ls_chain.specs.Trying.{MayTry}
use Rattle.ls_credential.specs.declared.kind.Kind.{Kind}
use Rattle.ls_formats.specs.declared.parts.Parts.{Parts}
use Rattle.ls_record.specs.declared.row.UserRow.{UserRow}
use Rattle.ls_revealing.specs.Revealing.{secure_asked, reveal_end}
use Rattle.ls_script.specs.declared.reply.Refusal.TheVariants.{WrongKind, Wrong, Throttled, WrongToken}
use Rattle.ls_script.specs.declared.reply.Revealed.{Revealed}
use Rattle.ls_secret.specs.Secrets.{SecretValue}
use Rattle.ls_turn.specs.Refusing.{IsOwn}
use Rattle.ls_unlocking.specs.declared.ending.Tried.{Tried}
use Rattle.ls_unlocking.specs.declared.ending.Tried.TheVariants as tried
use Rattle.ls_unlocking.specs.declared.ending.Ending.{Ending}
use Rattle.ls_unlocking.specs.declared.ending.Ending.TheVariants as ending

-- ---- what it comes to

-- the end of an attempt with a credential, and with a token
abbrev pub credential_tried : AttemptEnd → Tried
credential_tried (attempt.Opened s) = tried.Opened s
credential_tried (attempt.WrongKind kind) = tried.Refused (WrongKind kind)
credential_tried (attempt.Wrong rest) = tried.Refused (Wrong rest)
credential_tried (attempt.Throttled rest) = tried.Refused (Throttled rest)

abbrev pub token_tried : TokenEnd → Tried
token_tried (TokenOpened s) = tried.Opened s
token_tried TokenWrong = tried.Refused WrongToken

-- it is refused by no cause that is known before any call
abbrev pub IsLate : Tried → Type 0
IsLate (tried.Opened s) = Unit {0}
IsLate (tried.Refused why) = ¬ (IsOwn why)

abbrev pub EndsLate : Ending → Type 0
EndsLate (ending.Opened s revealed) = Unit {0}
EndsLate (ending.Refused why) = ¬ (IsOwn why)

-- ---- the parts of a protector are gone through

-- which device is asked for a text of this kind, and what that comes to
abbrev pub credential_ask : Parts → Kind → List ℕ → ℕ → World → Option Action
credential_ask p kind text moment w =
    attempt_asked p.user p.id (is_some p.slot) p.slot kind text moment w

abbrev pub credential_look : Parts → Kind → List ℕ → ℕ → World → Result Tried Spot
credential_look p kind text moment w =
    next_of (attempt_end p.user p.id (is_some p.slot) p.slot kind text moment w)
    (λ end. Ok (credential_tried end))

-- and for the bytes of a token
abbrev pub token_ask : Parts → World → Option Action
token_ask p w = token_asked p.user p.id (is_some p.slot) p.slot w

abbrev pub token_look : Parts → List ℕ → World → Result Tried Spot
token_look p bytes w =
    next_of (token_end p.user p.id (is_some p.slot) p.slot bytes w) (λ end. Ok (token_tried end))

-- ---- and behind it

-- with the secret, what is told of the user
abbrev pub ending_of : SecretValue → Result Revealed ChainFault → Result Ending ChainFault
ending_of s (Ok revealed) = Ok (ending.Opened s revealed)
ending_of s (Err fault) = Err fault

-- what was revealed is looked up where it opened; else nothing more is done
abbrev pub IsBehind : UserRow → Sight → Result Tried ChainFault → Result Ending ChainFault
    → Sight → Type 0
IsBehind row mid (Ok (tried.Opened s)) result new =
    (revealed : Result Revealed ChainFault)
    × MayTry (secure_asked row s) (reveal_end row s) mid revealed new
    × (result ≡ ending_of s revealed)
IsBehind row mid (Ok (tried.Refused why)) result new =
    (result ≡ Ok (ending.Refused why)) × (new ≡ mid)
IsBehind row mid (Err fault) result new = (result ≡ Err fault) × (new ≡ mid)

-- The parts of a protector are gone through, and then what is told of the user where they open.
pub record Unlocks (row : UserRow) (ask : World → Option Action)
    (look : World → Result Tried Spot) (old : Sight) (result : Result Ending ChainFault)
    (new : Sight) : Type 0 where
  pub mid : Sight
  pub tried : Result Tried ChainFault
  pub trying : MayTry ask look old tried mid
  pub behind : IsBehind row mid tried result new
