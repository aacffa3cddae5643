-- What an attempt finds in a world, whatever the world stands for.
use Rattle.std.specs.Prelude.{ℕ, List, Option, Result, Ok, Err}
use Rattle.ls_board.specs.declared.action.Action.{Action}
use Rattle.ls_board.specs.declared.world.World.{World}
use Rattle.ls_chain.specs.declared.fault.Spot.{Spot}
use Rattle.ls_chain.specs.Links.{next_of}
use Rattle.ls_chain.specs.Trying.{after_asked}
use Rattle.ls_credential.specs.Rules.{KindAndText}
use Rattle.ls_formats.specs.declared.parts.Parts.{Parts}
use Rattle.ls_record.specs.declared.row.UserRow.{UserRow}
use Rattle.ls_revealing.specs.Revealing.{reveal_end}
use Rattle.ls_script.specs.declared.reply.Reply.{Reply}
use Rattle.ls_script.specs.declared.reply.Reply.TheVariants.{Opened, No}
use Rattle.ls_tape.specs.Tape.{next_moment, later_moments}
use Rattle.ls_unlocking.specs.declared.ending.Tried.{Tried}
use Rattle.ls_unlocking.specs.declared.ending.Tried.TheVariants as tried
use Rattle.ls_unlocking.specs.declared.ending.Ending.{Ending}
use Rattle.ls_unlocking.specs.declared.ending.Ending.TheVariants as ending
use Rattle.ls_unlocking.specs.Finishing.{corrupt_at}
use Rattle.ls_unlocking.specs.Trying.{credential_ask, credential_look, token_ask, token_look}

-- what is told of the user where it opens, or the first file at fault there
abbrev pub told_in : UserRow → World → Tried → Result Ending Spot
told_in row w (tried.Opened s) =
    next_of (reveal_end row s w) (λ revealed. Ok (ending.Opened s revealed))
told_in row w (tried.Refused why) = Ok (ending.Refused why)

-- what is found, and behind the asking what is told of the user
abbrev pub unlocked_in : UserRow → World → Option Action → Result Tried Spot
    → Result Ending Spot
unlocked_in row w ask found = next_of found (told_in row (after_asked w ask))

-- what is answered
abbrev pub reply_of : ℕ → ℕ → ℕ → Result Ending Spot → Reply
reply_of user credential tried (Ok (ending.Opened s revealed)) = Opened revealed
reply_of user credential tried (Ok (ending.Refused why)) = No why
reply_of user credential tried (Err spot) = No (corrupt_at user credential tried spot)

-- the world, and a moment less
abbrev pub moment_taken : World → World
moment_taken w = record w { moments = later_moments w.moments }

-- to a credential of the stored kind, with these parts of its protector
abbrev pub credential_reply : UserRow → Parts → KindAndText → World → Reply
credential_reply row p offered w =
    let moment = next_moment w.moments in
    let then = moment_taken w in
    reply_of row.user row.protector row.protector
    (unlocked_in row then (credential_ask p row.kind offered.text moment then)
    (credential_look p row.kind offered.text moment then))

-- to the bytes of a token that the user has, with these parts of its protector
abbrev pub token_reply : UserRow → Parts → List ℕ → World → Reply
token_reply row p offered w =
    reply_of row.user row.protector p.id
    (unlocked_in row w (token_ask p w) (token_look p offered w))
