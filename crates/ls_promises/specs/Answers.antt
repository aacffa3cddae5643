-- Commands that were answered in some way.
use Rattle.std.specs.Prelude.{ℕ, ◌==◌, ◌&&◌, ◌||◌, Bool, true, false, List, bytes_eq}
use Rattle.ls_script.specs.declared.command.Command.{Command}
use Rattle.ls_script.specs.declared.command.Command.TheVariants as command
use Rattle.ls_script.specs.declared.reply.Refusal.{Refusal}
use Rattle.ls_script.specs.declared.reply.Refusal.TheVariants.{Wrong, Expired}
use Rattle.ls_script.specs.declared.reply.Reply.{Reply}
use Rattle.ls_script.specs.declared.reply.Reply.TheVariants as reply

-- ---- replies

abbrev pub is_fine : Reply → Bool
is_fine reply.Fine = true
is_fine _ = false

abbrev pub is_opened : Reply → Bool
is_opened (reply.Opened revealed) = true
is_opened _ = false

abbrev pub is_resumed : Reply → Bool
is_resumed (reply.Resumed rows) = true
is_resumed _ = false

abbrev pub is_wrong_refusal : Refusal → Bool
is_wrong_refusal (Wrong rest) = true
is_wrong_refusal _ = false

-- it tells of a change of the state: a wrong text, or an arming that isn't good any more
abbrev pub tells_of_a_change : Refusal → Bool
tells_of_a_change (Wrong rest) = true
tells_of_a_change (Expired armed boot) = true
tells_of_a_change _ = false

abbrev pub is_wrong : Reply → Bool
is_wrong (reply.No why) = is_wrong_refusal why
is_wrong _ = false

-- it is this id
abbrev pub is_id : ℕ → Reply → Bool
is_id id (reply.TokenId i) = i == id
is_id id _ = false

-- ---- commands and their replies

-- this user was dropped
abbrev pub drops : ℕ → Command → Reply → Bool
drops user (command.Drop u) r = u == user && is_fine r
drops user _ r = false

-- the wrong texts of this user are forgotten: it was opened by its credential, got another, or was
-- dropped
abbrev pub forgives : ℕ → Command → Reply → Bool
forgives user (command.Attempt u offered) r = u == user && is_opened r
forgives user (command.Change u new) r = u == user && is_fine r
forgives user (command.Drop u) r = u == user && is_fine r
forgives user _ r = false

-- a credential is offered for this user
abbrev pub attempts : ℕ → Command → Bool
attempts user (command.Attempt u offered) = u == user
attempts user _ = false

-- a wrong text was offered for this user
abbrev pub misses : ℕ → Command → Reply → Bool
misses user c r = attempts user c && is_wrong r

-- users were armed
abbrev pub arms : Command → Reply → Bool
arms command.Arm r = is_fine r
arms _ r = false

-- armed users were opened
abbrev pub resumes : Command → Reply → Bool
resumes command.Resume r = is_resumed r
resumes _ r = false

-- this user was unlocked, by its credential or by a token
abbrev pub unlocks : ℕ → Command → Reply → Bool
unlocks user (command.Attempt u offered) r = u == user && is_opened r
unlocks user (command.TokenAttempt u id offered) r = u == user && is_opened r
unlocks user _ r = false

-- this user was unlocked, or armed users were opened
abbrev pub opens : ℕ → Command → Reply → Bool
opens user c r = unlocks user c r || resumes c r

-- these bytes became a token of this user, with this id
abbrev pub adds_token : ℕ → ℕ → List ℕ → Command → Reply → Bool
adds_token user id bytes (command.TokenAdd u added) r =
    u == user && (bytes_eq added bytes && is_id id r)
adds_token user id bytes _ r = false

-- this user was opened by these bytes, under this id
abbrev pub opens_by_token : ℕ → ℕ → List ℕ → Command → Reply → Bool
opens_by_token user id bytes (command.TokenAttempt u i offered) r =
    u == user && (i == id && (bytes_eq offered bytes && is_opened r))
opens_by_token user id bytes _ r = false

-- a token of this user with this id is none any more
abbrev pub ends_token : ℕ → ℕ → Command → Reply → Bool
ends_token user id (command.TokenDrop u i) r = u == user && (i == id && is_fine r)
ends_token user id (command.EscrowOff u) r = u == user && is_fine r
ends_token user id (command.Drop u) r = u == user && is_fine r
ends_token user id _ r = false
