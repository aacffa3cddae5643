-- Users are armed, so that they can be opened without a credential once the machine was started
-- again.
use Rattle.std.specs.Prelude.{ℕ, ◌+◌, ◌==◌, ◌||◌, nat_lt, min, not, Bool, true, false}
use Rattle.std.specs.Prelude.{if◌then◌else◌, List, [], length, Option, Some, None}
use Rattle.ls_script.specs.declared.reply.Refusal.TheVariants.{Expired}
use Rattle.ls_script.specs.declared.reply.Reply.TheVariants.{Resumed}
use Rattle.ls_vault.specs.declared.state.Outcome.{Outcome}
use Rattle.ls_vault.specs.declared.state.State.{State}
use Rattle.ls_arming.specs.declared.arming.Arming.{Arming}
use Rattle.ls_vault.specs.Limits.{last_of_32, is_worn}
use Rattle.ls_vault.specs.Revealed.{all_revealed}
use Rattle.ls_vault.specs.States.{with_arming, with_dead, with_session, committed, fine, refused}
use Rattle.ls_arming.specs.Numbers.{with_numbers}

-- ---- preparing

-- What Prepare makes of an arming and of the books: it keeps that nothing is armed. Where nothing
-- can be kept, the key of an arming is gone nevertheless, and its users are dead.
abbrev pub unarmed : Option Arming → State → State
unarmed None s =
    if length s.books.dead == 0 then s
    else if is_worn s then s
    else committed (with_dead s [])
unarmed (Some arming) s =
    if is_worn s then with_arming (with_dead s arming.users) None
    else committed (with_arming (with_dead s []) None)

-- nothing is armed, and each user who is unlocked from now on is captured
abbrev pub prepared : State → State
prepared s =
    let t = unarmed s.vault.arming s in
    with_session t (record t.session { prepared = true; captured = [] })

-- ---- arming

-- the captured users are armed
abbrev pub armed : State → State
armed s =
    with_session
    (committed (with_arming s (Some (record {
      boot = s.session.boot;
      users = s.session.captured;
    }))))
    (record s.session { prepared = false; captured = [] })

-- ---- resuming

-- the boot is the armed one or one of the five after it
abbrev pub is_good : ℕ → ℕ → Bool
is_good armed boot = not (nat_lt boot armed || nat_lt (min (armed + 5) last_of_32) boot)

-- the arming of these users is taken away
abbrev pub taken : State → List ℕ → State
taken s users =
    if is_worn s then with_arming (with_dead s users) None
    else committed (with_arming s None)

abbrev pub all_opened : State → List ℕ → State
all_opened s users =
    with_session s (record s.session { opened = with_numbers s.session.opened users })

-- an arming is taken away, and opens its users where it is still good
abbrev pub resumed : Option Arming → State → Outcome
resumed None s = fine s
resumed (Some arming) s =
    if is_good arming.boot s.session.boot
    then record {
      reply = Resumed (all_revealed s.vault.users arming.users);
      state = all_opened (taken s arming.users) arming.users;
    }
    else refused (taken s arming.users) (Expired arming.boot s.session.boot)
