-- Commands that do no action.
use Rattle.std.proofs.Common.{◌≡◌, ◌≤◌, inl, ℕ, IsTrue, List, refl, sym, ◌∙◌, ap, subst, arith}
use Rattle.std.specs.Prelude.{[], Result, Ok, Err, Some, is_some}
use Rattle.std.specs.List.{Contains}
use Rattle.ls_board.specs.declared.world.World.{World}
use Rattle.ls_board.specs.Acts.{Sight}
use Rattle.ls_board.specs.Images.{Leaves}
use Rattle.ls_board.specs.Keeping.{Keeps}
use Rattle.ls_board.specs.Runs.{LeavesOnly}
use Rattle.ls_board.proofs.RunLemmas.{started}
use Rattle.ls_formats.specs.declared.parts.Parts.{Parts}
use Rattle.ls_naming.specs.Current.{Settled}
use Rattle.ls_script.specs.declared.reply.Reply.{Reply}
use Rattle.ls_protector.specs.Clear.{AreUnnamed}
use Rattle.ls_protector.specs.Parts.{parts_of}
use Rattle.ls_sealing.specs.Protectors.{Protector, held_number}
use Rattle.ls_serving.specs.Calls.{IsSilent}
use Rattle.ls_serving.specs.Turns.{StaysInside}
use Rattle.ls_settings.specs.Loaded.{Loaded, IsReady}
use Rattle.ls_standing.specs.Bare.{IsBare}
use Rattle.ls_standing.specs.NamedProtectors.{NamesProtector}
use Rattle.ls_standing.specs.Standing.{StandsDurably}
use Rattle.ls_standing.proofs.QuietLemmas.{durably_left}
use Rattle.ls_vault.specs.declared.state.State.{State}
use Rattle.ls_vault.specs.declared.vault.Vault.{Vault}
use Rattle.ls_vault.specs.Script.{Stage}
use Rattle.ls_turn.specs.declared.session.Session.{Session}
use Rattle.ls_turn.specs.declared.stop.Stop.{Stop}
use Rattle.ls_turn.specs.declared.stop.Stop.TheVariants.{Fault, Memory, Stopped}
use Rattle.ls_turn.specs.declared.stop.Cause.{Cause}
use Rattle.ls_turn.specs.declared.stop.Cause.TheVariants as cause
use Rattle.ls_turn.specs.Agreeing.{Agrees, ArePartNames, files_of, retired_files}
use Rattle.ls_turn.specs.Serving.{CanServe, IsKeptAs, KeepOnce, KeepApart, Turned, IsBetween, IsTurn, Serves, StaysBare, stage_in, vault_after, users_told}
use Rattle.ls_turn.proofs.WaitLemmas.{Waits}

-- an image of the world before
pub left_between : (w image : World) (s : Settled) (old new : Vault) → StandsDurably w s old → Leaves w image → IsBetween w old new image
left_between w image s old new was left = record {
  either = inl (s, durably_left w image s old was left);
  silent = record {
    said = ap (λ (v : World). v.said) left.rest;
    input = ap (λ (v : World). v.input) left.rest;
  };
}

-- The session has what it had of the protectors. Who is opened or captured, what is pending, and
-- whether it has prepared may be another.
pub record HasKept (x y : Session) : Type 0 where
  pub slots : y.slots ≡ x.slots
  pub boot : y.boot ≡ x.boot
  pub settings : y.settings ≡ x.settings
  pub named : y.named.items ≡ x.named.items
  pub retired : y.retired.items ≡ x.retired.items

-- nothing of it is another
pub has_kept_all : (x : Session) → HasKept x x
has_kept_all x = record { slots = refl; boot = refl; settings = refl; named = refl; retired = refl }

-- ---- what the next call asks

abbrev Each : Loaded → ℕ → List Parts → Type 0
Each settings slots named = (p : Protector) → NamesProtector settings.settled.rec p
    → (q : Parts) × Contains named q × IsKeptAs slots p q

abbrev Only : Loaded → ℕ → List Parts → Type 0
Only settings slots named = (q : Parts) → Contains named q
    → (p : Protector) × NamesProtector settings.settled.rec p × IsKeptAs slots p q

abbrev Numbers : Sight → Loaded → ℕ → List Parts → Type 0
Numbers b settings slots named = IsTrue b.told → (p : Protector) → NamesProtector settings.settled.rec p
    → (n : ℕ) → held_number b.world p ≡ Some n → Contains named (parts_of (is_some (Some n)) p (Some n))

module _ (old : Sight) (x y : Session) (k : HasKept x y) where
  moved : (P : Loaded → ℕ → List Parts → Type 0) → P x.settings x.slots x.named.items → P y.settings y.slots y.named.items
  moved P was =
      subst (λ (l : List Parts). P y.settings y.slots l) (sym k.named)
      (subst (λ (n : ℕ). P y.settings n x.named.items) (sym k.slots)
      (subst (λ (s : Loaded). P s x.slots x.named.items) (sym k.settings) was))

  unnamed_still : AreUnnamed old.world x.settings.settled.rec (retired_files x) → AreUnnamed old.world y.settings.settled.rec (retired_files y)
  unnamed_still was =
      subst (λ (l : List Parts). AreUnnamed old.world y.settings.settled.rec (files_of l)) (sym k.retired)
      (subst (λ (s : Loaded). AreUnnamed old.world s.settled.rec (retired_files x)) (sym k.settings) was)

  -- the next call may be made
  pub can_still : CanServe old x → y.stopped ≡ x.stopped → Waits y → CanServe old y
  can_still can stopped waits = record {
    going = stopped ∙ can.going;
    slots = k.slots ∙ can.slots;
    each = moved Each can.each;
    only = moved Only can.only;
    once = subst KeepOnce (sym k.named) can.once;
    names = subst (λ (l : List Parts). ArePartNames (files_of l)) (sym k.retired) can.names;
    ready = λ told. subst (IsReady old.world) (sym k.settings) (can.ready told);
    numbers = moved (Numbers old) can.numbers;
    apart = λ told. subst KeepApart (sym k.named) (can.apart told);
    retired = λ told. unnamed_still (can.retired told);
    waits = waits;
  }

  -- nothing is left that isn't named or retired
  pub bare_still : StaysBare old.world x old.world y
  bare_still start bare =
      subst (λ (l : List Parts). IsBare start old.world y.settings.settled.rec (files_of l)) (sym k.retired)
      (subst (λ (s : Loaded). IsBare start old.world s.settled.rec (retired_files x)) (sym k.settings) bare)

-- ---- serving

module _ (old : Sight) (x y : Session) (turn : Stage → Turned) (fair : World → State → Type 0) where
  no_calls : StaysInside old old
  no_calls = record { calls = []; since = refl; each = tt }

  nothing_said : IsSilent old.world old.world
  nothing_said = record { said = refl; input = refl }

  -- each image is one of the world before
  left_still : (s : State) → Agrees old.world x s → LeavesOnly old old (IsBetween old.world s.vault (vault_after turn old.world s))
  left_still s agrees = started old (IsBetween old.world s.vault (vault_after turn old.world s))
      (λ image left. left_between old.world image x.settings.settled s.vault (vault_after turn old.world s) agrees.stands left)

  module _ (k : HasKept x y) where
    -- a reply
    module _ (reply : Reply) where
      replied_keeps : Keeps {T = Reply} {E = Stop} Fault old old (Ok reply)
      replied_keeps = record {
        told = refl;
        never_fails = refl;
        slots = refl;
        later = λ p. omega arith;
        quiet = refl;
        other = λ e is apart. refl;
        cause = λ p is. absurd (cc);
      }

      replied_going : (c : Cause) → ◌≡◌ {A = Result Reply Stop} (Ok reply) (Err (Stopped c)) → ⊥
      replied_going c e = cc

      pub still : CanServe old x → y.stopped ≡ x.stopped → Waits y → users_told reply ≤ 16
          → (IsTrue old.told → (s : State) → Agrees old.world x s → IsTurn (turn (stage_in old.world s)) reply y old.world)
          → Serves old x turn fair (Ok reply) y old
      still can stopped waits few is = record {
        keeps = replied_keeps;
        slots = k.slots;
        boot = k.boot;
        cause = stopped;
        going = replied_going;
        can = can_still old x y k can stopped waits;
        few = few;
        inside = λ told. no_calls;
        silent = λ told. nothing_said;
        strange = λ told n strange. refl;
        crash = λ told s agrees fairly. left_still s agrees;
        done = λ told s agrees fairly. is told s agrees;
        bare = λ told s agrees fairly. bare_still old x y k;
      }

    -- no memory, and nothing was done
    lacking_keeps : Keeps {T = Reply} {E = Stop} Fault old old (Err Memory)
    lacking_keeps = record {
      told = refl;
      never_fails = refl;
      slots = refl;
      later = λ p. omega arith;
      quiet = tt;
      other = λ e is apart. refl;
      cause = λ p is. absurd (cc);
    }

    lacking_going : (c : Cause) → ◌≡◌ {A = Result Reply Stop} (Err Memory) (Err (Stopped c)) → ⊥
    lacking_going c e = cc

    pub lacking : y.stopped ≡ Some cause.Memory → Serves old x turn fair (Err Memory) y old
    lacking stopped = record {
      keeps = lacking_keeps;
      slots = k.slots;
      boot = k.boot;
      cause = stopped;
      going = lacking_going;
      can = tt;
      few = tt;
      inside = λ told. no_calls;
      silent = λ told. nothing_said;
      strange = λ told. tt;
      crash = λ told s agrees fairly. left_still s agrees;
      done = λ told s agrees fairly. tt;
      bare = λ told s agrees fairly. tt;
    }

-- A question: the session stays as it is.
module _ (old : Sight) (x : Session) (turn : Stage → Turned) (fair : World → State → Type 0) (reply : Reply) where
  same_turn : (s : State) → Agrees old.world x s → turn (stage_in old.world s) ≡ record { reply = reply; stage = stage_in old.world s }
      → IsTurn (turn (stage_in old.world s)) reply x old.world
  same_turn s agrees is = subst (λ (t : Turned). IsTurn t reply x old.world) (sym is) (record {
    reply_is = refl;
    agrees = agrees;
    moments = refl;
    noise = refl;
  })

  pub answered : CanServe old x → users_told reply ≤ 16
      → ((s : State) → Agrees old.world x s → turn (stage_in old.world s) ≡ record { reply = reply; stage = stage_in old.world s })
      → Serves old x turn fair (Ok reply) x old
  answered can few is = still old x x turn fair (has_kept_all x) reply can refl can.waits few (λ told s agrees. same_turn s agrees (is s agrees))
