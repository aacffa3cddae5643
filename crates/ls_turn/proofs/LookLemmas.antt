-- A command that looks at the world by calls that only read.
use Rattle.std.proofs.Common.{◌≡◌, IsTrue, None, Some, refl, sym, subst}
use Rattle.std.specs.Prelude.{Result, Ok, Err}
use Rattle.ls_board.specs.declared.action.Part.{Part}
use Rattle.ls_board.specs.declared.world.World.{World}
use Rattle.ls_board.specs.Acts.{Sight, Rose}
use Rattle.ls_board.specs.Images.{Leaves}
use Rattle.ls_board.specs.Runs.{LeavesOnly}
use Rattle.ls_board.proofs.RunLemmas.{weaker}
use Rattle.ls_chain.specs.declared.fault.Spot.{Spot}
use Rattle.ls_chain.specs.declared.fault.ChainFault.{ChainFault}
use Rattle.ls_chain.specs.declared.fault.ChainFault.TheVariants.{Corrupt, Failed, Memory as Lacking}
use Rattle.ls_chain.specs.Looking.{Looks}
use Rattle.ls_script.specs.declared.reply.Reply.{Reply}
use Rattle.ls_serving.specs.Calls.{IsSilent}
use Rattle.ls_serving.specs.Turns.{StaysInside}
use Rattle.ls_vault.specs.declared.state.State.{State}
use Rattle.ls_vault.specs.Script.{Stage}
use Rattle.ls_turn.specs.declared.session.Session.{Session}
use Rattle.ls_turn.specs.declared.stop.Cause.TheVariants as cause
use Rattle.ls_turn.specs.declared.stop.Stop.{Stop}
use Rattle.ls_turn.specs.declared.stop.Stop.TheVariants.{Fault, Memory}
use Rattle.ls_turn.specs.Serving.{Turned, Serves}
use Rattle.ls_turn.proofs.InsideLemmas.{looked_inside}
use Rattle.ls_turn.proofs.StoredLemmas.{KeepsStorage, storage_refl}
use Rattle.ls_turn.proofs.BehindLemmas.{KeepsSession, LeavesStored, left_stored, silent-refl, stops}

module _ {T : Type 0} (look : World → Result T Spot) (old new : Sight) (result : Result T ChainFault) (looks : Looks look old result new) where
  look_silent : IsTrue old.told → IsSilent old.world new.world
  look_silent told = subst (λ (w : World). IsSilent old.world w) (sym (looks.same told)) (silent-refl old.world)

  look_storage : IsTrue old.told → KeepsStorage old.world new.world
  look_storage told = subst (λ (w : World). KeepsStorage old.world w) (sym (looks.same told)) (storage_refl old.world)

  look_inside : IsTrue old.told → StaysInside old new
  look_inside told = looked_inside old new (looks.calls told)

  look_crash : IsTrue old.told → LeavesOnly old new (LeavesStored old.world)
  look_crash told = weaker old new (Leaves old.world) (LeavesStored old.world) (left_stored old.world) (looks.crash told)

  -- no count rose
  look_kept : new.faults ≡ old.faults → KeepsSession old new
  look_kept quiet = record {
    told = looks.keeps.told;
    never_fails = looks.keeps.never_fails;
    slots = looks.keeps.slots;
    faults = quiet;
    inside = look_inside;
    silent = look_silent;
    storage = look_storage;
    crash = look_crash;
  }

module _ {T : Type 0} (look : World → Result T Spot) (old new : Sight) where
  -- something was found
  pub keeps_look : (t : T) → Looks look old (Ok t) new → KeepsSession old new
  keeps_look t looks = look_kept look old new (Ok t) looks looks.keeps.quiet

  -- or a place at fault
  pub keeps_spot : (spot : Spot) → Looks look old (Err (Corrupt spot)) new → KeepsSession old new
  keeps_spot spot looks = look_kept look old new (Err (Corrupt spot)) looks (looks.keeps.other (Corrupt spot) refl (λ p is. cc))

  module _ (x y : Session) (turn : Stage → Turned) (fair : World → State → Type 0) (slots : y.slots ≡ x.slots) (boot : y.boot ≡ x.boot) where
    -- a call of it failed
    pub look_failed : (p : Part) → Looks look old (Err (Failed p)) new → y.stopped ≡ Some (cause.Fault p) → Serves old x turn fair (Err (Fault p)) y new
    look_failed p looks stopped =
        stops old new x y turn fair (Fault p) (λ c e. cc) slots boot stopped (record {
          told = looks.keeps.told;
          never_fails = looks.keeps.never_fails;
          slots = looks.keeps.slots;
          later = looks.keeps.later;
          quiet = tt;
          other = λ e at apart. absurd (apart p (sym (same_stop e at)));
          cause = λ q at. subst (λ (r : Part). Rose (old.faults r) (new.faults r)) (same_part q at) (looks.keeps.cause p refl);
        }) (look_silent look old new (Err (Failed p)) looks) (look_inside look old new (Err (Failed p)) looks) (look_crash look old new (Err (Failed p)) looks)
      where
        same_stop : (e : Stop) → ◌≡◌ {A = Result Reply Stop} (Err (Fault p)) (Err e) → Fault p ≡ e
        same_stop e at = cc

        same_part : (q : Part) → ◌≡◌ {A = Result Reply Stop} (Err (Fault p)) (Err (Fault q)) → p ≡ q
        same_part q at = cc

    -- or found no memory
    pub look_lacked : Looks look old (Err Lacking) new → y.stopped ≡ Some cause.Memory → Serves old x turn fair (Err Memory) y new
    look_lacked looks stopped =
        stops old new x y turn fair Memory (λ c e. cc) slots boot stopped (record {
          told = looks.keeps.told;
          never_fails = looks.keeps.never_fails;
          slots = looks.keeps.slots;
          later = looks.keeps.later;
          quiet = tt;
          other = λ e at apart. looks.keeps.other Lacking refl (λ p is. cc);
          cause = λ q at. absurd (cc);
        }) (look_silent look old new (Err Lacking) looks) (look_inside look old new (Err Lacking) looks) (look_crash look old new (Err Lacking) looks)
