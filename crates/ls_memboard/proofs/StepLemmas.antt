-- What is kept beside the calls done stays in step with them.
use Rattle.std.proofs.Common.{◌≡◌, ◌+◌, ℕ, Bool, true, false, cond, List, [], ◌∷◌, ◌++◌, length, refl, sym, ◌∙◌, ap, subst}
use Rattle.std.specs.Prelude.{IsTrue, ◌==◌, ◌&&◌, Option}
use Rattle.std.specs.List.{filter}
use Rattle.std.proofs.lemmas.List.Sums.{sum_by_push}
use Rattle.std.proofs.Math.Nat.{add-zero}
use Rattle.ls_board.specs.declared.action.Action.{Action}
use Rattle.ls_board.specs.declared.action.Part.{Part}
use Rattle.ls_board.specs.declared.world.World.{World}
use Rattle.ls_board.specs.Images.{changing}
use Rattle.ls_board.specs.Worlds.{InOrder}
use Rattle.ls_memboard.specs.declared.call.Entry.{Entry}
use Rattle.ls_memboard.specs.declared.devices.Devices.{Devices}
use Rattle.ls_memboard.specs.declared.failure.Failure.{Failure}
use Rattle.ls_memboard.specs.Beside.{bare, beside}
use Rattle.ls_memboard.specs.Calls.{IsIn, call_of, changed_a_file}
use Rattle.ls_memboard.specs.Failures.{has_none}
use Rattle.ls_memboard.specs.Replay.{replay, after_call, fault_count, number_of, call_fits}
use Rattle.ls_memboard.specs.Step.{IsBeside, IsInStep}
use Rattle.ls_memboard.proofs.BesideLemmas.{bare_call, call_order, call_slots}
use Rattle.ls_memboard.proofs.ReplayLemmas.{noted_world, noted_in, noted_fits, noted_changes}

-- ---- the devices of a world, field by field

pub beside_record : (d : Devices) (w : World) → IsBeside d w → beside d ≡ bare w
beside_record d w is = λ i. record {
  files = [];
  touched = [];
  slots = is.slots i;
  gk_key = is.gk_key i;
  gk = is.gk i;
  keys = is.keys i;
  cell = is.cell i;
  input = is.input i;
  said = is.said i;
  moments = is.moments i;
  noise = is.noise i;
}

pub record_beside : (d : Devices) (w : World) → beside d ≡ bare w → IsBeside d w
record_beside d w is = record {
  slots = ap (λ (v : World). v.slots) is;
  gk_key = ap (λ (v : World). v.gk_key) is;
  gk = ap (λ (v : World). v.gk) is;
  keys = ap (λ (v : World). v.keys) is;
  cell = ap (λ (v : World). v.cell) is;
  input = ap (λ (v : World). v.input) is;
  said = ap (λ (v : World). v.said) is;
  moments = ap (λ (v : World). v.moments) is;
  noise = ap (λ (v : World). v.noise) is;
}

-- devices that did a call are those of the world after it
pub beside_step : (d d' : Devices) (w : World) (call : Option Action) (whole : Bool) (count : ℕ) → beside d ≡ bare w → beside d' ≡ bare (after_call (beside d) call whole count) → beside d' ≡ bare (after_call w call whole count)
beside_step d d' w call whole count is done = done ∙ ap (λ (v : World). bare (after_call v call whole count)) is ∙ bare_call w call whole count

-- ---- the board

-- other devices that look the same
pub step_same : (start : World) (failures : List Failure) (pool pool' : List ℕ) (log log' changes changes' : List Entry) (devices devices' : Devices)
    → pool' ≡ pool → log' ≡ log → changes' ≡ changes → beside devices' ≡ beside devices → IsInStep start failures pool log changes devices → IsInStep start failures pool' log' changes' devices'
step_same start failures pool pool' log log' changes changes' devices devices' pools logs changed same step =
    subst (λ (p : List ℕ). IsInStep start failures p log' changes' devices') (sym pools)
    (subst (λ (l : List Entry). IsInStep start failures pool l changes' devices') (sym logs)
    (subst (λ (l : List Entry). IsInStep start failures pool log l devices') (sym changed)
    (record {
      within = step.within;
      fits = step.fits;
      changes_are = step.changes_are;
      devices_are = record_beside devices' (replay pool start log) (same ∙ beside_record devices (replay pool start log) step.devices_are);
      in_order = step.in_order;
      slots = step.slots;
      few_slots = step.few_slots;
      quiet = step.quiet;
    })))

pub not_failed : (failed none : Bool) → (failed ≡ true → none ≡ false) → none ≡ true → failed ≡ false
not_failed true none listed is = absurd (let other = listed refl in cc)
not_failed false none listed is = refl

pub fault_more : (p : Part) (log log' : List Entry) (e : Entry) → log' ≡ log ++ e ∷ [] → fault_count p log' ≡ fault_count p log + cond (e.failed && number_of e.part == number_of p) 1 0
fault_more p log log' e pushed = ap (fault_count p) pushed ∙ sum_by_push (λ (e : Entry). cond (e.failed && number_of e.part == number_of p) 1 0) log e

module _ (start : World) (failures : List Failure) (pool pool' : List ℕ) (log log' changes changes' : List Entry) (devices devices' : Devices) (e : Entry) (a : Action) (more : List ℕ)
    (grown : pool' ≡ pool ++ more) (pushed : log' ≡ log ++ e ∷ []) (is : call_of pool' e.kept ≡ changing a) (step : IsInStep start failures pool log changes devices) where
  -- one call more
  pub step_more : IsIn pool' e.kept → changes' ≡ changes ++ filter changed_a_file (e ∷ [])
      → beside devices' ≡ bare (after_call (beside devices) (call_of pool' e.kept) e.whole e.count)
      → call_fits (replay pool start log) (changing a) ≡ true
      → (IsTrue (has_none failures) → e.failed ≡ false)
      → IsInStep start failures pool' log' changes' devices'
  step_more within kept done fits none =
      let met = replay pool start log in
      let world : replay pool' start log' ≡ after_call met (changing a) e.whole e.count = noted_world pool pool' start log log' e (changing a) more grown pushed is step.within in
      record {
        within = noted_in pool pool' start log log' e (changing a) more grown pushed is step.within within;
        fits = noted_fits pool pool' start log log' e (changing a) more grown pushed is step.within step.fits fits;
        changes_are = noted_changes pool pool' start log log' e (changing a) more grown pushed is step.within changes changes' step.changes_are kept;
        devices_are = record_beside devices' (replay pool' start log')
            (beside_step devices devices' met (call_of pool' e.kept) e.whole e.count (beside_record devices met step.devices_are) done
            ∙ ap (λ (c : Option Action). bare (after_call met c e.whole e.count)) is ∙ ap bare (sym world));
        in_order = subst InOrder (sym world) (call_order met (changing a) e.whole e.count step.in_order);
        slots = step.slots ∙ sym (ap (λ (w : World). length w.slots) world ∙ call_slots met (changing a) e.whole e.count);
        few_slots = step.few_slots;
        quiet = λ quiet p. fault_more p log log' e pushed ∙ ap (λ (b : Bool). fault_count p log + cond (b && number_of e.part == number_of p) 1 0) (none quiet) ∙ add-zero (fault_count p log) ∙ step.quiet quiet p;
      }
