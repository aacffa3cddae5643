-- A look, and behind it at most one device.
use Rattle.std.proofs.Common.{◌≡◌, Bool, IsTrue, Option, None, Some, Result, Ok, Err, sym, ◌∙◌, ap, subst}
use Rattle.ls_board.specs.declared.action.Action.{Action}
use Rattle.ls_board.specs.declared.world.World.{World}
use Rattle.ls_board.specs.Acts.{Sight}
use Rattle.ls_board.specs.Images.{Leaves}
use Rattle.ls_board.specs.Runs.{LeavesOnly}
use Rattle.ls_board.proofs.RunLemmas.{joins, weaker}
use Rattle.ls_chain.specs.declared.fault.Spot.{Spot}
use Rattle.ls_chain.specs.declared.fault.ChainFault.{ChainFault}
use Rattle.ls_chain.specs.declared.fault.ChainFault.TheVariants.{Corrupt, Failed, Memory}
use Rattle.ls_chain.specs.Looking.{Finds, Looks}
use Rattle.ls_chain.specs.Links.{next_of}
use Rattle.ls_chain.specs.Trying.{Tries, OnAnswer, MayTry, after_asked, LeavesAsked, asked_of}
use Rattle.ls_chain.proofs.LookLemmas.{kept_both, look_err}
use Rattle.ls_chain.proofs.TryLemmas.{IsDevice}
use Rattle.ls_chain.specs.Calling.{CallsAtMost}
use Rattle.ls_chain.proofs.CallingLemmas.{calls_both, reads_at_most, on_answer}

-- one device is asked, or none
pub tries_one : {T : Type 0} (a : Action) (look : World → Result T Spot) (old : Sight) (r : Result T ChainFault) (new : Sight) → Tries a look old r new → MayTry (λ w. Some a) look old r new
tries_one a look old r new t = record { keeps = t.keeps; asked = t.asked; calls = t.calls; crash = t.crash; finds = t.finds }

pub tries_none : {T : Type 0} (look : World → Result T Spot) (old : Sight) (r : Result T ChainFault) (new : Sight) → Looks look old r new → MayTry (λ w. None) look old r new
tries_none look old r new l = record { keeps = l.keeps; asked = λ told. on_answer r (new.world ≡ old.world) (l.same told); calls = l.calls; crash = l.crash; finds = l.finds }

abbrev pub MayBeDevice : Option Action → Type 0
MayBeDevice None = Unit {0}
MayBeDevice (Some a) = IsDevice a

at_first : (w : World) (x : Option Action) → MayBeDevice x → (image : World) → Leaves w image → LeavesAsked w x image
at_first w None device image left = left
at_first w (Some a) device image left = (w, device.absent w, left)

module _ {A B : Type 0} (look : World → Result A Spot) (old mid : Sight) (ask : A → Option Action) (devices : (a : A) → MayBeDevice (ask a)) (next : A → World → Result B Spot) where
  abbrev asks : World → Option Action
  asks w = asked_of (look w) ask

  abbrev whole : World → Result B Spot
  whole w = next_of (look w) (λ a. next a w)

  device_of : (x : Result A Spot) → MayBeDevice (asked_of x ask)
  device_of (Ok a) = devices a
  device_of (Err e) = tt

  -- a file is at fault, or no device was asked
  none_asked : (e : ChainFault) → Finds (look old.world) (Err e) → mid.world ≡ old.world → OnAnswer {T = B} (Err e) (mid.world ≡ after_asked old.world (asks old.world))
  none_asked (Corrupt spot) is same = same ∙ ap (λ (x : Result A Spot). after_asked old.world (asked_of x ask)) (sym is)
  none_asked (Failed part) is same = tt
  none_asked Memory is same = tt

  pub asked_err : (e : ChainFault) → Looks look old (Err e) mid → MayTry asks whole old (Err e) mid
  asked_err e looks =
      let l = look_err look old mid next e looks in record {
        keeps = l.keeps;
        asked = λ told. none_asked e (looks.finds told) (looks.same told);
        calls = λ told. reads_at_most (asks old.world) old mid (looks.calls told);
        crash = λ told. weaker old mid (Leaves old.world) (LeavesAsked old.world (asks old.world)) (at_first old.world (asks old.world) (device_of (look old.world))) (looks.crash told);
        finds = l.finds;
      }

  pub asked_both : (new : Sight) (a : A) (r : Result B ChainFault) → Looks look old (Ok a) mid → MayTry (λ w. ask a) (next a) mid r new → MayTry asks whole old r new
  asked_both new a r first second = record {
    keeps = kept_both old mid new a r first.keeps second.keeps;
    asked = λ told. subst (λ (x : Result A Spot). OnAnswer r (new.world ≡ after_asked old.world (asked_of x ask))) (sym (first.finds told))
        (subst (λ (w : World). OnAnswer r (new.world ≡ after_asked w (ask a))) (first.same told) (second.asked (still told)));
    calls = λ told. subst (λ (x : Result A Spot). CallsAtMost (asked_of x ask) old new) (sym (first.finds told))
        (calls_both (ask a) old mid new (reads_at_most (ask a) old mid (first.calls told)) (second.calls (still told)));
    crash = λ told. subst (λ (x : Result A Spot). LeavesOnly old new (LeavesAsked old.world (asked_of x ask))) (sym (first.finds told))
        (joins old mid new (LeavesAsked old.world (ask a)) (weaker old mid (Leaves old.world) (LeavesAsked old.world (ask a)) (at_first old.world (ask a) (devices a)) (first.crash told))
        (subst (λ (w : World). LeavesOnly mid new (LeavesAsked w (ask a))) (first.same told) (second.crash (still told))));
    finds = λ told. subst (λ (x : Result A Spot). Finds (next_of x (λ a. next a old.world)) r) (sym (first.finds told))
        (subst (λ (w : World). Finds (next a w) r) (first.same told) (second.finds (still told)));
  }
    where
      still : IsTrue old.told → IsTrue mid.told
      still told = subst (λ (b : Bool). IsTrue b) (sym first.keeps.told) told
