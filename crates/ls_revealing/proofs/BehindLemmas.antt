-- A look behind a device that may have been asked.
use Rattle.std.proofs.Common.{◌≡◌, Bool, IsTrue, Option, Result, Ok, Err, refl, sym, ◌∙◌, ap, subst}
use Rattle.ls_board.specs.declared.action.Action.{Action}
use Rattle.ls_board.specs.declared.action.Part.{Part}
use Rattle.ls_board.specs.declared.world.World.{World}
use Rattle.ls_board.specs.Acts.{Sight}
use Rattle.ls_board.specs.Images.{Leaves}
use Rattle.ls_board.specs.Keeping.{Keeps}
use Rattle.ls_board.proofs.RunLemmas.{joins, weaker}
use Rattle.ls_chain.specs.declared.fault.Spot.{Spot}
use Rattle.ls_chain.specs.declared.fault.ChainFault.{ChainFault}
use Rattle.ls_chain.specs.declared.fault.ChainFault.TheVariants.{Corrupt, Failed, Memory}
use Rattle.ls_chain.specs.Links.{next_of}
use Rattle.ls_chain.specs.Looking.{Finds, Looks}
use Rattle.ls_chain.specs.Trying.{MayTry, OnAnswer, after_asked, LeavesAsked}
use Rattle.ls_chain.proofs.CallingLemmas.{calls_both, reads_at_most}
use Rattle.ls_chain.proofs.LookLemmas.{kept_both}

-- an image of the world behind the device is one that its action may leave
abbrev pub LeavesBehind : (World → Option Action) → Type 0
LeavesBehind ask = (w image : World) → Leaves (after_asked w (ask w)) image → LeavesAsked w (ask w) image

on_all : {T : Type 0} (r : Result T ChainFault) (P : Type 0) → P → OnAnswer r P
on_all (Ok t) P p = p
on_all (Err (Corrupt spot)) P p = p
on_all (Err (Failed part)) P p = tt
on_all (Err Memory) P p = tt

same_fault : {T : Type 0} {e f : ChainFault} → ◌≡◌ {A = Result T ChainFault} (Err e) (Err f) → e ≡ f
same_fault is = cc

kept_err : {A B : Type 0} (old new : Sight) (e : ChainFault) → Keeps {T = A} {E = ChainFault} Failed old new (Err e) → Keeps {T = B} {E = ChainFault} Failed old new (Err e)
kept_err {A} {B} old new e k = record {
  told = k.told;
  never_fails = k.never_fails;
  slots = k.slots;
  later = k.later;
  quiet = tt;
  other = λ f is apart. k.other e refl (λ p nay. apart p (sym (same_fault {T = B} is) ∙ nay));
  cause = λ p is. k.cause p (ap (λ (f : ChainFault). Err f) (same_fault {T = B} is));
}

module _ {A B : Type 0} (ask : World → Option Action) (look : World → Result A Spot) (next : A → World → Result B Spot) (old mid : Sight) where
  abbrev whole : World → Result B Spot
  whole w = next_of (look w) (λ a. next a w)

  asked_err : (e : ChainFault) (P : Type 0) → OnAnswer {T = A} (Err e) P → OnAnswer {T = B} (Err e) P
  asked_err (Corrupt spot) P p = p
  asked_err (Failed part) P p = tt
  asked_err Memory P p = tt

  finds_err : (e : ChainFault) → Finds (look old.world) (Err e) → Finds (whole old.world) (Err e)
  finds_err (Corrupt spot) is = ap (λ (x : Result A Spot). next_of x (λ a. next a old.world)) is
  finds_err (Failed part) is = tt
  finds_err Memory is = tt

  -- it ends with its fault
  pub tried_err : (e : ChainFault) → MayTry ask look old (Err e) mid → MayTry ask whole old (Err e) mid
  tried_err e first = record {
    keeps = kept_err old mid e first.keeps;
    asked = λ told. asked_err e (mid.world ≡ after_asked old.world (ask old.world)) (first.asked told);
    calls = first.calls;
    crash = first.crash;
    finds = λ told. finds_err e (first.finds told);
  }

  -- the look finds the same in the world before the device
  pub tried_look : LeavesBehind ask → ((a : A) (w : World) → next a (after_asked w (ask w)) ≡ next a w) → (new : Sight) (a : A) (r : Result B ChainFault)
      → MayTry ask look old (Ok a) mid → Looks (next a) mid r new → MayTry ask whole old r new
  tried_look behind stays new a r first second = record {
    keeps = kept_both old mid new a r first.keeps second.keeps;
    asked = λ told. on_all r (new.world ≡ after_asked old.world (ask old.world)) (second.same (still told) ∙ first.asked told);
    calls = λ told. calls_both (ask old.world) old mid new (first.calls told) (reads_at_most (ask old.world) mid new (second.calls (still told)));
    crash = λ told. joins old mid new (LeavesAsked old.world (ask old.world)) (first.crash told)
        (weaker mid new (Leaves mid.world) (LeavesAsked old.world (ask old.world))
        (λ image left. behind old.world image (subst (λ (w : World). Leaves w image) (first.asked told) left)) (second.crash (still told)));
    finds = λ told. subst (λ (x : Result B Spot). Finds x r)
        (ap (next a) (first.asked told) ∙ stays a old.world ∙ ap (λ (x : Result A Spot). next_of x (λ b. next b old.world)) (sym (first.finds told)))
        (second.finds (still told));
  }
    where
      still : IsTrue old.told → IsTrue mid.told
      still told = subst (λ (b : Bool). IsTrue b) (sym first.keeps.told) told
