-- Calls over a board one behind another, whose actions the world says.
use Rattle.std.proofs.Common.{◌≡◌, Bool, IsTrue, Option, Result, Ok, Err, IfOk, sym, ◌∙◌, ap, subst}
use Rattle.std.specs.Prelude.{OnOk}
use Rattle.ls_board.specs.declared.action.Action.{Action}
use Rattle.ls_board.specs.declared.action.BoardFault.{BoardFault}
use Rattle.ls_board.specs.declared.action.BoardFault.TheVariants.{Memory as BoardMemory}
use Rattle.ls_board.specs.declared.world.World.{World}
use Rattle.ls_board.specs.Acts.{Sight}
use Rattle.ls_board.proofs.RunLemmas.{joins, weaker}
use Rattle.ls_chain.specs.Trying.{after_asked, LeavesAsked}
use Rattle.ls_resume.specs.Learning.{Learns}
use Rattle.ls_resume.specs.Passing.{Passes}
use Rattle.ls_resume.proofs.LearnLemmas.{kept_err, kept_calm, kept_both}

-- the action is known
pub pass_learnt : {T : Type 0} (a : Option Action) (look : World → T) (old : Sight) (r : Result T BoardFault) (new : Sight) → Learns a look old r new
    → Passes (λ w. after_asked w a) (λ w. LeavesAsked w a) look old r new
pass_learnt a look old r new learns = record { keeps = learns.keeps; done = learns.done; crash = learns.crash; finds = learns.finds }

-- what it finds, said in another way
pub pass_same : {T : Type 0} (behind : World → World) (Image : World → World → Type 0) (look other : World → T) (old : Sight) (r : Result T BoardFault) (new : Sight) → ((w : World) → look w ≡ other w)
    → Passes behind Image look old r new → Passes behind Image other old r new
pass_same {T} behind Image look other old r new same passes = record {
  keeps = passes.keeps;
  done = passes.done;
  crash = passes.crash;
  finds = λ told. found r (passes.finds told);
}
  where
    found : (r : Result T BoardFault) → IfOk r (λ t. t ≡ look old.world) → IfOk r (λ t. t ≡ other old.world)
    found (Ok t) is = is ∙ same old.world
    found (Err e) is = tt

module _ {A B : Type 0} (behind : World → World) (Image : World → World → Type 0) (look : World → A) (old mid : Sight) where
  -- it ends with its fault
  pub pass_err : (all : World → World) (Images : World → World → Type 0) (whole : World → B) → ((w image : World) → Image w image → Images w image) → (e : BoardFault)
      → Passes behind Image look old (Err e) mid → Passes all Images whole old (Err e) mid
  pass_err all Images whole more e first = record {
    keeps = kept_err old mid e first.keeps;
    done = λ told. tt;
    crash = λ told. weaker old mid (Image old.world) (Images old.world) (more old.world) (first.crash told);
    finds = λ told. tt;
  }

  -- a value behind it
  pub pass_value : (all : World → World) (Images : World → World → Type 0) (whole : World → B) → ((w image : World) → Image w image → Images w image) → (x : A) (y : B)
      → ((w : World) → x ≡ look w → (behind w ≡ all w) × (y ≡ whole w)) → Passes behind Image look old (Ok x) mid → Passes all Images whole old (Ok y) mid
  pass_value all Images whole more x y follows first = record {
    keeps = kept_calm old mid x (Ok y) first.keeps (λ p is. cc);
    done = λ told. first.done told ∙ (follows old.world (first.finds told)).0;
    crash = λ told. weaker old mid (Image old.world) (Images old.world) (more old.world) (first.crash told);
    finds = λ told. (follows old.world (first.finds told)).1;
  }

  -- no memory behind it
  pub pass_lacks : (all : World → World) (Images : World → World → Type 0) (whole : World → B) → ((w image : World) → Image w image → Images w image) → (x : A)
      → Passes behind Image look old (Ok x) mid → Passes all Images whole old (Err BoardMemory) mid
  pass_lacks all Images whole more x first = record {
    keeps = kept_calm old mid x (Err BoardMemory) first.keeps (λ p is. cc);
    done = λ told. tt;
    crash = λ told. weaker old mid (Image old.world) (Images old.world) (more old.world) (first.crash told);
    finds = λ told. tt;
  }

  -- another one behind it
  pub pass_both : (all : World → World) (Images : World → World → Type 0) (whole : World → B) (next_behind : World → World) (Next : World → World → Type 0) (next : World → B)
      → ((w image : World) → Image w image → Images w image) → ((w image : World) → Next (behind w) image → Images w image)
      → (new : Sight) (x : A) (r : Result B BoardFault) → ((w : World) → x ≡ look w → (next_behind (behind w) ≡ all w) × (next (behind w) ≡ whole w))
      → Passes behind Image look old (Ok x) mid → Passes next_behind Next next mid r new → Passes all Images whole old r new
  pass_both all Images whole next_behind Next next more later new x r follows first second = record {
    keeps = kept_both old mid new x r first.keeps second.keeps;
    done = λ told. on_ok r (first.done told) (follows old.world (first.finds told)).0 (second.done (still told));
    crash = λ told. joins old mid new (Images old.world) (weaker old mid (Image old.world) (Images old.world) (more old.world) (first.crash told))
        (weaker mid new (Next mid.world) (Images old.world) (λ image left. later old.world image (subst (λ (w : World). Next w image) (first.done told) left)) (second.crash (still told)));
    finds = λ told. found r (first.done told) (follows old.world (first.finds told)).1 (second.finds (still told));
  }
    where
      still : IsTrue old.told → IsTrue mid.told
      still told = subst (λ (b : Bool). IsTrue b) (sym first.keeps.told) told

      on_ok : (r : Result B BoardFault) → mid.world ≡ behind old.world → next_behind (behind old.world) ≡ all old.world → OnOk r (new.world ≡ next_behind mid.world) → OnOk r (new.world ≡ all old.world)
      on_ok (Ok b) world is e = e ∙ ap next_behind world ∙ is
      on_ok (Err e) world is h = tt

      found : (r : Result B BoardFault) → mid.world ≡ behind old.world → next (behind old.world) ≡ whole old.world → IfOk r (λ t. t ≡ next mid.world) → IfOk r (λ t. t ≡ whole old.world)
      found (Ok b) world is finds = finds ∙ ap next world ∙ is
      found (Err e) world is finds = tt
