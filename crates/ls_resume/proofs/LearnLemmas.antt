-- Calls over a board one behind another.
use Rattle.std.proofs.Common.{◌≡◌, ◌≢◌, ◌≤◌, ◌⊎◌, inl, inr, ℕ, Bool, IsTrue, List, length, Option, None, Some, Result, Ok, Err, IfOk, refl, sym, ◌∙◌, ap, subst, arith}
use Rattle.std.specs.Prelude.{OnOk}
use Rattle.ls_board.specs.declared.action.Action.{Action}
use Rattle.ls_board.specs.declared.action.Action.TheVariants.{ResumeTake}
use Rattle.ls_board.specs.declared.action.Answer.{Answer}
use Rattle.ls_board.specs.declared.action.BoardFault.{BoardFault}
use Rattle.ls_board.specs.declared.action.BoardFault.TheVariants.{Failed as BoardFailed, Memory as BoardMemory}
use Rattle.ls_board.specs.declared.action.Part.{Part}
use Rattle.ls_board.specs.declared.world.World.{World}
use Rattle.ls_board.specs.Acts.{Sight, Acts, Moves, Readies, Rose}
use Rattle.ls_board.specs.Effect.{Answers, after, cell_answer}
use Rattle.ls_board.specs.Images.{Leaves, LeavesWithin}
use Rattle.ls_board.specs.Keeping.{Keeps}
use Rattle.ls_board.specs.Runs.{LeavesOnly}
use Rattle.ls_board.proofs.RunLemmas.{started, readied, goes_on, joins, weaker}
use Rattle.ls_chain.specs.declared.fault.Spot.{Spot}
use Rattle.ls_chain.specs.declared.fault.ChainFault.{ChainFault}
use Rattle.ls_chain.specs.declared.fault.ChainFault.TheVariants.{Corrupt, Failed, Memory}
use Rattle.ls_chain.specs.Calling.{CallsAtMost}
use Rattle.ls_chain.specs.Looking.{Looks, Finds}
use Rattle.ls_chain.specs.Trying.{MayTry, OnAnswer, after_asked, LeavesAsked}
use Rattle.ls_chain.proofs.CallingLemmas.{calls_none, calls_both, calls_ready, calls_readied, calls_moved, reads_at_most}
use Rattle.ls_resume.specs.Learning.{Learns, told_as}
use Rattle.ls_resume.specs.Passing.{Passes}

-- ---- what is kept

same_fault : {T : Type 0} {e f : BoardFault} → ◌≡◌ {A = Result T BoardFault} (Err e) (Err f) → e ≡ f
same_fault is = cc

same_part : {T : Type 0} {p q : Part} → ◌≡◌ {A = Result T BoardFault} (Err (BoardFailed p)) (Err (BoardFailed q)) → p ≡ q
same_part is = cc

pub kept_err : {A B : Type 0} (old new : Sight) (e : BoardFault) → Keeps {T = A} {E = BoardFault} BoardFailed old new (Err e) → Keeps {T = B} {E = BoardFault} BoardFailed old new (Err e)
kept_err {A} {B} old new e k = record {
  told = k.told;
  never_fails = k.never_fails;
  slots = k.slots;
  later = k.later;
  quiet = tt;
  other = λ f is apart. k.other e refl (λ p nay. apart p (sym (same_fault {T = B} is) ∙ nay));
  cause = λ p is. k.cause p (ap (λ (f : BoardFault). Err f) (same_fault {T = B} is));
}

-- an answer that isn't a failed call, where no count grew
pub kept_calm : {A B : Type 0} (old new : Sight) (a : A) (r : Result B BoardFault) → Keeps {T = A} {E = BoardFault} BoardFailed old new (Ok a) → ((p : Part) → r ≢ Err (BoardFailed p)) → Keeps {T = B} {E = BoardFault} BoardFailed old new r
kept_calm {A} {B} old new a r k calm = record {
  told = k.told;
  never_fails = k.never_fails;
  slots = k.slots;
  later = k.later;
  quiet = on r;
  other = λ f is apart. k.quiet;
  cause = λ p is. absurd (calm p is);
}
  where
    on : (r : Result B BoardFault) → OnOk r (new.faults ≡ old.faults)
    on (Ok b) = k.quiet
    on (Err e) = tt

-- a call behind one that was answered
pub kept_both : {A B : Type 0} (old mid new : Sight) (a : A) (r : Result B BoardFault) → Keeps {T = A} {E = BoardFault} BoardFailed old mid (Ok a) → Keeps {T = B} {E = BoardFault} BoardFailed mid new r → Keeps {T = B} {E = BoardFault} BoardFailed old new r
kept_both {A} {B} old mid new a r first second = record {
  told = second.told ∙ first.told;
  never_fails = second.never_fails ∙ first.never_fails;
  slots = second.slots ∙ first.slots;
  later = λ p. subst (λ (f : Part → ℕ). f p ≤ new.faults p) first.quiet (second.later p);
  quiet = on r second.quiet;
  other = λ f is apart. second.other f is apart ∙ first.quiet;
  cause = λ p is. subst (λ (f : Part → ℕ). Rose (f p) (new.faults p)) first.quiet (second.cause p is);
}
  where
    on : (r : Result B BoardFault) → OnOk r (new.faults ≡ mid.faults) → OnOk r (new.faults ≡ old.faults)
    on (Ok b) same = same ∙ first.quiet
    on (Err e) same = tt

still : {T : Type 0} (old mid : Sight) (r : Result T BoardFault) → Keeps {T = T} {E = BoardFault} BoardFailed old mid r → IsTrue old.told → IsTrue mid.told
still old mid r keeps told = subst (λ (b : Bool). IsTrue b) (sym keeps.told) told

-- ---- images around the action

-- an action that may be absent or whole
pub record IsWhole (a : Option Action) : Type 0 where
  pub before : (w image : World) → Leaves w image → LeavesAsked w a image
  pub behind : (w image : World) → Leaves (after_asked w a) image → LeavesAsked w a image

pub no_action : IsWhole None
no_action = record { before = λ w image left. left; behind = λ w image left. left }

pub a_taking : IsWhole (Some ResumeTake)
a_taking = record {
  before = λ w image left. (w, inl refl, left);
  behind = λ w image left. (after w ResumeTake 0, inr refl, left);
}

-- ---- one behind another

module _ {A B : Type 0} (a : Option Action) (look : World → A) (whole : World → B) (old mid : Sight) where
  -- it ends with its fault
  pub learn_err : (e : BoardFault) → Learns a look old (Err e) mid → Learns a whole old (Err e) mid
  learn_err e first = record {
    keeps = kept_err old mid e first.keeps;
    done = λ told. tt;
    left = first.left;
    calls = first.calls;
    crash = first.crash;
    finds = λ told. tt;
  }

  -- a value behind it
  pub learn_value : (x : A) (y : B) → ((w : World) → x ≡ look w → y ≡ whole w) → Learns a look old (Ok x) mid → Learns a whole old (Ok y) mid
  learn_value x y follows first = record {
    keeps = kept_calm old mid x (Ok y) first.keeps (λ p is. cc);
    done = first.done;
    left = first.left;
    calls = first.calls;
    crash = first.crash;
    finds = λ told. follows old.world (first.finds told);
  }

  -- no memory behind it
  pub learn_lacks : (x : A) → Learns a look old (Ok x) mid → Learns a whole old (Err BoardMemory) mid
  learn_lacks x first = record {
    keeps = kept_calm old mid x (Err BoardMemory) first.keeps (λ p is. cc);
    done = λ told. tt;
    left = first.left;
    calls = first.calls;
    crash = first.crash;
    finds = λ told. tt;
  }

  -- a look behind it
  pub learn_look : IsWhole a → (next : World → B) (new : Sight) (x : A) (r : Result B BoardFault) → ((w : World) → x ≡ look w → next (after_asked w a) ≡ whole w)
      → Learns a look old (Ok x) mid → Learns None next mid r new → Learns a whole old r new
  learn_look is_whole next new x r follows first second = record {
    keeps = kept_both old mid new x r first.keeps second.keeps;
    done = λ told. on r (second.done (on_told told)) (first.done told);
    left = λ told. inr (same (second.left (on_told told)) ∙ first.done told);
    calls = λ told. calls_both a old mid new (first.calls told) (reads_at_most a mid new (second.calls (on_told told)));
    crash = λ told. joins old mid new (LeavesAsked old.world a) (first.crash told)
        (weaker mid new (Leaves mid.world) (LeavesAsked old.world a)
        (λ image left. is_whole.behind old.world image (subst (λ (w : World). Leaves w image) (first.done told) left)) (second.crash (on_told told)));
    finds = λ told. found r (first.done told) (follows old.world (first.finds told)) (second.finds (on_told told));
  }
    where
      on_told : IsTrue old.told → IsTrue mid.told
      on_told told = still old mid (Ok x) first.keeps told

      on : (r : Result B BoardFault) → OnOk r (new.world ≡ mid.world) → mid.world ≡ after_asked old.world a → OnOk r (new.world ≡ after_asked old.world a)
      on (Ok b) e f = e ∙ f
      on (Err e) h f = tt

      same : (new.world ≡ mid.world) ⊎ (new.world ≡ mid.world) → new.world ≡ mid.world
      same (inl e) = e
      same (inr e) = e

      found : (r : Result B BoardFault) → mid.world ≡ after_asked old.world a → next (after_asked old.world a) ≡ whole old.world → IfOk r (λ t. t ≡ next mid.world) → IfOk r (λ t. t ≡ whole old.world)
      found (Ok b) world is finds = finds ∙ ap next world ∙ is
      found (Err e) world is finds = tt

-- the action behind a look
module _ {A B : Type 0} (a : Option Action) (is_whole : IsWhole a) (look : World → A) (whole next : World → B) (old mid new : Sight) (x : A) (r : Result B BoardFault)
    (follows : (w : World) → x ≡ look w → next w ≡ whole w) (first : Learns None look old (Ok x) mid) (second : Learns a next mid r new) where
  on_told : IsTrue old.told → IsTrue mid.told
  on_told told = still old mid (Ok x) first.keeps told

  pub learn_action : Learns a whole old r new
  learn_action = record {
    keeps = kept_both old mid new x r first.keeps second.keeps;
    done = λ told. subst (λ (w : World). OnOk r (new.world ≡ after_asked w a)) (first.done told) (second.done (on_told told));
    left = λ told. subst (λ (w : World). (new.world ≡ w) ⊎ (new.world ≡ after_asked w a)) (first.done told) (second.left (on_told told));
    calls = λ told. calls_both a old mid new (reads_at_most a old mid (first.calls told)) (second.calls (on_told told));
    crash = λ told. joins old mid new (LeavesAsked old.world a)
        (weaker old mid (Leaves old.world) (LeavesAsked old.world a) (is_whole.before old.world) (first.crash told))
        (subst (λ (w : World). LeavesOnly mid new (LeavesAsked w a)) (first.done told) (second.crash (on_told told)));
    finds = λ told. found r (follows old.world (first.finds told)) (subst (λ (w : World). IfOk r (λ t. t ≡ next w)) (first.done told) (second.finds (on_told told)));
  }
    where
      found : (r : Result B BoardFault) → next old.world ≡ whole old.world → IfOk r (λ t. t ≡ next old.world) → IfOk r (λ t. t ≡ whole old.world)
      found (Ok b) is finds = finds ∙ is
      found (Err e) is finds = tt

-- no action behind a look that failed
pub learn_stops : {A B : Type 0} (a : Option Action) → IsWhole a → (look : World → A) (whole : World → B) (old mid : Sight) (e : BoardFault) → Learns None look old (Err e) mid → Learns a whole old (Err e) mid
learn_stops a is_whole look whole old mid e first = record {
  keeps = kept_err old mid e first.keeps;
  done = λ told. tt;
  left = λ told. inl (same (first.left told));
  calls = λ told. reads_at_most a old mid (first.calls told);
  crash = λ told. weaker old mid (Leaves old.world) (LeavesAsked old.world a) (is_whole.before old.world) (first.crash told);
  finds = λ told. tt;
}
  where
    same : (mid.world ≡ old.world) ⊎ (mid.world ≡ old.world) → mid.world ≡ old.world
    same (inl is) = is
    same (inr is) = is

-- ---- before any call

pub learn_known : {T : Type 0} (look : World → T) (s : Sight) (t : T) → ((w : World) → t ≡ look w) → Learns None look s (Ok t) s
learn_known look s t is = record {
  keeps = record {
    told = refl;
    never_fails = refl;
    slots = refl;
    later = λ p. omega arith;
    quiet = refl;
    other = λ e nay apart. refl;
    cause = λ p nay. absurd (cc);
  };
  done = λ told. refl;
  left = λ told. inl refl;
  calls = λ told. calls_none None s;
  crash = λ told. started s (Leaves s.world) (λ image left. left);
  finds = λ told. is s.world;
}

pub learn_none : {T : Type 0} (look : World → T) (s : Sight) → Learns None look s (Err BoardMemory) s
learn_none look s = record {
  keeps = record {
    told = refl;
    never_fails = refl;
    slots = refl;
    later = λ p. omega arith;
    quiet = tt;
    other = λ e nay apart. refl;
    cause = λ p nay. absurd (cc);
  };
  done = λ told. tt;
  left = λ told. inl refl;
  calls = λ told. calls_none None s;
  crash = λ told. started s (Leaves s.world) (λ image left. left);
  finds = λ told. tt;
}

-- ---- what a chain found

module _ {A B : Type 0} (look : World → Result A Spot) (tell : Result A Spot → B) (old new : Sight) where
  same_chain : {e f : ChainFault} → ◌≡◌ {A = Result A ChainFault} (Err e) (Err f) → e ≡ f
  same_chain is = cc

  chain_kept : (r : Result A ChainFault) → Keeps {T = A} {E = ChainFault} Failed old new r → Keeps {T = B} {E = BoardFault} BoardFailed old new (told_as tell r)
  chain_kept (Ok x) k = record { told = k.told; never_fails = k.never_fails; slots = k.slots; later = k.later; quiet = k.quiet; other = λ e nay apart. k.quiet; cause = λ p nay. absurd (cc) }
  chain_kept (Err (Corrupt spot)) k =
      let calm : new.faults ≡ old.faults = k.other (Corrupt spot) refl (λ p nay. cc) in
      record { told = k.told; never_fails = k.never_fails; slots = k.slots; later = k.later; quiet = calm; other = λ e nay apart. calm; cause = λ p nay. absurd (cc) }
  chain_kept (Err (Failed part)) k = record {
    told = k.told;
    never_fails = k.never_fails;
    slots = k.slots;
    later = k.later;
    quiet = tt;
    other = λ e is apart. absurd (apart part (sym (same_fault {T = B} is)));
    cause = λ p is. k.cause p (ap (λ (q : Part). Err (Failed q)) (same_part {T = B} is));
  }
  chain_kept (Err Memory) k =
      let calm : new.faults ≡ old.faults = k.other Memory refl (λ p nay. cc) in
      record { told = k.told; never_fails = k.never_fails; slots = k.slots; later = k.later; quiet = tt; other = λ e nay apart. calm; cause = λ p nay. absurd (cc) }

  chain_done : (r : Result A ChainFault) → new.world ≡ old.world → OnOk (told_as tell r) (new.world ≡ old.world)
  chain_done (Ok x) same = same
  chain_done (Err (Corrupt spot)) same = same
  chain_done (Err (Failed part)) same = tt
  chain_done (Err Memory) same = tt

  chain_found : (r : Result A ChainFault) → Finds (look old.world) r → IfOk (told_as tell r) (λ t. t ≡ tell (look old.world))
  chain_found (Ok x) is = ap tell (sym is)
  chain_found (Err (Corrupt spot)) is = ap tell (sym is)
  chain_found (Err (Failed part)) is = tt
  chain_found (Err Memory) is = tt

  pub learn_chain : (r : Result A ChainFault) → Looks look old r new → Learns None (λ w. tell (look w)) old (told_as tell r) new
  learn_chain r looks = record {
    keeps = chain_kept r looks.keeps;
    done = λ told. chain_done r (looks.same told);
    left = λ told. inl (looks.same told);
    calls = looks.calls;
    crash = looks.crash;
    finds = λ told. chain_found r (looks.finds told);
  }

  on_ok : (r : Result A ChainFault) (P : Type 0) → OnAnswer r P → OnOk (told_as tell r) P
  on_ok (Ok x) P p = p
  on_ok (Err (Corrupt spot)) P p = p
  on_ok (Err (Failed part)) P p = tt
  on_ok (Err Memory) P p = tt

  pub pass_chain : (ask : World → Option Action) (r : Result A ChainFault) → MayTry ask look old r new
      → Passes (λ w. after_asked w (ask w)) (λ w. LeavesAsked w (ask w)) (λ w. tell (look w)) old (told_as tell r) new
  pass_chain ask r tries = record {
    keeps = chain_kept r tries.keeps;
    done = λ told. on_ok r (new.world ≡ after_asked old.world (ask old.world)) (tries.asked told);
    crash = tries.crash;
    finds = λ told. chain_found r (tries.finds told);
  }

-- ---- the taking

module _ (old ready new : Sight) {E : Type 0} (actions bytes : ℕ) (made : Result Unit E) (readies : Readies old actions bytes made ready) where
  world_of : ready.world ≡ old.world
  world_of = ap (λ (s : Sight). s.world) readies.same

  faults_of : ready.faults ≡ old.faults
  faults_of = ap (λ (s : Sight). s.faults) readies.same

  -- room couldn't be made
  pub take_no_room : {T : Type 0} (a : Option Action) (look : World → T) → IsWhole a → Learns a look old (Err BoardMemory) ready
  take_no_room a look is_whole = record {
    keeps = record {
      told = ap (λ (s : Sight). s.told) readies.same;
      never_fails = ap (λ (s : Sight). s.never_fails) readies.same;
      slots = ap (λ (s : Sight). s.slots) readies.same;
      later = λ p. let e = ap (λ (s : Sight). s.faults p) readies.same in omega (arith, e);
      quiet = tt;
      other = λ e is apart. faults_of;
      cause = λ p is. absurd (cc);
    };
    done = λ told. tt;
    left = λ told. inl world_of;
    calls = λ told. calls_ready a old ready actions bytes made readies;
    crash = λ told. readied old old ready (LeavesAsked old.world a) actions bytes made (started old (LeavesAsked old.world a) (is_whole.before old.world)) readies;
    finds = λ told. tt;
  }

  module _ (result : Result Answer BoardFault) (out : List ℕ) (acts : Acts ready ResumeTake result out new) where
    moves_of : IsTrue old.told → Moves ready ResumeTake result out new
    moves_of told = acts.moves (subst (λ (s : Sight). IsTrue s.told) (sym readies.same) told)

    crash_of : IsTrue old.told → LeavesOnly old new (LeavesWithin old.world ResumeTake)
    crash_of told = goes_on old ready new ResumeTake result out (LeavesWithin old.world ResumeTake)
        (readied old old ready (LeavesWithin old.world ResumeTake) actions bytes made (started old (LeavesWithin old.world ResumeTake) (a_taking.before old.world)) readies) (moves_of told)
        (λ image within. subst (λ (w : World). LeavesWithin w ResumeTake image) world_of within)

    calls_of : IsTrue old.told → CallsAtMost (Some ResumeTake) old new
    calls_of told = calls_readied (Some ResumeTake) old ready new actions bytes made readies (calls_moved ready new ResumeTake result out (moves_of told))

    done_of : IsTrue old.told → (answer : Answer) → result ≡ Ok answer → Answers old.world ResumeTake answer out × (new.world ≡ after old.world ResumeTake 0)
    done_of told answer is =
        subst (λ (w : World). Answers w ResumeTake answer out × (new.world ≡ after w ResumeTake 0)) world_of
        (subst (λ (r : Result Answer BoardFault). IfOk r (λ answer. Answers ready.world ResumeTake answer out × (new.world ≡ after ready.world ResumeTake (length out)))) is (moves_of told).done)

    -- the cell was taken
    pub take_done : (answer : Answer) (key : Option (List ℕ)) → result ≡ Ok answer → ((cell : Option (List ℕ)) → answer ≡ cell_answer cell → key ≡ cell)
        → Learns (Some ResumeTake) (λ w. w.cell) old (Ok key) new
    take_done answer key is gives = record {
      keeps = record {
        told = acts.told ∙ ap (λ (s : Sight). s.told) readies.same;
        never_fails = acts.never_fails ∙ ap (λ (s : Sight). s.never_fails) readies.same;
        slots = acts.slots ∙ ap (λ (s : Sight). s.slots) readies.same;
        later = λ p. subst (λ (f : Part → ℕ). f p ≤ new.faults p) faults_of (acts.later p);
        quiet = calm;
        other = λ e nay apart. calm;
        cause = λ p nay. absurd (cc);
      };
      done = λ told. (done_of told answer is).1;
      left = λ told. inr (done_of told answer is).1;
      calls = calls_of;
      crash = crash_of;
      finds = λ told. gives old.world.cell (done_of told answer is).0.0;
    }
      where
        calm : new.faults ≡ old.faults
        calm = subst (λ (r : Result Answer BoardFault). OnOk r (new.faults ≡ ready.faults)) is acts.quiet ∙ faults_of

    -- it wasn't
    pub take_failed : {T : Type 0} (look : World → T) (fault : BoardFault) → result ≡ Err fault → Learns (Some ResumeTake) look old (Err fault) new
    take_failed {T} look (BoardFailed part) is = record {
      keeps = record {
        told = acts.told ∙ ap (λ (s : Sight). s.told) readies.same;
        never_fails = acts.never_fails ∙ ap (λ (s : Sight). s.never_fails) readies.same;
        slots = acts.slots ∙ ap (λ (s : Sight). s.slots) readies.same;
        later = λ p. subst (λ (f : Part → ℕ). f p ≤ new.faults p) faults_of (acts.later p);
        quiet = tt;
        other = λ e nay apart. absurd (apart part (sym (same_fault {T = T} nay)));
        cause = λ p nay. subst (λ (f : Part → ℕ). Rose (f p) (new.faults p)) faults_of
            (acts.cause p (is ∙ ap (λ (q : Part). Err (BoardFailed q)) (same_part {T = T} nay))).1;
      };
      done = λ told. tt;
      left = λ told. subst (λ (w : World). (new.world ≡ w) ⊎ (new.world ≡ after w ResumeTake 0)) world_of ((moves_of told).failed part is);
      calls = calls_of;
      crash = crash_of;
      finds = λ told. tt;
    }
    take_failed look BoardMemory is = absurd ((acts.memory is).0)
