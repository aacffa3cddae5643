-- Looks one behind another.
use Rattle.std.proofs.Common.{◌≡◌, ◌≢◌, ◌≤◌, ℕ, Bool, IsTrue, List, length, None, Result, Ok, Err, IfOk, refl, sym, ◌∙◌, ap, subst, arith}
use Rattle.std.specs.Prelude.{OnOk}
use Rattle.ls_board.specs.declared.action.Action.{Action}
use Rattle.ls_board.specs.declared.action.Answer.{Answer}
use Rattle.ls_board.specs.declared.action.BoardFault.{BoardFault}
use Rattle.ls_board.specs.declared.action.BoardFault.TheVariants.{Failed as BoardFailed, Memory as BoardMemory}
use Rattle.ls_board.specs.declared.action.Part.{Part}
use Rattle.ls_board.specs.declared.world.World.{World}
use Rattle.ls_board.specs.Acts.{Sight, Acts, Moves, Readies, Rose}
use Rattle.ls_board.specs.Effect.{Answers, after}
use Rattle.ls_board.specs.Images.{Leaves, Within, changing}
use Rattle.ls_board.specs.Keeping.{Keeps}
use Rattle.ls_board.specs.Runs.{LeavesOnly}
use Rattle.ls_board.proofs.RunLemmas.{started, readied, goes_on, joins}
use Rattle.ls_chain.specs.declared.fault.Spot.{Spot}
use Rattle.ls_chain.specs.declared.fault.ChainFault.{ChainFault}
use Rattle.ls_chain.specs.declared.fault.ChainFault.TheVariants.{Corrupt, Failed, Memory}
use Rattle.ls_chain.specs.Looking.{Finds, Gives, Looks, fault_of}
use Rattle.ls_chain.specs.Links.{next_of}
use Rattle.ls_chain.specs.Calling.{CallsAtMost}
use Rattle.ls_chain.proofs.CallingLemmas.{calls_none, calls_both, calls_ready, calls_readied, reading_moved}

-- ---- what is kept

same_part : {T : Type 0} (p q : Part) → ◌≡◌ {A = Result T ChainFault} (Err (Failed p)) (Err (Failed q)) → p ≡ q
same_part p q e = cc

-- a fault of another answer type
kept_err : {A B : Type 0} (old new : Sight) (e : ChainFault) → Keeps {T = A} {E = ChainFault} Failed old new (Err e) → Keeps {T = B} {E = ChainFault} Failed old new (Err e)
kept_err {A} {B} old new e k = record {
  told = k.told;
  never_fails = k.never_fails;
  slots = k.slots;
  later = k.later;
  quiet = tt;
  other = λ f is apart. k.other e refl (λ p nay. apart p (sym (same is) ∙ nay));
  cause = λ p is. k.cause p (ap (λ (f : ChainFault). Err f) (same is));
}
  where
    same : {f : ChainFault} → ◌≡◌ {A = Result B ChainFault} (Err e) (Err f) → e ≡ f
    same is = cc

-- an answer that isn't a failed call, where no count grew
pub kept_quiet : {A B : Type 0} (old new : Sight) (a : A) (r : Result B ChainFault) → Keeps {T = A} {E = ChainFault} Failed old new (Ok a) → ((p : Part) → r ≢ Err (Failed p)) → Keeps {T = B} {E = ChainFault} Failed old new r
kept_quiet {A} {B} old new a r k calm = record {
  told = k.told;
  never_fails = k.never_fails;
  slots = k.slots;
  later = k.later;
  quiet = on r;
  other = λ f is apart. k.quiet;
  cause = λ p is. absurd (calm p is);
}
  where
    on : (r : Result B ChainFault) → OnOk r (new.faults ≡ old.faults)
    on (Ok b) = k.quiet
    on (Err e) = tt

-- a call behind one that was answered
pub kept_both : {A B : Type 0} (old mid new : Sight) (a : A) (r : Result B ChainFault) → Keeps {T = A} {E = ChainFault} Failed old mid (Ok a) → Keeps {T = B} {E = ChainFault} Failed mid new r → Keeps {T = B} {E = ChainFault} Failed old new r
kept_both {A} {B} old mid new a r first second = record {
  told = second.told ∙ first.told;
  never_fails = second.never_fails ∙ first.never_fails;
  slots = second.slots ∙ first.slots;
  later = λ p. subst (λ (f : Part → ℕ). f p ≤ new.faults p) first.quiet (second.later p);
  quiet = on r second.quiet;
  other = λ f is apart. second.other f is apart ∙ first.quiet;
  cause = λ p is. subst (λ (f : Part → ℕ). Rose (f p) (new.faults p)) first.quiet (second.cause p is);
}
  where
    on : (r : Result B ChainFault) → OnOk r (new.faults ≡ mid.faults) → OnOk r (new.faults ≡ old.faults)
    on (Ok b) same = same ∙ first.quiet
    on (Err e) same = tt

-- ---- looks

abbrev Look : Type 0 → Type 0
Look T = World → Result T Spot

gives_calm : {T : Type 0} (expected : Result T Spot) (r : Result T ChainFault) → Gives expected r → (p : Part) → r ≢ Err (Failed p)
gives_calm expected (Ok t) g p is = cc
gives_calm expected (Err (Corrupt spot)) g p is = cc
gives_calm expected (Err (Failed q)) g p is = g
gives_calm expected (Err Memory) g p is = cc

gives_finds : {T : Type 0} (expected : Result T Spot) (r : Result T ChainFault) → Gives expected r → Finds expected r
gives_finds expected (Ok t) g = g
gives_finds expected (Err (Corrupt spot)) g = g
gives_finds expected (Err (Failed q)) g = tt
gives_finds expected (Err Memory) g = tt

finds_err : {A B : Type 0} (expected : Result A Spot) (next : A → Result B Spot) (e : ChainFault) → Finds expected (Err e) → Finds (next_of expected next) (Err e)
finds_err {A} {B} expected next (Corrupt spot) is = ap (λ (x : Result A Spot). next_of x next) is
finds_err expected next (Failed part) is = tt
finds_err expected next Memory is = tt

module _ {A B : Type 0} (look : Look A) (old mid : Sight) where
  -- it ends with its fault
  pub look_err : (next : A → Look B) (e : ChainFault) → Looks look old (Err e) mid → Looks {T = B} (λ w. next_of (look w) (λ a. next a w)) old (Err e) mid
  look_err next e looks = record {
    keeps = kept_err old mid e looks.keeps;
    same = looks.same;
    calls = looks.calls;
    crash = looks.crash;
    finds = λ told. finds_err (look old.world) (λ a. next a old.world) e (looks.finds told);
  }

  -- another look behind it
  pub look_both : (next : A → Look B) (new : Sight) (a : A) (r : Result B ChainFault) → Looks look old (Ok a) mid → Looks (next a) mid r new → Looks (λ w. next_of (look w) (λ a. next a w)) old r new
  look_both next new a r first second = record {
    keeps = kept_both old mid new a r first.keeps second.keeps;
    same = λ told. second.same (still told) ∙ first.same told;
    calls = λ told. calls_both None old mid new (first.calls told) (second.calls (still told));
    crash = λ told. joins old mid new (Leaves old.world) (first.crash told) (subst (λ (w : World). LeavesOnly mid new (Leaves w)) (first.same told) (second.crash (still told)));
    finds = λ told. subst (λ (x : Result A Spot). Finds (next_of x (λ a. next a old.world)) r) (sym (first.finds told))
        (subst (λ (w : World). Finds (next a w) r) (first.same told) (second.finds (still told)));
  }
    where
      still : IsTrue old.told → IsTrue mid.told
      still told = subst (λ (b : Bool). IsTrue b) (sym first.keeps.told) told

  -- a value behind it
  pub look_gives : (next : A → Look B) (a : A) (r : Result B ChainFault) → Looks look old (Ok a) mid → ((w : World) → Gives (next a w) r) → Looks (λ w. next_of (look w) (λ a. next a w)) old r mid
  look_gives next a r first gives = record {
    keeps = kept_quiet old mid a r first.keeps (gives_calm (next a old.world) r (gives old.world));
    same = first.same;
    calls = first.calls;
    crash = first.crash;
    finds = λ told. subst (λ (x : Result A Spot). Finds (next_of x (λ a. next a old.world)) r) (sym (first.finds told)) (gives_finds (next a old.world) r (gives old.world));
  }

  -- no memory behind it
  pub look_lacks : (whole : Look B) (a : A) → Looks look old (Ok a) mid → Looks whole old (Err Memory) mid
  look_lacks whole a first = record {
    keeps = kept_quiet old mid a (Err Memory) first.keeps (λ p is. cc);
    same = first.same;
    calls = first.calls;
    crash = first.crash;
    finds = λ told. tt;
  }

-- ---- before any call

pub look_none : {T : Type 0} (look : World → Result T Spot) (s : Sight) (r : Result T ChainFault) → ((w : World) → Gives (look w) r) → Looks look s r s
look_none {T} look s r gives = record {
  keeps = record {
    told = refl;
    never_fails = refl;
    slots = refl;
    later = λ p. omega arith;
    quiet = on r;
    other = λ e is apart. refl;
    cause = λ p is. absurd (gives_calm (look s.world) r (gives s.world) p is);
  };
  same = λ told. refl;
  calls = λ told. calls_none None s;
  crash = λ told. started s (Leaves s.world) (λ image left. left);
  finds = λ told. gives_finds (look s.world) r (gives s.world);
}
  where
    on : (r : Result T ChainFault) → OnOk r (s.faults ≡ s.faults)
    on (Ok b) = refl
    on (Err e) = tt

-- ---- one action that only reads

-- room couldn't be made
pub look_no_room : {T : Type 0} (look : World → Result T Spot) (old mid : Sight) {E : Type 0} (actions bytes : ℕ) (made : Result Unit E) → Readies old actions bytes made mid → Looks look old (Err Memory) mid
look_no_room look old mid actions bytes made readies = record {
  keeps = record {
    told = ap (λ (s : Sight). s.told) readies.same;
    never_fails = ap (λ (s : Sight). s.never_fails) readies.same;
    slots = ap (λ (s : Sight). s.slots) readies.same;
    later = λ p. let e = ap (λ (s : Sight). s.faults p) readies.same in omega (arith, e);
    quiet = tt;
    other = λ e is apart. ap (λ (s : Sight). s.faults) readies.same;
    cause = λ p is. cc;
  };
  same = λ told. ap (λ (s : Sight). s.world) readies.same;
  calls = λ told. calls_ready None old mid actions bytes made readies;
  crash = λ told. readied old old mid (Leaves old.world) actions bytes made (started old (Leaves old.world) (λ image left. left)) readies;
  finds = λ told. tt;
}

module _ {T : Type 0} (look : World → Result T Spot) (old ready new : Sight) {E : Type 0} (actions bytes : ℕ) (made : Result Unit E) (readies : Readies old actions bytes made ready)
    (a : Action) (within_same : (w mid : World) → Within w a mid → mid ≡ w) (after_same : (w : World) (n : ℕ) → after w a n ≡ w) (none : changing a ≡ None) (result : Result Answer BoardFault) (out : List ℕ) (acts : Acts ready a result out new) where
  world_of : ready.world ≡ old.world
  world_of = ap (λ (s : Sight). s.world) readies.same

  faults_of : ready.faults ≡ old.faults
  faults_of = ap (λ (s : Sight). s.faults) readies.same

  moves_of : IsTrue old.told → Moves ready a result out new
  moves_of told = acts.moves (subst (λ (s : Sight). IsTrue s.told) (sym readies.same) told)

  unmoved : (m : Moves ready a result out new) → (r : Result Answer BoardFault) → result ≡ r → new.world ≡ ready.world
  unmoved m (Ok answer) is = (subst (λ (r : Result Answer BoardFault). IfOk r (λ answer. Answers ready.world a answer out × (new.world ≡ after ready.world a (length out)))) is m.done).1 ∙ after_same ready.world (length out)
  unmoved m (Err (BoardFailed p)) is = within_same ready.world new.world (m.failed p is)
  unmoved m (Err BoardMemory) is = m.lacking is

  same_world : IsTrue old.told → new.world ≡ old.world
  same_world told = unmoved (moves_of told) result refl ∙ world_of

  reads_only : IsTrue old.told → CallsAtMost None old new
  reads_only told = calls_readied None old ready new actions bytes made readies (reading_moved ready new a result out (moves_of told) None none)

  left : IsTrue old.told → LeavesOnly old new (Leaves old.world)
  left told = goes_on old ready new a result out (Leaves old.world)
      (readied old old ready (Leaves old.world) actions bytes made (started old (Leaves old.world) (λ image left. left)) readies) (moves_of told)
      (λ image within. subst (λ (w : World). Leaves w image) (within_same ready.world within.0 within.1 ∙ world_of) within.2)

  -- the action was answered
  pub look_acted : (answer : Answer) (t : T) → result ≡ Ok answer → ((w : World) → Answers w a answer out → look w ≡ Ok t) → Looks look old (Ok t) new
  look_acted answer t is finds = record {
    keeps = record {
      told = acts.told ∙ ap (λ (s : Sight). s.told) readies.same;
      never_fails = acts.never_fails ∙ ap (λ (s : Sight). s.never_fails) readies.same;
      slots = acts.slots ∙ ap (λ (s : Sight). s.slots) readies.same;
      later = λ p. subst (λ (f : Part → ℕ). f p ≤ new.faults p) faults_of (acts.later p);
      quiet = calm;
      other = λ e nay apart. calm;
      cause = λ p nay. absurd (cc);
    };
    same = same_world;
    calls = reads_only;
    crash = left;
    finds = λ told. finds old.world (subst (λ (w : World). Answers w a answer out) world_of
        (subst (λ (r : Result Answer BoardFault). IfOk r (λ answer. Answers ready.world a answer out × (new.world ≡ after ready.world a (length out)))) is (moves_of told).done).0);
  }
    where
      calm : new.faults ≡ old.faults
      calm = subst (λ (r : Result Answer BoardFault). OnOk r (new.faults ≡ ready.faults)) is acts.quiet ∙ faults_of

  -- it wasn't
  pub look_failed : (fault : BoardFault) → result ≡ Err fault → Looks look old (Err (fault_of fault)) new
  look_failed (BoardFailed part) is = record {
    keeps = record {
      told = acts.told ∙ ap (λ (s : Sight). s.told) readies.same;
      never_fails = acts.never_fails ∙ ap (λ (s : Sight). s.never_fails) readies.same;
      slots = acts.slots ∙ ap (λ (s : Sight). s.slots) readies.same;
      later = λ p. subst (λ (f : Part → ℕ). f p ≤ new.faults p) faults_of (acts.later p);
      quiet = tt;
      other = λ e nay apart. absurd (apart part (sym (same_fault e nay)));
      cause = λ p nay. subst (λ (f : Part → ℕ). Rose (f p) (new.faults p)) faults_of (acts.cause p (is ∙ ap (λ (q : Part). Err (BoardFailed q)) (same_part {T = T} part p nay))).1;
    };
    same = same_world;
    calls = reads_only;
    crash = left;
    finds = λ told. tt;
  }
    where
      same_fault : (e : ChainFault) → ◌≡◌ {A = Result T ChainFault} (Err (Failed part)) (Err e) → Failed part ≡ e
      same_fault e nay = cc
  look_failed BoardMemory is = record {
    keeps = record {
      told = acts.told ∙ ap (λ (s : Sight). s.told) readies.same;
      never_fails = acts.never_fails ∙ ap (λ (s : Sight). s.never_fails) readies.same;
      slots = acts.slots ∙ ap (λ (s : Sight). s.slots) readies.same;
      later = λ p. subst (λ (f : Part → ℕ). f p ≤ new.faults p) faults_of (acts.later p);
      quiet = tt;
      other = λ e nay apart. (acts.memory is).1 ∙ faults_of;
      cause = λ p nay. absurd (cc);
    };
    same = same_world;
    calls = reads_only;
    crash = left;
    finds = λ told. tt;
  }
