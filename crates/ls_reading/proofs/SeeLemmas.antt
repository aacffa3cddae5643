-- Looks one behind another.
use Rattle.std.proofs.Common.{◌≡◌, ◌≢◌, ◌≤◌, ◌+◌, ℕ, zero, suc, Bool, IsTrue, List, [], ◌∷◌, ◌++◌, length, replicate, Option, Some, None, MatchOption, Result, Ok, Err, IfOk, refl, sym, ◌∙◌, ap, subst, arith}
use Rattle.std.specs.Prelude.{OnOk}
use Rattle.ls_board.specs.declared.action.Action.{Action}
use Rattle.ls_board.specs.declared.action.Action.TheVariants.{Read}
use Rattle.ls_board.specs.declared.action.Answer.{Answer}
use Rattle.ls_board.specs.declared.action.Answer.TheVariants.{Absent, Bytes}
use Rattle.ls_board.specs.declared.action.BoardFault.{BoardFault}
use Rattle.ls_board.specs.declared.action.BoardFault.TheVariants.{Failed, Memory}
use Rattle.ls_board.specs.declared.action.Part.{Part}
use Rattle.ls_board.specs.declared.world.World.{World}
use Rattle.ls_board.specs.Acts.{Sight, Acts, Moves, Readies, Rose}
use Rattle.ls_board.specs.Effect.{Answers, after, file_at}
use Rattle.ls_board.specs.Images.{Leaves, Within, changing}
use Rattle.ls_board.specs.Keeping.{Keeps}
use Rattle.ls_board.specs.Runs.{LeavesOnly}
use Rattle.ls_board.proofs.RunLemmas.{started, readied, goes_on, joins}
use Rattle.ls_reading.specs.Reading.{OnlyReads, Reads, Sees}

abbrev Calls : Type 0
Calls = List (World × Option Action)

same_part : {T : Type 0} (p q : Part) → ◌≡◌ {A = Result T BoardFault} (Err (Failed p)) (Err (Failed q)) → p ≡ q
same_part p q e = cc

same_err : {B : Type 0} {e f : BoardFault} → ◌≡◌ {A = Result B BoardFault} (Err e) (Err f) → e ≡ f
same_err is = cc

-- ---- what is kept

-- a fault of another answer type
kept_err : {A B : Type 0} (old new : Sight) (e : BoardFault) → Keeps {T = A} {E = BoardFault} Failed old new (Err e) → Keeps {T = B} {E = BoardFault} Failed old new (Err e)
kept_err {A} {B} old new e k = record {
  told = k.told;
  never_fails = k.never_fails;
  slots = k.slots;
  later = k.later;
  quiet = tt;
  other = λ f is apart. k.other e refl (λ p nay. apart p (sym (same_err {B = B} is) ∙ nay));
  cause = λ p is. k.cause p (ap (λ (f : BoardFault). Err f) (same_err {B = B} is));
}

-- an answer that isn't a failed call, where no count grew
kept_quiet : {A B : Type 0} (old new : Sight) (a : A) (r : Result B BoardFault) → Keeps {T = A} {E = BoardFault} Failed old new (Ok a) → ((p : Part) → r ≢ Err (Failed p)) → Keeps {T = B} {E = BoardFault} Failed old new r
kept_quiet {A} {B} old new a r k calm = record {
  told = k.told;
  never_fails = k.never_fails;
  slots = k.slots;
  later = k.later;
  quiet = on r;
  other = λ f is apart. k.quiet;
  cause = λ p is. absurd (calm p is);
}
  where
    on : (r : Result B BoardFault) → OnOk r (new.faults ≡ old.faults)
    on (Ok b) = k.quiet
    on (Err e) = tt

-- a call behind one that was answered
kept_both : {A B : Type 0} (old mid new : Sight) (a : A) (r : Result B BoardFault) → Keeps {T = A} {E = BoardFault} Failed old mid (Ok a) → Keeps {T = B} {E = BoardFault} Failed mid new r → Keeps {T = B} {E = BoardFault} Failed old new r
kept_both {A} {B} old mid new a r first second = record {
  told = second.told ∙ first.told;
  never_fails = second.never_fails ∙ first.never_fails;
  slots = second.slots ∙ first.slots;
  later = λ p. subst (λ (f : Part → ℕ). f p ≤ new.faults p) first.quiet (second.later p);
  quiet = on r second.quiet;
  other = λ f is apart. second.other f is apart ∙ first.quiet;
  cause = λ p is. subst (λ (f : Part → ℕ). Rose (f p) (new.faults p)) first.quiet (second.cause p is);
}
  where
    on : (r : Result B BoardFault) → OnOk r (new.faults ≡ mid.faults) → OnOk r (new.faults ≡ old.faults)
    on (Ok b) same = same ∙ first.quiet
    on (Err e) same = tt

-- ---- calls that only read

more_calls : (m n : ℕ) (call : World × Option Action) (past : Calls) → replicate m call ++ (replicate n call ++ past) ≡ replicate (m + n) call ++ past
more_calls zero n call past = let e : n ≡ zero + n = omega arith in ap (λ (k : ℕ). replicate k call ++ past) e
more_calls (suc m) n call past =
    let e : suc (m + n) ≡ suc m + n = omega arith in
    ap (λ (l : Calls). call ∷ l) (more_calls m n call past) ∙ ap (λ (k : ℕ). replicate k call ++ past) e

calls_none : (s : Sight) → OnlyReads s s
calls_none s = record { count = 0; past = refl }

calls_both : (old mid new : Sight) → mid.world ≡ old.world → OnlyReads old mid → OnlyReads mid new → OnlyReads old new
calls_both old mid new same first second = record {
  count = second.count + first.count;
  past = second.past
      ∙ ap (λ (w : World). replicate second.count (w, None) ++ mid.past) same
      ∙ ap (λ (l : Calls). replicate second.count (old.world, None) ++ l) first.past
      ∙ more_calls second.count first.count (old.world, None) old.past;
}

-- ---- one behind another

still : {T : Type 0} (old mid : Sight) (r : Result T BoardFault) → Keeps {T = T} {E = BoardFault} Failed old mid r → IsTrue old.told → IsTrue mid.told
still old mid r keeps told = subst (λ (b : Bool). IsTrue b) (sym keeps.told) told

module _ {A B : Type 0} (P : World → A → Type 0) (Q : World → B → Type 0) (old mid : Sight) where
  -- it ends with its fault
  pub reads_err : (e : BoardFault) → Reads P old (Err e) mid → Reads Q old (Err e) mid
  reads_err e reads = record {
    keeps = kept_err old mid e reads.keeps;
    same = reads.same;
    calls = reads.calls;
    crash = reads.crash;
    finds = λ told. tt;
  }

  -- another reading behind it
  pub reads_both : (R : World → B → Type 0) (new : Sight) (a : A) (r : Result B BoardFault) → ((w : World) (b : B) → P w a → R w b → Q w b)
      → Reads P old (Ok a) mid → Reads R mid r new → Reads Q old r new
  reads_both R new a r follows first second = record {
    keeps = kept_both old mid new a r first.keeps second.keeps;
    same = λ told. second.same (on told) ∙ first.same told;
    calls = λ told. calls_both old mid new (first.same told) (first.calls told) (second.calls (on told));
    crash = λ told. joins old mid new (Leaves old.world) (first.crash told) (subst (λ (w : World). LeavesOnly mid new (Leaves w)) (first.same told) (second.crash (on told)));
    finds = λ told. both r (first.finds told) (subst (λ (w : World). IfOk r (R w)) (first.same told) (second.finds (on told)));
  }
    where
      on : IsTrue old.told → IsTrue mid.told
      on told = still old mid (Ok a) first.keeps told

      both : (r : Result B BoardFault) → P old.world a → IfOk r (R old.world) → IfOk r (Q old.world)
      both (Ok b) p q = follows old.world b p q
      both (Err e) p q = tt

  -- a value behind it
  pub reads_value : (a : A) (b : B) → Reads P old (Ok a) mid → ((w : World) → P w a → Q w b) → Reads Q old (Ok b) mid
  reads_value a b first follows = record {
    keeps = kept_quiet old mid a (Ok b) first.keeps (λ p nay. cc);
    same = first.same;
    calls = first.calls;
    crash = first.crash;
    finds = λ told. follows old.world (first.finds told);
  }

  -- no memory behind it
  pub reads_lacks : (a : A) → Reads P old (Ok a) mid → Reads Q old (Err Memory) mid
  reads_lacks a first = record {
    keeps = kept_quiet old mid a (Err Memory) first.keeps (λ p is. cc);
    same = first.same;
    calls = first.calls;
    crash = first.crash;
    finds = λ told. tt;
  }

module _ {A B : Type 0} (look : World → A) (old mid : Sight) where
  -- a look ends with its fault
  pub sees_err : (whole : World → B) (e : BoardFault) → Sees look old (Err e) mid → Sees whole old (Err e) mid
  sees_err whole e sees = reads_err (λ w t. t ≡ look w) (λ w t. t ≡ whole w) old mid e sees

  -- another look behind it
  pub sees_both : (next : A → World → B) (new : Sight) (a : A) (r : Result B BoardFault) → Sees look old (Ok a) mid → Sees (next a) mid r new → Sees (λ w. next (look w) w) old r new
  sees_both next new a r first second =
      reads_both (λ w t. t ≡ look w) (λ w t. t ≡ next (look w) w) old mid (λ w t. t ≡ next a w) new a r (λ w b p q. q ∙ ap (λ (x : A). next x w) p) first second

  -- a value behind it
  pub sees_value : (next : A → World → B) (a : A) (b : B) → Sees look old (Ok a) mid → ((w : World) → b ≡ next a w) → Sees (λ w. next (look w) w) old (Ok b) mid
  sees_value next a b first is =
      reads_value (λ w t. t ≡ look w) (λ w t. t ≡ next (look w) w) old mid a b first (λ w p. is w ∙ ap (λ (x : A). next x w) p)

  -- no memory behind it
  pub sees_lacks : (whole : World → B) (a : A) → Sees look old (Ok a) mid → Sees whole old (Err Memory) mid
  sees_lacks whole a first = reads_lacks (λ w t. t ≡ look w) (λ w t. t ≡ whole w) old mid a first

-- the same, said in another way
pub reads_as : {T : Type 0} (P Q : World → T → Type 0) (old new : Sight) (r : Result T BoardFault) → (IsTrue old.told → (t : T) → P old.world t → Q old.world t) → Reads P old r new → Reads Q old r new
reads_as {T} P Q old new r follows reads = record {
  keeps = reads.keeps;
  same = reads.same;
  calls = reads.calls;
  crash = reads.crash;
  finds = λ told. on r (follows told) (reads.finds told);
}
  where
    on : (r : Result T BoardFault) → ((t : T) → P old.world t → Q old.world t) → IfOk r (P old.world) → IfOk r (Q old.world)
    on (Ok t) f p = f t p
    on (Err e) f p = tt

pub sees_as : {T : Type 0} (look other : World → T) (old new : Sight) (r : Result T BoardFault) → (IsTrue old.told → look old.world ≡ other old.world) → Sees look old r new → Sees other old r new
sees_as look other old new r is sees = reads_as (λ w t. t ≡ look w) (λ w t. t ≡ other w) old new r (λ told t p. p ∙ is told) sees

-- ---- before any call

kept_none : {T : Type 0} (s : Sight) (r : Result T BoardFault) → ((p : Part) → r ≢ Err (Failed p)) → Keeps {T = T} {E = BoardFault} Failed s s r
kept_none {T} s r calm = record {
  told = refl;
  never_fails = refl;
  slots = refl;
  later = λ p. omega arith;
  quiet = on r;
  other = λ e is apart. refl;
  cause = λ p is. absurd (calm p is);
}
  where
    on : (r : Result T BoardFault) → OnOk r (s.faults ≡ s.faults)
    on (Ok b) = refl
    on (Err e) = tt

module _ {T : Type 0} (P : World → T → Type 0) (s : Sight) where
  at_rest : (r : Result T BoardFault) → ((p : Part) → r ≢ Err (Failed p)) → (IsTrue s.told → IfOk r (P s.world)) → Reads P s r s
  at_rest r calm finds = record {
    keeps = kept_none s r calm;
    same = λ told. refl;
    calls = λ told. calls_none s;
    crash = λ told. started s (Leaves s.world) (λ image left. left);
    finds = finds;
  }

  -- what is known
  pub reads_known : (t : T) → ((w : World) → P w t) → Reads P s (Ok t) s
  reads_known t is = at_rest (Ok t) (λ p nay. cc) (λ told. is s.world)

  -- no memory
  pub reads_none : Reads P s (Err Memory) s
  reads_none = at_rest (Err Memory) (λ p nay. cc) (λ told. tt)

pub sees_known : {T : Type 0} (look : World → T) (s : Sight) (t : T) → ((w : World) → t ≡ look w) → Sees look s (Ok t) s
sees_known look s t is = reads_known (λ w t. t ≡ look w) s t is

-- ---- one action that only reads

-- room couldn't be made
pub reads_no_room : {T : Type 0} (P : World → T → Type 0) (old mid : Sight) {E : Type 0} (actions bytes : ℕ) (made : Result Unit E) → Readies old actions bytes made mid → Reads P old (Err Memory) mid
reads_no_room P old mid actions bytes made readies = record {
  keeps = record {
    told = ap (λ (s : Sight). s.told) readies.same;
    never_fails = ap (λ (s : Sight). s.never_fails) readies.same;
    slots = ap (λ (s : Sight). s.slots) readies.same;
    later = λ p. let e = ap (λ (s : Sight). s.faults p) readies.same in omega (arith, e);
    quiet = tt;
    other = λ e is apart. ap (λ (s : Sight). s.faults) readies.same;
    cause = λ p is. cc;
  };
  same = λ told. ap (λ (s : Sight). s.world) readies.same;
  calls = λ told. record { count = 0; past = ap (λ (s : Sight). s.past) readies.same };
  crash = λ told. readied old old mid (Leaves old.world) actions bytes made (started old (Leaves old.world) (λ image left. left)) readies;
  finds = λ told. tt;
}

module _ {T : Type 0} (P : World → T → Type 0) (old ready new : Sight) {E : Type 0} (actions bytes : ℕ) (made : Result Unit E) (readies : Readies old actions bytes made ready)
    (a : Action) (within_same : (w mid : World) → Within w a mid → mid ≡ w) (after_same : (w : World) (n : ℕ) → after w a n ≡ w) (none : changing a ≡ None) (result : Result Answer BoardFault) (out : List ℕ) (acts : Acts ready a result out new) where
  world_of : ready.world ≡ old.world
  world_of = ap (λ (s : Sight). s.world) readies.same

  faults_of : ready.faults ≡ old.faults
  faults_of = ap (λ (s : Sight). s.faults) readies.same

  moves_of : IsTrue old.told → Moves ready a result out new
  moves_of told = acts.moves (subst (λ (s : Sight). IsTrue s.told) (sym readies.same) told)

  unmoved : (m : Moves ready a result out new) → (r : Result Answer BoardFault) → result ≡ r → new.world ≡ ready.world
  unmoved m (Ok answer) is = (subst (λ (r : Result Answer BoardFault). IfOk r (λ answer. Answers ready.world a answer out × (new.world ≡ after ready.world a (length out)))) is m.done).1 ∙ after_same ready.world (length out)
  unmoved m (Err (Failed p)) is = within_same ready.world new.world (m.failed p is)
  unmoved m (Err Memory) is = m.lacking is

  same_world : IsTrue old.told → new.world ≡ old.world
  same_world told = unmoved (moves_of told) result refl ∙ world_of

  read_once : IsTrue old.told → OnlyReads old new
  read_once told = record {
    count = 1;
    past = (moves_of told).past
        ∙ (λ i. (world_of i, none i) ∷ ready.past)
        ∙ ap (λ (s : Sight). (old.world, None) ∷ s.past) readies.same;
  }

  left : IsTrue old.told → LeavesOnly old new (Leaves old.world)
  left told = goes_on old ready new a result out (Leaves old.world)
      (readied old old ready (Leaves old.world) actions bytes made (started old (Leaves old.world) (λ image left. left)) readies) (moves_of told)
      (λ image within. subst (λ (w : World). Leaves w image) (within_same ready.world within.0 within.1 ∙ world_of) within.2)

  -- the action was answered
  pub reads_acted : (answer : Answer) (t : T) → result ≡ Ok answer → ((w : World) → Answers w a answer out → P w t) → Reads P old (Ok t) new
  reads_acted answer t is follows = record {
    keeps = record {
      told = acts.told ∙ ap (λ (s : Sight). s.told) readies.same;
      never_fails = acts.never_fails ∙ ap (λ (s : Sight). s.never_fails) readies.same;
      slots = acts.slots ∙ ap (λ (s : Sight). s.slots) readies.same;
      later = λ p. subst (λ (f : Part → ℕ). f p ≤ new.faults p) faults_of (acts.later p);
      quiet = calm;
      other = λ e nay apart. calm;
      cause = λ p nay. absurd (cc);
    };
    same = same_world;
    calls = read_once;
    crash = left;
    finds = λ told. follows old.world (subst (λ (w : World). Answers w a answer out) world_of
        (subst (λ (r : Result Answer BoardFault). IfOk r (λ answer. Answers ready.world a answer out × (new.world ≡ after ready.world a (length out)))) is (moves_of told).done).0);
  }
    where
      calm : new.faults ≡ old.faults
      calm = subst (λ (r : Result Answer BoardFault). OnOk r (new.faults ≡ ready.faults)) is acts.quiet ∙ faults_of

  -- it was answered, and there was no memory for what it said
  pub reads_unkept : (answer : Answer) → result ≡ Ok answer → Reads P old (Err Memory) new
  reads_unkept answer is = record {
    keeps = record {
      told = acts.told ∙ ap (λ (s : Sight). s.told) readies.same;
      never_fails = acts.never_fails ∙ ap (λ (s : Sight). s.never_fails) readies.same;
      slots = acts.slots ∙ ap (λ (s : Sight). s.slots) readies.same;
      later = λ p. subst (λ (f : Part → ℕ). f p ≤ new.faults p) faults_of (acts.later p);
      quiet = tt;
      other = λ e nay apart. subst (λ (r : Result Answer BoardFault). OnOk r (new.faults ≡ ready.faults)) is acts.quiet ∙ faults_of;
      cause = λ p nay. absurd (cc);
    };
    same = same_world;
    calls = read_once;
    crash = left;
    finds = λ told. tt;
  }

  -- it wasn't
  pub reads_failed : (fault : BoardFault) → result ≡ Err fault → Reads P old (Err fault) new
  reads_failed (Failed part) is = record {
    keeps = record {
      told = acts.told ∙ ap (λ (s : Sight). s.told) readies.same;
      never_fails = acts.never_fails ∙ ap (λ (s : Sight). s.never_fails) readies.same;
      slots = acts.slots ∙ ap (λ (s : Sight). s.slots) readies.same;
      later = λ p. subst (λ (f : Part → ℕ). f p ≤ new.faults p) faults_of (acts.later p);
      quiet = tt;
      other = λ e nay apart. absurd (apart part (sym (same_err {B = T} nay)));
      cause = λ p nay. subst (λ (f : Part → ℕ). Rose (f p) (new.faults p)) faults_of (acts.cause p (is ∙ ap (λ (q : Part). Err (Failed q)) (same_part {T = T} part p nay))).1;
    };
    same = same_world;
    calls = read_once;
    crash = left;
    finds = λ told. tt;
  }
  reads_failed Memory is = record {
    keeps = record {
      told = acts.told ∙ ap (λ (s : Sight). s.told) readies.same;
      never_fails = acts.never_fails ∙ ap (λ (s : Sight). s.never_fails) readies.same;
      slots = acts.slots ∙ ap (λ (s : Sight). s.slots) readies.same;
      later = λ p. subst (λ (f : Part → ℕ). f p ≤ new.faults p) faults_of (acts.later p);
      quiet = tt;
      other = λ e nay apart. (acts.memory is).1 ∙ faults_of;
      cause = λ p nay. absurd (cc);
    };
    same = same_world;
    calls = read_once;
    crash = left;
    finds = λ told. tt;
  }

-- ---- a file that was read

found_file : (file : Option (List ℕ)) (answer : Answer) (out : List ℕ) → MatchOption file ((answer ≡ Absent) × (out ≡ [])) (λ bytes. (answer ≡ Bytes) × (out ≡ bytes))
    → (found : Option (List ℕ)) → (answer ≡ Absent → found ≡ None) → ((answer ≡ Absent → ⊥) → found ≡ Some out) → found ≡ file
found_file None answer out answers found absent there = absent answers.0
found_file (Some bytes) answer out answers found absent there =
    there (λ is. let nay : Bytes ≡ Absent = sym answers.0 ∙ is in cc) ∙ ap (λ (l : List ℕ). Some l) answers.1

module _ (old ready new : Sight) {E : Type 0} (actions bytes : ℕ) (made : Result Unit E) (readies : Readies old actions bytes made ready) (result : Result Answer BoardFault) (out : List ℕ)
    (n : List ℕ) (a : Action) (is : a ≡ Read n) (acts : Acts ready a result out new) where
  reads : Acts ready (Read n) result out new
  reads = subst (λ (x : Action). Acts ready x result out new) is acts

  pub read_failed : (fault : BoardFault) → result ≡ Err fault → Sees {T = Option (List ℕ)} (λ w. file_at w n) old (Err fault) new
  read_failed fault was = reads_failed (λ w t. t ≡ file_at w n) old ready new actions bytes made readies (Read n) (λ w mid within. within) (λ w count. refl) refl result out reads fault was

  pub read_done : (answer : Answer) → result ≡ Ok answer → (found : Option (List ℕ)) → (answer ≡ Absent → found ≡ None) → ((answer ≡ Absent → ⊥) → found ≡ Some out) → Sees {T = Option (List ℕ)} (λ w. file_at w n) old (Ok found) new
  read_done answer was found absent there = reads_acted (λ w t. t ≡ file_at w n) old ready new actions bytes made readies (Read n) (λ w mid within. within) (λ w count. refl) refl result out reads answer found was
      (λ w answers. found_file (file_at w n) answer out answers found absent there)
