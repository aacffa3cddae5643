-- A credential or a token is tried and a user is looked up: what that keeps on any board, and what a crash
-- within it leaves.
use Rattle.std.proofs.Common.{◌≡◌, ◌≤◌, ℕ, Bool, IsTrue, List, Option, None, Result, Ok, Err, refl, sym, ◌∙◌, subst, true, false, cond}
use Rattle.ls_board.specs.declared.action.Action.{Action}
use Rattle.ls_board.specs.declared.action.Part.{Part}
use Rattle.ls_board.specs.declared.world.World.{World}
use Rattle.ls_board.specs.Acts.{Sight, Rose}
use Rattle.ls_board.specs.Keeping.{Keeps}
use Rattle.ls_board.specs.Runs.{LeavesOnly}
use Rattle.ls_board.specs.Worlds.{InOrder}
use Rattle.ls_board.proofs.RunLemmas.{joins, weaker}
use Rattle.ls_chain.specs.declared.fault.Spot.{Spot}
use Rattle.ls_chain.specs.declared.fault.ChainFault.{ChainFault}
use Rattle.ls_chain.specs.declared.fault.ChainFault.TheVariants.{Corrupt, Failed, Memory}
use Rattle.ls_chain.specs.HandleFile.{confirm_action, handle_checked}
use Rattle.ls_chain.specs.Links.{links_at}
use Rattle.ls_chain.specs.Trying.{MayTry, OnAnswer, LeavesAsked, asked_of}
use Rattle.ls_naming.specs.Named.{has_secure}
use Rattle.ls_record.specs.declared.row.UserRow.{UserRow}
use Rattle.ls_revealing.specs.Revealing.{secure_asked, reveal_end}
use Rattle.ls_script.specs.declared.reply.Revealed.{Revealed}
use Rattle.ls_secret.specs.Secrets.{SecretValue}
use Rattle.ls_serving.specs.Calls.{IsSilent}
use Rattle.ls_serving.specs.Turns.{StaysInside}
use Rattle.ls_serving.proofs.TurnLemmas.{inside-trans}
use Rattle.ls_turn.proofs.BehindLemmas.{silent-trans}
use Rattle.ls_unlocking.specs.declared.ending.Tried.{Tried}
use Rattle.ls_unlocking.specs.declared.ending.Tried.TheVariants as tried
use Rattle.ls_unlocking.specs.declared.ending.Ending.{Ending}
use Rattle.ls_unlocking.specs.declared.ending.Ending.TheVariants as ending
use Rattle.ls_unlocking.specs.Trying.{IsBehind, Unlocks, ending_of}
use Rattle.ls_unlocking.proofs.AlikeLemmas.{alike_silent}
use Rattle.ls_unlocking.proofs.AskedLemmas.{IsAsked, MayAsk, asked_trans, tried_inside, tried_silent, tried_asked}

-- ---- counts of faults

-- a fault comes only where its count rose, and no other answer where one grew
abbrev pub Counts : {T : Type 0} → (Part → ℕ) → (Part → ℕ) → Result T ChainFault → Type 0
Counts was now (Ok t) = now ≡ was
Counts was now (Err (Corrupt spot)) = now ≡ was
Counts was now (Err (Failed part)) = Rose (was part) (now part)
Counts was now (Err Memory) = now ≡ was

counts_of : {T : Type 0} (old new : Sight) (r : Result T ChainFault) → Keeps {T = T} {E = ChainFault} Failed old new r → Counts old.faults new.faults r
counts_of old new (Ok t) k = k.quiet
counts_of old new (Err (Corrupt spot)) k = k.other (Corrupt spot) refl (λ p e. cc)
counts_of old new (Err (Failed part)) k = k.cause part refl
counts_of old new (Err Memory) k = k.other Memory refl (λ p e. cc)

counts_ending : (was now : Part → ℕ) (s : SecretValue) (r : Result Revealed ChainFault) → Counts was now r → Counts was now (ending_of s r)
counts_ending was now s (Ok revealed) c = c
counts_ending was now s (Err (Corrupt spot)) c = c
counts_ending was now s (Err (Failed part)) c = c
counts_ending was now s (Err Memory) c = c

answers_ending : (P Q : Type 0) (s : SecretValue) (r : Result Revealed ChainFault) → (P → Q) → OnAnswer r P → OnAnswer (ending_of s r) Q
answers_ending P Q s (Ok revealed) f p = f p
answers_ending P Q s (Err (Corrupt spot)) f p = f p
answers_ending P Q s (Err (Failed part)) f p = tt
answers_ending P Q s (Err Memory) f p = tt

-- ---- the asking for a secure id

secure_by : (s : SecretValue) (has : Bool) (file : Result (List ℕ) Spot) → MayAsk (cond has (asked_of file (confirm_action s)) None)
secure_by s true (Ok file) = tt
secure_by s true (Err e) = tt
secure_by s false file = tt

pub secure_may : (row : UserRow) (s : SecretValue) (w : World) → MayAsk (secure_asked row s w)
secure_may row s w = secure_by s (has_secure row) (handle_checked (links_at w row.user 0))

-- ---- what is kept

-- on any board
pub record KeepsAll (old : Sight) (end : Result Ending ChainFault) (new : Sight) : Type 0 where
  pub told : new.told ≡ old.told
  pub never_fails : new.never_fails ≡ old.never_fails
  pub slots : new.slots ≡ old.slots
  pub later : (p : Part) → old.faults p ≤ new.faults p
  pub counts : Counts old.faults new.faults end
  pub inside : IsTrue old.told → StaysInside old new
  pub silent : IsTrue old.told → InOrder new.world → IsSilent old.world new.world
  pub alike : IsTrue old.told → OnAnswer end (IsAsked old.world new.world)

module _ (row : UserRow) (ask : World → Option Action) (look : World → Result Tried Spot) (may : (w : World) → MayAsk (ask w)) (old mid : Sight) where
  -- nothing is done behind it
  plain_ok : (t : Tried) (e : Ending) → MayTry ask look old (Ok t) mid → KeepsAll old (Ok e) mid
  plain_ok t e m = record {
    told = m.keeps.told;
    never_fails = m.keeps.never_fails;
    slots = m.keeps.slots;
    later = m.keeps.later;
    counts = m.keeps.quiet;
    inside = tried_inside ask look old (Ok t) mid may m;
    silent = tried_silent ask look old (Ok t) mid may m;
    alike = tried_asked ask look old (Ok t) mid may m;
  }

  alike_err : (e : ChainFault) (P : Type 0) → OnAnswer {T = Tried} (Err e) P → OnAnswer {T = Ending} (Err e) P
  alike_err (Corrupt spot) P p = p
  alike_err (Failed part) P p = tt
  alike_err Memory P p = tt

  counts_err : (e : ChainFault) (was now : Part → ℕ) → Counts {T = Tried} was now (Err e) → Counts {T = Ending} was now (Err e)
  counts_err (Corrupt spot) was now c = c
  counts_err (Failed part) was now c = c
  counts_err Memory was now c = c

  plain_err : (e : ChainFault) → MayTry ask look old (Err e) mid → KeepsAll old (Err e) mid
  plain_err e m = record {
    told = m.keeps.told;
    never_fails = m.keeps.never_fails;
    slots = m.keeps.slots;
    later = m.keeps.later;
    counts = counts_err e old.faults mid.faults (counts_of old mid (Err e) m.keeps);
    inside = tried_inside ask look old (Err e) mid may m;
    silent = tried_silent ask look old (Err e) mid may m;
    alike = λ told. alike_err e (IsAsked old.world mid.world) (tried_asked ask look old (Err e) mid may m told);
  }

  module _ (s : SecretValue) (m : MayTry ask look old (Ok (tried.Opened s)) mid) (new : Sight) (r : Result Revealed ChainFault) (b : MayTry (secure_asked row s) (reveal_end row s) mid r new) where
    still : IsTrue old.told → IsTrue mid.told
    still told = subst (λ (b : Bool). IsTrue b) (sym m.keeps.told) told

    both : KeepsAll old (ending_of s r) new
    both = record {
      told = b.keeps.told ∙ m.keeps.told;
      never_fails = b.keeps.never_fails ∙ m.keeps.never_fails;
      slots = b.keeps.slots ∙ m.keeps.slots;
      later = λ p. subst (λ (f : Part → ℕ). f p ≤ new.faults p) m.keeps.quiet (b.keeps.later p);
      counts = counts_ending old.faults new.faults s r (subst (λ (f : Part → ℕ). Counts f new.faults r) m.keeps.quiet (counts_of mid new r b.keeps));
      inside = λ told. inside-trans old mid new (tried_inside ask look old (Ok (tried.Opened s)) mid may m told)
          (tried_inside (secure_asked row s) (reveal_end row s) mid r new (secure_may row s) b (still told));
      silent = λ told order. silent-trans old.world mid.world new.world (alike_silent old.world mid.world (tried_asked ask look old (Ok (tried.Opened s)) mid may m told).alike)
          (tried_silent (secure_asked row s) (reveal_end row s) mid r new (secure_may row s) b (still told) order);
      alike = λ told. answers_ending (IsAsked mid.world new.world) (IsAsked old.world new.world) s r
          (asked_trans old.world mid.world new.world (tried_asked ask look old (Ok (tried.Opened s)) mid may m told))
          (tried_asked (secure_asked row s) (reveal_end row s) mid r new (secure_may row s) b (still told));
    }

  kept_by : (end : Result Ending ChainFault) (new : Sight) (t : Result Tried ChainFault) → MayTry ask look old t mid → IsBehind row mid t end new → KeepsAll old end new
  kept_by end new (Ok (tried.Opened s)) m b = subst (λ (e : Result Ending ChainFault). KeepsAll old e new) (sym b.2) (both s m new b.0 b.1)
  kept_by end new (Ok (tried.Refused why)) m b =
      subst (λ (e : Result Ending ChainFault). KeepsAll old e new) (sym b.0)
      (subst (λ (n : Sight). KeepsAll old (Ok (ending.Refused why)) n) (sym b.1) (plain_ok (tried.Refused why) (ending.Refused why) m))
  kept_by end new (Err fault) m b =
      subst (λ (e : Result Ending ChainFault). KeepsAll old e new) (sym b.0)
      (subst (λ (n : Sight). KeepsAll old (Err fault) n) (sym b.1) (plain_err fault m))

  -- ---- a crash

  crash_by : (end : Result Ending ChainFault) (new : Sight) (P : World → Type 0) (t : Result Tried ChainFault) → MayTry ask look old t mid → IsBehind row mid t end new
      → ((image : World) → LeavesAsked old.world (ask old.world) image → P image)
      → ((s : SecretValue) → t ≡ Ok (tried.Opened s) → (image : World) → LeavesAsked mid.world (secure_asked row s mid.world) image → P image)
      → IsTrue old.told → LeavesOnly old new P
  crash_by end new P (Ok (tried.Opened s)) m b first second told =
      joins old mid new P (weaker old mid (LeavesAsked old.world (ask old.world)) P first (m.crash told))
      (weaker mid new (LeavesAsked mid.world (secure_asked row s mid.world)) P (second s refl) (b.1.crash (still s m new b.0 b.1 told)))
  crash_by end new P (Ok (tried.Refused why)) m b first second told =
      subst (λ (n : Sight). LeavesOnly old n P) (sym b.1) (weaker old mid (LeavesAsked old.world (ask old.world)) P first (m.crash told))
  crash_by end new P (Err fault) m b first second told =
      subst (λ (n : Sight). LeavesOnly old n P) (sym b.1) (weaker old mid (LeavesAsked old.world (ask old.world)) P first (m.crash told))

module _ (row : UserRow) (ask : World → Option Action) (look : World → Result Tried Spot) (may : (w : World) → MayAsk (ask w)) (old : Sight) (end : Result Ending ChainFault) (new : Sight) (u : Unlocks row ask look old end new) where
  pub unlock_keeps : KeepsAll old end new
  unlock_keeps = kept_by row ask look may old u.mid end new u.tried u.trying u.behind

  pub unlock_crash : (P : World → Type 0)
      → ((image : World) → LeavesAsked old.world (ask old.world) image → P image)
      → ((s : SecretValue) → u.tried ≡ Ok (tried.Opened s) → (image : World) → LeavesAsked u.mid.world (secure_asked row s u.mid.world) image → P image)
      → IsTrue old.told → LeavesOnly old new P
  unlock_crash P = crash_by row ask look may old u.mid end new P u.tried u.trying u.behind
