-- The calls before an activation, and the plan that they give.
use Rattle.std.proofs.Common.{◌≡◌, ◌≢◌, ◌≤◌, ◌*◌, ℕ, Bool, true, false, IsTrue, List, length, drop, None, Some, refl, sym, ◌∙◌, ap, subst, arith}
use Rattle.std.specs.Prelude.{Result, Ok, Err, OnOk, ◌==◌, ◌||◌}
use Rattle.std.proofs.lemmas.Bool.{eqb-true}
use Rattle.ls_board.specs.declared.action.BoardFault.{BoardFault}
use Rattle.ls_board.specs.declared.action.BoardFault.TheVariants as board
use Rattle.ls_board.specs.declared.world.World.{World}
use Rattle.ls_board.specs.Acts.{Sight}
use Rattle.ls_chain.specs.declared.fault.ChainFault.{ChainFault}
use Rattle.ls_chain.specs.declared.fault.ChainFault.TheVariants.{Corrupt, Failed, Memory}
use Rattle.ls_chain.specs.Looking.{Looks}
use Rattle.ls_drawing.specs.Drawing.{stop_of}
use Rattle.ls_drawing.specs.Passing.{GoesOn, IsStored, Passes, StopsBy}
use Rattle.ls_drawing.proofs.PassingLemmas.{goes_kept, goes_then, stops_then}
use Rattle.ls_formats.specs.Contents.{AreBytes}
use Rattle.ls_record.specs.declared.row.UserRow.{UserRow}
use Rattle.ls_record.specs.Rows.{IsRecord}
use Rattle.ls_secret.specs.Secrets.{IsSecret, SecretValue, is_version}
use Rattle.ls_turn.specs.declared.session.Opened.{Opened}
use Rattle.ls_turn.specs.declared.session.Pending.{Pending}
use Rattle.ls_turn.specs.declared.session.Session.{Session}
use Rattle.ls_turn.specs.Agreeing.{retired_files}
use Rattle.ls_turn.specs.Refusing.{row_of}
use Rattle.ls_turn.specs.Serving.{Always, stopped_by}
use Rattle.ls_turn.proofs.LookLemmas.{keeps_look, keeps_spot, look_failed, look_lacked}
use Rattle.ls_vault.specs.Drawn.{token_len}
use Rattle.ls_activating.specs.declared.planned.Planned.{Planned}
use Rattle.ls_activating.specs.Activating.{SayNone}
use Rattle.ls_activating.specs.Counting.{chosen_for, count_for}
use Rattle.ls_activating.specs.Halves.{half_at}
use Rattle.ls_activating.specs.Planning.{EndsAt, IsEntry, IsPlan, IsPlanFrom, IsReadyFor, PassesTo, TakesNoise}
use Rattle.ls_activating.proofs.RoomLemmas.{as_many_chosen}

-- ---- the version

pub version_is : (s : SecretValue) → IsSecret s → (2 ≤ s.version) × (s.version ≤ 3)
version_is s is = by (s.version == 2) (s.version == 3) refl refl is.version
  where
    by : (a b : Bool) → (s.version == 2) ≡ a → (s.version == 3) ≡ b → IsTrue (a || b) → (2 ≤ s.version) × (s.version ≤ 3)
    by true b two three some = let two_is = eqb-true s.version 2 two in (omega (arith, two_is), omega (arith, two_is))
    by false true two three some = let three_is = eqb-true s.version 3 three in (omega (arith, three_is), omega (arith, three_is))
    by false false two three none = absurd (cc)

-- ---- what is stored

stored_same : (old new : World) → new ≡ old → IsStored old new
stored_same old new same = λ i. record (same i) { touched = new.touched; input = new.input; said = new.said; moments = new.moments; noise = new.noise }

stored_both : (a b c : World) → IsStored a b → IsStored b c → IsStored a c
stored_both a b c one two = two ∙ ap (λ (z : World). record z { touched = c.touched; input = c.input; said = c.said; moments = c.moments; noise = c.noise }) one

-- ---- the half

module _ (P : Planned → Type 0) (user : ℕ) (s : SecretValue) (old mid : Sight) where
  abbrev Finds : Result (List ℕ) ChainFault → Type 0
  Finds result = Looks (half_at user s) old result mid

  half_stored : (result : Result (List ℕ) ChainFault) → Finds result → IsTrue old.told → IsStored old.world mid.world
  half_stored result looks told = stored_same old.world mid.world (looks.same told)

  pub no_half : (fault : ChainFault) → Finds (Err fault) → PassesTo P user s old (Err fault) mid
  no_half (Corrupt at) looks = record {
    ends = (goes_kept old mid (keeps_spot (half_at user s) old mid at looks), λ told. ap (half_at user s) (looks.same told) ∙ looks.finds told);
    stored = half_stored (Err (Corrupt at)) looks;
  }
  no_half (Failed p) looks = record {
    ends = λ x turn. look_failed (half_at user s) old mid x (record x { stopped = stopped_by (stop_of (board.Failed p)) x.stopped }) turn Always refl refl p looks refl;
    stored = half_stored (Err (Failed p)) looks;
  }
  no_half Memory looks = record {
    ends = λ x turn. look_lacked (half_at user s) old mid x (record x { stopped = stopped_by (stop_of board.Memory) x.stopped }) turn Always refl refl looks refl;
    stored = half_stored (Err Memory) looks;
  }

  -- what comes behind it
  module _ (p0 : List ℕ) (looks : Finds (Ok p0)) (new : Sight) where
    goes : GoesOn old mid
    goes = goes_kept old mid (keeps_look (half_at user s) old mid p0 looks)

    told_mid : IsTrue old.told → IsTrue mid.told
    told_mid told = subst (λ (b : Bool). IsTrue b) (sym goes.told) told

    stored_behind : (IsTrue mid.told → IsStored mid.world new.world) → IsTrue old.told → IsStored old.world new.world
    stored_behind later told = stored_both old.world mid.world new.world (half_stored (Ok p0) looks told) (later (told_mid told))

    pub failed_behind : (p : _) → Passes {T = Planned} mid (Err (board.Failed p)) new → PassesTo P user s old (Err (Failed p)) new
    failed_behind p passes = record { ends = stops_then old mid new (board.Failed p) goes passes.stops; stored = stored_behind passes.stored }

    pub lacked_behind : Passes {T = Planned} mid (Err board.Memory) new → PassesTo P user s old (Err Memory) new
    lacked_behind passes = record { ends = stops_then old mid new board.Memory goes passes.stops; stored = stored_behind passes.stored }

    pub planned_behind : (k : Planned) → Passes mid (Ok k) new → P k → PassesTo P user s old (Ok k) new
    planned_behind k passes is = record { ends = (goes_then old mid new goes passes.goes, is); stored = stored_behind passes.stored }

-- ---- the plan

module _ (x : Session) (row : UserRow) (s : SecretValue) (tokens : List Pending) (old mid new : Sight) (p0 : List ℕ) (looks : Looks (half_at row.user s) old (Ok p0) mid)
    (later : GoesOn mid new) (noise : IsTrue mid.told → TakesNoise (length tokens * token_len x.slots) mid.world new.world) where
  abbrev len : ℕ
  len = length tokens * token_len x.slots

  told_old : IsTrue new.told → IsTrue old.told
  told_old told = subst (λ (b : Bool). IsTrue b) (later.told ∙ looks.keeps.told) told

  took : IsTrue old.told → TakesNoise len old.world new.world
  took told =
      noise (subst (λ (b : Bool). IsTrue b) (sym looks.keeps.told) told)
      ∙ ap (λ (w : World). record w { noise = drop len w.noise }) (looks.same told)

  pub plan_from : IsSecret s → AreBytes 32 p0 → (k : Planned) → IsPlan x row tokens s.version p0 k → IsPlanFrom old new x row s tokens k
  plan_from secret bytes k plan = record {
    by = record {
      secret = secret;
      p0 = p0;
      bytes = bytes;
      half = λ told. ap (half_at row.user s) (took (told_old told)) ∙ looks.finds (told_old told);
      plan = plan;
    };
    noise = took;
  }

-- ---- of an opened user

module _ (old new : Sight) (x : Session) (user : ℕ) (rules : IsRecord x.settings.settled.rec) (row : UserRow) (found : row_of x.settings.settled.rec user ≡ Some row) (entry : Opened)
    (opened : IsEntry x user entry) (some : count_for x user ≢ 0) (none : SayNone (retired_files x) (chosen_for x user)) where
  ready : (k : Planned) → IsPlanFrom old new x row entry.secret (chosen_for x user) k → IsReadyFor old new x user k
  ready k plan = record {
    planned = record {
      rules = rules;
      row = row;
      found = found;
      entry = entry;
      opened = opened;
      some = some;
      none = none;
      by = plan.by;
    };
    noise = λ told. subst (λ (n : ℕ). TakesNoise (n * token_len x.slots) old.world new.world) (as_many_chosen x user) (plan.noise told);
  }

  ends_ready : (m : ℕ) → m ≡ user → (result : Result Planned ChainFault) → EndsAt (IsPlanFrom old new x row entry.secret (chosen_for x user)) m entry.secret old result new
      → EndsAt (IsReadyFor old new x user) user entry.secret old result new
  ends_ready m same (Ok k) ends = (ends.0, ready k ends.1)
  ends_ready m same (Err (Corrupt at)) ends = (ends.0, λ told. subst (λ (n : ℕ). half_at n entry.secret new.world ≡ Err at) same (ends.1 told))
  ends_ready m same (Err (Failed p)) ends = ends
  ends_ready m same (Err Memory) ends = ends

  pub passes_ready : (m : ℕ) → m ≡ user → (tokens : List Pending) → tokens ≡ chosen_for x user → (result : Result Planned ChainFault)
      → PassesTo (IsPlanFrom old new x row entry.secret tokens) m entry.secret old result new → PassesTo (IsReadyFor old new x user) user entry.secret old result new
  passes_ready m same tokens chosen result passes = record {
    ends = ends_ready m same result (subst (λ (l : List Pending). EndsAt (IsPlanFrom old new x row entry.secret l) m entry.secret old result new) chosen passes.ends);
    stored = passes.stored;
  }
