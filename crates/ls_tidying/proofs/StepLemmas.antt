-- A step at one of the retired protectors.
use Rattle.std.proofs.Common.{◌≡◌, ◌<◌, ◌+◌, ◌++◌, ℕ, suc, Bool, true, false, IsTrue, List, [], ◌∷◌, length, take, drop, slice_set, slice_index_or, refl, sym, ◌∙◌, ap, subst, arith}
use Rattle.std.specs.Prelude.{Result, Ok, Err, Some, MatchBool, ◌↔◌}
use Rattle.std.specs.List.{Contains}
use Rattle.ls_board.specs.declared.action.Action.{Action}
use Rattle.ls_board.specs.declared.action.Part.{Part}
use Rattle.ls_board.specs.declared.world.World.{World}
use Rattle.ls_board.specs.Acts.{Sight}
use Rattle.ls_board.specs.Acts as acts
use Rattle.ls_board.specs.Keeping.{Keeps}
use Rattle.ls_board.specs.Reach.{SameBut}
use Rattle.ls_board.specs.Runs.{LeavesOnly, Did, FailedIn, PlanImage}
use Rattle.ls_board.proofs.RunLemmas.{did_none}
use Rattle.ls_formats.specs.declared.parts.Parts.{Parts}
use Rattle.ls_protector.specs.Parts.{first_removed, reach_of_names, without_first}
use Rattle.ls_turn.specs.declared.session.Session.{Session}
use Rattle.ls_turn.specs.declared.stop.Cause.TheVariants as cause
use Rattle.ls_turn.specs.declared.stop.Stop.{Stop}
use Rattle.ls_turn.specs.declared.stop.Stop.TheVariants.{Fault, Memory}
use Rattle.ls_turn.specs.Agreeing.{files_of, retired_files}
use Rattle.ls_turn.specs.Serving.{CanServe}
use Rattle.ls_tidying.specs.Tidying.{DidInRoom, Tidies, TidiesAt, removal_at, tidied_at, without_at}
use Rattle.ls_tidying.proofs.TidyingLemmas.{can_roomed, done_only, failed_only, first_and, nothing_fits, nothing_left, only_roomed}
use Rattle.ls_tidying.proofs.PlaceLemmas.{removal_is, its_files, set_is, gone_is, without_is, without_set, fewer_files, more_files, less_left, there_still}

-- ---- what is left

module _ (ps : List Parts) (i : ℕ) (within : i < length ps) (q r : Parts) (is : q ≡ slice_index_or ps i q) (rest : r ≡ record q { names = without_first q.names }) where
  names_left : r.names ≡ without_first q.names
  names_left = ap (λ (x : Parts). x.names) rest

  -- nothing of the protector
  pub left_gone : (items : List Parts) → IsTrue true ↔ (r.names ≡ []) → items ≡ take i (slice_set ps i r) ++ drop (i + 1) (slice_set ps i r) → items ≡ without_at ps i
  left_gone items none its =
      its ∙ without_is (slice_set ps i r) i (i + 1) (omega arith) (subst (λ (n : ℕ). i < n) (sym (there_still r ps i)) within) ∙ without_set ps i r

  pub tidied_gone : IsTrue true ↔ (r.names ≡ []) → tidied_at ps i ≡ without_at ps i
  tidied_gone none = gone_is q q ps i within is (sym names_left ∙ none.0 refl)

  -- some of its files
  pub tidied_still : IsTrue false ↔ (r.names ≡ []) → slice_set ps i r ≡ tidied_at ps i
  tidied_still some = by (without_first q.names) refl
    where
      never : IsTrue false → ⊥
      never e = cc

      by : (names : List (List ℕ)) → without_first q.names ≡ names → slice_set ps i r ≡ tidied_at ps i
      by [] none = absurd (never (some.1 (names_left ∙ none)))
      by (n ∷ names) left = ap (λ (x : Parts). slice_set ps i x) rest ∙ set_is q q ps i n names within is left

  pub still_there : (i < length (slice_set ps i r)) × (without_at (slice_set ps i r) i ≡ without_at ps i)
  still_there = (subst (λ (n : ℕ). i < n) (sym (there_still r ps i)) within, without_set ps i r)

-- whether it is gone
abbrev IsLeft : List Parts → List Parts → ℕ → Type 0
IsLeft ps items i = (i < length items) × (without_at items i ≡ without_at ps i)

pub which_gone : (gone : Bool) (ps items : List Parts) (i : ℕ) → gone ≡ true → items ≡ without_at ps i → MatchBool gone (items ≡ without_at ps i) (IsLeft ps items i)
which_gone gone ps items i is all = subst (λ (b : Bool). MatchBool b (items ≡ without_at ps i) (IsLeft ps items i)) (sym is) all

pub which_still : (gone : Bool) (ps items : List Parts) (i : ℕ) → gone ≡ false → IsLeft ps items i → MatchBool gone (items ≡ without_at ps i) (IsLeft ps items i)
which_still gone ps items i is left = subst (λ (b : Bool). MatchBool b (items ≡ without_at ps i) (IsLeft ps items i)) (sym is) left

-- ---- the step

module _ (old mid : Sight) {E : Type 0} (actions bytes : ℕ) (made : Result (Unit {0}) E) (room : acts.Readies old actions bytes made mid) (x : Session) (i : ℕ) where
  -- no memory
  pub step_lacked : (y : Session) → y ≡ record x { retired = y.retired; stopped = y.stopped } → y.stopped ≡ Some cause.Memory → TidiesAt i old x (Err Memory) y mid
  step_lacked y same stopped = record {
    only = only_roomed old mid actions bytes made room {T = Bool} x y (Err Memory) mid (nothing_fits mid x y same {T = Bool} stopped);
    did = tt;
    left = tt;
    gone = tt;
    fewer = tt;
  }

  module _ (new : Sight) (y : Session) (same : y ≡ record x { retired = y.retired; stopped = y.stopped }) (within : i < length x.retired.items) (q : Parts) (is : q ≡ slice_index_or x.retired.items i q)
      (can : CanServe old x) (crash : IsTrue mid.told → LeavesOnly mid new (PlanImage mid.world (first_removed q.names)))
      (but : IsTrue mid.told → SameBut (reach_of_names q.names) mid.world new.world) where
    its : (n : List ℕ) → Contains q.names n → Contains (retired_files x) n
    its n has = its_files q q x.retired.items i within is n has

    pub step_failed : (part : Part) → y.stopped ≡ Some (cause.Fault part) → FailedIn mid (first_removed q.names) part new → Keeps {T = Bool} {E = Part} (λ p. p) mid new (Err part)
        → TidiesAt i old x (Err (Fault part)) y new
    step_failed part stopped failed keeps = record {
      only = only_roomed old mid actions bytes made room {T = Bool} x y (Err (Fault part)) new
          (failed_only mid new x y same q.names its (can_roomed old mid actions bytes made room x can) crash but part stopped failed keeps);
      did = tt;
      left = tt;
      gone = tt;
      fewer = tt;
    }

    pub step_done : (gone : Bool) → y.stopped ≡ x.stopped → Did mid (first_removed q.names) new → Keeps {T = Bool} {E = Part} (λ p. p) mid new (Ok gone)
        → y.retired.items ≡ tidied_at x.retired.items i
        → MatchBool gone (y.retired.items ≡ without_at x.retired.items i) ((i < length y.retired.items) × (without_at y.retired.items i ≡ without_at x.retired.items i))
        → TidiesAt i old x (Ok gone) y new
    step_done gone stopped did keeps left which = record {
      only = only_roomed old mid actions bytes made room {T = Bool} x y (Ok gone) new
          (done_only mid new x y same q.names its (can_roomed old mid actions bytes made room x can) crash but stopped did
          (λ n has. fewer_files x.retired.items i n (subst (λ (l : List Parts). Contains (files_of l) n) left has))
          (λ n has. subst (λ (l : List Parts). Contains (first_and q.names (files_of l)) n) (sym left) (more_files q q x.retired.items i within is n has)) gone keeps);
      did = (
        mid.actions,
        mid.bytes,
        subst (λ (l : List Action). Did (record old { actions = mid.actions; bytes = mid.bytes }) l new) (sym (removal_is q q x.retired.items i within is))
            (subst (λ (s : Sight). Did s (first_removed q.names) new) room.same did),
      );
      left = left;
      gone = which;
      fewer = subst (λ (l : List Parts). length l + length (files_of l) < length x.retired.items + length (retired_files x)) (sym left) (less_left x.retired.items i within);
    }

-- ---- whether something is retired

pub none_there : (now l : List Parts) (b : Bool) → now ≡ l → b ≡ true → IsTrue b ↔ (now ≡ []) → l ≡ []
none_there now l b same is none = sym same ∙ none.0 is

pub some_there : (now l : List Parts) (b : Bool) → now ≡ l → b ≡ false → IsTrue b ↔ (now ≡ []) → 0 < length l
some_there now [] b same is none = let e : b ≡ true = none.1 same in absurd (never (sym is ∙ e))
  where
    never : false ≡ true → ⊥
    never e = cc
some_there now (p ∷ l) b same is none = omega arith

pub step_none : (s : Sight) (x : Session) → CanServe s x → x.retired.items ≡ [] → Tidies s x (Ok true) x s
step_none s x can none = record {
  only = nothing_left {T = Bool} s x true can;
  did = (s.actions, s.bytes, subst (λ (l : List Parts). Did s (removal_at l 0) s) (sym none) (did_none s));
  left = subst (λ (l : List Parts). l ≡ tidied_at l 0) (sym none) refl;
  none = (λ e. none, λ e. refl);
  fewer = λ e. absurd (cc);
}
