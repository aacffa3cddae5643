-- Every image of a commit has the old settings or the new ones.
use Rattle.std.proofs.Common.{◌≡◌, ◌⊎◌, inl, inr, ◌<◌, ◌+◌, ◌^◌, ℕ, Bool, true, false, List, length, IsSomeAnd, Option, Some, None, Result, Ok, Err, refl, sym, ◌∙◌, ap, subst, arith}
use Rattle.ls_formats.specs.declared.side.Side.{Side}
use Rattle.ls_naming.specs.Current.{current}
use Rattle.ls_board.specs.declared.action.Action.{Action}
use Rattle.ls_board.specs.declared.world.World.{World}
use Rattle.ls_board.specs.Effect.{file_at}
use Rattle.ls_board.specs.Images.{Leaves}
use Rattle.ls_board.specs.declared.action.Part.{Part}
use Rattle.ls_board.specs.Acts.{Sight, Rose}
use Rattle.ls_board.specs.Keeping.{Keeps}
use Rattle.ls_board.specs.Reach.{SameBut, AllTouchOnly}
use Rattle.ls_board.specs.Runs.{PlanImage, after_all, AllApply, AllSound, LeavesOnly, FailedAfter}
use Rattle.ls_board.proofs.RunLemmas.{weaker}
use Rattle.ls_board.proofs.FrameLemmas.{plan_but, plan_same}
use Rattle.ls_settings.specs.Loaded.{Loaded, IsReady, target_of, settings_reach}
use Rattle.ls_settings.specs.Commits.{synced, whole_pokes, with_entry, with_whole, HasEntry, IsByEntry, IsInWhole, IsCommit, IsCommitImage}
use Rattle.ls_settings.proofs.OutcomeLemmas.{Outcome}
use Rattle.ls_settings.proofs.EntryCommits.{entry_outcome}
use Rattle.ls_settings.proofs.WholeCommits.{whole_outcome}

-- ---- either kind

pub outcome : (w : World) (from to : Loaded) (actions : List Action) → IsReady w from → IsCommit from to actions → Outcome w from to actions
outcome w from to actions ready commit = by commit.either
  where
    small : from.settled.sequence + 1 < 2 ^ 64
    small = omega (arith, commit.below, commit.small)

    by : IsByEntry from to actions ⊎ (¬ (HasEntry from.settled to.settled.rec) × IsInWhole from to actions) → Outcome w from to actions
    by (inl e) =
        subst (λ (t : Loaded). Outcome w from t actions) (sym e.to_is) (subst (Outcome w from (with_entry from to.settled.rec (e.at + 5 + length e.change))) (sym e.does)
        (entry_outcome w from ready to.settled.rec e.side e.at e.change e.entry.in_file e.entry.in_journal e.entry.in_format e.entry.fits small e.reads))
    by (inr (none, e)) =
        subst (λ (t : Loaded). Outcome w from t actions) (sym e.to_is) (subst (Outcome w from (with_whole from to.settled.rec (13 + length e.body))) (sym e.does)
        (whole_outcome w from ready to.settled.rec e.body e.body_is e.reads e.fits small))

pub commit_sound : (from to : Loaded) (actions : List Action) → IsCommit from to actions → (slots : ℕ) → AllSound slots actions
commit_sound from to actions commit slots = by commit.either
  where
    whole_sound : (aim : Side) (o : Bool) (sequence : ℕ) (body : List ℕ) → AllSound slots (synced (whole_pokes aim o sequence body))
    whole_sound aim true sequence body = (tt, (tt, (tt, (tt, (tt, (tt, tt))))))
    whole_sound aim false sequence body = (tt, (tt, (tt, (tt, tt))))

    by : IsByEntry from to actions ⊎ (¬ (HasEntry from.settled to.settled.rec) × IsInWhole from to actions) → AllSound slots actions
    by (inl e) = subst (AllSound slots) (sym e.does) (tt, (tt, (tt, (tt, tt))))
    by (inr (none, e)) = subst (AllSound slots) (sym e.does) (whole_sound (target_of from.settled.side) from.target_open (from.settled.sequence + 1) e.body)

-- whatever the world is, they touch settings files alone
pub commit_touches : (from to : Loaded) (actions : List Action) → IsCommit from to actions → AllTouchOnly settings_reach actions
commit_touches from to actions commit = by commit.either
  where
    whole_touches : (aim : Side) (o : Bool) (sequence : ℕ) (body : List ℕ) → AllTouchOnly settings_reach (synced (whole_pokes aim o sequence body))
    whole_touches aim true sequence body = ((aim, refl), (tt, ((aim, refl), (tt, ((aim, refl), (tt, tt))))))
    whole_touches aim false sequence body = ((aim, refl), (tt, ((aim, refl), (tt, tt))))

    by : IsByEntry from to actions ⊎ (¬ (HasEntry from.settled to.settled.rec) × IsInWhole from to actions) → AllTouchOnly settings_reach actions
    by (inl e) = subst (AllTouchOnly settings_reach) (sym e.does) ((e.side, refl), (tt, ((e.side, refl), (tt, tt))))
    by (inr (none, e)) = subst (AllTouchOnly settings_reach) (sym e.does) (whole_touches (target_of from.settled.side) from.target_open (from.settled.sequence + 1) e.body)

-- ---- a plan that is run

module _ (old new : Sight) (from to : Loaded) (actions plan : List Action) (is : plan ≡ actions) (commit : IsCommit from to actions) (ready : IsReady old.world from) where
  o : Outcome old.world from to actions
  o = outcome old.world from to actions ready commit

  pub plan_applies : AllApply old.world plan
  plan_applies = subst (AllApply old.world) (sym is) o.applies

  pub plan_crash : LeavesOnly old new (PlanImage old.world plan) → LeavesOnly old new (IsCommitImage old.world from to actions)
  plan_crash crash = weaker old new (PlanImage old.world plan) (IsCommitImage old.world from to actions) (λ image left.
      let steps = subst (λ (l : List Action). PlanImage old.world l image) is left in
      record { either = o.images image steps; bytes = o.bytes image steps; rest = plan_but settings_reach old.world actions image o.only steps; steps = steps }) crash

  module _ (world : new.world ≡ after_all old.world plan) where
    ended : after_all old.world actions ≡ new.world
    ended = ap (after_all old.world) (sym is) ∙ sym world

    pub plan_ready : IsReady new.world to
    plan_ready = subst (λ (w : World). IsReady w to) ended o.ready

    pub plan_held : (image : World) → Leaves new.world image → current (file_at image) ≡ Ok to.settled
    plan_held image left = o.held image (subst (λ (w : World). Leaves w image) (sym ended) left)

    pub plan_only : SameBut settings_reach old.world new.world
    plan_only = subst (SameBut settings_reach old.world) ended (plan_same settings_reach old.world actions o.only)

-- ---- a plan that failed

part_same : {T : Type 0} (x y : Part) → ◌≡◌ {A = Result T Part} (Err x) (Err y) → x ≡ y
part_same x y e = cc

pub failed_keeps : {T : Type 0} (old new : Sight) (done : List Action) (o : Option Action) (part : Part) → IsSomeAnd o (λ a. FailedAfter old done a part new) → Keeps {T = T} {E = Part} (λ p. p) old new (Err part)
failed_keeps old new done None part none = absurd none
failed_keeps {T} old new done (Some a) part after = record {
  told = after.told;
  never_fails = after.never_fails;
  slots = after.slots;
  later = after.later;
  quiet = tt;
  other = λ e is apart. absurd (apart part (sym (part_same {T = T} part e is)));
  cause = λ p is. subst (λ (q : Part). Rose (old.faults q) (new.faults q)) (part_same {T = T} part p is) after.rose;
}
