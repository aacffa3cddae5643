-- The parts of a change: what a crash within each leaves, and for what the world stands behind it.
use Rattle.std.proofs.Common.{◌≡◌, inl, inr, List, ◌++◌, Ok, refl, sym, ◌∙◌, ap, subst}
use Rattle.ls_record.specs.Rows.{Rec}
use Rattle.ls_formats.specs.declared.side.Side.{Side}
use Rattle.ls_formats.specs.declared.side.Side.TheVariants.{First, Second}
use Rattle.ls_formats.specs.PartNames.{settings_text}
use Rattle.ls_naming.specs.Current.{is_open, current}
use Rattle.ls_naming.proofs.CurrentLemmas.{settings_follow}
use Rattle.ls_board.specs.declared.action.Action.{Action}
use Rattle.ls_board.specs.declared.world.World.{World}
use Rattle.ls_board.specs.Effect.{file_at}
use Rattle.ls_board.specs.Reach.{AllTouchOnly, SameBut}
use Rattle.ls_board.specs.Runs.{after_all, AllApply, PlanImage}
use Rattle.ls_board.proofs.RunLemmas.{after_all-append}
use Rattle.ls_board.specs.Rest.{SameRest}
use Rattle.ls_board.proofs.FrameLemmas.{plan_but, left_untouched}
use Rattle.ls_board.proofs.CallLemmas.{plan_front, plan_behind}
use Rattle.ls_board.proofs.RestLemmas.{rest_refl, rest_trans, but_rest, but_left, plan_rest, plan_left_rest}
use Rattle.ls_settings.specs.Commits.{IsCommitImage}
use Rattle.ls_settings.specs.Loaded.{Loaded, IsReady, IsWhole, settings_reach, target_of}
use Rattle.ls_vault.specs.declared.vault.Vault.{Vault}
use Rattle.ls_standing.specs.Standing.{StandsDurably}
use Rattle.ls_standing.specs.Quiet.{unnamed, AllQuiet}
use Rattle.ls_standing.specs.Same.{SameSettings}
use Rattle.ls_standing.proofs.FrameLemmas.{current_same}
use Rattle.ls_standing.proofs.SameLemmas.{named_but_settings}
use Rattle.ls_standing.proofs.QuietLemmas.{plan_kept, plan_done, plan_cut}
use Rattle.ls_standing.proofs.TouchLemmas.{all_quiet, later_touch}
use Rattle.ls_standing.proofs.CommitLemmas.{commit_cut, commit_done}
use Rattle.ls_change.specs.declared.work.Work.{Work}
use Rattle.ls_change.specs.Work.{IsQuietWork, Readies, IsCut, IsDuring, next_of, staged}

-- ---- a plan beside what is named

-- a commit may begin where the settings files stay as they were
ready_kept : (w mid : World) (s : Loaded) → SameSettings w mid → IsReady w s → IsReady mid s
ready_kept w mid s same ready = record {
  are = record {
    settled = current_same w mid same ∙ ready.are.settled;
    target = ready.are.target ∙ ap is_open (sym (same.file (target_of s.settled.side)));
  };
  whole = λ side other. subst IsWhole (sym (same.file side)) (ready.whole side other);
  untouched = λ side. same.touch side (ready.untouched side);
}

module _ (w : World) (s : Loaded) (plan : List Action) (only : AllTouchOnly (unnamed w s.settled.rec) plan) where
  quiet_plan : AllQuiet w s.settled.rec plan
  quiet_plan = all_quiet w s.settled.rec plan only

  -- a commit may begin behind it
  pub plan_ready : IsReady w s → IsReady (after_all w plan) s
  plan_ready ready = ready_kept w (after_all w plan) s (plan_kept s.settled.rec w plan quiet_plan).settings ready

  -- the settings stay current in each image of it
  pub plan_settings : IsReady w s → (image : World) → PlanImage w plan image → current (file_at image) ≡ Ok s.settled
  plan_settings ready image left = settings_follow (file_at w) (file_at image) (same First) (same Second) ∙ ready.are.settled
    where
      same : (side : Side) → file_at image (settings_text side) ≡ file_at w (settings_text side)
      same side =
          left_untouched (unnamed w s.settled.rec) w image (settings_text side) (λ other. other.settings (side, refl)) (ready.untouched side)
          (plan_but (unnamed w s.settled.rec) w plan image only left)

  module _ (v : Vault) (stands : StandsDurably w s.settled v) where
    -- the world stands for the same vault behind it, and so does each image of it
    pub plan_durable : StandsDurably (after_all w plan) s.settled v
    plan_durable = plan_done s.settled v w plan stands quiet_plan

    pub plan_image : (image : World) → PlanImage w plan image → StandsDurably image s.settled v
    plan_image image left = plan_cut s.settled v w image plan stands quiet_plan left

-- ---- the whole change

module _ (w0 : World) (s : Loaded) (k : Work) (quiet : IsQuietWork w0 s k) where
  abbrev w1 : World
  w1 = staged w0 k

  abbrev next : Rec
  next = next_of k

  -- a commit may begin behind the first plan
  pub staged_ready : IsReady w1 s
  staged_ready = plan_ready w0 s k.before quiet.before quiet.ready

  pub staged_rest : SameRest w0 w1
  staged_rest = plan_rest (unnamed w0 s.settled.rec) w0 w0 k.before (rest_refl w0) quiet.before

  -- an image of the first plan
  pub before_cut : (image : World) → PlanImage w0 k.before image → IsCut w0 s.settled k image
  before_cut image left = record {
    either = inl (plan_settings w0 s k.before quiet.before quiet.ready image left);
    steps = plan_front w0 k.before (k.commit.actions ++ k.after) image left;
    rest = plan_left_rest (unnamed w0 s.settled.rec) w0 w0 k.before (rest_refl w0) quiet.before image left;
  }

  -- one of the commit
  pub commit_cut_in : (image : World) → IsCommitImage w1 s k.commit.to k.commit.actions image → IsCut w0 s.settled k image
  commit_cut_in image c = record {
    either = c.either;
    steps = plan_behind w0 k.before (k.commit.actions ++ k.after) image (plan_front w1 k.commit.actions k.after image c.steps);
    rest = but_left settings_reach w0 w1 image staged_rest c.rest;
  }

  module _ (old new : Vault) (was : StandsDurably w0 s.settled old) where
    pub before_during : (image : World) → PlanImage w0 k.before image → IsDuring w0 s.settled k.commit.to.settled old new image
    before_during image left = record {
      either = inl (plan_image w0 s k.before quiet.before old was image left);
      rest = (before_cut image left).rest;
    }

    pub commit_during : (ready : Readies w0 k new) (image : World) → IsCommitImage w1 s k.commit.to k.commit.actions image → IsDuring w0 s.settled k.commit.to.settled old new image
    commit_during ready image c = record {
      either = commit_cut w1 image s k.commit.to k.commit.actions old new staged_ready (plan_durable w0 s k.before quiet.before old was) ready.holds ready.untouched c;
      rest = (commit_cut_in image c).rest;
    }

  -- the world behind the commit
  module _ (w2 : World) (but : SameBut settings_reach w1 w2) (done : IsReady w2 k.commit.to) where
    pub after_only : AllTouchOnly (unnamed w2 next) k.after
    after_only = later_touch w1 w2 next k.after (named_but_settings w1 w2 next but) quiet.after

    committed_rest : SameRest w0 w2
    committed_rest = rest_trans w0 w1 w2 staged_rest (but_rest settings_reach w1 w2 but)

    pub end_rest : SameRest w0 (after_all w2 k.after)
    end_rest = plan_rest (unnamed w2 next) w0 w2 k.after committed_rest after_only

    -- where the last plan failed
    pub failed_rest : (w3 : World) → SameBut (unnamed w2 next) w2 w3 → SameRest w0 w3
    failed_rest w3 same = rest_trans w0 w2 w3 committed_rest (but_rest (unnamed w2 next) w2 w3 same)

    pub end_ready : IsReady (after_all w2 k.after) k.commit.to
    end_ready = plan_ready w2 k.commit.to k.after after_only done

    -- an image of the last plan
    pub after_cut : w2 ≡ after_all w1 k.commit.actions → (image : World) → PlanImage w2 k.after image → IsCut w0 s.settled k image
    after_cut is image left = record {
      either = inr (plan_settings w2 k.commit.to k.after after_only done image left);
      steps = plan_behind w0 k.before (k.commit.actions ++ k.after) image
          (plan_behind w1 k.commit.actions k.after image (subst (λ (w : World). PlanImage w k.after image) is left));
      rest = plan_left_rest (unnamed w2 next) w0 w2 k.after committed_rest after_only image left;
    }

    module _ (new : Vault) (ready : Readies w0 k new) where
      committed : StandsDurably w2 k.commit.to.settled new
      committed = commit_done w1 w2 k.commit.to new ready.holds ready.untouched but done

      pub end_durable : StandsDurably (after_all w2 k.after) k.commit.to.settled new
      end_durable = plan_durable w2 k.commit.to k.after after_only new committed

      pub after_during : (old : Vault) (image : World) → PlanImage w2 k.after image → IsDuring w0 s.settled k.commit.to.settled old new image
      after_during old image left = record {
        either = inr (plan_image w2 k.commit.to k.after after_only new committed image left);
        rest = plan_left_rest (unnamed w2 next) w0 w2 k.after committed_rest after_only image left;
      }

    -- the last plan may be done
    pub end_applies : w2 ≡ after_all w1 k.commit.actions → AllApply w2 k.after
    end_applies is = subst (λ (w : World). AllApply w k.after) (after_all-append w0 k.before k.commit.actions ∙ sym is) quiet.follows
