-- A change by protectors, call by call: each as a part of the change by its actions.
use Rattle.std.proofs.Common.{◌≡◌, ◌++◌, IsTrue, subst}
use Rattle.std.specs.Prelude.{Result, Ok, Err}
use Rattle.ls_board.specs.declared.action.Part.{Part}
use Rattle.ls_board.specs.Acts.{Sight}
use Rattle.ls_board.specs.Keeping.{Keeps}
use Rattle.ls_board.specs.Reach.{SameBut}
use Rattle.ls_board.specs.Rest.{SameRest}
use Rattle.ls_board.specs.Runs.{CanRun, Did, FailedIn, LeavesOnly}
use Rattle.ls_board.proofs.CallLemmas.{still_told, did_both, keeps_behind}
use Rattle.ls_board.proofs.FailLemmas.{failed_front, failed_behind}
use Rattle.ls_board.proofs.RestLemmas.{rest_trans}
use Rattle.ls_settings.specs.declared.plan.Committed.{Committed}
use Rattle.ls_settings.specs.Commits.{IsCommitImage}
use Rattle.ls_settings.specs.Loaded.{Loaded, IsReady, settings_reach}
use Rattle.ls_vault.specs.declared.vault.Vault.{Vault}
use Rattle.ls_standing.specs.Standing.{StandsDurably}
use Rattle.ls_change.specs.declared.work.Work.{Work}
use Rattle.ls_change.specs.Work.{HasRoom, IsQuietWork, Readies, IsCut, IsDuring, actions_of}
use Rattle.ls_change.proofs.SightLemmas.{first_cut, first_crash, commit_ready, second_rest, second_cut, second_crash, can_finish, third_cut, third_crash, did_all, ends_durable, ends_ready}
use Rattle.ls_protector.proofs.StepLemmas.{keeps_ok, keeps_err}
use Rattle.ls_exchange.specs.Exchanges.{Exchanged, plain}
use Rattle.ls_exchange.specs.Turns.{Runs}

-- what is seen of the commit, whatever it answers, and where it was made
pub record Tried (s1 s2 : Sight) (s : Loaded) (x : Exchanged) : Type 0 where
  pub crash : IsTrue s1.told → LeavesOnly s1 s2 (IsCommitImage s1.world s x.commit.to x.commit.actions)
  pub but : IsTrue s1.told → SameBut settings_reach s1.world s2.world

pub record Made (s1 s2 : Sight) (s : Loaded) (x : Exchanged) : Type 0 where
  pub tried : Tried s1 s2 s x
  pub did : Did s1 x.commit.actions s2
  pub ready : IsTrue s1.told → IsReady s2.world x.commit.to

-- ---- the same of one that is equal

module _ (x y : Exchanged) (is : x ≡ y) (s0 s1 : Sight) where
  pub built_as : (result : Result (Unit {0}) Part) → Runs {T = Unit {0}} s0 (plain x).before result s1 → Runs {T = Unit {0}} s0 (plain y).before result s1
  built_as result runs = subst (λ (z : Exchanged). Runs {T = Unit {0}} s0 (plain z).before result s1) is runs

  pub cleared_as : (result : Result (Unit {0}) Part) → Runs {T = Unit {0}} s0 (plain x).after result s1 → Runs {T = Unit {0}} s0 (plain y).after result s1
  cleared_as result runs = subst (λ (z : Exchanged). Runs {T = Unit {0}} s0 (plain z).after result s1) is runs

  pub tried_as : (s : Loaded) → Tried s0 s1 s x → Tried s0 s1 s y
  tried_as s tried = subst (Tried s0 s1 s) is tried

  pub made_as : (s : Loaded) → Made s0 s1 s x → Made s0 s1 s y
  made_as s made = subst (Made s0 s1 s) is made

-- ---- the parts

module _ (s0 : Sight) (s : Loaded) (x : Exchanged) (quiet : IsTrue s0.told → IsQuietWork s0.world s (plain x)) where
  abbrev k : Work
  k = plain x

  abbrev Cut : Sight → Type 0
  Cut now = IsTrue s0.told → LeavesOnly s0 now (IsCut s0.world s.settled k)

  abbrev During : Sight → Type 0
  During now =
      IsTrue s0.told → (old new : Vault)
      → StandsDurably s0.world s.settled old → Readies s0.world k new → LeavesOnly s0 now (IsDuring s0.world s.settled k.commit.to.settled old new)

  abbrev Kept : Result Committed Part → Sight → Type 0
  Kept result now = Keeps {T = Committed} {E = Part} (λ part. part) s0 now result

  -- the building failed
  module _ (s1 : Sight) (part : Part) (runs : Runs {T = Unit {0}} s0 k.before (Err part) s1) where
    pub unbuilt_keeps : Kept (Err part) s1
    unbuilt_keeps = keeps_err {T = Unit {0}} {U = Committed} s0 s1 part runs.keeps

    pub unbuilt_failed : FailedIn s0 (actions_of k) part s1
    unbuilt_failed = failed_front s0 s1 k.before (k.commit.actions ++ k.after) part runs.failed

    pub unbuilt_cut : Cut s1
    unbuilt_cut = first_cut s0 s k quiet s1 runs.crash

    pub unbuilt_crash : During s1
    unbuilt_crash told old new was ready = first_crash s0 s k quiet s1 runs.crash told old new was

  module _ (s1 : Sight) (built : Runs {T = Unit {0}} s0 k.before (Ok tt) s1) where
    pub can_commit : IsTrue s1.told → IsReady s1.world s
    can_commit = commit_ready s0 s k quiet s1 built.crash built.did

    -- the commit failed
    module _ (s2 : Sight) (tried : Tried s1 s2 s x) where
      pub tried_rest : IsTrue s0.told → SameRest s0.world s2.world
      tried_rest = second_rest s0 s k quiet s1 built.crash built.did s2 tried.but

      pub tried_cut : Cut s2
      tried_cut = second_cut s0 s k quiet s1 built.crash built.did s2 tried.crash

      pub tried_crash : During s2
      tried_crash = second_crash s0 s k quiet s1 built.crash built.did s2 tried.crash

    pub tried_keeps : (s2 : Sight) (part : Part) → Keeps {T = Committed} {E = Part} (λ part. part) s1 s2 (Err part) → Kept (Err part) s2
    tried_keeps s2 part keeps = keeps_behind {T = Committed} {E = Part} {fault = λ part. part} s0 s1 s2 k.before (Err part) built.did keeps

    pub tried_failed : (s2 : Sight) (part : Part) → FailedIn s1 k.commit.actions part s2 → FailedIn s0 (actions_of k) part s2
    tried_failed s2 part failed =
        failed_behind s0 s1 s2 k.before (k.commit.actions ++ k.after) part built.did (failed_front s1 s2 k.commit.actions k.after part failed)

    module _ (s2 : Sight) (made : Made s1 s2 s x) where
      pub can_clear : HasRoom s0 k → CanRun s2 k.after
      can_clear room = can_finish s0 s k quiet s1 built.crash built.did s2 made.tried.crash made.did made.ready made.tried.but room

      told_then : IsTrue s0.told → IsTrue s2.told
      told_then told = still_told s1 s2 k.commit.actions made.did (still_told s0 s1 k.before built.did told)

      did_then : Did s0 (k.before ++ k.commit.actions) s2
      did_then = did_both s0 s1 s2 k.before k.commit.actions built.did made.did

      -- behind the commit, whatever it answers
      module _ (s3 : Sight) (result : Result (Unit {0}) Part) (runs : Runs {T = Unit {0}} s2 k.after result s3) where
        pub last_rest : IsTrue s0.told → SameRest s0.world s3.world
        last_rest told = rest_trans s0.world s2.world s3.world (tried_rest s2 made.tried told) (runs.rest (told_then told))

        pub last_cut : Cut s3
        last_cut = third_cut s0 s k quiet s1 built.crash built.did s2 made.tried.crash made.did made.ready made.tried.but s3 runs.crash

        pub last_crash : During s3
        last_crash = third_crash s0 s k quiet s1 built.crash built.did s2 made.tried.crash made.did made.ready made.tried.but s3 runs.crash

      pub last_broken : (s3 : Sight) (part : Part) → Runs {T = Unit {0}} s2 k.after (Err part) s3 → Kept (Err part) s3
      last_broken s3 part runs =
          keeps_behind {T = Committed} {E = Part} {fault = λ part. part} s0 s2 s3 (k.before ++ k.commit.actions) (Err part) did_then
          (keeps_err {T = Unit {0}} {U = Committed} s2 s3 part runs.keeps)

      pub last_failed : (s3 : Sight) (part : Part) → Runs {T = Unit {0}} s2 k.after (Err part) s3 → FailedIn s0 (actions_of k) part s3
      last_failed s3 part runs =
          failed_behind s0 s1 s3 k.before (k.commit.actions ++ k.after) part built.did (failed_behind s1 s2 s3 k.commit.actions k.after part made.did runs.failed)

      -- it was done
      module _ (s3 : Sight) (runs : Runs {T = Unit {0}} s2 k.after (Ok tt) s3) where
        pub all_kept : (done : Committed) → Kept (Ok done) s3
        all_kept done =
            keeps_behind {T = Committed} {E = Part} {fault = λ part. part} s0 s2 s3 (k.before ++ k.commit.actions) (Ok done) did_then
            (keeps_ok {T = Unit {0}} {U = Committed} tt done s2 s3 runs.keeps)

        pub all_done : Did s0 (actions_of k) s3
        all_done = did_all s0 s k quiet s1 built.crash built.did s2 made.tried.crash made.did made.ready made.tried.but s3 runs.did

        pub all_durable : IsTrue s0.told → (new : Vault) → Readies s0.world k new → StandsDurably s3.world k.commit.to.settled new
        all_durable = ends_durable s0 s k quiet s1 built.crash built.did s2 made.tried.crash made.did made.ready made.tried.but s3 runs.did

        pub all_ready : IsTrue s0.told → IsReady s3.world k.commit.to
        all_ready = ends_ready s0 s k quiet s1 built.crash built.did s2 made.tried.crash made.did made.ready made.tried.but s3 runs.did
