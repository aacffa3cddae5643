-- The parts of a change as they are seen of the board, call by call.
use Rattle.std.proofs.Common.{◌≡◌, ◌++◌, ℕ, IsTrue, IsSomeAnd, take, slice_get, sym, ◌∙◌, ap, subst}
use Rattle.ls_board.specs.declared.action.Part.{Part}
use Rattle.ls_board.specs.declared.world.World.{World}
use Rattle.ls_board.specs.Acts.{Sight}
use Rattle.ls_board.specs.Reach.{SameBut}
use Rattle.ls_board.specs.Runs.{after_all, CanRun, Did, FailedAfter, PlanImage, LeavesOnly}
use Rattle.ls_board.specs.Rest.{SameRest}
use Rattle.ls_board.proofs.RunLemmas.{weaker, joins}
use Rattle.ls_board.proofs.CallLemmas.{still_told, was_told, did_both}
use Rattle.ls_board.proofs.RestLemmas.{but_rest, rest_trans}
use Rattle.ls_settings.specs.Commits.{IsCommitImage}
use Rattle.ls_settings.proofs.RunningLemmas.{failed_same}
use Rattle.ls_settings.specs.Loaded.{Loaded, IsReady, settings_reach}
use Rattle.ls_vault.specs.declared.vault.Vault.{Vault}
use Rattle.ls_standing.specs.Standing.{StandsDurably}
use Rattle.ls_standing.specs.Quiet.{unnamed}
use Rattle.ls_change.specs.declared.work.Work.{Work}
use Rattle.ls_change.specs.Work.{HasRoom, IsQuietWork, Readies, IsCut, IsDuring, actions_of, next_of, staged}
use Rattle.ls_change.proofs.WeightLemmas.{can_end}
use Rattle.ls_change.proofs.ChangeLemmas.{staged_ready, staged_rest, before_cut, commit_cut_in, before_during, commit_during, after_only, end_ready, end_rest, failed_rest, end_durable, after_cut, after_during, end_applies}

module _ (s0 : Sight) (s : Loaded) (k : Work) (quiet : IsTrue s0.told → IsQuietWork s0.world s k) where
  -- ---- before the commit

  -- where the first plan failed
  pub first_rest : (s1 : Sight) (at : ℕ) (part : Part) → IsSomeAnd (slice_get k.before at) (λ a. FailedAfter s0 (take at k.before) a part s1) → IsTrue s0.told → SameRest s0.world s1.world
  first_rest s1 at part failed told =
      but_rest (unnamed s0.world s.settled.rec) s0.world s1.world (failed_same (unnamed s0.world s.settled.rec) s0 s1 k.before (quiet told).before at part failed told)

  module _ (s1 : Sight) (crash : IsTrue s0.told → LeavesOnly s0 s1 (PlanImage s0.world k.before)) where
    pub first_crash : IsTrue s0.told → (old new : Vault) → StandsDurably s0.world s.settled old → LeavesOnly s0 s1 (IsDuring s0.world s.settled k.commit.to.settled old new)
    first_crash told old new was =
        weaker s0 s1 (PlanImage s0.world k.before) (IsDuring s0.world s.settled k.commit.to.settled old new) (before_during s0.world s k (quiet told) old new was) (crash told)

    pub first_cut : IsTrue s0.told → LeavesOnly s0 s1 (IsCut s0.world s.settled k)
    first_cut told = weaker s0 s1 (PlanImage s0.world k.before) (IsCut s0.world s.settled k) (before_cut s0.world s k (quiet told)) (crash told)

    module _ (did : Did s0 k.before s1) where
      -- ---- the commit

      pub second_rest : (s2 : Sight) → (IsTrue s1.told → SameBut settings_reach s1.world s2.world) → IsTrue s0.told → SameRest s0.world s2.world
      second_rest s2 but told =
          let here = subst (λ (w : World). SameBut settings_reach w s2.world) (did.world told) (but (still_told s0 s1 k.before did told)) in
          rest_trans s0.world (staged s0.world k) s2.world (staged_rest s0.world s k (quiet told)) (but_rest settings_reach (staged s0.world k) s2.world here)

      pub commit_ready : IsTrue s1.told → IsReady s1.world s
      commit_ready told =
          let was = was_told s0 s1 k.before did told in
          subst (λ (w : World). IsReady w s) (sym (did.world was)) (staged_ready s0.world s k (quiet was))

      module _ (s2 : Sight) (tears : IsTrue s1.told → LeavesOnly s1 s2 (IsCommitImage s1.world s k.commit.to k.commit.actions)) where
        pub second_crash : IsTrue s0.told → (old new : Vault) → StandsDurably s0.world s.settled old → Readies s0.world k new → LeavesOnly s0 s2 (IsDuring s0.world s.settled k.commit.to.settled old new)
        second_crash told old new was ready =
            let here = subst (λ (w : World). LeavesOnly s1 s2 (IsCommitImage w s k.commit.to k.commit.actions)) (did.world told) (tears (still_told s0 s1 k.before did told)) in
            joins s0 s1 s2 (IsDuring s0.world s.settled k.commit.to.settled old new) (first_crash told old new was)
            (weaker s1 s2 (IsCommitImage (staged s0.world k) s k.commit.to k.commit.actions) (IsDuring s0.world s.settled k.commit.to.settled old new)
            (commit_during s0.world s k (quiet told) old new was ready) here)

        pub second_cut : IsTrue s0.told → LeavesOnly s0 s2 (IsCut s0.world s.settled k)
        second_cut told =
            let here = subst (λ (w : World). LeavesOnly s1 s2 (IsCommitImage w s k.commit.to k.commit.actions)) (did.world told) (tears (still_told s0 s1 k.before did told)) in
            joins s0 s1 s2 (IsCut s0.world s.settled k) (first_cut told)
            (weaker s1 s2 (IsCommitImage (staged s0.world k) s k.commit.to k.commit.actions) (IsCut s0.world s.settled k) (commit_cut_in s0.world s k (quiet told)) here)

        module _ (done : Did s1 k.commit.actions s2) (settled : IsTrue s1.told → IsReady s2.world k.commit.to) (but : IsTrue s1.told → SameBut settings_reach s1.world s2.world) where
          -- ---- behind the commit

          but_here : IsTrue s0.told → SameBut settings_reach (staged s0.world k) s2.world
          but_here told = subst (λ (w : World). SameBut settings_reach w s2.world) (did.world told) (but (still_told s0 s1 k.before did told))

          ready_here : IsTrue s0.told → IsReady s2.world k.commit.to
          ready_here told = settled (still_told s0 s1 k.before did told)

          world_here : IsTrue s0.told → s2.world ≡ after_all (staged s0.world k) k.commit.actions
          world_here told = done.world (still_told s0 s1 k.before did told) ∙ ap (λ (w : World). after_all w k.commit.actions) (did.world told)

          pub can_finish : HasRoom s0 k → CanRun s2 k.after
          can_finish room = can_end s0 s1 s2 k room did done (λ told.
              let was = was_told s0 s1 k.before did (was_told s1 s2 k.commit.actions done told) in
              end_applies s0.world s k (quiet was) s2.world (but_here was) (ready_here was) (world_here was))

          told_there : IsTrue s0.told → IsTrue s2.told
          told_there told = still_told s1 s2 k.commit.actions done (still_told s0 s1 k.before did told)

          module _ (s3 : Sight) where
            pub third_crash : (IsTrue s2.told → LeavesOnly s2 s3 (PlanImage s2.world k.after)) → IsTrue s0.told → (old new : Vault) → StandsDurably s0.world s.settled old → Readies s0.world k new
                → LeavesOnly s0 s3 (IsDuring s0.world s.settled k.commit.to.settled old new)
            third_crash last told old new was ready =
                joins s0 s2 s3 (IsDuring s0.world s.settled k.commit.to.settled old new) (second_crash told old new was ready)
                (weaker s2 s3 (PlanImage s2.world k.after) (IsDuring s0.world s.settled k.commit.to.settled old new)
                (after_during s0.world s k (quiet told) s2.world (but_here told) (ready_here told) new ready old) (last (told_there told)))

            pub third_cut : (IsTrue s2.told → LeavesOnly s2 s3 (PlanImage s2.world k.after)) → IsTrue s0.told → LeavesOnly s0 s3 (IsCut s0.world s.settled k)
            third_cut last told =
                joins s0 s2 s3 (IsCut s0.world s.settled k) (second_cut told)
                (weaker s2 s3 (PlanImage s2.world k.after) (IsCut s0.world s.settled k)
                (after_cut s0.world s k (quiet told) s2.world (but_here told) (ready_here told) (world_here told)) (last (told_there told)))

            -- where the last plan failed
            pub third_rest : (at : ℕ) (part : Part) → IsSomeAnd (slice_get k.after at) (λ a. FailedAfter s2 (take at k.after) a part s3) → IsTrue s0.told → SameRest s0.world s3.world
            third_rest at part failed told =
                failed_rest s0.world s k (quiet told) s2.world (but_here told) (ready_here told) s3.world
                (failed_same (unnamed s2.world (next_of k)) s2 s3 k.after (after_only s0.world s k (quiet told) s2.world (but_here told) (ready_here told)) at part failed (told_there told))

            module _ (ended : Did s2 k.after s3) where
              pub did_all : Did s0 (actions_of k) s3
              did_all = did_both s0 s1 s3 k.before (k.commit.actions ++ k.after) did (did_both s1 s2 s3 k.commit.actions k.after done ended)

              world_there : IsTrue s0.told → s3.world ≡ after_all s2.world k.after
              world_there told = ended.world (told_there told)

              pub ends_durable : IsTrue s0.told → (new : Vault) → Readies s0.world k new → StandsDurably s3.world k.commit.to.settled new
              ends_durable told new ready =
                  subst (λ (w : World). StandsDurably w k.commit.to.settled new) (sym (world_there told))
                  (end_durable s0.world s k (quiet told) s2.world (but_here told) (ready_here told) new ready)

              pub ends_ready : IsTrue s0.told → IsReady s3.world k.commit.to
              ends_ready told =
                  subst (λ (w : World). IsReady w k.commit.to) (sym (world_there told))
                  (end_ready s0.world s k (quiet told) s2.world (but_here told) (ready_here told))

              pub ends_rest : IsTrue s0.told → SameRest s0.world s3.world
              ends_rest told =
                  subst (λ (w : World). SameRest s0.world w) (sym (world_there told))
                  (end_rest s0.world s k (quiet told) s2.world (but_here told) (ready_here told))
