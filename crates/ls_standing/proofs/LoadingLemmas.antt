-- What loading the settings leaves of what a world stands for.
use Rattle.std.proofs.Common.{◌≡◌, inl, inr, ℕ, Bool, [], true, false, List, Option, sym, ap, subst, ◌∙◌}
use Rattle.std.specs.Prelude.{Result, Ok, Err}
use Rattle.ls_formats.specs.declared.side.Side.TheVariants.{First, Second}
use Rattle.ls_formats.specs.PartNames.{settings_text}
use Rattle.ls_record.specs.Rows.{IsRecord}
use Rattle.ls_naming.specs.Current.{Settled, Foreign, settings_of, is_open}
use Rattle.ls_board.specs.declared.action.Action.TheVariants.{Sync}
use Rattle.ls_board.specs.declared.world.World.{World}
use Rattle.ls_board.specs.Effect.{file_at, after}
use Rattle.ls_board.specs.Reach.{SameBut}
use Rattle.ls_board.specs.Runs.{after_all, PlanImage}
use Rattle.ls_settings.specs.Loaded.{Loaded, IsWhole, IsReady, AreUntouched, settings_reach, target_of}
use Rattle.ls_settings.specs.Loading.{IsSameOrShut, IsLoadImage, AreLoaded}
use Rattle.ls_vault.specs.declared.vault.Vault.{Vault}
use Rattle.ls_standing.specs.Bare.{IsBare}
use Rattle.ls_standing.specs.Clearing.{sweeping, AreLeftovers}
use Rattle.ls_standing.specs.Quiet.{AllQuiet}
use Rattle.ls_standing.specs.Same.{SameSettings}
use Rattle.ls_standing.specs.Standing.{IsTargetWhole, StandsDurably}
use Rattle.ls_standing.proofs.BareLemmas.{strange_kept}
use Rattle.ls_standing.proofs.CommitLemmas.{image_stands, commit_done}
use Rattle.ls_standing.proofs.QuietLemmas.{quiet_done, plan_done, plan_cut, plan_kept}
use Rattle.ls_standing.proofs.SweepLemmas.{sweep_touches, sweep_bare}
use Rattle.ls_standing.proofs.TouchLemmas.{all_quiet}

-- a file that is as it was or isn't open has its length where it had it
shut_whole : (old new : Option (List ℕ)) → IsSameOrShut old new → (is_open old ≡ true → IsWhole old) → is_open new ≡ true → IsWhole new
shut_whole old new (inl same) was opened = subst IsWhole (sym same) (was (ap is_open (sym same) ∙ opened))
shut_whole old new (inr shut) was opened = absurd (let bad : false ≡ true = sym shut ∙ opened in cc)

pub load_cut : (w image : World) (s : Settled) (v : Vault) → StandsDurably w s v → IsLoadImage w image → StandsDurably image s v
load_cut w image s v stands left =
    image_stands w image left.rest s v (left.settled ∙ stands.stands.settings) target stands.stands.holds stands.named
  where
    target : IsTargetWhole image s.side
    target side other opened =
        shut_whole (file_at w (settings_text side)) (file_at image (settings_text side)) (left.each side) (stands.stands.target side other) opened

-- the settings that are said
abbrev said_or : Settled → Result Settled Foreign → Settled
said_or other (Ok s) = s
said_or other (Err fault) = other

pub load_says : (w mid : World) (s : Settled) (v : Vault) (l : Loaded) → StandsDurably w s v → AreLoaded w l mid → l.settled ≡ s
load_says w mid s v l stands loaded = ap (said_or s) (sym loaded.found ∙ stands.stands.settings)

pub load_ready : (w mid : World) (l : Loaded) → AreUntouched w → AreLoaded w l mid → IsReady mid l
load_ready w mid l still loaded = record { are = loaded.are; whole = loaded.whole; untouched = loaded.untouched still }

pub load_done : (w mid : World) (s : Settled) (v : Vault) (l : Loaded) → StandsDurably w s v → AreLoaded w l mid → SameBut settings_reach w mid → StandsDurably mid s v
load_done w mid s v l stands loaded same =
    let is = load_says w mid s v l stands loaded in
    let at : StandsDurably w l.settled v = subst (λ (t : Settled). StandsDurably w t v) (sym is) stands in
    subst (λ (t : Settled). StandsDurably mid t v) is
    (commit_done w mid l v at.stands.holds at.named same (load_ready w mid l at.settings loaded))

-- ---- while the settings files stay

pub ready_kept : (w mid : World) (l : Loaded) → SameSettings w mid → IsReady w l → IsReady mid l
ready_kept w mid l same ready = record {
  are = record {
    settled = (λ i. settings_of (same.file First i) (same.file Second i)) ∙ ready.are.settled;
    target = ready.are.target ∙ ap is_open (sym (same.file (target_of l.settled.side)));
  };
  whole = λ side other. subst IsWhole (sym (same.file side)) (ready.whole side other);
  untouched = λ side. same.touch side (ready.untouched side);
}

-- ---- an opening

module _ (mid : World) (s : Settled) (names : List (List ℕ)) (slots sids aliases : List ℕ) (cell : Bool) (is : IsRecord s.rec) (left : AreLeftovers mid s.rec names slots sids aliases cell) where
  quiet : AllQuiet mid s.rec (sweeping names slots sids aliases cell)
  quiet = all_quiet mid s.rec (sweeping names slots sids aliases cell) (sweep_touches mid s.rec names slots sids aliases cell is left)

  pub open_done : (start : World) (v : Vault) (l : Loaded) → StandsDurably start s v → AreLoaded (after start Sync 0) l mid → SameBut settings_reach (after start Sync 0) mid
      → StandsDurably (after_all mid (sweeping names slots sids aliases cell)) s v
  open_done start v l stands loaded same =
      plan_done s v mid (sweeping names slots sids aliases cell) (load_done (after start Sync 0) mid s v l (quiet_done s v start Sync 0 stands tt) loaded same) quiet

  pub open_cut : (image : World) (v : Vault) → StandsDurably mid s v → PlanImage mid (sweeping names slots sids aliases cell) image → StandsDurably image s v
  open_cut image v stands left = plan_cut s v mid image (sweeping names slots sids aliases cell) stands quiet left

  pub open_ready : (l : Loaded) → IsReady mid l → IsReady (after_all mid (sweeping names slots sids aliases cell)) l
  open_ready l ready = ready_kept mid (after_all mid (sweeping names slots sids aliases cell)) l (plan_kept s.rec mid (sweeping names slots sids aliases cell) quiet).settings ready

  pub open_bare : (start : World) → SameBut settings_reach (after start Sync 0) mid → IsBare start (after_all mid (sweeping names slots sids aliases cell)) s.rec []
  open_bare start same = sweep_bare mid s.rec names slots sids aliases cell is left start (λ n strange. strange_kept (after start Sync 0) mid same n strange)
