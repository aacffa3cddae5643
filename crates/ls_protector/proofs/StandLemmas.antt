-- What reaches nothing that is named keeps each vault for which the world stands.
use Rattle.std.proofs.Common.{inl, inr, ℕ, IsTrue, List, [], ◌∷◌, sym, subst}
use Rattle.ls_board.specs.declared.action.Action.{Action}
use Rattle.ls_board.specs.declared.world.World.{World}
use Rattle.ls_board.specs.Acts.{Sight}
use Rattle.ls_board.specs.Effect.{after}
use Rattle.ls_board.specs.Reach.{Reach, AllTouchOnly, SameBut}
use Rattle.ls_board.specs.Runs.{LeavesOnly, PlanImage}
use Rattle.ls_board.proofs.FrameLemmas.{same_refl, same_trans, same_within}
use Rattle.ls_board.proofs.RunLemmas.{weaker}
use Rattle.ls_board.proofs.StepLemmas.{whole_within}
use Rattle.ls_naming.specs.Current.{Settled}
use Rattle.ls_naming.specs.Named.{NamesKey, NamesEnrolled}
use Rattle.ls_record.specs.Rows.{Rec}
use Rattle.ls_sealing.specs.Protectors.{has_weaver}
use Rattle.ls_standing.specs.Quiet.{unnamed, AllQuiet}
use Rattle.ls_standing.specs.Standing.{StandsDurably}
use Rattle.ls_standing.proofs.ContainsLemmas.{none_in}
use Rattle.ls_standing.proofs.QuietLemmas.{quiet_within, quiet_done, plan_cut}
use Rattle.ls_standing.proofs.TouchLemmas.{Inside, all_touch_more, all_quiet}
use Rattle.ls_vault.specs.declared.vault.Vault.{Vault}
use Rattle.ls_formats.specs.declared.parts.Parts.{Parts}
use Rattle.ls_protector.specs.Parts.{reach_of_names, reach_of_parts}
use Rattle.ls_protector.specs.Clear.{IsClear, IsClearOf, AreUnnamed, AreUnnamedOn, KeepsVaults}
use Rattle.ls_protector.specs.Steps.{PlanWorld}

-- ---- all but what is reached stays

pub world_same : (reach : Reach) (w mid : World) (plan : List Action) → AllTouchOnly reach plan → PlanWorld w plan mid → SameBut reach w mid
world_same reach w mid [] only is = subst (SameBut reach w) (sym is) (same_refl reach w)
world_same reach w mid (a ∷ plan) only (inl is) = subst (SameBut reach w) (sym is) (same_refl reach w)
world_same reach w mid (a ∷ plan) only (inr (inl within)) = same_within reach w mid a only.0 within
world_same reach w mid (a ∷ plan) only (inr (inr later)) =
    same_trans reach w (after w a 0) mid (same_within reach w (after w a 0) a only.0 (whole_within w a)) (world_same reach (after w a 0) mid plan only.1 later)

-- ---- what isn't named

pub clear_inside : (w : World) (r : Rec) (p : Parts) → IsClear w r p → Inside (reach_of_parts p) (unnamed w r)
clear_inside w r p clear = record {
  file = clear.files;
  slot = clear.slot;
  sid = λ sid is named. clear.counter is.0 (subst (NamesEnrolled (has_weaver w) r) is.1 named);
  alias = λ alias is named. clear.key (subst (NamesKey r) is named);
  cell = λ no. absurd no;
}

pub names_inside : (w : World) (r : Rec) (names : List (List ℕ)) → AreUnnamed w r names → Inside (reach_of_names names) (unnamed w r)
names_inside w r names clear = record {
  file = clear;
  slot = λ n no. absurd no;
  sid = λ sid no. absurd no;
  alias = λ alias no. absurd no;
  cell = λ no. absurd no;
}

-- ---- each vault stays

world_stands : (s : Settled) (v : Vault) (w mid : World) (plan : List Action) → StandsDurably w s v → AllQuiet w s.rec plan → PlanWorld w plan mid → StandsDurably mid s v
world_stands s v w mid [] stands quiet is = subst (λ (x : World). StandsDurably x s v) (sym is) stands
world_stands s v w mid (a ∷ plan) stands quiet (inl is) = subst (λ (x : World). StandsDurably x s v) (sym is) stands
world_stands s v w mid (a ∷ plan) stands quiet (inr (inl within)) = quiet_within s v w mid a stands quiet.0 within
world_stands s v w mid (a ∷ plan) stands quiet (inr (inr later)) = world_stands s v (after w a 0) mid plan (quiet_done s v w a 0 stands quiet.0) quiet.1 later

module _ (reach : Reach) (old new : Sight) (plan : List Action) (only : AllTouchOnly reach plan)
    (inside : IsTrue old.told → (s : Settled) (v : Vault) → StandsDurably old.world s v → Inside reach (unnamed old.world s.rec))
    (world : IsTrue old.told → PlanWorld old.world plan new.world)
    (crash : IsTrue old.told → LeavesOnly old new (PlanImage old.world plan)) where
  quiet : IsTrue old.told → (s : Settled) (v : Vault) → StandsDurably old.world s v → AllQuiet old.world s.rec plan
  quiet told s v was = all_quiet old.world s.rec plan (all_touch_more reach (unnamed old.world s.rec) (inside told s v was) plan only)

  keeps_vaults : KeepsVaults old new
  keeps_vaults = record {
    images = λ told s v was.
        weaker old new (PlanImage old.world plan) (λ image. StandsDurably image s v) (λ image left. plan_cut s v old.world image plan was (quiet told s v was) left) (crash told);
    world = λ told s v was. world_stands s v old.world new.world plan was (quiet told s v was) (world told);
  }

module _ (old new : Sight) (plan : List Action) (world : IsTrue old.told → PlanWorld old.world plan new.world) (crash : IsTrue old.told → LeavesOnly old new (PlanImage old.world plan)) where
  -- of parts that aren't named
  pub parts_stand : (p : Parts) → AllTouchOnly (reach_of_parts p) plan → IsClearOf old p → KeepsVaults old new
  parts_stand p only clear = keeps_vaults (reach_of_parts p) old new plan only (λ told s v was. clear_inside old.world s.rec p (clear told s v was)) world crash

  -- of files that aren't named
  pub names_stand : (names : List (List ℕ)) → AllTouchOnly (reach_of_names names) plan → AreUnnamedOn old names → KeepsVaults old new
  names_stand names only clear = keeps_vaults (reach_of_names names) old new plan only (λ told s v was. names_inside old.world s.rec names (clear told s v was)) world crash

  -- of nothing at all
  pub nothing_stands : AllTouchOnly (reach_of_names []) plan → KeepsVaults old new
  nothing_stands only = names_stand [] only (λ told s v was n none. absurd (none_in n none))
