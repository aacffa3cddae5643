-- Several protectors that are written one after the other, and a sync behind a plan.
use Rattle.std.proofs.Common.{◌≡◌, ℕ, List, [], ◌∷◌, ◌++◌, None, Some, refl, sym, ap, subst, ◌∙◌}
use Rattle.std.specs.List.{Contains}
use Rattle.ls_formats.specs.declared.part.FilePart.{FilePart}
use Rattle.ls_record.specs.Rows.{Rec, IsRecord}
use Rattle.ls_board.specs.declared.action.Action.{Action}
use Rattle.ls_board.specs.declared.action.Action.TheVariants.{Sync}
use Rattle.ls_board.specs.declared.world.World.{World}
use Rattle.ls_board.specs.Effect.{touch_at}
use Rattle.ls_board.specs.Reach.{Reach, AllTouchOnly}
use Rattle.ls_board.specs.Runs.{after_all}
use Rattle.ls_board.proofs.FrameLemmas.{plan_same}
use Rattle.ls_board.proofs.RunLemmas.{after_all-append}
use Rattle.ls_sealing.specs.Protectors.{Protector, held}
use Rattle.ls_sealing.specs.Building.{writing_actions}
use Rattle.ls_sealing.specs.Sparing.{IsUntouched, Spares, reach_of}
use Rattle.ls_sealing.proofs.ActionLemmas.{touches}
use Rattle.ls_sealing.proofs.HeldLemmas.{held_but, still_but}
use Rattle.ls_standing.specs.Quiet.{unnamed, IsUnnamedProtector}
use Rattle.ls_standing.specs.Several.{Written, writing_all, reach_of_all}
use Rattle.ls_standing.proofs.ContainsLemmas.{none_in, at_first, behind_first}
use Rattle.ls_standing.proofs.TouchLemmas.{Inside, all_touch_more, writing_touch}

-- ---- lists that touch one reach

touch_both : (reach : Reach) (xs ys : List Action) → AllTouchOnly reach xs → AllTouchOnly reach ys → AllTouchOnly reach (xs ++ ys)
touch_both reach [] ys first second = second
touch_both reach (x ∷ xs) ys first second = (first.0, touch_both reach xs ys first.1 second)

-- ---- protectors

one_inside : (all : List Written) (x : Written) → Contains all x → Inside (reach_of x.of x.slot) (reach_of_all all)
one_inside all x within = record {
  file = λ n reached. (x, within, reached.0, reached.1);
  slot = λ n reached. (x, within, reached);
  sid = λ sid reached. (x, within, reached);
  alias = λ alias reached. (x, within, reached);
  cell = λ none. none;
}

-- what is written of some of these
part_touches : (all some : List Written) → ((x : Written) → Contains some x → Contains all x) → AllTouchOnly (reach_of_all all) (writing_all some)
part_touches all [] within = tt
part_touches all (x ∷ some) within =
    touch_both (reach_of_all all) (writing_actions x.of x.slot x.writing) (writing_all some)
    (all_touch_more (reach_of x.of x.slot) (reach_of_all all) (one_inside all x (within x (at_first x some))) (writing_actions x.of x.slot x.writing)
    (touches x.of x.writing x.slot))
    (part_touches all some (λ y has. within y (behind_first x some y has)))

pub all_touch : (all : List Written) → AllTouchOnly (reach_of_all all) (writing_all all)
all_touch all = part_touches all all (λ x has. has)

module _ (w : World) (q : Protector) (all : List Written) (each : (x : Written) → Contains all x → Spares (reach_of x.of x.slot) w q) where
  all_spare : Spares (reach_of_all all) w q
  all_spare = record {
    file = λ part has reached. (each reached.0 reached.1).file part has (reached.2, reached.3);
    slot = λ n is reached. (each reached.0 reached.1).slot n is reached.2;
    counter = λ enrolled reached. (each reached.0 reached.1).counter enrolled reached.2;
    key = λ reached. (each reached.0 reached.1).key reached.2;
  }

  pub all_held : held (after_all w (writing_all all)) q ≡ held w q
  all_held = held_but q (reach_of_all all) w (after_all w (writing_all all)) all_spare (plan_same (reach_of_all all) w (writing_all all) (all_touch all))

  pub all_still : IsUntouched w q → IsUntouched (after_all w (writing_all all)) q
  all_still = still_but q (reach_of_all all) w (after_all w (writing_all all)) all_spare (plan_same (reach_of_all all) w (writing_all all) (all_touch all))

pub all_unnamed : (w : World) (r : Rec) (all : List Written) → IsRecord r → ((x : Written) → Contains all x → IsUnnamedProtector w r x.of x.slot) → AllTouchOnly (unnamed w r) (writing_all all)
all_unnamed w r [] is each = tt
all_unnamed w r (x ∷ all) is each =
    touch_both (unnamed w r) (writing_actions x.of x.slot x.writing) (writing_all all) (writing_touch w r x.of x.slot is (each x (at_first x all)) x.writing)
    (all_unnamed w r all is (λ y has. each y (behind_first x all y has)))

-- ---- a sync

pub synced_touch : (w : World) (plan : List Action) (n : List ℕ) → touch_at (after_all w (plan ++ Sync ∷ [])) n ≡ None
synced_touch w plan n = ap (λ (x : World). touch_at x n) (after_all-append w plan (Sync ∷ []))
