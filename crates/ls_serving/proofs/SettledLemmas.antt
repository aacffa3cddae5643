-- A run whose first call is a sync: what holds of it from the sync on.
use Rattle.std.proofs.Common.{◌≡◌, ◌≤◌, ◌+◌, ◌++◌, ℕ, List, [], ◌∷◌, sym, ◌∙◌, ap, subst, inr}
use Rattle.std.specs.Prelude.{Option, Some}
use Rattle.ls_board.specs.declared.action.Action.{Action}
use Rattle.ls_board.specs.declared.action.Action.TheVariants.{Sync}
use Rattle.ls_board.specs.declared.world.World.{World}
use Rattle.ls_board.specs.Acts.{Sight}
use Rattle.ls_board.specs.Runs.{LeavesOnly}
use Rattle.ls_board.proofs.RunLemmas.{weaker}
use Rattle.ls_lines.specs.Lines.{lines_of, ended_count}
use Rattle.ls_serving.specs.Held.{commands_in, IsHeld}
use Rattle.ls_serving.specs.Machine.{Machine, reached, replies_of, states_of}
use Rattle.ls_serving.specs.Met.{NoChance}
use Rattle.ls_serving.specs.Settled.{LeavesOnlySettled}
use Rattle.ls_serving.proofs.MetLemmas.{met_back}

module _ (m : Machine) (first : m.Stage) where
  -- what is held depends on what the first world said and has as input, and on nothing else of it
  pub held_same : (w v image : World) → v.said ≡ w.said → v.input ≡ w.input → IsHeld m v first image → IsHeld m w first image
  held_same w v image said input held = record {
    says = record {
      said = held.says.said;
      is = held.says.is ∙ ap (λ (l : List ℕ). l ++ held.says.said) said;
      more = held.says.more;
      front = ap (λ (l : List ℕ). replies_of m first (lines_of l)) (sym input) ∙ held.says.front;
    };
    done = held.done;
    enough = subst (λ (l : List ℕ). commands_in m first l (ended_count held.says.said) ≤ held.done) input held.enough;
    few = subst (λ (l : List ℕ). held.done ≤ commands_in m first l (ended_count held.says.said + 1)) input held.few;
    stands = subst (λ (l : List ℕ). m.stands image (reached (m.state first) (states_of m first (lines_of l)) held.done)) input held.stands;
  }

  module _ (old mid new : Sight) (synced : mid.past ≡ (old.world, Some Sync) ∷ old.past)
      (said : mid.world.said ≡ old.world.said) (input : mid.world.input ≡ old.world.input) where
    -- nothing matched by chance since the sync
    pub chance_settled : NoChance m first old new → NoChance m first mid new
    chance_settled none = λ w met before line more is.
        none w (met_back old mid new w ((old.world, Some Sync) ∷ [], synced) met) before line more (ap lines_of (sym input) ∙ is)

    -- a run that serves from the sync on
    pub held_settled : LeavesOnly mid new (IsHeld m mid.world first) → LeavesOnlySettled old new (IsHeld m old.world first)
    held_settled leaves =
        let left = weaker mid new (IsHeld m mid.world first) (IsHeld m old.world first)
        (λ image held. held_same old.world mid.world image said input held) leaves in
        record {
          calls = left.calls;
          joined = inr (left.joined ∙ ap (λ (past : List (World × Option Action)). left.calls ++ past) synced);
          each = left.each;
          now = λ some image leaves. left.now image leaves;
        }
