-- What isn't named stays so while what isn't named is dealt with, one behind another.
use Rattle.std.proofs.Common.{◌≡◌, List, [], ◌∷◌, ◌++◌, sym, ◌∙◌, subst}
use Rattle.std.specs.Prelude.{Result, Ok}
use Rattle.std.specs.List.{Contains, flat_map}
use Rattle.ls_formats.specs.declared.parts.Parts.{Parts}
use Rattle.ls_record.specs.Rows.{Rec}
use Rattle.ls_naming.specs.Current.{Settled}
use Rattle.ls_board.specs.declared.action.Action.{Action}
use Rattle.ls_board.specs.declared.world.World.{World}
use Rattle.ls_board.specs.Reach.{Reach, AllTouchOnly}
use Rattle.ls_board.specs.Runs.{after_all}
use Rattle.ls_settings.specs.Loaded.{Loaded, IsReady}
use Rattle.ls_standing.specs.Quiet.{unnamed}
use Rattle.ls_standing.specs.Same.{SameNamed}
use Rattle.ls_standing.proofs.ContainsLemmas.{at_first, behind_first}
use Rattle.ls_standing.proofs.SameLemmas.{names_back, slots_back, enrolled_back}
use Rattle.ls_standing.proofs.QuietLemmas.{plan_kept}
use Rattle.ls_standing.proofs.TouchLemmas.{Inside, all_touch_more, all_quiet, later_touch}
use Rattle.ls_change.proofs.ChangeLemmas.{plan_ready}
use Rattle.ls_protector.specs.Clear.{IsClear}
use Rattle.ls_exchange.specs.Turns.{IsClearIn, AreClearInTurn, storage}

-- ---- reaches

pub touch_front : (reach : Reach) (xs ys : List Action) → AllTouchOnly reach (xs ++ ys) → AllTouchOnly reach xs
touch_front reach [] ys only = tt
touch_front reach (a ∷ xs) ys only = (only.0, touch_front reach xs ys only.1)

pub touch_rest : (reach : Reach) (xs ys : List Action) → AllTouchOnly reach (xs ++ ys) → AllTouchOnly reach ys
touch_rest reach [] ys only = only
touch_rest reach (a ∷ xs) ys only = touch_rest reach xs ys only.1

-- all that an action may reach is stored
in_storage : (reach : Reach) → Inside reach storage
in_storage reach = record { file = λ n its. tt; slot = λ n its. tt; sid = λ n its. tt; alias = λ n its. tt; cell = λ its. tt }

pub is_stored : (reach : Reach) (plan : List Action) → AllTouchOnly reach plan → AllTouchOnly storage plan
is_stored reach plan only = all_touch_more reach storage (in_storage reach) plan only

-- ---- parts that aren't named

pub clear_later : (w mid : World) (r : Rec) (p : Parts) → SameNamed r w mid → IsClear w r p → IsClear mid r p
clear_later w mid r p same clear = record {
  files = λ n its.
      let un = clear.files n its in
      record { settings = un.settings; named = λ name named. un.named name (names_back r w mid same name named) };
  slot = λ n its named. clear.slot n its (slots_back r w mid same n named);
  key = clear.key;
  counter = λ its named. clear.counter its (enrolled_back r w mid same p.id named);
}

-- by the current settings, for whichever the world stands
clear_in : (w : World) (s : Loaded) (p : Parts) → IsReady w s → IsClear w s.settled.rec p → IsClearIn w p
clear_in w s p ready clear t v stands = subst (λ (x : Settled). IsClear w x.rec p) (same (sym ready.are.settled ∙ stands.stands.settings)) clear
  where
    same : {E : Type 0} {x y : Settled} → ◌≡◌ {A = Result Settled E} (Ok x) (Ok y) → x ≡ y
    same e = cc

module _ {X : Type 0} (parts : X → Parts) (plan : X → List Action) (s : Loaded) where
  pub clear_in_turn : (w : World) (all : List X) → IsReady w s → AllTouchOnly (unnamed w s.settled.rec) (flat_map plan all) → ((x : X) → Contains all x → IsClear w s.settled.rec (parts x))
      → AreClearInTurn parts plan w all
  clear_in_turn w [] ready only clear = tt
  clear_in_turn w (x ∷ all) ready only clear =
      let r : Rec = s.settled.rec in
      let first = touch_front (unnamed w r) (plan x) (flat_map plan all) only in
      let next : World = after_all w (plan x) in
      let same = (plan_kept r w (plan x) (all_quiet w r (plan x) first)).named in (
        clear_in w s (parts x) ready (clear x (at_first x all)),
        clear_in_turn next all (plan_ready w s (plan x) first ready)
            (later_touch w next r (flat_map plan all) same (touch_rest (unnamed w r) (plan x) (flat_map plan all) only))
            (λ y has. clear_later w next r (parts y) same (clear y (behind_first x all y has))),
      )
