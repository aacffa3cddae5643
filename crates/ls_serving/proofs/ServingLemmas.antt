-- What each call makes of a run.
use Rattle.std.proofs.Common.{◌≡◌, ◌++◌, ◌⊎◌, ℕ, List, [], ◌∷◌, length, take, refl, sym, ◌∙◌, ap, subst, arith, inl, inr, append_assoc}
use Rattle.std.specs.Prelude.{Result, Ok, Err, Some, OnOk, OnErr}
use Rattle.std.proofs.lemmas.List.{append-nil, take_all}
use Rattle.ls_board.specs.declared.action.Action.{Action}
use Rattle.ls_board.specs.declared.action.Action.TheVariants.{Sync, Hear, Say}
use Rattle.ls_board.specs.declared.action.BoardFault.{BoardFault}
use Rattle.ls_board.specs.declared.world.World.{World}
use Rattle.ls_board.specs.Acts.{Sight}
use Rattle.ls_board.specs.Images.{Leaves}
use Rattle.ls_board.specs.Runs.{LeavesOnly}
use Rattle.ls_board.proofs.RunLemmas.{joins, weaker}
use Rattle.ls_serving.specs.Calls.{IsOuter, IsOuterStep, Calls, IsSilent, Says}
use Rattle.ls_serving.specs.Held.{IsHeld}
use Rattle.ls_serving.specs.Machine.{Machine, replies_of, stage_after}
use Rattle.ls_serving.specs.Met.{Extends, MetBetween, NoChance}
use Rattle.ls_serving.specs.Owed.{Owes}
use Rattle.ls_serving.specs.Serving.{IsOnTheWay, IsStill, Answered, Serving, Ready, CutShort, ComesNext}
use Rattle.ls_serving.specs.Turns.{StaysInside, SaysInTurn, IsInTurn, CallsInTurn}
use Rattle.ls_serving.proofs.MetLemmas.{extends-trans, chance_front, chance_next}
use Rattle.ls_serving.proofs.RepliesLemmas.{replies_more, stage-append, says_lines, held_between, held_on_the_way, says_part, held_saying}
use Rattle.ls_serving.proofs.TurnLemmas.{inside_extends, turns_inside, turns_call, say_turn}

pub on_err : {T E : Type 0} {P : Type 0} (r : Result T E) → P → OnErr r P
on_err (Ok x) p = tt
on_err (Err e) p = p

pub on_both : {T E : Type 0} {P : Type 0} (r : Result T E) → P → OnOk r P
on_both (Ok x) p = p
on_both (Err e) p = tt

-- ---- calls of the loop

pub call_leaves : (P : World → Type 0) (old new : Sight) (a : Action) → Calls old a new
    → ((mid image : World) → (mid ≡ old.world) ⊎ IsOuterStep old.world a mid → Leaves mid image → P image) → LeavesOnly old new P
call_leaves P old new a (inl same) all = record {
  calls = [];
  joined = same.0;
  each = tt;
  now = λ image leaves. all new.world image (inl same.1) leaves;
}
call_leaves P old new a (inr moved) all = record {
  calls = (old.world, Some a) ∷ [];
  joined = moved.0;
  each = (λ image leaves. all old.world image (inl refl) leaves, λ image within. all within.0 image (inr (inl within.1)) within.2, tt);
  now = λ image leaves. all new.world image (inr moved.1) leaves;
}

pub calls_extend : (old new : Sight) (a : Action) → Calls old a new → Extends old new
calls_extend old new a (inl same) = ([], same.0)
calls_extend old new a (inr moved) = ((old.world, Some a) ∷ [], moved.0)

pub calls_move : (old new : Sight) (a : Action) → Calls old a new → (new.world ≡ old.world) ⊎ IsOuterStep old.world a new.world
calls_move old new a (inl same) = inl same.1
calls_move old new a (inr moved) = inr moved.1

image_said : (w image : World) → Leaves w image → image.said ≡ w.said
image_said w image leaves = ap (λ (v : World). v.said) leaves.rest

-- ---- what is said by a hearing, a sync and a saying

pub hear_said : (w mid : World) (max : ℕ) → IsOuterStep w (Hear max) mid → mid.said ≡ w.said
hear_said w mid max (inl within) = ap (λ (v : World). v.said) within.is
hear_said w mid max (inr whole) = ap (λ (v : World). v.said) whole.1

pub sync_said : (w mid : World) → IsOuterStep w Sync mid → mid.said ≡ w.said
sync_said w mid (inl within) = ap (λ (v : World). v.said) within.is
sync_said w mid (inr whole) = ap (λ (v : World). v.said) whole.1

say_said : (w mid : World) (text : List ℕ) → (mid ≡ w) ⊎ IsOuterStep w (Say text) mid → (k : ℕ) × (mid.said ≡ w.said ++ take k text)
say_said w mid text (inl same) = (0, ap (λ (v : World). v.said) same ∙ sym (append-nil w.said))
say_said w mid text (inr (inl within)) = (within.told, ap (λ (v : World). v.said) within.is)
say_said w mid text (inr (inr whole)) = (length text, ap (λ (v : World). v.said) whole.1 ∙ ap (λ (l : List ℕ). w.said ++ l) (sym (take_all (length text) text (omega arith))))

-- ---- a run

module _ (m : Machine) (agrees : World → m.Stage → Type 0) (owes : Owes m agrees) (start : Sight) (first : m.Stage) where
  module _ (old new : Sight) (lines : List (List ℕ)) where
    -- ---- a call that says nothing

    module _ (a : Action) (outer : IsOuter a) (quiet : (mid : World) → IsOuterStep old.world a mid → mid.said ≡ old.world.said)
        (turn : Answered m agrees start old first lines → IsInTurn m start.world first (old.world, Some a)) (called : Calls old a new) where
      still : (mid : World) → (mid ≡ old.world) ⊎ IsOuterStep old.world a mid → mid.said ≡ old.world.said
      still mid (inl same) = ap (λ (v : World). v.said) same
      still mid (inr step) = quiet mid step

      answered_still : Answered m agrees start old first lines → Answered m agrees start new first lines
      answered_still was = record {
        more = was.more;
        front = was.front;
        said = still new.world (calls_move old new a called) ∙ was.said;
        agreed = owes.kept old.world new.world (stage_after m first lines) a outer (calls_move old new a called) was.agreed;
        images = joins start old new (IsHeld m start.world first) was.images
            (call_leaves (IsHeld m start.world first) old new a called
            (λ mid image from leaves. held_between m owes.ends owes.joins start.world first lines was.more was.front image
            (image_said mid image leaves ∙ still mid from ∙ was.said)
            (owes.holds mid image (stage_after m first lines) (owes.kept old.world mid (stage_after m first lines) a outer from was.agreed) leaves)));
        turns = turns_call m start first old new a was.turns called (turn was);
      }

      pub serving_still : Serving m agrees start old first lines → Serving m agrees start new first lines
      serving_still was = record {
        since = extends-trans start old new was.since (calls_extend old new a called);
        answered = λ none. answered_still (was.answered (chance_front m first start old new (calls_extend old new a called) none));
      }

    -- ---- a file that serves no more is removed; the service may agree otherwise after it

    module _ (later : World → m.Stage → Type 0) (inside : StaysInside old new) (silent : IsSilent old.world new.world)
        (crash : (at : m.Stage) → agrees old.world at → LeavesOnly old new (IsStill m old.world.said (m.state at))) where
      tidied_images : Answered m agrees start old first lines → LeavesOnly start new (IsHeld m start.world first)
      tidied_images was = joins start old new (IsHeld m start.world first) was.images
          (weaker old new (IsStill m old.world.said (m.state (stage_after m first lines))) (IsHeld m start.world first)
          (λ image still. held_between m owes.ends owes.joins start.world first lines was.more was.front image (still.same ∙ was.said) still.stands)
          (crash (stage_after m first lines) was.agreed))

      pub tidied : ((at : m.Stage) → agrees old.world at → later new.world at)
          → Serving m agrees start old first lines → Serving m later start new first lines
      tidied agreed was = record {
        since = extends-trans start old new was.since (inside_extends old new inside);
        answered = λ none.
            let a = was.answered (chance_front m first start old new (inside_extends old new inside) none) in
            record {
              more = a.more;
              front = a.front;
              said = silent.said ∙ a.said;
              agreed = agreed (stage_after m first lines) a.agreed;
              images = tidied_images a;
              turns = turns_inside m start first old new a.turns inside;
            };
      }

      pub tidying_cut : Serving m agrees start old first lines → CutShort m start new first
      tidying_cut was = record {
        since = extends-trans start old new was.since (inside_extends old new inside);
        says = λ none.
            let a = was.answered (chance_front m first start old new (inside_extends old new inside) none) in
            says_lines m owes.ends owes.joins start.world first lines a.more a.front new.world (silent.said ∙ a.said);
        images = λ none. tidied_images (was.answered (chance_front m first start old new (inside_extends old new inside) none));
        turns = λ none.
            let a = was.answered (chance_front m first start old new (inside_extends old new inside) none) in
            turns_inside m start first old new a.turns inside;
      }

    -- ---- a line's commands are done

    module _ (later : World → m.Stage → Type 0) (inside : StaysInside old new) (silent : IsSilent old.world new.world)
        (line : List ℕ) (next : ComesNext start lines line)
        (crash : (at : m.Stage) → agrees old.world at → ((w : World) → MetBetween old new w → m.apart w at line)
        → LeavesOnly old new (IsOnTheWay m old.world.said at line)) where
      was_answered : NoChance m first start new → Serving m agrees start old first lines → Answered m agrees start old first lines
      was_answered none was = was.answered (chance_front m first start old new (inside_extends old new inside) none)

      done_images : NoChance m first start new → Serving m agrees start old first lines → LeavesOnly start new (IsHeld m start.world first)
      done_images none was =
          let a = was_answered none was in
          joins start old new (IsHeld m start.world first) a.images
          (weaker old new (IsOnTheWay m old.world.said (stage_after m first lines) line) (IsHeld m start.world first)
          (λ image way. held_on_the_way m owes.ends owes.joins start.world first lines line next.0 next.1 image old.world.said a.said way)
          (crash (stage_after m first lines) a.agreed (chance_next m first start old new was.since none lines line next)))

      pub line_cut : Serving m agrees start old first lines → CutShort m start new first
      line_cut was = record {
        since = extends-trans start old new was.since (inside_extends old new inside);
        says = λ none.
            let a = was_answered none was in
            says_lines m owes.ends owes.joins start.world first lines a.more a.front new.world (silent.said ∙ a.said);
        images = λ none. done_images none was;
        turns = λ none. turns_inside m start first old new (was_answered none was).turns inside;
      }

      pub line_done : (text : List ℕ) → ((at : m.Stage) → agrees old.world at → ((w : World) → MetBetween old new w → m.apart w at line)
          → (text ≡ m.printed at line) × later new.world (m.next at line))
          → Serving m agrees start old first lines → NoChance m first start new
          → Ready m later start new first lines line × (text ≡ m.printed (stage_after m first lines) line)
      line_done text done was none =
          let a = was_answered none was in
          let d = done (stage_after m first lines) a.agreed (chance_next m first start old new was.since none lines line next) in (
            record {
              said = silent.said ∙ a.said;
              agreed = d.1;
              images = done_images none was;
              turns = turns_inside m start first old new a.turns inside;
            },
            d.0,
          )

    -- ---- its reply is said

    module _ (line text : List ℕ) (next : ComesNext start lines line) {T : Type 0} (result : Result T BoardFault)
        (since : Extends start old) (says : Says old text result new)
        (ready : NoChance m first start old → Ready m agrees start old first lines line × (text ≡ m.printed (stage_after m first lines) line)) where
      abbrev pub after_line : m.Stage
      after_line = m.next (stage_after m first lines) line

      abbrev IsReady : Type 0
      IsReady = Ready m agrees start old first lines line × (text ≡ m.printed (stage_after m first lines) line)

      before : NoChance m first start new → IsReady
      before none = ready (chance_front m first start old new (calls_extend old new (Say text) says.called) none)

      part : (w : World) → IsReady
          → (mid : World) → (mid ≡ old.world) ⊎ IsOuterStep old.world (Say text) mid → w.said ≡ mid.said
          → (k : ℕ) × (w.said ≡ start.world.said ++ (replies_of m first lines ++ take k (m.printed (stage_after m first lines) line)))
      part w (was, is) mid from same =
          let told = say_said old.world mid text from in (
            told.0,
            same ∙ told.1 ∙ ap (λ (l : List ℕ). l ++ take told.0 text) was.said
                ∙ append_assoc start.world.said (replies_of m first lines) (take told.0 text)
                ∙ ap (λ (l : List ℕ). start.world.said ++ (replies_of m first lines ++ take told.0 l)) is,
          )

      saying_images : IsReady → LeavesOnly start new (IsHeld m start.world first)
      saying_images was =
          joins start old new (IsHeld m start.world first) was.0.images
          (call_leaves (IsHeld m start.world first) old new (Say text) says.called
          (λ mid image from leaves.
          let p = part image was mid from (image_said mid image leaves) in
          held_saying m owes.ends owes.joins start.world first lines line next.0 next.1 image p.0 p.1
          (owes.holds mid image after_line (owes.kept old.world mid after_line (Say text) tt from was.0.agreed) leaves)))

      turn : IsReady → SaysInTurn m start.world first old.world text
      turn was = record {
        before = lines;
        line = line;
        more = next.0;
        lines = next.1;
        answered = was.0.said;
        reply = was.1;
        settled = λ image leaves. owes.holds old.world image after_line was.0.agreed leaves;
      }

      saying_turns : IsReady → CallsInTurn m start new first
      saying_turns was = turns_call m start first old new (Say text) was.0.turns says.called (say_turn m start first old.world text (turn was))

      pub saying_cut : CutShort m start new first
      saying_cut = record {
        since = extends-trans start old new since (calls_extend old new (Say text) says.called);
        says = λ none.
            let was = before none in
            let p = part new.world was new.world (calls_move old new (Say text) says.called) refl in
            says_part m owes.ends owes.joins start.world first lines line next.0 next.1 new.world p.0 p.1;
        images = λ none. saying_images (before none);
        turns = λ none. saying_turns (before none);
      }

      pub said_serving : new.world.said ≡ old.world.said ++ text → Serving m agrees start new first (lines ++ line ∷ [])
      said_serving said = record {
        since = extends-trans start old new since (calls_extend old new (Say text) says.called);
        answered = λ none.
            let was = before none in
            record {
              more = next.0;
              front = next.1 ∙ sym (append_assoc lines (line ∷ []) next.0);
              said = said ∙ ap (λ (l : List ℕ). l ++ text) was.0.said
                  ∙ append_assoc start.world.said (replies_of m first lines) text
                  ∙ ap (λ (l : List ℕ). start.world.said ++ l) (ap (λ (l : List ℕ). replies_of m first lines ++ l) was.1 ∙ sym (replies_more m first lines line));
              agreed = subst (λ (at : m.Stage). agrees new.world at) (sym (stage-append m first lines (line ∷ [])))
                  (owes.kept old.world new.world after_line (Say text) tt (calls_move old new (Say text) says.called) was.0.agreed);
              images = saying_images was;
              turns = saying_turns was;
            };
      }

  -- ---- the run ends between two lines

  pub cut_between : (now : Sight) (lines : List (List ℕ)) → Serving m agrees start now first lines → CutShort m start now first
  cut_between now lines was = record {
    since = was.since;
    says = λ none.
        let a = was.answered none in
        says_lines m owes.ends owes.joins start.world first lines a.more a.front now.world a.said;
    images = λ none. (was.answered none).images;
    turns = λ none. (was.answered none).turns;
  }
