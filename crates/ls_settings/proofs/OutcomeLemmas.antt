-- What is to be shown of a commit, and steps towards it.
use Rattle.std.proofs.Common.{◌≡◌, ◌⊎◌, ◌≤◌, ◌+◌, ℕ, true, false, List, [], ◌∷◌, length, ◌-◌, not, unwrap_or, if◌then◌else◌, IsSomeAnd, Option, Some, None, Ok, refl, sym, ◌∙◌, ap, subst}
use Rattle.ls_formats.specs.declared.side.Side.{Side}
use Rattle.ls_formats.specs.declared.side.Side.TheVariants.{First, Second}
use Rattle.ls_formats.specs.PartNames.{settings_text}
use Rattle.ls_naming.specs.Current.{current, is_open}
use Rattle.ls_board.specs.declared.action.Action.{Action}
use Rattle.ls_board.specs.declared.world.World.{World}
use Rattle.ls_board.specs.declared.touch.Span.{Span}
use Rattle.ls_board.specs.Effect.{file_at}
use Rattle.ls_board.specs.Images.{SameOutside, PokedFrom, Leaves}
use Rattle.ls_board.specs.Reach.{AllTouchOnly}
use Rattle.ls_board.specs.Runs.{PlanImage, after_all, AllApply, AllSound}
use Rattle.ls_board.proofs.StepLemmas.{poked_same}
use Rattle.ls_settings.specs.Loaded.{Loaded, IsReady, IsWhole, other_side, target_of, is_side, settings_reach}
use Rattle.ls_settings.specs.Commits.{written_in, span_between}
use Rattle.ls_settings.proofs.SideLemmas.{by_side, of_pair, current_pair}
use Rattle.ls_settings.proofs.SyncedLemmas.{Holds, Pair, Between}

-- ---- what is to be shown of either kind

pub record Outcome (w : World) (from to : Loaded) (actions : List Action) : Type 0 where
  pub images : (image : World) → PlanImage w actions image → (current (file_at image) ≡ Ok from.settled) ⊎ (current (file_at image) ≡ Ok to.settled)
  pub bytes : (image : World) → PlanImage w actions image → (s : Side) → PokedFrom (written_in from to s) (file_at w (settings_text s)) (file_at image (settings_text s))
  pub ready : IsReady (after_all w actions) to
  pub held : (image : World) → Leaves (after_all w actions) image → current (file_at image) ≡ Ok to.settled
  pub applies : AllApply w actions
  pub sound : (slots : ℕ) → AllSound slots actions
  pub only : AllTouchOnly settings_reach actions

-- ---- files

-- a file that was only poked is there
pub there : (spans : List Span) (now : List ℕ) (file : Option (List ℕ)) → PokedFrom spans (Some now) file → (g : List ℕ) × ((file ≡ Some g) × SameOutside spans now g)
there spans now None torn = absurd torn
there spans now (Some g) torn = (g, (refl, torn))

pub some_whole : (file : Option (List ℕ)) → IsWhole file → (f : List ℕ) × ((file ≡ Some f) × (length f ≡ 4096))
some_whole None none = absurd none
some_whole (Some f) long = (f, (refl, long))

pub some_apply : (file : Option (List ℕ)) (f : List ℕ) (at : ℕ) (b : List ℕ) → file ≡ Some f → at + length b ≤ length f → IsSomeAnd file (λ old. at + length b ≤ length old)
some_apply file f at b is fits = subst (λ (o : Option (List ℕ)). IsSomeAnd o (λ old. at + length b ≤ length old)) (sym is) fits

-- what an image says, by its two files
pub image_says : (image : World) (side : Side) (g other : Option (List ℕ)) → file_at image (settings_text side) ≡ g → file_at image (settings_text (other_side side)) ≡ other → current (file_at image) ≡ of_pair side g other
image_says image side g other mine beside = current_pair (file_at image) side ∙ (λ i. of_pair side (mine i) (beside i))

-- the settings of two files that both are whole and not touched
pub ready_from : (v : World) (side : Side) (mine other : Option (List ℕ)) (to : Loaded) → Holds v side mine other → of_pair side mine other ≡ Ok to.settled → to.settled.side ≡ Some side
    → to.target_open ≡ is_open other → IsWhole mine → IsWhole other → IsReady v to
ready_from v side mine other to h says in_file gate mine_whole other_whole = record {
  are = record {
    settled = image_says v side mine other h.file h.beside ∙ says;
    target = gate ∙ ap is_open (sym h.beside) ∙ ap (λ (o : Option Side). is_open (file_at v (settings_text (target_of o)))) (sym in_file);
  };
  whole = λ s other_than. by_side side (λ (x : Side). IsWhole (file_at v (settings_text x))) (subst IsWhole (sym h.file) mine_whole) (subst IsWhole (sym h.beside) other_whole) s;
  untouched = h.still;
}

-- the bytes of both files, by those of one
pub bytes_from : (w image : World) (side : Side) (spans : Side → List Span) (f : List ℕ) (other : Option (List ℕ)) → Holds w side (Some f) other
    → (first len : ℕ) → spans side ≡ record { at = first; len = len } ∷ [] → spans (other_side side) ≡ [] → Pair image side (Between first len f) other
    → (s : Side) → PokedFrom (spans s) (file_at w (settings_text s)) (file_at image (settings_text s))
bytes_from w image side spans f other h first len here beside pair s =
    by_side side (λ (x : Side). PokedFrom (spans x) (file_at w (settings_text x)) (file_at image (settings_text x)))
    (subst (λ (l : List Span). PokedFrom l (file_at w (settings_text side)) (file_at image (settings_text side))) (sym here)
    (subst (λ (o : Option (List ℕ)). PokedFrom (record { at = first; len = len } ∷ []) o (file_at image (settings_text side))) (sym h.file) pair.target))
    (subst (λ (l : List Span). PokedFrom l (file_at w (settings_text (other_side side))) (file_at image (settings_text (other_side side)))) (sym beside)
    (subst (λ (o : Option (List ℕ)). PokedFrom [] (file_at w (settings_text (other_side side))) o) (h.beside ∙ sym pair.beside) (poked_same [] (file_at w (settings_text (other_side side))))))
    s

pub side_same : (side : Side) → is_side (Some side) side ≡ true
side_same First = refl
side_same Second = refl

pub side_other : (side : Side) → is_side (Some side) (other_side side) ≡ false
side_other First = refl
side_other Second = refl

pub side_target : (o : Option Side) → is_side o (target_of o) ≡ false
side_target None = refl
side_target (Some First) = refl
side_target (Some Second) = refl

pub entry_spans : (from to : Loaded) (side : Side) → from.settled.side ≡ Some side → to.settled.side ≡ Some side → (at end : ℕ) → from.settled.end ≡ Some at → to.settled.end ≡ Some end
    → (written_in from to side ≡ record { at = at; len = end + 1 - at } ∷ []) × (written_in from to (other_side side) ≡ [])
entry_spans from to side from_side to_side at end from_end to_end = (
  (λ i. if not (to_is i) then [] else if from_is i then span_between (unwrap_or (from_end i) 0) (to_end i) ∷ [] else span_between 0 (to_end i) ∷ []),
  (λ i. if not (to_other i) then [] else if is_side from.settled.side (other_side side) then span_between (unwrap_or from.settled.end 0) to.settled.end ∷ [] else span_between 0 to.settled.end ∷ []),
)
  where
    to_is : is_side to.settled.side side ≡ true
    to_is = ap (λ (o : Option Side). is_side o side) to_side ∙ side_same side

    from_is : is_side from.settled.side side ≡ true
    from_is = ap (λ (o : Option Side). is_side o side) from_side ∙ side_same side

    to_other : is_side to.settled.side (other_side side) ≡ false
    to_other = ap (λ (o : Option Side). is_side o (other_side side)) to_side ∙ side_other side

pub whole_spans : (from to : Loaded) → to.settled.side ≡ Some (target_of from.settled.side) → (end : ℕ) → to.settled.end ≡ Some end
    → (written_in from to (target_of from.settled.side) ≡ record { at = 0; len = end + 1 - 0 } ∷ []) × (written_in from to (other_side (target_of from.settled.side)) ≡ [])
whole_spans from to to_side end to_end = (
  (λ i. if not (to_is i) then [] else if from_is i then span_between (unwrap_or from.settled.end 0) (to_end i) ∷ [] else span_between 0 (to_end i) ∷ []),
  (λ i. if not (to_other i) then [] else if is_side from.settled.side (other_side (target_of from.settled.side)) then span_between (unwrap_or from.settled.end 0) to.settled.end ∷ [] else span_between 0 to.settled.end ∷ []),
)
  where
    to_is : is_side to.settled.side (target_of from.settled.side) ≡ true
    to_is = ap (λ (o : Option Side). is_side o (target_of from.settled.side)) to_side ∙ side_same (target_of from.settled.side)

    from_is : is_side from.settled.side (target_of from.settled.side) ≡ false
    from_is = side_target from.settled.side

    to_other : is_side to.settled.side (other_side (target_of from.settled.side)) ≡ false
    to_other = ap (λ (o : Option Side). is_side o (other_side (target_of from.settled.side))) to_side ∙ side_other (target_of from.settled.side)
