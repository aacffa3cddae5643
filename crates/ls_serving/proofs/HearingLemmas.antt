-- What the bytes of a script make of a run.
use Rattle.std.proofs.Common.{◌≡◌, ◌≢◌, ◌≤◌, ◌<◌, ◌+◌, ◌-◌, ◌^◌, ◌++◌, ℕ, true, false, List, [], ◌∷◌, length, take, drop, get_or, refl, sym, ◌∙◌, ap, subst, arith, inl, inr, append_assoc, length-append}
use Rattle.std.specs.Prelude.{Result, Some, ◌==◌}
use Rattle.std.proofs.lemmas.Bool.{cases_lt, eqb-true}
use Rattle.std.proofs.lemmas.List.{append-nil, length-take, nil_from_length, take-append-le, take_all, take-append-drop, take_at, drop_at, drop_more, take_more}
use Rattle.ls_board.specs.declared.action.BoardFault.{BoardFault}
use Rattle.ls_board.specs.declared.action.Action.TheVariants.{Hear}
use Rattle.ls_board.specs.declared.world.World.{World}
use Rattle.ls_board.specs.Acts.{Sight}
use Rattle.ls_lines.specs.Lines.{Parting, parted, last_line, lines_of}
use Rattle.ls_lines.proofs.PartingLemmas.{parted_line, parted_byte, next_line, last_lines}
use Rattle.ls_serving.specs.Calls.{Hears}
use Rattle.ls_serving.specs.Ending.{IsInputAt, IsTooLong}
use Rattle.ls_serving.specs.declared.hearing.Ending.TheVariants.{AtEnd, AtLimit}
use Rattle.ls_serving.specs.Machine.{Machine}
use Rattle.ls_serving.specs.Owed.{Owes}
use Rattle.ls_serving.specs.Serving.{Answered, Serving, Progress, CutShort, ComesNext}
use Rattle.ls_serving.specs.Turns.{IsInTurn}
use Rattle.ls_serving.proofs.ServingLemmas.{serving_still, cut_between, hear_said}
use Rattle.ls_serving.proofs.TurnLemmas.{hear_turn}

-- ---- bytes

take_kept : (s : List ℕ) (b : ℕ) → take 4097 (take 4097 s ++ b ∷ []) ≡ take 4097 (s ++ b ∷ [])
take_kept s b = elim (cases_lt (length s) 4097) [
  | inl short ↦ ap (λ (l : List ℕ). take 4097 (l ++ b ∷ [])) (take_all 4097 s (omega arith))
  | inr long ↦
      take-append-le 4097 (take 4097 s) (b ∷ []) (omega (arith, length-take 4097 s))
      ∙ take_all 4097 (take 4097 s) (omega (arith, length-take 4097 s))
      ∙ sym (take-append-le 4097 s (b ∷ []) long)
]

pub other_byte : (a b : ℕ) → a ≢ b → (a == b) ≡ false
other_byte a b apart = elim (a == b) as (λ t. (a == b) ≡ t → t ≡ false) [ true ↦ λ is. absurd (apart (eqb-true a b is)) | false ↦ λ is. refl ] refl

module _ (heard piece rest : List ℕ) (i : ℕ) (within : i < length piece) where
  pub byte_next : heard ++ (piece ++ rest) ≡ (heard ++ take i piece) ++ get_or piece i 0 ∷ (drop (i + 1) piece ++ rest)
  byte_next =
      ap (λ (l : List ℕ). heard ++ (l ++ rest)) (sym (take-append-drop i piece) ∙ ap (λ (l : List ℕ). take i piece ++ l) (drop_more piece i 0 within))
      ∙ ap (λ (l : List ℕ). heard ++ l) (append_assoc (take i piece) (get_or piece i 0 ∷ drop (i + 1) piece) rest)
      ∙ sym (append_assoc heard (take i piece) (get_or piece i 0 ∷ (drop (i + 1) piece ++ rest)))

  pub byte_taken : (heard ++ take i piece) ++ get_or piece i 0 ∷ [] ≡ heard ++ take (i + 1) piece
  byte_taken = append_assoc heard (take i piece) (get_or piece i 0 ∷ []) ∙ ap (λ (l : List ℕ). heard ++ l) (sym (take_more piece i 0 within))

pub line_next : (start : Sight) (heard rest : List ℕ) → start.world.input ≡ heard ++ 10 ∷ rest → ComesNext start (parted heard).whole (parted heard).rest
line_next start heard rest input = (lines_of rest, ap lines_of input ∙ next_line heard rest)

module _ (m : Machine) (agrees : World → m.Stage → Type 0) (start : Sight) (first : m.Stage) where
  -- ---- a 0x0A

  pub line_ended : (now : Sight) (heard rest : List ℕ) → start.world.input ≡ heard ++ 10 ∷ rest
      → Serving m agrees start now first ((parted heard).whole ++ (parted heard).rest ∷ [])
      → Progress m agrees start now first (heard ++ 10 ∷ []) []
  line_ended now heard rest input serving = record {
    rest = rest;
    input = input ∙ sym (append_assoc heard (10 ∷ []) rest);
    serving = subst (λ (lines : List (List ℕ)). Serving m agrees start now first lines) (sym (ap (λ (p : Parting). p.whole) (parted_line heard []))) serving;
    kept = sym (ap (λ (p : Parting). take 4097 p.rest) (parted_line heard []));
  }

  -- ---- any other byte

  pub byte_kept : (now : Sight) (heard rest line new : List ℕ) (b : ℕ) → start.world.input ≡ heard ++ b ∷ rest → (b == 10) ≡ false
      → Progress m agrees start now first heard line → new ≡ take 4097 (line ++ b ∷ []) → Progress m agrees start now first (heard ++ b ∷ []) new
  byte_kept now heard rest line new b input other progress is = record {
    rest = rest;
    input = input ∙ sym (append_assoc heard (b ∷ []) rest);
    serving = subst (λ (lines : List (List ℕ)). Serving m agrees start now first lines) (sym (ap (λ (p : Parting). p.whole) (parted_byte heard b other))) progress.serving;
    kept = is ∙ ap (λ (l : List ℕ). take 4097 (l ++ b ∷ [])) progress.kept
        ∙ take_kept (parted heard).rest b
        ∙ sym (ap (λ (p : Parting). take 4097 p.rest) (parted_byte heard b other));
  }

  -- ---- the end of the script

  module _ (now : Sight) (line : List ℕ) (progress : Progress m agrees start now first start.world.input line) where
    -- nothing stands behind the last 0x0A
    pub last_none : length line ≡ 0 → Serving m agrees start now first (lines_of start.world.input)
    last_none none = subst (λ (lines : List (List ℕ)). Serving m agrees start now first lines)
        (sym (ap (λ (l : List ℕ). (parted start.world.input).whole ++ last_line l) empty ∙ append-nil (parted start.world.input).whole)) progress.serving
      where
        empty : (parted start.world.input).rest ≡ []
        empty = nothing (parted start.world.input).rest (omega (arith, length-take 4097 (parted start.world.input).rest, ap length progress.kept, none))
          where
            nothing : (l : List ℕ) → length l ≡ 0 → l ≡ []
            nothing [] is = refl
            nothing (x ∷ l) is = absurd (omega arith)

    some_last : 0 < length line → lines_of start.world.input ≡ (parted start.world.input).whole ++ (parted start.world.input).rest ∷ []
    some_last some = ap (λ (l : List (List ℕ)). (parted start.world.input).whole ++ l)
        (last_lines (parted start.world.input).rest (omega (arith, length-take 4097 (parted start.world.input).rest, ap length progress.kept)))

    pub last_next : 0 < length line → ComesNext start (parted start.world.input).whole (parted start.world.input).rest
    last_next some = ([], some_last some)

    pub last_served : (later : World → m.Stage → Type 0) (new : Sight) → 0 < length line
        → Serving m later start new first ((parted start.world.input).whole ++ (parted start.world.input).rest ∷ [])
        → Serving m later start new first (lines_of start.world.input)
    last_served later new some = subst (λ (lines : List (List ℕ)). Serving m later start new first lines) (sym (some_last some))

  -- ---- piece by piece

  pub progress_still : (old new : Sight) (heard line : List ℕ)
      → (Serving m agrees start old first (parted heard).whole → Serving m agrees start new first (parted heard).whole)
      → Progress m agrees start old first heard line → Progress m agrees start new first heard line
  progress_still old new heard line still was = record { rest = was.rest; input = was.input; serving = still was.serving; kept = was.kept }

-- so many bytes were heard, and the script may have so many more
pub record InputSoFar (old now : World) (left : ℕ) : Type 0 where
  pub heard : List ℕ
  pub input : old.input ≡ heard ++ now.input
  pub long : length heard + left ≡ 2 ^ 30

pub input_none : (w : World) → InputSoFar w w (2 ^ 30)
input_none w = record { heard = []; input = refl; long = omega arith }

module _ (old mid new : World) (left : ℕ) (so_far : InputSoFar old mid left) (piece : List ℕ)
    (heard : (mid.input ≡ piece ++ new.input) × (piece ≡ [] → mid.input ≡ [])) where
  all_input : old.input ≡ (so_far.heard ++ piece) ++ new.input
  all_input = so_far.input ∙ ap (λ (l : List ℕ). so_far.heard ++ l) heard.0 ∙ sym (append_assoc so_far.heard piece new.input)

  pub input_end : length piece ≡ 0 → IsInputAt old new AtEnd
  input_end none =
      let empty : piece ≡ [] = nil_from_length piece none in
      let over : mid.input ≡ [] = heard.1 empty in
      let all : old.input ≡ so_far.heard = so_far.input ∙ ap (λ (l : List ℕ). so_far.heard ++ l) over ∙ append-nil so_far.heard in
      (omega (arith, ap length all, so_far.long), sym (ap (λ (l : List ℕ). l ++ new.input) empty) ∙ sym heard.0 ∙ over)

  pub input_limit : left ≡ 0 → length piece ≡ 1 → IsInputAt old new AtLimit
  input_limit none one =
      let longer : length (so_far.heard ++ piece) ≡ 2 ^ 30 + 1 = omega (arith, length-append so_far.heard piece, so_far.long, none, one) in (
        omega (arith, ap length all_input, length-append (so_far.heard ++ piece) new.input, longer),
        sym (ap (drop (2 ^ 30 + 1)) all_input ∙ drop_at (so_far.heard ++ piece) new.input (2 ^ 30 + 1) longer),
      )

  pub input_more : (next : World) → next.input ≡ new.input → length piece ≤ left → InputSoFar old next (left - length piece)
  input_more next same few = record {
    heard = so_far.heard ++ piece;
    input = all_input ∙ ap (λ (l : List ℕ). (so_far.heard ++ piece) ++ l) (sym same);
    long = omega (arith, length-append so_far.heard piece, so_far.long, few);
  }

-- what was heard so far, of a script that may have so many bytes more
pub record HeardSoFar (m : Machine) (agrees : World → m.Stage → Type 0) (start now : Sight) (first : m.Stage) (line : List ℕ) (left : ℕ) : Type 0 where
  pub heard : List ℕ
  pub input : start.world.input ≡ heard ++ now.world.input
  pub long : length heard + left ≡ 2 ^ 30
  pub progress : Progress m agrees start now first heard line

pub heard_none : (m : Machine) (agrees : World → m.Stage → Type 0) (start now : Sight) (first : m.Stage) (line : List ℕ)
    → now.world.input ≡ start.world.input → line ≡ []
    → Serving m agrees start now first [] → HeardSoFar m agrees start now first line (2 ^ 30)
heard_none m agrees start now first line same empty serving = record {
  heard = [];
  input = sym same;
  long = omega arith;
  progress = record { rest = start.world.input; input = refl; serving = serving; kept = empty };
}

module _ (m : Machine) (agrees : World → m.Stage → Type 0) (start old new : Sight) (first : m.Stage) (line : List ℕ) (left : ℕ)
    (so_far : HeardSoFar m agrees start old first line left) (piece : List ℕ)
    (heard : (old.world.input ≡ piece ++ new.world.input) × (piece ≡ [] → old.world.input ≡ []))
    (now : Progress m agrees start new first so_far.heard line) where
  -- nothing came: the input is at its end
  pub heard_end : length piece ≡ 0
      → (length start.world.input ≤ 2 ^ 30) × (new.world.input ≡ []) × Progress m agrees start new first start.world.input line
  heard_end none =
      let empty : piece ≡ [] = nil_from_length piece none in
      let over : old.world.input ≡ [] = heard.1 empty in
      let all : start.world.input ≡ so_far.heard = so_far.input ∙ ap (λ (l : List ℕ). so_far.heard ++ l) over ∙ append-nil so_far.heard in (
        omega (arith, ap length all, so_far.long),
        sym (ap (λ (l : List ℕ). l ++ new.world.input) empty) ∙ sym heard.0 ∙ over,
        subst (λ (l : List ℕ). Progress m agrees start new first l line) (sym all) now,
      )

  whole : start.world.input ≡ (so_far.heard ++ piece) ++ new.world.input
  whole = so_far.input ∙ ap (λ (l : List ℕ). so_far.heard ++ l) heard.0 ∙ sym (append_assoc so_far.heard piece new.world.input)

  -- one byte came behind the last that a script may have
  pub heard_limit : left ≡ 0 → length piece ≡ 1 → IsTooLong m agrees start new first
  heard_limit none one =
      let long : length so_far.heard ≡ 2 ^ 30 = omega (arith, so_far.long, none) in
      let longer : length (so_far.heard ++ piece) ≡ 2 ^ 30 + 1 = omega (arith, length-append so_far.heard piece, long, one) in
      let front : take (2 ^ 30) start.world.input ≡ so_far.heard = ap (take (2 ^ 30)) so_far.input ∙ take_at so_far.heard old.world.input (2 ^ 30) long in (
        omega (arith, ap length whole, length-append (so_far.heard ++ piece) new.world.input, longer),
        sym (ap (drop (2 ^ 30 + 1)) whole ∙ drop_at (so_far.heard ++ piece) new.world.input (2 ^ 30 + 1) longer),
        subst (λ (l : List ℕ). Serving m agrees start new first (parted l).whole) (sym front) now.serving,
      )

  -- the piece was served
  pub heard_more : (later : World → m.Stage → Type 0) (next : Sight) (rest : List ℕ) → length piece ≤ left → next.world.input ≡ new.world.input
      → Progress m later start next first (so_far.heard ++ piece) rest → HeardSoFar m later start next first rest (left - length piece)
  heard_more later next rest few same progress = record {
    heard = so_far.heard ++ piece;
    input = whole ∙ ap (λ (l : List ℕ). (so_far.heard ++ piece) ++ l) (sym same);
    long = omega (arith, length-append so_far.heard piece, so_far.long);
    progress = progress;
  }

  pub piece_next : start.world.input ≡ so_far.heard ++ (piece ++ new.world.input)
  piece_next = so_far.input ∙ ap (λ (l : List ℕ). so_far.heard ++ l) heard.0

-- a piece was heard
module _ (m : Machine) (agrees : World → m.Stage → Type 0) (owes : Owes m agrees) (start old new : Sight) (first : m.Stage)
    (line : List ℕ) (left max : ℕ) (some : 1 ≤ max) (most : max ≤ 4096) (so_far : HeardSoFar m agrees start old first line left)
    {T : Type 0} (result : Result T BoardFault) (piece : List ℕ) (hears : Hears old max result piece new) where
  turn : Answered m agrees start old first (parted so_far.heard).whole → IsInTurn m start.world first (old.world, Some (Hear max))
  turn was = hear_turn m start first old.world max (record { some = some; most = most; heard = so_far.heard; input = so_far.input; answered = was.said })

  pub heard_progress : Progress m agrees start new first so_far.heard line
  heard_progress = progress_still m agrees start first old new so_far.heard line
      (serving_still m agrees owes start first old new (parted so_far.heard).whole (Hear max) tt (λ mid step. hear_said old.world mid max step) turn hears.called)
      so_far.progress

  pub heard_cut : CutShort m start new first
  heard_cut = cut_between m agrees owes start first new (parted so_far.heard).whole heard_progress.serving
