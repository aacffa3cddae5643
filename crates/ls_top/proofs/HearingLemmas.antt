-- What each byte of the script makes of a run.
use Rattle.std.proofs.Common.{◌≡◌, ◌≢◌, ◌≤◌, ◌<◌, ◌+◌, ◌-◌, ◌++◌, ◌⊎◌, ◌^◌, ℕ, true, false, List, [], ◌∷◌, length, get_or, take, drop, refl, sym, ◌∙◌, ap, subst, arith, inl, inr, append_assoc, length-append, length-take}
use Rattle.std.specs.Prelude.{Result, Some, ◌==◌}
use Rattle.std.proofs.lemmas.List.{append-nil, take_all, take_at, drop_at, take-append-le, take-append-drop, drop_more, take_more, nil_from_length}
use Rattle.std.proofs.lemmas.Bool.{cases_lt, eqb-true}
use Rattle.ls_board.specs.declared.action.Action.TheVariants.{Hear}
use Rattle.ls_board.specs.declared.action.BoardFault.{BoardFault}
use Rattle.ls_board.specs.declared.world.World.{World}
use Rattle.ls_board.specs.Acts.{Sight}
use Rattle.ls_board.specs.Effect.{file_at}
use Rattle.ls_top.specs.Runs.{StandsFor, CallsInTurn}
use Rattle.ls_lines.specs.Lines.{Parting, parted, lines_of, last_line}
use Rattle.ls_top.specs.Serving.{Serving, CutShort, ComesNext, Progress, Hears}
use Rattle.ls_lines.proofs.PartingLemmas.{parted_line, parted_byte, next_line, last_lines}
use Rattle.ls_top.proofs.ServingLemmas.{same_calls, one_call, cut_between}

-- ---- a 0x0A

module _ (start : Sight) (first heard rest : List ℕ) (input : start.world.input ≡ heard ++ 10 ∷ rest) where
  pub line_next : ComesNext start (parted heard).whole (parted heard).rest
  line_next = (lines_of rest, ap lines_of input ∙ next_line heard rest)

  pub line_ended : (now : Sight) (users : List ℕ) → Serving start now first ((parted heard).whole ++ (parted heard).rest ∷ []) users
      → Progress start now first (heard ++ 10 ∷ []) users []
  line_ended now users serving = record {
    rest = rest;
    input = input ∙ sym (append_assoc heard (10 ∷ []) rest);
    serving = subst (λ (lines : List (List ℕ)). Serving start now first lines users) (sym (ap (λ (p : Parting). p.whole) (parted_line heard []))) serving;
    kept = sym (ap (λ (p : Parting). take 4097 p.rest) (parted_line heard []));
  }

-- ---- any other byte

take_kept : (s : List ℕ) (b : ℕ) → take 4097 (take 4097 s ++ b ∷ []) ≡ take 4097 (s ++ b ∷ [])
take_kept s b = elim (cases_lt (length s) 4097) [
  | inl short ↦ ap (λ (l : List ℕ). take 4097 (l ++ b ∷ [])) (take_all 4097 s (omega arith))
  | inr long ↦
      take-append-le 4097 (take 4097 s) (b ∷ []) (omega (arith, length-take 4097 s))
      ∙ take_all 4097 (take 4097 s) (omega (arith, length-take 4097 s))
      ∙ sym (take-append-le 4097 s (b ∷ []) long)
]

pub byte_kept : (start now : Sight) (first heard rest users line new : List ℕ) (b : ℕ) → start.world.input ≡ heard ++ b ∷ rest → (b == 10) ≡ false
    → Progress start now first heard users line → new ≡ take 4097 (line ++ b ∷ []) → Progress start now first (heard ++ b ∷ []) users new
byte_kept start now first heard rest users line new b input other progress is = record {
  rest = rest;
  input = input ∙ sym (append_assoc heard (b ∷ []) rest);
  serving = subst (λ (lines : List (List ℕ)). Serving start now first lines users) (sym (ap (λ (p : Parting). p.whole) (parted_byte heard b other))) progress.serving;
  kept = is ∙ ap (λ (l : List ℕ). take 4097 (l ++ b ∷ [])) progress.kept
      ∙ take_kept (parted heard).rest b
      ∙ sym (ap (λ (p : Parting). take 4097 p.rest) (parted_byte heard b other));
}

pub cut_progress : (start now : Sight) (first heard users line : List ℕ) (fault : BoardFault) → Progress start now first heard users line → CutShort start now first fault
cut_progress start now first heard users line fault progress = cut_between start now first (parted heard).whole users progress.serving fault

-- ---- the end of the script

module _ (start now : Sight) (first users line : List ℕ) (progress : Progress start now first start.world.input users line) where
  -- nothing stands behind the last 0x0A
  pub last_none : length line ≡ 0 → Serving start now first (lines_of start.world.input) users
  last_none none = subst (λ (lines : List (List ℕ)). Serving start now first lines users)
      (sym (ap (λ (l : List ℕ). (parted start.world.input).whole ++ last_line l) empty ∙ append-nil (parted start.world.input).whole)) progress.serving
    where
      empty : (parted start.world.input).rest ≡ []
      empty = nothing (parted start.world.input).rest (omega (arith, length-take 4097 (parted start.world.input).rest, ap length progress.kept, none))
        where
          nothing : (l : List ℕ) → length l ≡ 0 → l ≡ []
          nothing [] is = refl
          nothing (x ∷ l) is = absurd (omega arith)

  some_last : 0 < length line → lines_of start.world.input ≡ (parted start.world.input).whole ++ (parted start.world.input).rest ∷ []
  some_last some = ap (λ (l : List (List ℕ)). (parted start.world.input).whole ++ l)
      (last_lines (parted start.world.input).rest (omega (arith, length-take 4097 (parted start.world.input).rest, ap length progress.kept)))

  pub last_next : 0 < length line → ComesNext start (parted start.world.input).whole (parted start.world.input).rest
  last_next some = ([], some_last some)

  pub last_served : (new : Sight) (after : List ℕ) → 0 < length line
      → Serving start new first ((parted start.world.input).whole ++ (parted start.world.input).rest ∷ []) after
      → Serving start new first (lines_of start.world.input) after
  last_served new after some = subst (λ (lines : List (List ℕ)). Serving start new first lines after) (sym (some_last some))

-- ---- a piece is heard

module _ (start old new : Sight) (first heard users line : List ℕ) (max : ℕ) (progress : Progress start old first heard users line)
    (input : start.world.input ≡ heard ++ old.world.input) (some : 1 ≤ max) (most : max ≤ 4096) where
  heard_calls : (new.past ≡ old.past) ⊎ (new.past ≡ (old.world, Some (Hear max)) ∷ old.past) → CallsInTurn start new first
  heard_calls (inl same) = same_calls start old new first same progress.serving.calls
  heard_calls (inr past) = one_call start old new first (old.world, Some (Hear max)) past
      (record { some = some; most = most; heard = heard; input = input; answered = progress.serving.said }) progress.serving.calls

  pub still_serving : {T : Type 0} (result : Result T BoardFault) (piece : List ℕ) → Hears old max result piece new
      → Serving start new first (parted heard).whole users
  still_serving result piece hears = record {
    more = progress.serving.more;
    front = progress.serving.front;
    said = ap (λ (w : World). w.said) hears.same ∙ progress.serving.said;
    reached = progress.serving.reached;
    stands = subst (λ (w : World). StandsFor w users) (sym hears.same)
        (record { vault = progress.serving.stands.vault; file = progress.serving.stands.file });
    synced = ap (λ (w : World). w.touched) hears.same ∙ progress.serving.synced;
    others = λ name other. ap (λ (w : World). file_at w name) hears.same ∙ progress.serving.others name other;
    calls = heard_calls hears.called;
  }

  pub still_progress : {T : Type 0} (result : Result T BoardFault) (piece : List ℕ) → Hears old max result piece new
      → Progress start new first heard users line
  still_progress result piece hears = record {
    rest = progress.rest;
    input = progress.input;
    serving = still_serving result piece hears;
    kept = progress.kept;
  }

-- ---- byte by byte

pub other_byte : (a b : ℕ) → a ≢ b → (a == b) ≡ false
other_byte a b apart = elim (a == b) as (λ t. (a == b) ≡ t → t ≡ false) [ true ↦ λ is. absurd (apart (eqb-true a b is)) | false ↦ λ is. refl ] refl

module _ (heard piece rest : List ℕ) (i : ℕ) (within : i < length piece) where
  pub byte_next : heard ++ (piece ++ rest) ≡ (heard ++ take i piece) ++ get_or piece i 0 ∷ (drop (i + 1) piece ++ rest)
  byte_next =
      ap (λ (l : List ℕ). heard ++ (l ++ rest)) (sym (take-append-drop i piece) ∙ ap (λ (l : List ℕ). take i piece ++ l) (drop_more piece i 0 within))
      ∙ ap (λ (l : List ℕ). heard ++ l) (append_assoc (take i piece) (get_or piece i 0 ∷ drop (i + 1) piece) rest)
      ∙ sym (append_assoc heard (take i piece) (get_or piece i 0 ∷ (drop (i + 1) piece ++ rest)))

  pub byte_taken : (heard ++ take i piece) ++ get_or piece i 0 ∷ [] ≡ heard ++ take (i + 1) piece
  byte_taken = append_assoc heard (take i piece) (get_or piece i 0 ∷ []) ∙ ap (λ (l : List ℕ). heard ++ l) (sym (take_more piece i 0 within))

-- ---- piece by piece

-- what was heard so far, of a script that may have so many bytes more
pub record HeardSoFar (start now : Sight) (first users line : List ℕ) (left : ℕ) : Type 0 where
  pub heard : List ℕ
  pub input : start.world.input ≡ heard ++ now.world.input
  pub long : length heard + left ≡ 2 ^ 30
  pub progress : Progress start now first heard users line

pub heard_none : (start now : Sight) (first users line : List ℕ) → now.world.input ≡ start.world.input → line ≡ []
    → Serving start now first [] users → HeardSoFar start now first users line (2 ^ 30)
heard_none start now first users line same empty serving = record {
  heard = [];
  input = sym same;
  long = omega arith;
  progress = record { rest = start.world.input; input = refl; serving = serving; kept = empty };
}

module _ (start old new : Sight) (first users line : List ℕ) (left max : ℕ) (so_far : HeardSoFar start old first users line left)
    (some : 1 ≤ max) (most : max ≤ 4096) {T : Type 0} (result : Result T BoardFault) (piece : List ℕ) (hears : Hears old max result piece new) where
  pub heard_progress : Progress start new first so_far.heard users line
  heard_progress = still_progress start old new first so_far.heard users line max so_far.progress so_far.input some most result piece hears

  pub heard_cut : (fault : BoardFault) → CutShort start new first fault
  heard_cut fault = cut_progress start new first so_far.heard users line fault heard_progress

  module _ (heard : (old.world.input ≡ piece ++ new.world.input) × (piece ≡ [] → old.world.input ≡ [])) where
    -- nothing came: the input is at its end
    pub heard_end : length piece ≡ 0
        → (length start.world.input ≤ 2 ^ 30) × (new.world.input ≡ []) × Progress start new first start.world.input users line
    heard_end none =
        let empty : piece ≡ [] = nil_from_length piece none in
        let over : old.world.input ≡ [] = heard.1 empty in
        let all : start.world.input ≡ so_far.heard = so_far.input ∙ ap (λ (l : List ℕ). so_far.heard ++ l) over ∙ append-nil so_far.heard in (
          omega (arith, ap length all, so_far.long),
          sym (ap (λ (l : List ℕ). l ++ new.world.input) empty) ∙ sym heard.0 ∙ over,
          subst (λ (l : List ℕ). Progress start new first l users line) (sym all) heard_progress,
        )

    whole : start.world.input ≡ (so_far.heard ++ piece) ++ new.world.input
    whole = so_far.input ∙ ap (λ (l : List ℕ). so_far.heard ++ l) heard.0 ∙ sym (append_assoc so_far.heard piece new.world.input)

    -- one byte came behind the last that a script may have
    pub heard_limit : left ≡ 0 → length piece ≡ 1
        → (2 ^ 30 < length start.world.input) × (new.world.input ≡ drop (2 ^ 30 + 1) start.world.input)
        × Serving start new first (parted (take (2 ^ 30) start.world.input)).whole users
    heard_limit none one =
        let long : length so_far.heard ≡ 2 ^ 30 = omega (arith, so_far.long, none) in
        let longer : length (so_far.heard ++ piece) ≡ 2 ^ 30 + 1 = omega (arith, length-append so_far.heard piece, long, one) in
        let front : take (2 ^ 30) start.world.input ≡ so_far.heard = ap (take (2 ^ 30)) so_far.input ∙ take_at so_far.heard old.world.input (2 ^ 30) long in (
          omega (arith, ap length whole, length-append (so_far.heard ++ piece) new.world.input, longer),
          sym (ap (drop (2 ^ 30 + 1)) whole ∙ drop_at (so_far.heard ++ piece) new.world.input (2 ^ 30 + 1) longer),
          subst (λ (l : List ℕ). Serving start new first (parted l).whole users) (sym front) heard_progress.serving,
        )

    -- the piece was served
    pub heard_more : (next : Sight) (after rest : List ℕ) → length piece ≤ left → next.world.input ≡ new.world.input
        → Progress start next first (so_far.heard ++ piece) after rest → HeardSoFar start next first after rest (left - length piece)
    heard_more next after rest few same progress = record {
      heard = so_far.heard ++ piece;
      input = whole ∙ ap (λ (l : List ℕ). (so_far.heard ++ piece) ++ l) (sym same);
      long = omega (arith, length-append so_far.heard piece, so_far.long);
      progress = progress;
    }

    pub piece_next : start.world.input ≡ so_far.heard ++ (piece ++ new.world.input)
    piece_next = so_far.input ∙ ap (λ (l : List ℕ). so_far.heard ++ l) heard.0
