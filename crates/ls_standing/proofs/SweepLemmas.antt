-- A sweep of all that a record doesn't name.
use Rattle.std.proofs.Common.{◌≡◌, ◌⊎◌, inl, inr, ◌++◌, ℕ, Bool, true, false, List, [], ◌∷◌, map, Option, None, Some, refl, sym, subst}
use Rattle.std.specs.Prelude.{IsTrue}
use Rattle.std.specs.List.{Contains}
use Rattle.std.proofs.lemmas.List.Elements.{Contains-append_left, Contains-append_right}
use Rattle.ls_formats.specs.PartNames.{PartOf, IsPartOf, part_name_text}
use Rattle.ls_record.specs.Rows.{Rec, IsRecord}
use Rattle.ls_naming.specs.Named.{only_if, NamesKey, NamesEnrolled}
use Rattle.ls_board.specs.declared.action.Action.{Action}
use Rattle.ls_board.specs.declared.action.Action.TheVariants.{Remove, Sync, GkForget, KeyDrop, ResumeTake}
use Rattle.ls_board.specs.declared.world.World.{World}
use Rattle.ls_board.specs.Effect.{file_at}
use Rattle.ls_board.specs.Gatekeeper.{record_at}
use Rattle.ls_board.specs.Keys.{key_at}
use Rattle.ls_board.specs.Reach.{Reach, AllTouchOnly, TouchesOnly}
use Rattle.ls_board.specs.Runs.{after_all}
use Rattle.ls_sealing.specs.Protectors.{has_weaver}
use Rattle.ls_standing.specs.Bare.{IsStrange, IsBare, named_by}
use Rattle.ls_standing.specs.Clearing.{TakesAway, AllTakeAway, blank_write, Clears, AreLeftovers}
use Rattle.ls_standing.specs.Quiet.{unnamed, IsUnnamed}
use Rattle.ls_standing.proofs.BareLemmas.{swept, not_armed}
use Rattle.ls_standing.proofs.ContainsLemmas.{in_map, at_first, behind_first}
use Rattle.ls_standing.proofs.TouchLemmas.{file_unnamed}

-- ---- actions one behind another

away_append : (xs ys : List Action) → AllTakeAway xs → AllTakeAway ys → AllTakeAway (xs ++ ys)
away_append [] ys first second = second
away_append (a ∷ xs) ys first second = (first.0, away_append xs ys first.1 second)

away_map : {X : Type 0} (f : X → Action) (xs : List X) → ((x : X) → Contains xs x → TakesAway (f x)) → AllTakeAway (map f xs)
away_map f [] each = tt
away_map f (x ∷ xs) each = (each x (at_first x xs), away_map f xs (λ z has. each z (behind_first x xs z has)))

touch_append : (reach : Reach) (xs ys : List Action) → AllTouchOnly reach xs → AllTouchOnly reach ys → AllTouchOnly reach (xs ++ ys)
touch_append reach [] ys first second = second
touch_append reach (a ∷ xs) ys first second = (first.0, touch_append reach xs ys first.1 second)

touch_map : {X : Type 0} (reach : Reach) (f : X → Action) (xs : List X) → ((x : X) → Contains xs x → TouchesOnly reach (f x)) → AllTouchOnly reach (map f xs)
touch_map reach f [] each = tt
touch_map reach f (x ∷ xs) each = (each x (at_first x xs), touch_map reach f xs (λ z has. each z (behind_first x xs z has)))

there : {X : Type 0} (o : Option X) → (o ≡ None) ⊎ (¬ (o ≡ None))
there None = inl refl
there (Some x) = inr (λ none. absurd (cc))

-- ---- the sweep

module _ (w : World) (r : Rec) (names : List (List ℕ)) (slots sids aliases : List ℕ) (cell : Bool) (is : IsRecord r) (left : AreLeftovers w r names slots sids aliases cell) where
  abbrev last : List Action
  last = only_if cell (ResumeTake ∷ []) ++ Sync ∷ []

  abbrev keys : List Action
  keys = map KeyDrop aliases ++ last

  abbrev counters : List Action
  counters = map GkForget sids ++ keys

  abbrev blanks : List Action
  blanks = map blank_write slots ++ counters

  abbrev plan : List Action
  plan = map Remove names ++ blanks

  last_away : (b : Bool) → AllTakeAway (only_if b (ResumeTake ∷ []) ++ Sync ∷ [])
  last_away true = (tt, (tt, tt))
  last_away false = (tt, tt)

  away : AllTakeAway plan
  away = away_append (map Remove names) blanks (away_map Remove names left.grammar)
      (away_append (map blank_write slots) counters (away_map blank_write slots (λ slot has. refl))
      (away_append (map GkForget sids) keys (away_map GkForget sids (λ sid has. tt))
      (away_append (map KeyDrop aliases) last (away_map KeyDrop aliases (λ alias has. tt)) (last_away cell))))

  -- a file that is removed isn't named
  removed : (n : List ℕ) → Contains names n → IsUnnamed w r n
  removed n has =
      let text = left.grammar n has in
      let named = (left.files text.0 text.1).0 (subst (Contains names) text.2 has) in
      subst (IsUnnamed w r) (sym text.2) (file_unnamed w r text.0 is text.1 named.0)

  last_touch : (b : Bool) → (IsTrue b → r.armed ≡ None) → AllTouchOnly (unnamed w r) (only_if b (ResumeTake ∷ []) ++ Sync ∷ [])
  last_touch true none = (none refl, (tt, tt))
  last_touch false none = (tt, tt)

  pub sweep_touches : AllTouchOnly (unnamed w r) plan
  sweep_touches = touch_append (unnamed w r) (map Remove names) blanks (touch_map (unnamed w r) Remove names removed)
      (touch_append (unnamed w r) (map blank_write slots) counters (touch_map (unnamed w r) blank_write slots (λ slot has. ((left.blanks slot).0 has).1))
      (touch_append (unnamed w r) (map GkForget sids) keys (touch_map (unnamed w r) GkForget sids (λ sid has. ((left.counters sid).0 has).0))
      (touch_append (unnamed w r) (map KeyDrop aliases) last (touch_map (unnamed w r) KeyDrop aliases (λ alias has. ((left.keys alias).0 has).0)) (last_touch cell left.taking.0))))

  in_blanks : (a : Action) → Contains blanks a → Contains plan a
  in_blanks a has = Contains-append_right (map Remove names) blanks a has

  in_counters : (a : Action) → Contains counters a → Contains plan a
  in_counters a has = in_blanks a (Contains-append_right (map blank_write slots) counters a has)

  in_keys : (a : Action) → Contains keys a → Contains plan a
  in_keys a has = in_counters a (Contains-append_right (map GkForget sids) keys a has)

  in_last : (a : Action) → Contains last a → Contains plan a
  in_last a has = in_keys a (Contains-append_right (map KeyDrop aliases) last a has)

  taken_last : (b : Bool) → IsTrue b → Contains (only_if b (ResumeTake ∷ []) ++ Sync ∷ []) ResumeTake
  taken_last true is = at_first ResumeTake (Sync ∷ [])
  taken_last false is = absurd (let bad : false ≡ true = is in cc)

  file_cleared : (name : PartOf) → IsPartOf name → ¬ ((named_by w r []).files (part_name_text name))
      → (file_at w (part_name_text name) ≡ None) ⊎ (¬ (file_at w (part_name_text name) ≡ None)) → (file_at w (part_name_text name) ≡ None) ⊎ Contains plan (Remove (part_name_text name))
  file_cleared name part un (inl none) = inl none
  file_cleared name part un (inr some) =
      inr (Contains-append_left (map Remove names) blanks (Remove (part_name_text name))
      (in_map Remove names (part_name_text name) ((left.files name part).1 ((λ named. un (inl (name, named, refl))), some))))

  counter_cleared : (sid : ℕ) → ¬ (NamesEnrolled (has_weaver w) r sid) → (record_at w.gk sid ≡ None) ⊎ (¬ (record_at w.gk sid ≡ None)) → (record_at w.gk sid ≡ None) ⊎ Contains plan (GkForget sid)
  counter_cleared sid un (inl none) = inl none
  counter_cleared sid un (inr some) = inr (in_counters (GkForget sid) (Contains-append_left (map GkForget sids) keys (GkForget sid) (in_map GkForget sids sid ((left.counters sid).1 (un, some)))))

  key_cleared : (alias : ℕ) → ¬ (NamesKey r alias) → (key_at w.keys alias ≡ None) ⊎ (¬ (key_at w.keys alias ≡ None)) → (key_at w.keys alias ≡ None) ⊎ Contains plan (KeyDrop alias)
  key_cleared alias un (inl none) = inl none
  key_cleared alias un (inr some) = inr (in_keys (KeyDrop alias) (Contains-append_left (map KeyDrop aliases) last (KeyDrop alias) (in_map KeyDrop aliases alias ((left.keys alias).1 (un, some)))))

  clears : Clears w plan (named_by w r [])
  clears = record {
    away = away;
    files = λ name part un. file_cleared name part un (there (file_at w (part_name_text name)));
    slots = λ slot small un. inr (in_blanks (blank_write slot) (Contains-append_left (map blank_write slots) counters (blank_write slot) (in_map blank_write slots slot ((left.blanks slot).1 (small, un)))));
    counters = λ sid un. counter_cleared sid un (there (record_at w.gk sid));
    keys = λ alias un. key_cleared alias un (there (key_at w.keys alias));
    cell = λ un. inr (in_last ResumeTake (taken_last cell (left.taking.1 (not_armed r.armed un))));
  }

  pub sweep_bare : (start : World) → ((n : List ℕ) → IsStrange n → file_at w n ≡ file_at start n) → IsBare start (after_all w plan) r []
  sweep_bare start strange = swept start w r [] plan is strange sweep_touches clears
