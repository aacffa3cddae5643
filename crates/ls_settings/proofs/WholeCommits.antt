-- Every image of a commit in whole has the old settings or the new ones.
use Rattle.std.proofs.Common.{◌≡◌, ◌⊎◌, inl, inr, ⊎_elim, ◌≤◌, ◌<◌, ◌+◌, ◌^◌, ◌==◌, ℕ, Bool, true, false, List, [], ◌∷◌, ◌++◌, length, take, drop, get_or, ◌-◌, if◌then◌else◌, Option, Some, None, Ok, refl, sym, ◌∙◌, ap, subst, arith, append_assoc, length-append, length-take, eqb-true}
use Rattle.std.specs.Prelude.{is_some}
use Rattle.std.proofs.lemmas.List.{drop_at}
use Rattle.ls_formats.specs.declared.side.Side.{Side}
use Rattle.ls_formats.specs.declared.side.Side.TheVariants.{First, Second}
use Rattle.ls_formats.specs.PartNames.{settings_text}
use Rattle.ls_record.specs.Rows.{Rec}
use Rattle.ls_record.specs.Reading.{record_of}
use Rattle.ls_record.specs.Spelling.{record_bytes}
use Rattle.ls_naming.specs.Current.{Settled, unsettled, settled_in, side_says, current, is_open, open_gate, base_of, entry_places}
use Rattle.ls_board.specs.declared.action.Action.TheVariants.{Poke, Sync}
use Rattle.ls_board.specs.declared.world.World.{World}
use Rattle.ls_board.specs.Effect.{file_at, poked_bytes, span_of}
use Rattle.ls_board.specs.Images.{SameOutside, Leaves}
use Rattle.ls_board.specs.Runs.{PlanImage}
use Rattle.ls_settings.specs.Loaded.{Loaded, IsReady, IsWhole, other_side, target_of}
use Rattle.ls_settings.specs.Commits.{synced, written_in, whole_bytes, whole_pokes, with_whole}
use Rattle.ls_settings.proofs.SideLemmas.{twice, sides_apart, of_pair, current_pair, alone, loses, wins, chosen_says, current_of, none_of, current_open, current_alone}
use Rattle.ls_settings.proofs.SyncedLemmas.{Holds, Pair, left_pair, length_poked, poked_back, then_synced, poke_holds, poke_pair, Torn, Between, pokes_pair}
use Rattle.ls_settings.proofs.FileLemmas.{parts, open_at}
use Rattle.ls_settings.proofs.EntryLemmas.{poked_below}
use Rattle.ls_settings.proofs.WholeLemmas.{whole_base, whole_says_next, whole_settled, gate_or_shut}
use Rattle.ls_settings.proofs.OutcomeLemmas.{Outcome, there, some_whole, some_apply, image_says, ready_from, bytes_from, whole_spans}

-- ---- beside the file that is written in whole

record Beside (s : Settled) (side : Option Side) (other : Option (List ℕ)) : Type 0 where
  says : alone (other_side (target_of side)) other ≡ Ok s
  older : is_open other ≡ true → base_of other < s.sequence + 1
  gate : is_some side ≡ is_open other
  long : IsWhole other

turned : (side : Side) (mine other : Option (List ℕ)) → of_pair (other_side side) mine other ≡ of_pair side other mine
turned First mine other = refl
turned Second mine other = refl

beside : (s : Settled) (side : Option Side) (mine other : Option (List ℕ)) → s.side ≡ side → of_pair (target_of side) mine other ≡ Ok s → (side ≡ None → IsWhole other) → Beside s side other
beside s None mine other none says long =
    let shut = none_of mine other s says none in
    record {
      says = ap (λ (b : Bool). if b then side_says Second other else Ok unsettled) shut.second_shut ∙ ap (λ (t : Settled). Ok t) (sym shut.is);
      older = λ opened. absurd (let no : false ≡ true = sym shut.second_shut ∙ opened in cc);
      gate = sym shut.second_shut;
      long = long refl;
    }
beside s (Some side) mine other some says long =
    let c = current_of side other mine s (sym (turned side mine other) ∙ says) some in
    let base : base_of other ≡ base_of (Some c.bytes) = ap base_of c.file in
    let count : s.sequence ≡ base_of (Some c.bytes) + length (entry_places c.bytes) = ap (λ (t : Settled). t.sequence) c.is in
    record {
      says = ap (λ (x : Side). alone x other) (twice side) ∙ current_alone side other mine s c;
      older = λ opened. omega (arith, base, count);
      gate = sym (current_open side other mine s c);
      long = subst IsWhole (sym c.file) (parts c.bytes s.rec c.says).long;
    }

not_target : (side : Option Side) → side ≡ Some (target_of side) → ⊥
not_target None e = absurd (cc)
not_target (Some side) e = sides_apart side (sym e)

-- ---- a commit in whole

module _ (w : World) (from : Loaded) (ready : IsReady w from) (next : Rec) (body : List ℕ) (body_is : body ≡ record_bytes 2 next) (reads : record_of body ≡ Ok next)
    (fits : 14 + length body ≤ 4096) (small : from.settled.sequence + 1 < 2 ^ 64) where
  abbrev side : Side
  side = target_of from.settled.side

  abbrev mate : Option (List ℕ)
  mate = file_at w (settings_text (other_side side))

  target : (f : List ℕ) × ((file_at w (settings_text side) ≡ Some f) × (length f ≡ 4096))
  target = some_whole (file_at w (settings_text side)) (ready.whole side (not_target from.settled.side))

  abbrev t : List ℕ
  t = target.0

  b : Beside from.settled from.settled.side mate
  b = beside from.settled from.settled.side (file_at w (settings_text side)) mate refl (sym (current_pair (file_at w) side) ∙ ready.are.settled)
      (λ none. ready.whole (other_side side) (λ e. absurd (let no : ◌≡◌ {A = Option Side} None (Some (other_side side)) = sym none ∙ e in cc)))

  abbrev goal : Loaded
  goal = with_whole from next (13 + length body)

  abbrev Either : World → Type 0
  Either image = (current (file_at image) ≡ Ok from.settled) ⊎ (current (file_at image) ≡ Ok goal.settled)

  shut_says : (g : List ℕ) → is_open (Some g) ≡ false → of_pair side (Some g) mate ≡ Ok from.settled
  shut_says g shut = loses side (Some g) mate shut ∙ b.says

  abbrev bytes : List ℕ
  bytes = whole_bytes (from.settled.sequence + 1) body

  bytes_long : length bytes ≡ 13 + length body
  bytes_long = omega (arith, length-append body (0 ∷ []))

  -- behind a closed gate
  module _ (v : World) (h : List ℕ) (holds : Holds v side (Some h) mate) (long : length h ≡ 4096) (shut : is_open (Some h) ≡ false) where
    abbrev g1 : List ℕ
    g1 = poked_bytes h 1 bytes

    abbrev g2 : List ℕ
    g2 = poked_bytes g1 0 (open_gate ∷ [])

    fits_h : 1 + length bytes ≤ length h
    fits_h = omega (arith, bytes_long, long, fits)

    long_1 : length g1 ≡ 4096
    long_1 = length_poked h 1 bytes fits_h ∙ long

    fits_g : 0 + 1 ≤ length g1
    fits_g = omega (arith, long_1)

    long_2 : length g2 ≡ 4096
    long_2 = length_poked g1 0 (open_gate ∷ []) fits_g ∙ long_1

    abbrev tail : List ℕ
    tail = drop (1 + length bytes) h

    g2_is : g2 ≡ open_gate ∷ (bytes ++ tail)
    g2_is = ap (λ (l : List ℕ). open_gate ∷ l)
        (ap (drop 1) (append_assoc (take 1 h) bytes tail) ∙ drop_at (take 1 h) (bytes ++ tail) 1 (omega (arith, length-take 1 h, long)))

    whole_long : length (open_gate ∷ (bytes ++ tail)) ≡ 4096
    whole_long = ap length (sym g2_is) ∙ long_2

    starts : get_or body 0 0 ≡ 2
    starts = ap (λ (l : List ℕ). get_or l 0 0) body_is

    new_file : of_pair side (Some (open_gate ∷ (bytes ++ tail))) mate ≡ Ok goal.settled
    new_file =
        chosen_says side (Some (open_gate ∷ (bytes ++ tail))) mate
        (wins side (Some (open_gate ∷ (bytes ++ tail))) mate refl
        (λ opened. subst (λ (n : ℕ). base_of mate < n) (sym (whole_base (from.settled.sequence + 1) body tail next small fits reads starts whole_long)) (b.older opened)))
        ∙ ap (settled_in side (open_gate ∷ (bytes ++ tail))) (whole_says_next (from.settled.sequence + 1) body tail next small fits reads starts whole_long)
        ∙ ap (λ (s : Settled). Ok s) (whole_settled (from.settled.sequence + 1) body tail next small fits reads starts whole_long side)

    new_g2 : of_pair side (Some g2) mate ≡ Ok goal.settled
    new_g2 = ap (λ (l : List ℕ). of_pair side (Some l) mate) g2_is ∙ new_file

    abbrev v1 : World
    v1 = then_synced v (Poke (settings_text side) 1 bytes)

    k1 : Holds v1 side (Some g1) mate
    k1 = poke_holds v side h mate holds 1 bytes

    abbrev v2 : World
    v2 = then_synced v1 (Poke (settings_text side) 0 (open_gate ∷ []))

    k2 : Holds v2 side (Some g2) mate
    k2 = poke_holds v1 side g1 mate k1 0 (open_gate ∷ [])

    -- a torn body behind it
    torn_body : (g : List ℕ) → SameOutside (span_of 1 bytes ∷ []) g1 g → is_open (Some g) ≡ false
    torn_body g torn =
        let below = poked_below h 1 bytes fits_h in
        open_at g (omega (arith, torn.long, long_1))
        ∙ ap (λ (x : ℕ). x == open_gate) (torn.kept 0 (inl (omega arith), tt) ∙ below.kept 0 (omega arith))
        ∙ sym (open_at h (omega (arith, long))) ∙ shut

    body_pair : (image : World) → Pair image side (Torn v side h mate holds 1 bytes) mate → Either image
    body_pair image pair =
        let g = there (span_of 1 bytes ∷ []) g1 (file_at image (settings_text side)) pair.target in
        inl (image_says image side (Some g.0) mate g.1.0 pair.beside ∙ shut_says g.0 (torn_body g.0 g.1.1))

    gate_pair : (image : World) → Pair image side (Torn v1 side g1 mate k1 0 (open_gate ∷ [])) mate → Either image
    gate_pair image pair =
        let g = there (span_of 0 (open_gate ∷ []) ∷ []) g2 (file_at image (settings_text side)) pair.target in
        let is_pair = image_says image side (Some g.0) mate g.1.0 pair.beside in
        ⊎_elim (λ same. inr (is_pair ∙ ap (λ (l : List ℕ). of_pair side (Some l) mate) same ∙ new_g2)) (λ closed. inl (is_pair ∙ shut_says g.0 closed))
        (gate_or_shut g2 g.0 (open_gate ∷ []) refl (omega (arith, long_2)) refl g.1.1)

    whole_held : (image : World) → Leaves v2 image → current (file_at image) ≡ Ok goal.settled
    whole_held image left =
        let pair = left_pair v2 image side (Some g2) mate k2 left in
        image_says image side (Some g2) mate pair.target pair.beside ∙ new_g2

    shut_pair : (image : World) → PlanImage v (synced (whole_pokes side false (from.settled.sequence + 1) body)) image → Pair image side (Between 0 (13 + length body + 1 - 0) h) mate
    shut_pair image left = pokes_pair 0 (13 + length body + 1 - 0) v side h mate holds (omega (arith, fits, long)) ((1, bytes) ∷ (0, open_gate ∷ []) ∷ [])
        (omega arith, omega (arith, bytes_long), (omega arith, omega arith, tt)) image left

    spans : (written_in from goal side ≡ record { at = 0; len = 13 + length body + 1 - 0 } ∷ []) × (written_in from goal (other_side side) ≡ [])
    spans = whole_spans from goal refl (13 + length body) refl

    shut_outcome : Outcome v from goal (synced (whole_pokes side false (from.settled.sequence + 1) body))
    shut_outcome = record {
      images = λ image left.
          ⊎_elim (body_pair image) (λ later. ⊎_elim (gate_pair image) (λ last. inr (whole_held image last))
          (poke_pair v1 side g1 mate k1 0 (open_gate ∷ []) fits_g [] image later))
          (poke_pair v side h mate holds 1 bytes fits_h (Poke (settings_text side) 0 (open_gate ∷ []) ∷ Sync ∷ []) image left);
      bytes = λ image left. bytes_from v image side (written_in from goal) h mate holds 0 (13 + length body + 1 - 0) spans.0 spans.1 (shut_pair image left);
      ready = ready_from v2 side (Some g2) mate goal k2 new_g2 refl b.gate long_2 b.long;
      held = whole_held;
      applies = (some_apply _ h 1 bytes holds.file fits_h, (tt, (some_apply _ g1 0 (open_gate ∷ []) k1.file fits_g, (tt, tt))));
      sound = λ slots. (tt, (tt, (tt, (tt, tt))));
      only = ((side, refl), (tt, ((side, refl), (tt, tt))));
    }

  start : Holds w side (Some t) mate
  start = record { file = target.1.0; beside = refl; still = ready.untouched }

  -- an open gate is closed first
  module _ (opened : is_open (Some t) ≡ true) where
    abbrev t0 : List ℕ
    t0 = poked_bytes t 0 (0 ∷ [])

    fits_t : 0 + 1 ≤ length t
    fits_t = omega (arith, target.1.1)

    long_0 : length t0 ≡ 4096
    long_0 = length_poked t 0 (0 ∷ []) fits_t ∙ target.1.1

    abbrev u : World
    u = then_synced w (Poke (settings_text side) 0 (0 ∷ []))

    k0 : Holds u side (Some t0) mate
    k0 = poke_holds w side t mate start 0 (0 ∷ [])

    then_whole : Outcome u from goal (synced (whole_pokes side false (from.settled.sequence + 1) body))
    then_whole = shut_outcome u t0 k0 long_0 refl

    gate_is : get_or t 0 0 ≡ open_gate
    gate_is = eqb-true (get_or t 0 0) open_gate (sym (open_at t (omega (arith, target.1.1))) ∙ opened)

    was : of_pair side (Some t) mate ≡ Ok from.settled
    was = ap (λ (m : Option (List ℕ)). of_pair side m mate) (sym target.1.0) ∙ sym (current_pair (file_at w) side) ∙ ready.are.settled

    close_pair : (image : World) → Pair image side (Torn w side t mate start 0 (0 ∷ [])) mate → Either image
    close_pair image pair =
        let g = there (span_of 0 (0 ∷ []) ∷ []) t0 (file_at image (settings_text side)) pair.target in
        let is_pair = image_says image side (Some g.0) mate g.1.0 pair.beside in
        let back = poked_back t 0 (0 ∷ []) fits_t in
        let torn : SameOutside (span_of 0 (0 ∷ []) ∷ []) t g.0 = record { long = g.1.1.long ∙ sym back.long; kept = λ i out. g.1.1.kept i out ∙ sym (back.kept i out) } in
        ⊎_elim (λ same. inl (is_pair ∙ ap (λ (l : List ℕ). of_pair side (Some l) mate) same ∙ was)) (λ closed. inl (is_pair ∙ shut_says g.0 closed))
        (gate_or_shut t g.0 (0 ∷ []) refl (omega (arith, target.1.1)) gate_is torn)

    open_outcome : Outcome w from goal (synced (whole_pokes side true (from.settled.sequence + 1) body))
    open_outcome = record {
      images = λ image left.
          ⊎_elim (close_pair image) (then_whole.images image)
          (poke_pair w side t mate start 0 (0 ∷ []) fits_t (synced (whole_pokes side false (from.settled.sequence + 1) body)) image left);
      bytes = λ image left.
          let spans = whole_spans from goal refl (13 + length body) refl in
          bytes_from w image side (written_in from goal) t mate start 0 (13 + length body + 1 - 0) spans.0 spans.1
          (pokes_pair 0 (13 + length body + 1 - 0) w side t mate start (omega (arith, fits, target.1.1)) ((0, 0 ∷ []) ∷ (1, bytes) ∷ (0, open_gate ∷ []) ∷ [])
          (omega arith, omega arith, (omega arith, omega (arith, bytes_long), (omega arith, omega arith, tt))) image left);
      ready = then_whole.ready;
      held = then_whole.held;
      applies = (some_apply _ t 0 (0 ∷ []) start.file fits_t, (tt, then_whole.applies));
      sound = λ slots. (tt, (tt, then_whole.sound slots));
      only = ((side, refl), (tt, then_whole.only));
    }

  gate : from.target_open ≡ is_open (Some t)
  gate = ready.are.target ∙ ap is_open target.1.0

  pub whole_outcome : Outcome w from goal (synced (whole_pokes side from.target_open (from.settled.sequence + 1) body))
  whole_outcome = by from.target_open gate
    where
      by : (o : Bool) → o ≡ is_open (Some t) → Outcome w from goal (synced (whole_pokes side o (from.settled.sequence + 1) body))
      by true is = open_outcome (sym is)
      by false is = shut_outcome w t start target.1.1 (sym is)
