-- Every image of a commit by an entry has the old settings or the new ones.
use Rattle.std.proofs.Common.{◌≡◌, ◌⊎◌, inl, inr, ⊎_elim, ◌≤◌, ◌<◌, ◌+◌, ◌^◌, ℕ, List, [], ◌∷◌, length, ◌-◌, Option, Some, Ok, refl, sym, ◌∙◌, ap, arith, length-append}
use Rattle.ls_formats.specs.declared.side.Side.{Side}
use Rattle.ls_formats.specs.PartNames.{settings_text}
use Rattle.ls_record.specs.Rows.{Rec}
use Rattle.ls_record.specs.EditReading.{edited_of}
use Rattle.ls_naming.specs.Current.{Settled, settled, settled_in, current, is_open, open_gate, base_of, entry_places, format_of}
use Rattle.ls_board.specs.declared.action.Action.TheVariants.{Poke, Sync}
use Rattle.ls_board.specs.declared.world.World.{World}
use Rattle.ls_board.specs.Effect.{file_at, span_of}
use Rattle.ls_board.specs.Images.{Leaves}
use Rattle.ls_board.specs.Runs.{PlanImage}
use Rattle.ls_settings.specs.Loaded.{Loaded, IsReady, IsWhole, other_side, target_of}
use Rattle.ls_settings.specs.Commits.{synced, written_in, entry_bytes, entry_pokes, with_entry}
use Rattle.ls_settings.proofs.SideLemmas.{sides_apart, of_pair, chosen, current_pair, chosen_says, chosen_same, IsCurrent, current_of}
use Rattle.ls_settings.proofs.SyncedLemmas.{Holds, Pair, left_pair, length_poked, then_synced, poke_holds, poke_pair, Torn, pokes_pair}
use Rattle.ls_settings.proofs.FileLemmas.{IsFile, IsJournal, parts, journal}
use Rattle.ls_settings.proofs.EntryLemmas.{with_change, with_gate, first_fits, second_fits, SaysNew, SaysOld, with_entry_says, torn_change, torn_gate}
use Rattle.ls_settings.proofs.OutcomeLemmas.{Outcome, there, some_apply, image_says, ready_from, bytes_from, entry_spans}

module _ (w : World) (from : Loaded) (ready : IsReady w from) (next : Rec) (side : Side) (at : ℕ) (change : List ℕ)
    (in_file : from.settled.side ≡ Some side) (in_journal : from.settled.end ≡ Some at) (in_format : from.settled.format ≡ 2)
    (fits : at + 6 + length change ≤ 4096) (small : from.settled.sequence + 1 < 2 ^ 64) (reads : edited_of 2 from.settled.rec change ≡ Ok next) where
  abbrev neighbour : Option (List ℕ)
  neighbour = file_at w (settings_text (other_side side))

  says : of_pair side (file_at w (settings_text side)) neighbour ≡ Ok from.settled
  says = sym (current_pair (file_at w) side) ∙ ready.are.settled

  cur : IsCurrent side (file_at w (settings_text side)) neighbour from.settled
  cur = current_of side (file_at w (settings_text side)) neighbour from.settled says in_file

  abbrev f : List ℕ
  f = cur.bytes

  file : IsFile f from.settled.rec
  file = parts f from.settled.rec cur.says

  is : settled side f from.settled.rec ≡ from.settled
  is = sym cur.is

  j : IsJournal f at
  j = journal f at (ap (λ (s : Settled). s.end) is ∙ in_journal)

  count : base_of (Some f) + length (entry_places f) ≡ from.settled.sequence
  count = ap (λ (s : Settled). s.sequence) is

  format : format_of f ≡ from.settled.format
  format = ap (λ (s : Settled). s.format) is

  unworn : base_of (Some f) + length (entry_places f) + 1 < 2 ^ 64
  unworn = omega (arith, count, small)

  edits : edited_of (format_of f) from.settled.rec change ≡ Ok next
  edits = ap (λ (n : ℕ). edited_of n from.settled.rec change) (format ∙ in_format) ∙ reads

  abbrev to : Loaded
  to = with_entry from next (at + 5 + length change)

  chosen_f : chosen side (Some f) neighbour ≡ Some side
  chosen_f = ap (λ (m : Option (List ℕ)). chosen side m neighbour) (sym cur.file) ∙ cur.is_chosen

  old_says : (g : List ℕ) → SaysOld f from.settled.rec file at j change fits side next unworn edits g → of_pair side (Some g) neighbour ≡ Ok from.settled
  old_says g old =
      chosen_says side (Some g) neighbour (chosen_same side (Some f) (Some g) neighbour old.gate old.base ∙ chosen_f)
      ∙ ap (settled_in side g) old.says ∙ ap (λ (s : Settled). Ok s) (old.settled_is ∙ is)

  new_says : (g : List ℕ) → SaysNew f from.settled.rec file at j change fits side next unworn edits g → of_pair side (Some g) neighbour ≡ Ok to.settled
  new_says g new =
      chosen_says side (Some g) neighbour (chosen_same side (Some f) (Some g) neighbour new.gate new.base ∙ chosen_f)
      ∙ ap (settled_in side g) new.says ∙ ap (λ (s : Settled). Ok s) new.settled_is
      ∙ (λ i. Ok (record { rec = next; sequence = count i + 1; side = sym in_file i; end = Some (at + 5 + length change); format = format i }))

  abbrev f1 : List ℕ
  f1 = with_change f from.settled.rec file at j change fits

  abbrev f2 : List ℕ
  f2 = with_gate f from.settled.rec file at j change fits

  h0 : Holds w side (Some f) neighbour
  h0 = record { file = cur.file; beside = refl; still = ready.untouched }

  abbrev w1 : World
  w1 = then_synced w (Poke (settings_text side) (at + 1) (entry_bytes change))

  h1 : Holds w1 side (Some f1) neighbour
  h1 = poke_holds w side f neighbour h0 (at + 1) (entry_bytes change)

  abbrev w2 : World
  w2 = then_synced w1 (Poke (settings_text side) at (open_gate ∷ []))

  h2 : Holds w2 side (Some f2) neighbour
  h2 = poke_holds w1 side f1 neighbour h1 at (open_gate ∷ [])

  fits_1 : at + 1 + length (entry_bytes change) ≤ length f
  fits_1 = first_fits f from.settled.rec file at j change fits

  fits_2 : at + 1 ≤ length f1
  fits_2 = second_fits f from.settled.rec file at j change fits

  new_f2 : of_pair side (Some f2) neighbour ≡ Ok to.settled
  new_f2 = new_says f2 (with_entry_says f from.settled.rec file at j change fits side next unworn edits)

  OldOrNew : World → Type 0
  OldOrNew image = (current (file_at image) ≡ Ok from.settled) ⊎ (current (file_at image) ≡ Ok to.settled)

  torn_1 : (image : World) → Pair image side (Torn w side f neighbour h0 (at + 1) (entry_bytes change)) neighbour → OldOrNew image
  unfolding OldOrNew
  torn_1 image pair =
      let g = there (span_of (at + 1) (entry_bytes change) ∷ []) f1 (file_at image (settings_text side)) pair.target in
      inl (image_says image side (Some g.0) neighbour g.1.0 pair.beside ∙ old_says g.0 (torn_change f from.settled.rec file at j change fits side next unworn edits g.0 g.1.1))

  torn_2 : (image : World) → Pair image side (Torn w1 side f1 neighbour h1 at (open_gate ∷ [])) neighbour → OldOrNew image
  unfolding OldOrNew
  torn_2 image pair =
      let g = there (span_of at (open_gate ∷ []) ∷ []) f2 (file_at image (settings_text side)) pair.target in
      let is_pair = image_says image side (Some g.0) neighbour g.1.0 pair.beside in
      ⊎_elim (λ old. inl (is_pair ∙ old_says g.0 old)) (λ new. inr (is_pair ∙ new_says g.0 new)) (torn_gate f from.settled.rec file at j change fits side next unworn edits g.0 g.1.1)

  entry_held : (image : World) → Leaves w2 image → current (file_at image) ≡ Ok to.settled
  entry_held image left =
      let pair = left_pair w2 image side (Some f2) neighbour h2 left in
      image_says image side (Some f2) neighbour pair.target pair.beside ∙ new_f2

  entry_images : (image : World) → PlanImage w (synced (entry_pokes side at change)) image → OldOrNew image
  unfolding OldOrNew
  entry_images image left =
      ⊎_elim (torn_1 image) (λ later. ⊎_elim (torn_2 image) (λ last. inr (entry_held image last))
      (poke_pair w1 side f1 neighbour h1 at (open_gate ∷ []) fits_2 [] image later))
      (poke_pair w side f neighbour h0 (at + 1) (entry_bytes change) fits_1 (Poke (settings_text side) at (open_gate ∷ []) ∷ Sync ∷ []) image left)

  other_is_whole : IsWhole neighbour
  other_is_whole = ready.whole (other_side side) (λ e. sides_apart side (sym e ∙ in_file))

  pub entry_outcome : Outcome w from to (synced (entry_pokes side at change))
  unfolding OldOrNew
  entry_outcome = record {
    images = entry_images;
    bytes = λ image left.
        let spans = entry_spans from to side in_file in_file at (at + 5 + length change) in_journal refl in
        bytes_from w image side (written_in from to) f neighbour h0 at (at + 5 + length change + 1 - at) spans.0 spans.1
        (pokes_pair at (at + 5 + length change + 1 - at) w side f neighbour h0 (omega (arith, fits, file.long)) ((at + 1, entry_bytes change) ∷ (at, open_gate ∷ []) ∷ [])
        (omega arith, omega (arith, length-append change (0 ∷ [])), (omega arith, omega arith, tt)) image left);
    ready = ready_from w2 side (Some f2) neighbour to h2 new_f2 in_file
        (ready.are.target ∙ ap (λ (o : Option Side). is_open (file_at w (settings_text (target_of o)))) in_file)
        (length_poked f1 at (open_gate ∷ []) fits_2 ∙ length_poked f (at + 1) (entry_bytes change) fits_1 ∙ file.long) other_is_whole;
    held = entry_held;
    applies = (some_apply _ f (at + 1) (entry_bytes change) h0.file fits_1, (tt, (some_apply _ f1 at (open_gate ∷ []) h1.file fits_2, (tt, tt))));
    sound = λ slots. (tt, (tt, (tt, (tt, tt))));
    only = ((side, refl), (tt, ((side, refl), (tt, tt))));
  }
