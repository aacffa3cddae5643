-- The two kinds of commit, from what they are prepared of.
use Rattle.std.proofs.Common.{◌≡◌, inl, inr, ◌<◌, ◌+◌, ◌^◌, ℕ, Bool, List, length, Some, Ok, refl, sym, ap, subst, arith}
use Rattle.std.specs.Prelude.{is_some}
use Rattle.ls_formats.specs.declared.side.Side.{Side}
use Rattle.ls_record.specs.declared.edit.Edit.{Edit}
use Rattle.ls_record.specs.declared.edit.Edit.TheVariants.{PutRow, DropRow, SetArmed, ClearArmed}
use Rattle.ls_record.specs.Rows.{Rec, IsRecord}
use Rattle.ls_record.specs.Edits.{FitsFormat, IsEditText}
use Rattle.ls_record.specs.EditReading.{edited_of}
use Rattle.ls_record.specs.Spelling.{record_bytes}
use Rattle.ls_record.proofs.RecordReaders.{record_again}
use Rattle.ls_board.specs.declared.action.Action.{Action}
use Rattle.ls_settings.specs.Loaded.{Loaded, target_of}
use Rattle.ls_settings.specs.Commits.{IsEntry, HasEntry, IsCommit, synced, entry_pokes, whole_pokes, with_entry, with_whole}
use Rattle.ls_settings.proofs.LengthLemmas.{record_length}

fits_second : (e : Edit) → FitsFormat 2 e
fits_second (PutRow row) = λ is. absurd (omega arith)
fits_second (DropRow user) = tt
fits_second (SetArmed a) = tt
fits_second ClearArmed = tt

-- an entry's change leads to the next record
pub entry_text : (from : Loaded) (next : Rec) (side : Side) (at : ℕ) (change : List ℕ) (entry : IsEntry from.settled next side at change) → IsEditText 2 from.settled.rec change entry.edit
entry_text from next side at change entry = record { may = entry.leads.may; fits = fits_second entry.edit; is = sym entry.is }

-- with a record written in whole
abbrev whole_at : Loaded → Rec → Side → ℕ → Bool → Loaded
whole_at seen next target long was_open = record {
  settled = record { rec = next; sequence = seen.settled.sequence + 1; side = Some target; end = Some (13 + long); format = 2 };
  target_open = was_open;
}

module _ (from : Loaded) (next : Rec) (small : from.settled.sequence + 1 < 2 ^ 64) where
  pub by_entry : (seen : Loaded) → seen ≡ from → (side : Side) (at : ℕ) (change : List ℕ) → IsEntry from.settled next side at change
      → edited_of 2 from.settled.rec change ≡ Ok next → (actions : List Action) → actions ≡ synced (entry_pokes side at change)
      → IsCommit from (with_entry seen next (at + 5 + length change)) actions
  by_entry seen is side at change entry reads actions does =
      subst (λ (s : Loaded). IsCommit from (with_entry s next (at + 5 + length change)) actions) (sym is) (record {
        below = refl;
        small = small;
        either = inl (record { side = side; at = at; change = change; entry = entry; reads = reads; to_is = refl; does = does });
      })

  pub in_whole : (seen : Loaded) → seen ≡ from → ¬ (HasEntry from.settled next) → (target : Side) → target ≡ target_of seen.settled.side → (was_open : Bool) → was_open ≡ is_some seen.settled.side
      → (body : List ℕ) → body ≡ record_bytes 2 next → IsRecord next
      → (actions : List Action) → actions ≡ synced (whole_pokes target seen.target_open (seen.settled.sequence + 1) body)
      → IsCommit from (record {
        settled = record { rec = next; sequence = seen.settled.sequence + 1; side = Some target; end = Some (13 + length body); format = 2 };
        target_open = was_open;
      }) actions
  in_whole seen is none target target_is was_open open_is body body_is keeps actions does =
      subst (λ (o : Bool). IsCommit from (whole_at seen next target (length body) o) actions) (sym open_is)
      (subst (λ (t : Side). actions ≡ synced (whole_pokes t seen.target_open (seen.settled.sequence + 1) body) → IsCommit from (whole_at seen next t (length body) (is_some seen.settled.side)) actions) (sym target_is)
      (λ does. subst (λ (s : Loaded). actions ≡ synced (whole_pokes (target_of s.settled.side) s.target_open (s.settled.sequence + 1) body) → IsCommit from (with_whole s next (13 + length body)) actions) (sym is) made does) does)
    where
      made : actions ≡ synced (whole_pokes (target_of from.settled.side) from.target_open (from.settled.sequence + 1) body) → IsCommit from (with_whole from next (13 + length body)) actions
      made does = record {
        below = refl;
        small = small;
        either = inr (
          none,
          record {
            body = body;
            body_is = body_is;
            reads = record_again body next (keeps, (2, inr refl, sym body_is));
            fits = omega (arith, ap length body_is, record_length next keeps);
            to_is = refl;
            does = does;
          },
        );
      }
