-- What a record with a change that is read answers, in the words of the change.
use Rattle.std.proofs.Common.{◌≡◌, ℕ, List, Result, Ok, Err, refl, sym, ap, subst, ◌∙◌}
use Rattle.std.specs.Prelude.{MatchResult, IfOk}
use Rattle.ls_record.specs.declared.fault.RecordFault.{RecordFault}
use Rattle.ls_record.specs.declared.fault.RecordFault.TheVariants.{Short, Order, Limit, Extra, Memory}
use Rattle.ls_record.specs.declared.edit.Edit.{Edit}
use Rattle.ls_record.specs.declared.row.UserRow.{UserRow}
use Rattle.ls_record.specs.Rows.{Rec, IsRecord}
use Rattle.ls_record.specs.Edits.{changed, MayChange, IsEditText}
use Rattle.ls_record.specs.EditReading.{whole_edit, change_by, edited_of}
use Rattle.ls_record.specs.Gives.{Tells}
use Rattle.ls_record.proofs.ReaderLemmas.{IsBytes}
use Rattle.ls_record.proofs.EditReaders.{edit_takes, edit_again}

abbrev ok : Rec → Result Rec RecordFault
ok r = Ok r

abbrev bad : RecordFault → Result Rec RecordFault
bad f = Err f

-- the record is the one with a change that the bytes are
abbrev pub IsChanged : ℕ → Rec → List ℕ → Rec → Type 0
IsChanged format r bytes s = (e : Edit) × IsEditText format r bytes e × (s ≡ changed r e)

-- the change that was read is the computed one, unless memory ran out
abbrev pub IsReadAnswer : ℕ → List UserRow → List ℕ → Result Edit RecordFault → Type 0
IsReadAnswer format rows bytes result = MatchResult result (λ e. whole_edit format rows bytes ≡ Ok e) (Tells (whole_edit format rows bytes))

module _ (format : ℕ) (r : Rec) (keeps : IsRecord r) (bytes : List ℕ) where
  -- a change that was read may be made
  may_change : IsBytes bytes → (result : Result Edit RecordFault) → IsReadAnswer format r.users bytes result → IfOk result (MayChange r)
  may_change fits (Ok e) h = (edit_takes format r keeps.rows bytes e fits h).may
  may_change fits (Err f) h = tt

  pub read_may_change : IsBytes bytes → (rows : List UserRow) → rows ≡ r.users → (result : Result Edit RecordFault) → IsReadAnswer format rows bytes result → IfOk result (MayChange r)
  read_may_change fits rows are result h = may_change fits result (subst (λ (l : List UserRow). IsReadAnswer format l bytes result) are h)

  -- the answer is the computed one, unless memory ran out
  abbrev IsAnswer : Result Rec RecordFault → Type 0
  IsAnswer result = MatchResult result (λ s. edited_of format r bytes ≡ Ok s) (Tells (edited_of format r bytes))

  -- what was read, and then made
  read_made : IsBytes bytes → (w : Result Edit RecordFault) → whole_edit format r.users bytes ≡ w → (s : Rec) → change_by r w ≡ Ok s → IsChanged format r bytes s
  read_made fits (Ok e) was s h =
      let same : ok (changed r e) ≡ ok s = h in
      let is : s ≡ changed r e = cc in
      (e, edit_takes format r keeps.rows bytes e fits was, is)
  read_made fits (Err f) was s h = absurd (let no : bad f ≡ ok s = h in cc)

  pub is_found : IsBytes bytes → (result : Result Rec RecordFault) → IsAnswer result → IfOk result (IsChanged format r bytes)
  is_found fits (Ok s) h = read_made fits (whole_edit format r.users bytes) refl s h
  is_found fits (Err f) h = tt

  -- the text of a change gives the record with it
  made_again : (e : Edit) → IsEditText format r bytes e → edited_of format r bytes ≡ Ok (changed r e)
  made_again e text = ap (change_by r) (edit_again format r keeps.rows bytes e text)

  same_ok : (s t : Rec) → ok s ≡ ok t → t ≡ s
  same_ok s t e = cc

  pub is_only : (result : Result Rec RecordFault) → IsAnswer result → (e : Edit) → IsEditText format r bytes e → MatchResult result (λ s. s ≡ changed r e) (λ f. f ≡ Memory)
  is_only (Ok s) h e text = same_ok (changed r e) s (sym (made_again e text) ∙ h)
  is_only (Err (Short at)) h e text = absurd (let no : ok (changed r e) ≡ bad (Short at) = sym (made_again e text) ∙ h in cc)
  is_only (Err (Order at)) h e text = absurd (let no : ok (changed r e) ≡ bad (Order at) = sym (made_again e text) ∙ h in cc)
  is_only (Err (Limit at)) h e text = absurd (let no : ok (changed r e) ≡ bad (Limit at) = sym (made_again e text) ∙ h in cc)
  is_only (Err (Extra at)) h e text = absurd (let no : ok (changed r e) ≡ bad (Extra at) = sym (made_again e text) ∙ h in cc)
  is_only (Err Memory) h e text = refl

-- a fault of the change is one of the record with it
pub change_tells : (r : Rec) (p : Result Edit RecordFault) (f : RecordFault) → Tells p f → Tells (change_by r p) f
change_tells r p (Short at) h = rw h refl
change_tells r p (Order at) h = rw h refl
change_tells r p (Limit at) h = rw h refl
change_tells r p (Extra at) h = rw h refl
change_tells r p Memory h = tt
