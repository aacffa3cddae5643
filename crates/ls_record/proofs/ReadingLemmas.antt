-- What reading a whole body answers, in the words of the record.
use Rattle.std.proofs.Common.{◌≡◌, List, ℕ, Result, Ok, Err, refl, sym, ◌∙◌}
use Rattle.std.specs.Prelude.{MatchResult, IfOk}
use Rattle.ls_record.specs.declared.fault.RecordFault.{RecordFault}
use Rattle.ls_record.specs.declared.fault.RecordFault.TheVariants.{Short, Order, Limit, Extra, Memory}
use Rattle.ls_record.specs.Rows.{Rec}
use Rattle.ls_record.specs.Spelling.{IsTextOf}
use Rattle.ls_record.specs.Reading.{record_of}
use Rattle.ls_record.specs.Gives.{Tells}
use Rattle.ls_record.proofs.ReaderLemmas.{IsBytes}
use Rattle.ls_record.proofs.RecordReaders.{record_takes, record_again}

abbrev ok : Rec → Result Rec RecordFault
ok r = Ok r

-- the answer is the computed one, unless memory ran out
abbrev pub IsAnswer : List ℕ → Result Rec RecordFault → Type 0
IsAnswer bytes result = MatchResult result (λ r. record_of bytes ≡ Ok r) (Tells (record_of bytes))

pub is_found : (bytes : List ℕ) (result : Result Rec RecordFault) → IsBytes bytes → IsAnswer bytes result → IfOk result (IsTextOf bytes)
is_found bytes (Ok r) fits h = record_takes bytes r fits h
is_found bytes (Err e) fits h = tt

same_ok : (r s : Rec) → ok r ≡ ok s → s ≡ r
same_ok r s e = cc

pub is_only : (bytes : List ℕ) (result : Result Rec RecordFault) → IsAnswer bytes result → (r : Rec) → IsTextOf bytes r → MatchResult result (λ v. v ≡ r) (λ e. e ≡ Memory)
is_only bytes (Ok v) h r text = same_ok r v (sym (record_again bytes r text) ∙ h)
is_only bytes (Err (Short at)) h r text = absurd (let bad : ◌≡◌ {A = Result Rec RecordFault} (Ok r) (Err (Short at)) = sym (record_again bytes r text) ∙ h in cc)
is_only bytes (Err (Order at)) h r text = absurd (let bad : ◌≡◌ {A = Result Rec RecordFault} (Ok r) (Err (Order at)) = sym (record_again bytes r text) ∙ h in cc)
is_only bytes (Err (Limit at)) h r text = absurd (let bad : ◌≡◌ {A = Result Rec RecordFault} (Ok r) (Err (Limit at)) = sym (record_again bytes r text) ∙ h in cc)
is_only bytes (Err (Extra at)) h r text = absurd (let bad : ◌≡◌ {A = Result Rec RecordFault} (Ok r) (Err (Extra at)) = sym (record_again bytes r text) ∙ h in cc)
is_only bytes (Err Memory) h r text = refl
