-- A field is read as the code reads it: a number, and then its rule.
use Rattle.std.proofs.Common.{◌≡◌, ◌<◌, ℕ, Bool, true, false, cond, ltb, length, Result, Ok, Err, refl, sym, ap, subst, ◌∙◌}
use Rattle.std.proofs.lemmas.Bool.{lt-ltb, le-ltb}
use Rattle.byteorder.specs.Endian.{big_number}
use Rattle.ls_bytes.specs.Reading.{Reading}
use Rattle.ls_record.specs.declared.fault.RecordFault.{RecordFault}
use Rattle.ls_record.specs.declared.fault.RecordFault.TheVariants.{Short, Order, Limit}
use Rattle.ls_record.specs.Reading.{number, end_of}
use Rattle.ls_record.specs.Gives.{Tells, Gives, IsNumber}

-- the field doesn't fit
pub number_short : (width : ℕ) (limit order : ℕ → Bool) (old : Reading) (e : RecordFault) → length old.left < width → e ≡ Short (end_of old)
    → Tells (number width limit order old) e
unfolding number
number_short width limit order old e lt is =
    let found : number width limit order old ≡ Err (Short (end_of old)) = rw (lt-ltb (length old.left) width lt) refl in
    subst (Tells (number width limit order old)) (sym is) found

-- what is answered of the number n
abbrev judged : (n at : ℕ) (limit order : Bool) → Result ℕ RecordFault
judged n at limit order = cond limit (cond order (Ok n) (Err (Order at))) (Err (Limit at))

module _ (width : ℕ) (limit order : ℕ → Bool) (old new : Reading) (n : ℕ) (is : IsNumber width n old new) where
  long : ltb (length old.left) width ≡ false
  long = le-ltb (length old.left) width is.long

  by_tests : (l o : Bool) → limit (big_number width old.left) ≡ l → order (big_number width old.left) ≡ o
      → Gives (number width limit order) old (judged n old.at l o) new
  unfolding number
  by_tests false o l_is o_is = rw (long, l_is) refl
  by_tests true false l_is o_is = rw (long, l_is, o_is) refl
  by_tests true true l_is o_is = rw (long, l_is, o_is) (λ i. Ok (sym is.value i, sym is.rest i))

  -- the field fits, and is judged
  pub number_judged : (at : ℕ) (l o : Bool) (r : Result ℕ RecordFault) → at ≡ old.at → l ≡ limit n → o ≡ order n
      → r ≡ judged n at l o → Gives (number width limit order) old r new
  number_judged at l o r at_is l_is o_is r_is =
      subst (λ (r : Result ℕ RecordFault). Gives (number width limit order) old r new) (sym (r_is ∙ ap (λ (a : ℕ). judged n a l o) at_is))
      (by_tests l o (sym (l_is ∙ ap limit is.value)) (sym (o_is ∙ ap order is.value)))
