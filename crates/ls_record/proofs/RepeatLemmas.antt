-- Reading values one after the other, as a loop does.
use Rattle.std.proofs.Common.{◌≡◌, ◌≤◌, ◌<◌, ℕ, suc, ◌+◌, ◌-◌, List, [], ◌∷◌, ◌++◌, Result, Ok, refl, sym, ap, subst, ◌∙◌, arith}
use Rattle.ls_bytes.specs.Reading.{Reading}
use Rattle.ls_record.specs.declared.fault.RecordFault.{RecordFault}
use Rattle.ls_record.specs.declared.fault.RecordFault.TheVariants.{Short, Order, Limit, Extra, Memory}
use Rattle.ls_record.specs.Reading.{Reads, go_on, repeat}
use Rattle.ls_record.specs.Gives.{Tells}

-- a fault of the first step is one of the whole
first_tells : {A B : Type 0} (p : Result (A × Reading) RecordFault) (next : A → Reads B) (e : RecordFault) → Tells p e → Tells (go_on p next) e
first_tells p next (Short at) h = rw h refl
first_tells p next (Order at) h = rw h refl
first_tells p next (Limit at) h = rw h refl
first_tells p next (Extra at) h = rw h refl
first_tells p next Memory h = tt

module _ {A : Type 0} (item : List A → Reads A) (total : Result (List A × Reading) RecordFault) (front : List A) (n i : ℕ) (old : Reading)
    (so_far : repeat item front (n - i) old ≡ total) where
  pub goes_on : (x : A) (new : Reading) → i < n → item front old ≡ Ok (x, new) → repeat item (front ++ x ∷ []) (n - (i + 1)) new ≡ total
  unfolding repeat
  goes_on x new lt h =
      let k : n - i ≡ suc (n - (i + 1)) = omega arith in
      let one : repeat item front (n - i) old ≡ repeat item (front ++ x ∷ []) (n - (i + 1)) new = rw (k, h) refl in
      sym one ∙ so_far

  pub ends : (e : RecordFault) → i < n → Tells (item front old) e → Tells total e
  unfolding repeat
  ends e lt h =
      let k : n - i ≡ suc (n - (i + 1)) = omega arith in
      let whole : Tells (repeat item front (suc (n - (i + 1))) old) e = first_tells (item front old) (λ x. repeat item (front ++ x ∷ []) (n - (i + 1))) e h in
      subst (λ (r : Result (List A × Reading) RecordFault). Tells r e) (ap (λ (m : ℕ). repeat item front m old) (sym k) ∙ so_far) whole

  pub is_done : n ≤ i → total ≡ Ok (front, old)
  unfolding repeat
  is_done le =
      let k : n - i ≡ 0 = omega arith in
      sym so_far ∙ rw k refl
