-- The arming that a record names.
use Rattle.std.proofs.Common.{◌≡◌, ◌≤◌, false, Option, None, Some, refl, subst, arith}
use Rattle.std.specs.Prelude.{◌==◌, IfSome, IsSome, length}
use Rattle.std.proofs.lemmas.Bool.{ne_eqb}
use Rattle.ls_arming.specs.declared.arming.Arming.{Arming}
use Rattle.ls_record.specs.Rows.{Rec, IsArming, IsRecord}

pub some_armed : (o : Option Arming) → IsSome o → (a : Arming) × (o ≡ Some a)
some_armed None some = absurd (cc)
some_armed (Some a) some = (a, refl)

pub its_arming : (r : Rec) (a : Arming) → IsRecord r → r.armed ≡ Some a → IsArming r.users a
its_arming r a is named = subst (λ (o : Option Arming). IfSome o (IsArming r.users)) named is.armed

pub some_users : (r : Rec) (a : Arming) → IsRecord r → r.armed ≡ Some a → (length a.users == 0) ≡ false
some_users r a is named = let some : 1 ≤ length a.users = (its_arming r a is named).some in ne_eqb (length a.users) 0 (λ e. omega arith)
