-- The length of a PIN that is shown, as the machine shows it.
use Rattle.std.proofs.Common.{◌≡◌, ℕ, Bool, true, false, List, Option, refl, sym, subst}
use Rattle.ls_credential.specs.declared.kind.Kind.{Kind}
use Rattle.ls_credential.specs.declared.kind.Kind.TheVariants.{Empty, Pattern, Pin, Password}
use Rattle.ls_credential.specs.Counts.{KindAndCounts}
use Rattle.ls_vault.specs.declared.user.User.{User}
use Rattle.ls_vault.specs.Refusals.{differs}
use Rattle.ls_vault.specs.Revealed.{shown_length, shown_metrics}
use Rattle.ls_users.specs.Pins.{shown_pin}

pub shown_is : (u : User) (on : Bool) (m : Option KindAndCounts) → m ≡ shown_metrics u.credential → shown_pin u.credential.kind on m ≡ shown_length (record u { auto = on })
shown_is u on m is = subst (λ (o : Option KindAndCounts). shown_pin u.credential.kind on o ≡ shown_length (record u { auto = on })) (sym is) (by u.credential.kind u.credential.text on)
  where
    by : (kind : Kind) (text : List ℕ) (on : Bool) → shown_pin kind on (shown_metrics (record { kind = kind; text = text })) ≡ shown_length (record u { credential = record { kind = kind; text = text }; auto = on })
    by Empty text true = refl
    by Empty text false = refl
    by Pattern text true = refl
    by Pattern text false = refl
    by Pin text true = refl
    by Pin text false = refl
    by Password text true = refl
    by Password text false = refl

-- two flags that don't differ are one
pub same_flag : (a b : Bool) → differs a b ≡ false → a ≡ b
same_flag true true e = refl
same_flag true false e = absurd (cc)
same_flag false true e = absurd (cc)
same_flag false false e = refl
