-- What is taken is all that the reader gives, where it is below the reader's limit.
use Rattle.std.specs.Prelude.{◌≡◌, ◌<◌, ◌+◌, ◌^◌, ◌++◌, ℕ, Bool, true, false, List, [], length, take, nat_le, if◌then◌else◌, Option, Some, None, Result, Ok, Err, IfOk, IfSome, option_map}
use Rattle.std.proofs.Common.{arith, refl, ◌∙◌, sym, ap, subst}
use Rattle.std.proofs.lemmas.Bool.Decides.{nat_tests}
use Rattle.std.proofs.lemmas.List.{take_all, length-take}
use Rattle.std.specs.Io.Take.{take_remaining}
use Rattle.std.specs.declared.io.Take.{Take}
use Rattle.ls_top.specs.declared.status.Status.{Status}
use Rattle.ls_top.specs.declared.status.Status.TheVariants.{TooLong}
use Rattle.locksettings.specs.Input.{script_of}

-- a front of fewer bytes than its limit is all of them
all_of : (room : ℕ) (bytes taken : List ℕ) → taken ≡ take room bytes → length taken < room
    → taken ≡ bytes
all_of room bytes taken gives short =
    let long : length taken ≡ _ = ap length gives ∙ length-take room bytes in
    gives ∙ take_all room bytes (grind (arith, long, short))

judged : (room : ℕ) (fits : Bool) (bytes taken : List ℕ) → taken ≡ take room bytes
    → (fits ≡ true → length taken < room)
    → IfOk (if fits then Ok taken else Err TooLong) (λ script. script ≡ bytes)
judged room true bytes taken gives short = all_of room bytes taken gives (short refl)
judged room false bytes taken gives short = tt

unknown : (fits : Bool) (taken : List ℕ)
    → IfOk (if fits then Ok taken else Err TooLong) (λ script. IfSome None (λ bytes. script ≡ bytes))
unknown true taken = tt
unknown false taken = tt

within : (taken : List ℕ) → nat_le (length taken) (2 ^ 20) ≡ true → length taken < 2 ^ 20 + 1
within taken fits = grind (arith, nat_tests)

whole : (remaining : Option (List ℕ)) (taken : List ℕ)
    → IfSome (option_map (take (2 ^ 20 + 1)) remaining) (λ bytes. taken ≡ [] ++ bytes)
    → IfOk (script_of taken) (λ script. IfSome remaining (λ bytes. script ≡ bytes))
whole None taken gives = unknown (nat_le (length taken) (2 ^ 20)) taken
whole (Some bytes) taken gives =
    judged (2 ^ 20 + 1) (nat_le (length taken) (2 ^ 20)) bytes taken gives (within taken)

-- what a reader with a limit of one byte more gives
pub all_taken : {R : Type 0} (remaining : R → Option (List ℕ)) (reader : R) (limited : Take R)
    (start taken : List ℕ) (result : Result (List ℕ) Status)
    → limited.limit ≡ 2 ^ 20 + 1 → limited.inner ≡ reader → start ≡ []
    → IfSome (take_remaining remaining limited) (λ bytes. taken ≡ start ++ bytes)
    → result ≡ script_of taken
    → IfOk result (λ script. IfSome (remaining reader) (λ bytes. script ≡ bytes))
all_taken {R = R} remaining reader limited start taken result limit inner none gives is =
    let at_limit = subst (λ (room : ℕ). IfSome (option_map (take room) (remaining limited.inner))
    (λ bytes. taken ≡ start ++ bytes)) limit gives in
    let of_reader = subst (λ (r : R). IfSome (option_map (take (2 ^ 20 + 1)) (remaining r))
    (λ bytes. taken ≡ start ++ bytes)) inner at_limit in
    let from_none = subst (λ (front : List ℕ). IfSome
    (option_map (take (2 ^ 20 + 1)) (remaining reader)) (λ bytes. taken ≡ front ++ bytes))
    none of_reader in
    subst (λ (r : Result (List ℕ) Status). IfOk r
    (λ script. IfSome (remaining reader) (λ bytes. script ≡ bytes)))
    (sym is) (whole (remaining reader) taken from_none)
