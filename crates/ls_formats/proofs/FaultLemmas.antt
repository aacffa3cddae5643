-- The computed first fault is the first place at which no continuation is in the format.
use Rattle.std.proofs.Common.{◌≡◌, ◌⊎◌, inl, inr, ◌≤◌, ◌<◌, ℕ, zero, suc, max, Bool, true, false, cond, List, [], ◌∷◌, length, take, Option, None, Some, refl, sym, subst, ◌∙◌, arith}
use Rattle.std.specs.Prelude.{MatchOption}
use Rattle.std.specs.Option.{option_map}
use Rattle.std.proofs.lemmas.Bool.{cases_lt}
use Rattle.ls_formats.specs.Format.{Format, ended, byte, either, IsIn, later, first_fault}
use Rattle.ls_formats.specs.Faults.{Begins, IsFirstFault}

-- each test of the format is passed by some byte
abbrev pub IsLive : Format → Type 0
IsLive ended = Unit {0}
IsLive (byte test next) = (some : (b : ℕ) × (test b ≡ true)) × ((b : ℕ) → IsLive (next b))
IsLive (either this that) = IsLive this × IsLive that

-- so some bytes are in it
pub inhabited : (f : Format) → IsLive f → (bytes : List ℕ) × IsIn f bytes
inhabited ended live = ([], tt)
inhabited (byte test next) live =
    let rest = inhabited (next live.0.0) (live.1 live.0.0) in
    (live.0.0 ∷ rest.0, (live.0.1, rest.1))
inhabited (either this that) live = let some = inhabited this live.0 in (some.0, inl some.1)

-- what is answered of the bytes
abbrev pub Tells : Format → List ℕ → Option ℕ → Type 0
Tells f bytes None = IsIn f bytes
Tells f bytes (Some at) = IsFirstFault (IsIn f) bytes at

at_end : (test : ℕ → Bool) (next : ℕ → Format) → IsLive (byte test next) → IsFirstFault (IsIn (byte test next)) [] 0
at_end test next live = record {
  within = omega arith;
  before = inhabited (byte test next) live;
  behind = λ more lt le. absurd (omega arith);
  outside = λ h. h;
}

extra : (b : ℕ) (bytes : List ℕ) → IsFirstFault (IsIn ended) (b ∷ bytes) 0
extra b bytes = record {
  within = omega arith;
  before = ([], tt);
  behind = behind;
  outside = λ h. h;
}
  where
    behind : (more : ℕ) → 0 < more → more ≤ length (b ∷ bytes) → ¬ Begins (IsIn ended) (take more (b ∷ bytes))
    behind zero lt le h = absurd (omega arith)
    behind (suc more) lt le h = h.1

refused : (test : ℕ → Bool) (next : ℕ → Format) → IsLive (byte test next) → (b : ℕ) (bytes : List ℕ) → test b ≡ false
    → IsFirstFault (IsIn (byte test next)) (b ∷ bytes) 0
refused test next live b bytes not_b = record {
  within = omega arith;
  before = inhabited (byte test next) live;
  behind = behind;
  outside = λ h. absurd (let e : true ≡ false = sym h.0 ∙ not_b in cc);
}
  where
    behind : (more : ℕ) → 0 < more → more ≤ length (b ∷ bytes) → ¬ Begins (IsIn (byte test next)) (take more (b ∷ bytes))
    behind zero lt le h = absurd (omega arith)
    behind (suc more) lt le h = absurd (let e : true ≡ false = sym h.1.0 ∙ not_b in cc)

passed : (test : ℕ → Bool) (next : ℕ → Format) (b : ℕ) (bytes : List ℕ) (at : ℕ) → test b ≡ true
    → IsFirstFault (IsIn (next b)) bytes at → IsFirstFault (IsIn (byte test next)) (b ∷ bytes) (suc at)
passed test next b bytes at holds fault = record {
  within = omega (arith, fault.within);
  before = (fault.before.0, (holds, fault.before.1));
  behind = behind;
  outside = λ h. fault.outside h.1;
}
  where
    behind : (more : ℕ) → suc at < more → more ≤ length (b ∷ bytes) → ¬ Begins (IsIn (byte test next)) (take more (b ∷ bytes))
    behind zero lt le h = absurd (omega arith)
    behind (suc more) lt le h = fault.behind more (omega arith) (omega arith) (h.0, h.1.1)

-- the greater of two numbers is one of them
greater : (m n : ℕ) → (max m n ≡ m) ⊎ (max m n ≡ n)
greater m n = elim (cases_lt m n) [ inl lt ↦ inr (omega arith) | inr le ↦ inl (omega arith) ]

-- what goes on to be in one of two formats is in the two together
begins_this : (this that : Format) (front : List ℕ) → Begins (IsIn this) front → Begins (IsIn (either this that)) front
begins_this this that front h = (h.0, inl h.1)

begins_that : (this that : Format) (front : List ℕ) → Begins (IsIn that) front → Begins (IsIn (either this that)) front
begins_that this that front h = (h.0, inr h.1)

first_of_two : (this that : Format) (bytes : List ℕ) (m n : ℕ) → IsFirstFault (IsIn this) bytes m → IsFirstFault (IsIn that) bytes n
    → IsFirstFault (IsIn (either this that)) bytes (max m n)
first_of_two this that bytes m n first second = record {
  within = omega (arith, first.within, second.within);
  before = elim (greater m n) [
    | inl e ↦ subst (λ (k : ℕ). Begins (IsIn (either this that)) (take k bytes)) (sym e) (begins_this this that (take m bytes) first.before)
    | inr e ↦ subst (λ (k : ℕ). Begins (IsIn (either this that)) (take k bytes)) (sym e) (begins_that this that (take n bytes) second.before)
  ];
  behind = λ more lt le h. elim h.1 [
    | inl i ↦ first.behind more (omega arith) le (h.0, i)
    | inr i ↦ second.behind more (omega arith) le (h.0, i)
  ];
  outside = λ h. elim h [ inl i ↦ first.outside i | inr i ↦ second.outside i ];
}

tells_later : (this that : Format) (bytes : List ℕ) (m n : Option ℕ) → Tells this bytes m → Tells that bytes n → Tells (either this that) bytes (later m n)
tells_later this that bytes None n first second = inl first
tells_later this that bytes (Some m) None first second = inr second
tells_later this that bytes (Some m) (Some n) first second = first_of_two this that bytes m n first second

tells_passed : (test : ℕ → Bool) (next : ℕ → Format) (b : ℕ) (bytes : List ℕ) → test b ≡ true → (at : Option ℕ) → Tells (next b) bytes at
    → Tells (byte test next) (b ∷ bytes) (option_map suc at)
tells_passed test next b bytes holds None h = (holds, h)
tells_passed test next b bytes holds (Some at) h = passed test next b bytes at holds h

tells_byte : (test : ℕ → Bool) (next : ℕ → Format) (live : IsLive (byte test next)) (b : ℕ) (bytes : List ℕ)
    → (rest : Tells (next b) bytes (first_fault (next b) bytes)) (holds : Bool) → test b ≡ holds
    → Tells (byte test next) (b ∷ bytes) (cond holds (option_map suc (first_fault (next b) bytes)) (Some 0))
tells_byte test next live b bytes rest true is = tells_passed test next b bytes is (first_fault (next b) bytes) rest
tells_byte test next live b bytes rest false is = refused test next live b bytes is

pub tells : (f : Format) → IsLive f → (bytes : List ℕ) → Tells f bytes (first_fault f bytes)
tells ended live [] = tt
tells ended live (b ∷ bytes) = extra b bytes
tells (byte test next) live [] = at_end test next live
tells (byte test next) live (b ∷ bytes) = tells_byte test next live b bytes (tells (next b) (live.1 b) bytes) (test b) refl
tells (either this that) live bytes =
    tells_later this that bytes (first_fault this bytes) (first_fault that bytes) (tells this live.0 bytes) (tells that live.1 bytes)

-- the same of an answer that is the computed one
pub told : (f : Format) → IsLive f → (bytes : List ℕ) (at : Option ℕ) → at ≡ first_fault f bytes → MatchOption at (IsIn f bytes) (IsFirstFault (IsIn f) bytes)
told f live bytes at is = by at (subst (Tells f bytes) (sym is) (tells f live bytes))
  where
    by : (at : Option ℕ) → Tells f bytes at → MatchOption at (IsIn f bytes) (IsFirstFault (IsIn f) bytes)
    by None h = h
    by (Some n) h = h
