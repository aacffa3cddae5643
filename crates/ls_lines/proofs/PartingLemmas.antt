-- Parting a script at 0x0A.
use Rattle.std.proofs.Common.{◌≢◌, ◌≡◌, ◌<◌, ◌≤◌, ◌+◌, ◌++◌, ℕ, zero, suc, Bool, true, false, cond, List, [], ◌∷◌, length, take, drop, refl, sym, ◌∙◌, ap, subst, arith, append_assoc, one-add, add-one, ◌-◌}
use Rattle.std.specs.Prelude.{◌==◌, not}
use Rattle.std.specs.List.{AllByRecursion, flat_map, prefix_len}
use Rattle.std.proofs.lemmas.List.{take_rest}
use Rattle.std.proofs.lemmas.List.Sums.{sum_by-append}
use Rattle.std.proofs.lemmas.Bool.{eqb-true, eqb-false, ne_eqb}
use Rattle.ls_lines.specs.Lines.{ended, ended_count, HasNoEnd, Parting, parted, with_first, last_line, lines_of}

with_first_front : (b : ℕ) (lines : List (List ℕ)) (rest : List ℕ) (more : List (List ℕ)) (last : List ℕ)
    → with_first b (lines ++ rest ∷ more) last
    ≡ record { whole = (with_first b lines rest).whole ++ (with_first b lines rest).rest ∷ more; rest = last }
with_first_front b [] rest more last = refl
with_first_front b (line ∷ lines) rest more last = refl

-- a 0x0A ends what stood behind the last one
pub parted_line : (s more : List ℕ)
    → parted (s ++ 10 ∷ more) ≡ record { whole = (parted s).whole ++ (parted s).rest ∷ (parted more).whole; rest = (parted more).rest }
parted_line [] more = refl
parted_line (b ∷ s) more = elim (b == 10) as (λ t. cond t
    (record { whole = [] ∷ (parted (s ++ 10 ∷ more)).whole; rest = (parted (s ++ 10 ∷ more)).rest })
    (with_first b (parted (s ++ 10 ∷ more)).whole (parted (s ++ 10 ∷ more)).rest)
    ≡ record {
      whole = (cond t (record { whole = [] ∷ (parted s).whole; rest = (parted s).rest }) (with_first b (parted s).whole (parted s).rest)).whole
          ++ (cond t (record { whole = [] ∷ (parted s).whole; rest = (parted s).rest }) (with_first b (parted s).whole (parted s).rest)).rest ∷ (parted more).whole;
      rest = (parted more).rest;
    }) [
      | true ↦ ap (λ (p : Parting). record { whole = [] ∷ p.whole; rest = p.rest }) (parted_line s more)
      | false ↦ ap (λ (p : Parting). with_first b p.whole p.rest) (parted_line s more)
          ∙ with_first_front b (parted s).whole (parted s).rest (parted more).whole (parted more).rest
    ]

with_first_back : (b : ℕ) (lines : List (List ℕ)) (rest : List ℕ) (c : ℕ)
    → with_first b lines (rest ++ c ∷ []) ≡ record { whole = (with_first b lines rest).whole; rest = (with_first b lines rest).rest ++ c ∷ [] }
with_first_back b [] rest c = refl
with_first_back b (line ∷ lines) rest c = refl

-- any other byte goes on with it
pub parted_byte : (s : List ℕ) (c : ℕ) → (c == 10) ≡ false
    → parted (s ++ c ∷ []) ≡ record { whole = (parted s).whole; rest = (parted s).rest ++ c ∷ [] }
parted_byte [] c other = rw other refl
parted_byte (b ∷ s) c other = elim (b == 10) as (λ t. cond t
    (record { whole = [] ∷ (parted (s ++ c ∷ [])).whole; rest = (parted (s ++ c ∷ [])).rest })
    (with_first b (parted (s ++ c ∷ [])).whole (parted (s ++ c ∷ [])).rest)
    ≡ record {
      whole = (cond t (record { whole = [] ∷ (parted s).whole; rest = (parted s).rest }) (with_first b (parted s).whole (parted s).rest)).whole;
      rest = (cond t (record { whole = [] ∷ (parted s).whole; rest = (parted s).rest }) (with_first b (parted s).whole (parted s).rest)).rest ++ c ∷ [];
    }) [
      | true ↦ ap (λ (p : Parting). record { whole = [] ∷ p.whole; rest = p.rest }) (parted_byte s c other)
      | false ↦ ap (λ (p : Parting). with_first b p.whole p.rest) (parted_byte s c other)
          ∙ with_first_back b (parted s).whole (parted s).rest c
    ]

-- what has no 0x0A is no whole line
pub parted_rest : (s : List ℕ) → AllByRecursion (λ b. (b == 10) ≡ false) s → parted s ≡ record { whole = []; rest = s }
parted_rest [] none = refl
parted_rest (b ∷ s) none = rw none.0 (ap (λ (p : Parting). with_first b p.whole p.rest) (parted_rest s none.1))

-- the line that a 0x0A ends comes next
pub next_line : (s more : List ℕ) → lines_of (s ++ 10 ∷ more) ≡ (parted s).whole ++ (parted s).rest ∷ lines_of more
next_line s more =
    ap (λ (p : Parting). p.whole ++ last_line p.rest) (parted_line s more)
    ∙ append_assoc (parted s).whole ((parted s).rest ∷ (parted more).whole) (last_line (parted more).rest)

-- what stands behind the last 0x0A is the last line, if there is something
pub last_lines : (rest : List ℕ) → 0 < length rest → last_line rest ≡ rest ∷ []
last_lines [] some = absurd (omega arith)
last_lines (b ∷ rest) some = refl

-- ---- the first line of a script

pub first_of : (line more : List ℕ) → AllByRecursion (λ b. (b == 10) ≡ false) line → lines_of (line ++ 10 ∷ more) ≡ line ∷ lines_of more
first_of line more none = next_line line more
    ∙ ap (λ (p : Parting). p.whole ++ p.rest ∷ lines_of more) (parted_rest line none)

pub only_line : (line : List ℕ) → AllByRecursion (λ b. (b == 10) ≡ false) line → 0 < length line → lines_of line ≡ line ∷ []
only_line line none some = ap (λ (p : Parting). p.whole ++ last_line p.rest) (parted_rest line none) ∙ last_lines line some

-- the script is cut at its first 0x0A
cut_at : (s : List ℕ) → prefix_len (λ b. not (b == 10)) s < length s
    → AllByRecursion (λ b. (b == 10) ≡ false) (take (prefix_len (λ b. not (b == 10)) s) s)
    × (s ≡ take (prefix_len (λ b. not (b == 10)) s) s ++ 10 ∷ drop (prefix_len (λ b. not (b == 10)) s + 1) s)
cut_at [] within = absurd (omega arith)
cut_at (b ∷ s) within = elim (b == 10) as (λ t. (b == 10) ≡ t → cond (not t) (1 + prefix_len (λ b. not (b == 10)) s) 0 < suc (length s)
    → AllByRecursion (λ b. (b == 10) ≡ false) (take (cond (not t) (1 + prefix_len (λ b. not (b == 10)) s) 0) (b ∷ s))
    × (b ∷ s ≡ take (cond (not t) (1 + prefix_len (λ b. not (b == 10)) s) 0) (b ∷ s) ++ 10 ∷ drop (cond (not t) (1 + prefix_len (λ b. not (b == 10)) s) 0 + 1) (b ∷ s))) [
      | true ↦ λ is below. (tt, ap (λ (x : ℕ). x ∷ s) (eqb-true b 10 is))
      | false ↦ λ is below.
          let more = cut_at s (omega arith) in
          rw (one-add, add-one) ((is, more.0), ap (λ (l : List ℕ). b ∷ l) (rw add-one at more.1))
    ] refl within

pub first_cut : (s : List ℕ) (n : ℕ) → n ≡ prefix_len (λ b. not (b == 10)) s → n < length s
    → lines_of s ≡ take n s ∷ lines_of (take (length s - (n + 1)) (drop (n + 1) s))
first_cut s n is within =
    let cut = cut_at s (omega arith) in
    let line = subst (λ (k : ℕ). AllByRecursion (λ b. (b == 10) ≡ false) (take k s)) (sym is) cut.0 in
    let same : s ≡ take n s ++ 10 ∷ drop (n + 1) s = subst (λ (k : ℕ). s ≡ take k s ++ 10 ∷ drop (k + 1) s) (sym is) cut.1 in
    ap lines_of same ∙ first_of (take n s) (drop (n + 1) s) line ∙ ap (λ (l : List ℕ). take n s ∷ lines_of l) (sym (take_rest s (n + 1)))

-- a script with no 0x0A
uncut : (s : List ℕ) → length s ≤ prefix_len (λ b. not (b == 10)) s → AllByRecursion (λ b. (b == 10) ≡ false) s
uncut [] whole = tt
uncut (b ∷ s) whole = elim (b == 10) as (λ t. (b == 10) ≡ t → suc (length s) ≤ cond (not t) (1 + prefix_len (λ b. not (b == 10)) s) 0 → ((b == 10) ≡ false) × AllByRecursion (λ b. (b == 10) ≡ false) s) [
  | true ↦ λ is long. absurd (omega arith)
  | false ↦ λ is long. (is, uncut s (omega arith))
] refl whole

pub first_uncut : (s : List ℕ) (n : ℕ) → n ≡ prefix_len (λ b. not (b == 10)) s → length s ≤ n → 0 < length s → lines_of s ≡ s ∷ []
first_uncut s n is whole some = only_line s (uncut s (omega arith)) some

-- ---- a script is its lines and the rest

joined_first : (b : ℕ) (lines : List (List ℕ)) (rest : List ℕ)
    → flat_map ended (with_first b lines rest).whole ++ (with_first b lines rest).rest ≡ b ∷ (flat_map ended lines ++ rest)
joined_first b [] rest = refl
joined_first b (line ∷ lines) rest = refl

pub parted_joined : (script : List ℕ) → script ≡ flat_map ended (parted script).whole ++ (parted script).rest
parted_joined [] = refl
parted_joined (b ∷ s) = elim (b == 10) as (λ t. (b == 10) ≡ t → b ∷ s
    ≡ flat_map ended (cond t (record { whole = [] ∷ (parted s).whole; rest = (parted s).rest }) (with_first b (parted s).whole (parted s).rest)).whole
    ++ (cond t (record { whole = [] ∷ (parted s).whole; rest = (parted s).rest }) (with_first b (parted s).whole (parted s).rest)).rest) [
      | true ↦ λ is. ap (λ (x : ℕ). x ∷ s) (eqb-true b 10 is) ∙ ap (λ (l : List ℕ). 10 ∷ l) (parted_joined s)
      | false ↦ λ is. ap (λ (l : List ℕ). b ∷ l) (parted_joined s) ∙ sym (joined_first b (parted s).whole (parted s).rest)
    ] refl

unended_first : (b : ℕ) (lines : List (List ℕ)) (rest : List ℕ) → b ≢ 10 → AllByRecursion HasNoEnd lines × HasNoEnd rest
    → AllByRecursion HasNoEnd (with_first b lines rest).whole × HasNoEnd (with_first b lines rest).rest
unended_first b [] rest other none = (tt, (other, none.1))
unended_first b (line ∷ lines) rest other none = (((other, none.0.0), none.0.1), none.1)

pub parted_unended : (script : List ℕ) → AllByRecursion HasNoEnd (parted script).whole × HasNoEnd (parted script).rest
parted_unended [] = (tt, tt)
parted_unended (b ∷ s) = elim (b == 10) as (λ t. (b == 10) ≡ t
    → AllByRecursion HasNoEnd (cond t (record { whole = [] ∷ (parted s).whole; rest = (parted s).rest }) (with_first b (parted s).whole (parted s).rest)).whole
    × HasNoEnd (cond t (record { whole = [] ∷ (parted s).whole; rest = (parted s).rest }) (with_first b (parted s).whole (parted s).rest)).rest) [
      | true ↦ λ is. ((tt, (parted_unended s).0), (parted_unended s).1)
      | false ↦ λ is. unended_first b (parted s).whole (parted s).rest (eqb-false b 10 is) (parted_unended s)
    ] refl

-- ---- there is one parting alone

tested : (bytes : List ℕ) → HasNoEnd bytes → AllByRecursion (λ b. (b == 10) ≡ false) bytes
tested [] none = tt
tested (b ∷ bytes) none = (ne_eqb b 10 none.0, tested bytes none.1)

-- its whole lines and its rest are these
abbrev Parts : List ℕ → List (List ℕ) → List ℕ → Type 0
Parts script lines rest = ((parted script).whole ≡ lines) × ((parted script).rest ≡ rest)

of_parting : (script : List ℕ) (p : Parting) → parted script ≡ p → Parts script p.whole p.rest
of_parting script p is = (ap (λ (q : Parting). q.whole) is, ap (λ (q : Parting). q.rest) is)

pub parted_only : (lines : List (List ℕ)) (rest : List ℕ) → AllByRecursion HasNoEnd lines → HasNoEnd rest → Parts (flat_map ended lines ++ rest) lines rest
parted_only [] rest none last = of_parting rest (record { whole = []; rest = rest }) (parted_rest rest (tested rest last))
parted_only (line ∷ lines) rest none last =
    let more = flat_map ended lines ++ rest in
    let inner = parted_only lines rest none.1 last in
    let joined : flat_map ended (line ∷ lines) ++ rest ≡ line ++ 10 ∷ more =
    append_assoc (ended line) (flat_map ended lines) rest ∙ append_assoc line (10 ∷ []) more in
    let alone = parted_rest line (tested line none.0) in
    let cut = of_parting (line ++ 10 ∷ more) (record { whole = (parted line).whole ++ (parted line).rest ∷ (parted more).whole; rest = (parted more).rest }) (parted_line line more) in
    subst (λ (s : List ℕ). Parts s (line ∷ lines) rest) (sym joined)
    (cut.0 ∙ (ap (λ (p : Parting). p.whole ++ p.rest ∷ (parted more).whole) alone ∙ ap (λ (l : List (List ℕ)). line ∷ l) inner.0), cut.1 ∙ inner.1)

-- ---- how many lines are ended

pub ended_append : (s more : List ℕ) → ended_count (s ++ more) ≡ ended_count s + ended_count more
ended_append s more = sum_by-append _ s more

-- a front ends no more of them
pub ended_front : (k : ℕ) (s : List ℕ) → ended_count (take k s) ≤ ended_count s
ended_front zero s = omega arith
ended_front (suc k) [] = omega arith
ended_front (suc k) (b ∷ s) =
    let front : ended_count (take (suc k) (b ∷ s)) ≡ ended_count (b ∷ []) + ended_count (take k s) = ended_append (b ∷ []) (take k s) in
    let all : ended_count (b ∷ s) ≡ ended_count (b ∷ []) + ended_count s = ended_append (b ∷ []) s in
    omega (arith, front, all, ended_front k s)

count_first : (b : ℕ) (lines : List (List ℕ)) (rest : List ℕ) → length (with_first b lines rest).whole ≡ length lines
count_first b [] rest = refl
count_first b (line ∷ lines) rest = refl

count_byte : (b : ℕ) (s : List ℕ) (p : Parting) → ended_count s ≡ length p.whole → (t : Bool) → (b == 10) ≡ t
    → ended_count (b ∷ []) + ended_count s
    ≡ length (cond t (record { whole = [] ∷ p.whole; rest = p.rest }) (with_first b p.whole p.rest)).whole
count_byte b s p same true is = omega (arith, same, ap (λ (t : Bool). 0 + cond t 1 0) is)
count_byte b s p same false is = omega (arith, same, count_first b p.whole p.rest, ap (λ (t : Bool). 0 + cond t 1 0) is)

pub parted_count : (script : List ℕ) → ended_count script ≡ length (parted script).whole
parted_count [] = refl
parted_count (b ∷ s) = ended_append (b ∷ []) s ∙ count_byte b s (parted s) (parted_count s) (b == 10) refl
