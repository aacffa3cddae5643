-- The one line that has a command.
use Rattle.std.proofs.Common.{◌≡◌, ◌<◌, ◌≤◌, ◌+◌, ◌^◌, ◌++◌, ℕ, true, false, cond, List, length, take, refl, sym, ◌∙◌, ap, arith, length-append, length-take, inl, inr}
use Rattle.std.specs.Prelude.{Option, Some, None, IfSome, nat_lt, ◌&&◌, codes}
use Rattle.std.specs.Fmt.{decimal}
use Rattle.std.specs.Str.{bytes_eq}
use Rattle.std.specs.Str.Parse.{digits_value}
use Rattle.std.proofs.lemmas.Bool.{cases_lt, lt-ltb, ltb-true}
use Rattle.std.proofs.lemmas.List.{take_at, take_all}
use Rattle.std.proofs.lemmas.Slice.Eq.{bytes_eq-Decides}
use Rattle.std.proofs.lemmas.Fmt.{digits_value-decimal, length-decimal-le}
use Rattle.ls_top.specs.declared.vault.Command.{Command}
use Rattle.ls_top.specs.declared.vault.Command.TheVariants.{Add}
use Rattle.ls_top.specs.Lines.{IsAddLine, add_line, operand, command_of}
use Rattle.ls_top.proofs.NumberLemmas.{own}

-- a command comes from its line alone
pub command_sound : (line : List ℕ) (user : ℕ) → command_of line ≡ Some (Add user) → IsAddLine line user
command_sound line user is =
    elim (bytes_eq line (add_line (digits_value 10 (operand line)))) as (λ b. bytes_eq line (add_line (digits_value 10 (operand line))) ≡ b
    → cond (b && nat_lt (digits_value 10 (operand line)) (2 ^ 32)) (Some (Add (digits_value 10 (operand line)))) None ≡ Some (Add user) → IsAddLine line user) [
      | true ↦ λ same. elim (nat_lt (digits_value 10 (operand line)) (2 ^ 32)) as (λ b. nat_lt (digits_value 10 (operand line)) (2 ^ 32) ≡ b
          → cond b (Some (Add (digits_value 10 (operand line)))) None ≡ Some (Add user) → IsAddLine line user) [
            | true ↦ λ small gives.
                let number : digits_value 10 (operand line) ≡ user = cc in
                record {
                  number = omega (arith, number, ltb-true (digits_value 10 (operand line)) (2 ^ 32) small);
                  spelled = (bytes_eq-Decides line (add_line (digits_value 10 (operand line)))).0 same ∙ ap add_line number;
                }
            | false ↦ λ large gives. absurd (cc)
          ] refl
      | false ↦ λ other gives. absurd (cc)
    ] refl is

operand_is : (user : ℕ) → operand (add_line user) ≡ decimal user
operand_is user = take_at (decimal user) (codes " plain") _ (omega (arith, length-append (decimal user) (codes " plain")))

-- and each such line has it
pub command_complete : (line : List ℕ) (user : ℕ) → IsAddLine line user → command_of line ≡ Some (Add user)
command_complete line user is = rw is.spelled (of_line)
  where
    value : digits_value 10 (operand (add_line user)) ≡ user
    value = ap (digits_value 10) (operand_is user) ∙ digits_value-decimal own user (omega (arith, is.number))

    of_line : command_of (add_line user) ≡ Some (Add user)
    of_line = rw (value, (bytes_eq-Decides (add_line user) (add_line user)).1 refl, lt-ltb user (2 ^ 32) is.number) refl

-- no line of a command has more than 25 bytes
pub command_short : (line : List ℕ) (user : ℕ) → IsAddLine line user → length line ≤ 25
command_short line user is = omega (arith, ap length is.spelled, length_line, length-decimal-le 10 user (omega arith) (omega (arith, is.number)) (omega (arith, is.number)))
  where
    length_line : length (add_line user) ≡ 15 + length (decimal user)
    length_line = omega (arith, length-append (decimal user) (codes " plain"))

-- a line that no command's line is has none
pub no_command : (line : List ℕ) → ((user : ℕ) → IsAddLine line user → ⊥) → None ≡ command_of line
no_command line other = by_cases (command_of line) refl
  where
    by_cases : (o : Option Command) → command_of line ≡ o → None ≡ command_of line
    by_cases None is = sym is
    by_cases (Some (Add user)) is = absurd (other user (command_sound line user is))

-- the parts of a line, put together
pub line_read : (line rest operand : List ℕ) (o : Option ℕ) → line ≡ codes "user-add " ++ rest → rest ≡ operand ++ codes " plain"
    → IfSome o (λ n. operand ≡ decimal n) → IfSome o (λ n. line ≡ add_line n)
line_read line rest operand None front back spelled = tt
line_read line rest operand (Some n) front back spelled =
    front ∙ ap (λ (r : List ℕ). codes "user-add " ++ r) (back ∙ ap (λ (t : List ℕ). t ++ codes " plain") spelled)

-- ---- long lines

long_line : (line : List ℕ) → 25 < length line → None ≡ command_of line
long_line line long = no_command line (λ user is. omega (arith, command_short line user is))

-- the first 4,097 bytes of a line have its command
pub command_of_front : (line : List ℕ) → command_of (take 4097 line) ≡ command_of line
command_of_front line = elim (cases_lt 4097 (length line)) [
  | inl long ↦ sym (long_line (take 4097 line) (omega (arith, length-take 4097 line))) ∙ long_line line (omega arith)
  | inr short ↦ ap command_of (take_all 4097 line short)
]
