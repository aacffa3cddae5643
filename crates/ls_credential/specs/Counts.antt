-- What is counted of a credential's text.
use Rattle.std.specs.Prelude.{ℕ, ◌+◌, ◌≤◌, ◌&&◌, ◌||◌, not, nat_le, Bool, List, length, count_by}
use Rattle.ls_credential.specs.declared.measure.ByteClass.{ByteClass}
use Rattle.ls_credential.specs.declared.measure.ByteClass.TheVariants.{Upper, Lower, Digit, Symbol}
use Rattle.ls_credential.specs.declared.kind.Kind.{Kind}
use Rattle.ls_credential.specs.Rules.{KindAndText}
use Rattle.ls_credential.specs.Stretches.{run_of}

-- what is seen of metrics: the kind, and nine numbers of bytes
pub record KindAndCounts : Type 0 where
  pub kind : Kind
  pub length : ℕ
  pub letters : ℕ
  pub upper : ℕ
  pub lower : ℕ
  pub numeric : ℕ
  pub symbols : ℕ
  pub non_letter : ℕ
  pub non_numeric : ℕ
  pub run : ℕ

-- no number is above 16
pub record IsSmall (m : KindAndCounts) : Type 0 where
  pub length : m.length ≤ 16
  pub letters : m.letters ≤ 16
  pub upper : m.upper ≤ 16
  pub lower : m.lower ≤ 16
  pub numeric : m.numeric ≤ 16
  pub symbols : m.symbols ≤ 16
  pub non_letter : m.non_letter ≤ 16
  pub non_numeric : m.non_numeric ≤ 16
  pub run : m.run ≤ 16

-- `A` to `Z`
abbrev pub is_upper : ℕ → Bool
is_upper b = nat_le 0x41 b && nat_le b 0x5a

-- `a` to `z`
abbrev pub is_lower : ℕ → Bool
is_lower b = nat_le 0x61 b && nat_le b 0x7a

-- `0` to `9`
abbrev pub is_digit : ℕ → Bool
is_digit b = nat_le 0x30 b && nat_le b 0x39

-- the byte is of the class; a symbol is every byte that is of none of the others
abbrev pub is_of : ByteClass → ℕ → Bool
is_of Upper b = is_upper b
is_of Lower b = is_lower b
is_of Digit b = is_digit b
is_of Symbol b = not (is_upper b || (is_lower b || is_digit b))

-- how many bytes of the text are of the class
abbrev pub count_of : ByteClass → List ℕ → ℕ
count_of class text = count_by (is_of class) text

-- the counts of a credential
abbrev pub metrics_of : KindAndText → KindAndCounts
metrics_of c = record {
  kind = c.kind;
  length = length c.text;
  letters = count_of Upper c.text + count_of Lower c.text;
  upper = count_of Upper c.text;
  lower = count_of Lower c.text;
  numeric = count_of Digit c.text;
  symbols = count_of Symbol c.text;
  non_letter = count_of Digit c.text + count_of Symbol c.text;
  non_numeric = (count_of Upper c.text + count_of Lower c.text) + count_of Symbol c.text;
  run = run_of c.text;
}
