-- The rules of a credential's text, in the order in which they are tested.
use Rattle.std.specs.Prelude.{ℕ, Bool, true, false, ◌&&◌, ◌||◌, not, List, [], ◌∷◌, length, Option, Some, None, nat_le, ◌==◌, if◌then◌else◌}
use Rattle.std.specs.List.{list_all, list_any}
use Rattle.ls_credential.specs.declared.kind.Kind.{Kind}
use Rattle.ls_credential.specs.declared.kind.Kind.TheVariants.{Empty, Pattern, Pin, Password}
use Rattle.ls_credential.specs.declared.fault.CredentialFault.{CredentialFault}
use Rattle.ls_credential.specs.declared.fault.CredentialFault.TheVariants.{Length, Alphabet, Repeat}

-- what is seen of a credential: its kind and its text
pub record KindAndText : Type 0 where
  pub kind : Kind
  pub text : List ℕ

-- the fewest bytes of a text
abbrev pub least : Kind → ℕ
least Empty = 0
least Pattern = 4
least Pin = 4
least Password = 4

-- the most bytes of a text
abbrev pub most : Kind → ℕ
most Empty = 0
most Pattern = 9
most Pin = 16
most Password = 16

-- the text is as long as its kind allows
abbrev pub has_good_length : Kind → List ℕ → Bool
has_good_length kind text = nat_le (least kind) (length text) && nat_le (length text) (most kind)

-- the bytes that a text may have: `1` to `9`, `0` to `9`, or all that are printed but the space
abbrev pub is_in_alphabet : Kind → ℕ → Bool
is_in_alphabet Empty b = false
is_in_alphabet Pattern b = nat_le 0x31 b && nat_le b 0x39
is_in_alphabet Pin b = nat_le 0x30 b && nat_le b 0x39
is_in_alphabet Password b = nat_le 0x21 b && nat_le b 0x7e

-- some byte stands in two places
abbrev pub has_repeat : List ℕ → Bool
has_repeat [] = false
has_repeat (b ∷ text) = list_any (λ c. c == b) text || has_repeat text

-- the kinds whose text has no byte twice
abbrev pub is_distinct : Kind → Bool
is_distinct Empty = false
is_distinct Pattern = true
is_distinct Pin = false
is_distinct Password = false

-- the first rule that the text breaks
abbrev pub fault_of : Kind → List ℕ → Option CredentialFault
fault_of kind text =
    if not (has_good_length kind text) then Some Length
    else if not (list_all (is_in_alphabet kind) text) then Some Alphabet
    else if is_distinct kind && has_repeat text then Some Repeat
    else None
