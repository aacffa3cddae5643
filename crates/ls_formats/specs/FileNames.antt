-- The names of settings files and of protector files, and the one spelling of each.
use Rattle.std.specs.Prelude.{◌==◌, ℕ, Bool, true, false, List, [], ◌∷◌, codes}
use Rattle.std.specs.List.{list_all}
use Rattle.ls_formats.specs.declared.field.Rule.TheVariants.{HexDigit}
use Rattle.ls_formats.specs.declared.name.FileName.{FileName}
use Rattle.ls_formats.specs.declared.name.FileName.TheVariants.{Settings, Protector}
use Rattle.ls_formats.specs.PartNames.{IsPartOf, part_name_text, settings_text}
use Rattle.ls_formats.specs.Format.{Format, ended, byte, either}
use Rattle.ls_formats.specs.Rules.{field_then}

-- a protector's file is named as its part says, and each settings file has its name
abbrev pub IsFileName : FileName → Type 0
IsFileName (Settings side) = Unit {0}
IsFileName (Protector name) = IsPartOf name

abbrev pub name_text : FileName → List ℕ
name_text (Settings side) = settings_text side
name_text (Protector name) = part_name_text name

-- ---- the names as a format

-- this text, and then what may follow it
abbrev pub text_then : List ℕ → Format → Format
text_then [] next = next
text_then (b ∷ text) next = byte (λ c. c == b) (λ _. text_then text next)

-- one of these texts, and nothing more
abbrev pub one_of : List ℕ → List (List ℕ) → Format
one_of text [] = text_then text ended
one_of text (other ∷ others) = either (text_then text ended) (one_of other others)

-- each digit is 0
abbrev pub is_zero : List ℕ → Bool
is_zero digits = list_all (λ d. d == 48) digits

-- the parts of a user, where the id is 0, and those of a protector
abbrev pub part_format : Bool → Format
part_format true = one_of (codes "handle") (codes "e0" ∷ codes "p1" ∷ codes "resume" ∷ [])
part_format false = one_of (codes "spblob") (codes "pwd" ∷ codes "secdis" ∷ codes "weaver" ∷ codes "metrics" ∷ [])

abbrev pub id_format : Format
id_format = field_then 16 HexDigit (λ id. text_then (codes ".") (part_format (is_zero id)))

abbrev pub name_format : Format
name_format =
    either (one_of (codes "settings.0") (codes "settings.1" ∷ []))
    (field_then 8 HexDigit (λ user. text_then (codes ".") id_format))
