-- What a name names, and when it is left.
use Rattle.std.proofs.Common.{◌≡◌, not, ℕ, Bool, true, false, List, sym, ◌∙◌, subst}
use Rattle.std.specs.Prelude.{◌&&◌, MatchBool, Option, None, Some, Result, Ok, Err}
use Rattle.std.specs.List.{Contains}
use Rattle.ls_formats.specs.declared.fault.FormatFault.{FormatFault}
use Rattle.ls_formats.specs.declared.fault.FormatFault.TheVariants.{Bad, Memory}
use Rattle.ls_formats.specs.declared.name.FileName.{FileName}
use Rattle.ls_formats.specs.declared.name.FileName.TheVariants.{Settings, Protector}
use Rattle.ls_formats.specs.Faults.{Parses, Spells}
use Rattle.ls_formats.specs.FileNames.{IsFileName, name_text}
use Rattle.ls_formats.specs.PartNames.{PartOf}
use Rattle.ls_record.specs.Rows.{Rec}
use Rattle.ls_naming.specs.Named.{NamesFile}
use Rattle.ls_sweep.specs.Files.{IsUnnamedFile, IsPartNamed, part_in}

-- ---- what a name names

read_file : (n : List ℕ) (file : FileName) → Parses IsFileName name_text n (Ok file) → IsPartNamed n (part_in file)
read_file n (Settings side) parses = λ part is same.
    let e : Protector part ≡ Settings side = parses.2 (Protector part) is (sym same) in cc
read_file n (Protector part) parses = (
  parses.0,
  sym parses.1,
  λ other is same. part_same other part (parses.2 (Protector other) is (sym same)),
)
  where
    part_same : (a b : PartOf) → Protector a ≡ Protector b → a ≡ b
    part_same a b e = cc

-- a name that is read
pub read_part : (n text : List ℕ) (found : Option PartOf) (r : Result FileName FormatFault) (file : FileName) → text ≡ n → r ≡ Ok file
    → Parses IsFileName name_text text r → found ≡ part_in file → IsPartNamed n found
read_part n text found r file same is parses in_file =
    subst (λ (o : Option PartOf). IsPartNamed n o) (sym in_file)
    (read_file n file (subst (λ (l : List ℕ). Parses IsFileName name_text l (Ok file)) same (subst (Parses IsFileName name_text text) is parses)))

not_spelled : (n : List ℕ) (fault : FormatFault) → Parses IsFileName name_text n (Err fault) → ¬ Spells IsFileName name_text n
not_spelled n (Bad at) parses = parses.outside
not_spelled n Memory parses = absurd parses

-- and one that isn't
pub unread_part : (n text : List ℕ) (r : Result FileName FormatFault) (fault : FormatFault) → text ≡ n → r ≡ Err fault → Parses IsFileName name_text text r → IsPartNamed n None
unread_part n text r fault same is parses part keeps spelled =
    not_spelled text fault (subst (Parses IsFileName name_text text) is parses) (Protector part, keeps, sym (same ∙ spelled))

-- ---- what is unnamed

module _ (weaver : Bool) (r : Rec) (retired : List (List ℕ)) (n : List ℕ) where
  -- none is named
  pub no_part : IsPartNamed n None → ¬ IsUnnamedFile weaver r retired n
  no_part none left = none left.name left.part left.spelled

  -- neither named nor retired
  pub one_part : (part : PartOf) (named current : Bool) → IsPartNamed n (Some part) → MatchBool named (NamesFile weaver r part) (¬ NamesFile weaver r part)
      → MatchBool current (Contains retired n) (¬ Contains retired n) → MatchBool (not named && not current) (IsUnnamedFile weaver r retired n) (¬ IsUnnamedFile weaver r retired n)
  one_part part true current is has kept = λ left. left.unnamed (subst (NamesFile weaver r) (sym (is.2 left.name left.part left.spelled)) has)
  one_part part false true is none kept = λ left. left.current kept
  one_part part false false is none gone =
      let left : IsUnnamedFile weaver r retired n = record { name = part; part = is.0; spelled = is.1; unnamed = none; current = gone } in left
