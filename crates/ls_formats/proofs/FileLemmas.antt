-- Each format of a file's contents lets some bytes stand.
use Rattle.std.proofs.Common.{◌≡◌, ℕ, zero, suc, ◌++◌, true, List, [], ◌∷◌, refl}
use Rattle.ls_formats.specs.declared.field.Rule.{Rule}
use Rattle.ls_formats.specs.declared.field.Rule.TheVariants.{Any, StoredKind}
use Rattle.ls_formats.specs.declared.field.Field.{Field}
use Rattle.ls_formats.specs.declared.part.FilePart.{FilePart}
use Rattle.ls_formats.specs.declared.part.FilePart.TheVariants.{SpBlob, Pwd, Secdis, Weaver, Metrics, Handle, E0, P1, Resume}
use Rattle.ls_formats.specs.Format.{Format}
use Rattle.ls_formats.specs.Rules.{passes, field_then, row}
use Rattle.ls_formats.specs.Files.{format_of, pwd_head, just, field, count, metrics_format}
use Rattle.ls_formats.proofs.FaultLemmas.{IsLive}

-- some byte passes the rule
abbrev pub IsMet : Rule → Type 0
IsMet rule = (b : ℕ) × (passes rule b ≡ true)

pub field_lives : (n : ℕ) (rule : Rule) (next : List ℕ → Format) → IsMet rule → ((bytes : List ℕ) → IsLive (next bytes)) → IsLive (field_then n rule next)
unfolding field_then
field_lives zero rule next met live = live []
field_lives (suc n) rule next met live = (met, λ b. field_lives n rule (λ bytes. next (b ∷ bytes)) met (λ bytes. live (b ∷ bytes)))

-- each rule of the fields is met
abbrev pub AreMet : List Field → Type 0
AreMet [] = Unit {0}
AreMet (f ∷ fields) = IsMet f.rule × AreMet fields

pub row_lives : (fields : List Field) → AreMet fields → IsLive (row fields)
row_lives [] met = tt
row_lives (f ∷ fields) met = field_lives f.width f.rule (λ _. row fields) met.0 (λ _. row_lives fields met.1)

any_met : IsMet Any
any_met = (0, refl)

kind_met : IsMet StoredKind
kind_met = (1, refl)

pub format_lives : (part : FilePart) → IsLive (format_of part)
format_lives SpBlob = tt
format_lives Pwd =
    let plain : AreMet (pwd_head ++ just 0 ∷ []) = (kind_met, ((1, refl), ((0, refl), ((0, refl), (any_met, ((0, refl), tt)))))) in
    let handled : AreMet (pwd_head ++ just 49 ∷ field 49 Any ∷ []) = (kind_met, ((1, refl), ((0, refl), ((0, refl), (any_met, ((49, refl), (any_met, tt))))))) in
    (row_lives (pwd_head ++ just 0 ∷ []) plain, row_lives (pwd_head ++ just 49 ∷ field 49 Any ∷ []) handled)
format_lives Secdis = (row_lives (field 16384 Any ∷ []) (any_met, tt), row_lives (field 16412 Any ∷ []) (any_met, tt))
format_lives Weaver = row_lives (just 1 ∷ field 4 Any ∷ []) ((1, refl), (any_met, tt))
format_lives Metrics = row_lives (field 38 Any ∷ []) (any_met, tt)
format_lives Handle = row_lives (field 49 Any ∷ []) (any_met, tt)
format_lives E0 = row_lives (field 60 Any ∷ []) (any_met, tt)
format_lives P1 = row_lives (field 32 Any ∷ []) (any_met, tt)
format_lives Resume = row_lives (just 1 ∷ field 184 Any ∷ []) ((1, refl), (any_met, tt))

pub metrics_live : IsLive metrics_format
metrics_live =
    let met : AreMet (field 1 StoredKind ∷ count ∷ count ∷ count ∷ count ∷ count ∷ count ∷ count ∷ count ∷ count ∷ []) =
    (kind_met, ((0, refl), ((0, refl), ((0, refl), ((0, refl), ((0, refl), ((0, refl), ((0, refl), ((0, refl), ((0, refl), tt)))))))))) in
    row_lives (field 1 StoredKind ∷ count ∷ count ∷ count ∷ count ∷ count ∷ count ∷ count ∷ count ∷ count ∷ []) met
