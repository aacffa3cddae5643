-- The `metrics` file of a user that a world holds.
use Rattle.std.proofs.Common.{◌≡◌, ℕ, Bool, true, false, List, Option, None, Some, Ok, refl, sym, ◌∙◌, ap}
use Rattle.std.specs.Prelude.{MatchOption}
use Rattle.ls_credential.specs.Counts.{KindAndCounts}
use Rattle.ls_secret.specs.Secrets.{SecretValue}
use Rattle.ls_formats.specs.declared.part.FilePart.TheVariants.{Metrics}
use Rattle.ls_formats.specs.Contents.{AreMetrics, metrics_bytes}
use Rattle.ls_formats.specs.Faults.{IsFirstFault}
use Rattle.ls_formats.specs.Files.{metrics_format}
use Rattle.ls_formats.specs.Format.{IsIn, first_fault}
use Rattle.ls_formats.proofs.ContentLemmas.{metrics_are}
use Rattle.ls_formats.proofs.FaultLemmas.{told}
use Rattle.ls_formats.proofs.FileLemmas.{metrics_live}
use Rattle.ls_sealing.specs.Protectors.{where_it_has}
use Rattle.ls_chain.specs.Links.{next_of, unless_at, sound_file}
use Rattle.ls_chain.specs.Linked.{IsInForm}
use Rattle.ls_chain.specs.MetricsFile.{metrics_text, counts_unless, counts_in}

-- what is spelled has no fault
pub spelled : (m : KindAndCounts) → AreMetrics m → first_fault metrics_format (metrics_bytes m) ≡ None
spelled m are = by (first_fault metrics_format (metrics_bytes m)) refl
  where
    by : (at : Option ℕ) → first_fault metrics_format (metrics_bytes m) ≡ at → first_fault metrics_format (metrics_bytes m) ≡ None
    by None e = e
    by (Some at) e = let fault : IsFirstFault (IsIn metrics_format) (metrics_bytes m) at = told metrics_format metrics_live (metrics_bytes m) (Some at) (sym e) in absurd (fault.outside (metrics_are.writes m are))

-- a file that opens to it
pub file_shows : (s : SecretValue) (m : KindAndCounts) (P : Type 0) → AreMetrics m → (P → ⊥) → (has : Bool) (file : Option (List ℕ)) → MatchOption (where_it_has has file) P (λ f. metrics_text s f ≡ Some (metrics_bytes m))
    → IsInForm Metrics (where_it_has has file) → next_of (sound_file Metrics file) (λ f. counts_in (metrics_text s f)) ≡ Ok (metrics_bytes m)
file_shows s m P are never true None shows form = absurd (never shows)
file_shows s m P are never true (Some bytes) shows form =
    ap (λ (at : Option ℕ). next_of (unless_at Metrics bytes at) (λ f. counts_in (metrics_text s f))) form
    ∙ ap counts_in shows
    ∙ ap (counts_unless (metrics_bytes m)) (spelled m are)
file_shows s m P are never false file shows form = absurd (never shows)
