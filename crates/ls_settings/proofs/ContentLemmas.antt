-- What the code reads of the front of a settings file, for the whole file.
use Rattle.std.proofs.Common.{◌≡◌, ◌≤◌, ◌+◌, min, ℕ, Bool, List, length, take, if◌then◌else◌, Some, Result, Ok, Err, ◌∙◌, ap, arith, le-ltb, ne_eqb}
use Rattle.std.proofs.lemmas.List.{take_all}
use Rattle.ls_record.specs.Rows.{Rec}
use Rattle.ls_naming.specs.Current.{base_of, journal_end, entry_places, format_of, and_then, whole_says, front_says, file_says}
use Rattle.ls_settings.specs.declared.content.Content.{Content}
use Rattle.ls_settings.specs.declared.fault.FileFault.{FileFault}
use Rattle.ls_settings.specs.declared.fault.FileFault.TheVariants.{Foreign, Memory}
use Rattle.ls_settings.specs.FileReading.{TellsPlace, IsContent}

module _ (bytes : List ℕ) (head : 13 ≤ length bytes) where
  by_front : file_says bytes ≡ and_then (front_says (take 4096 bytes)) (whole_says (length bytes))
  by_front = ap (λ (b : Bool). if b then Err (length bytes) else and_then (front_says (take 4096 bytes)) (whole_says (length bytes))) (le-ltb (length bytes) 13 head)

  pub front_err : (e : FileFault) → TellsPlace (front_says (take 4096 bytes)) e → TellsPlace (file_says bytes) e
  front_err (Foreign at) tells = by_front ∙ ap (λ (x : Result Rec ℕ). and_then x (whole_says (length bytes))) tells
  front_err Memory tells = tt

  pub front_long : (c : Content) → IsContent (take 4096 bytes) (front_says (take 4096 bytes)) c → (length bytes ≡ 4096 → ⊥) → file_says bytes ≡ Err (min (length bytes) 4096)
  front_long c is other =
      by_front ∙ ap (λ (x : Result Rec ℕ). and_then x (whole_says (length bytes))) is.says_record
      ∙ ap (λ (b : Bool). if b then Ok c.record else Err (min (length bytes) 4096)) (ne_eqb (length bytes) 4096 other)

  pub front_whole : (c : Content) → IsContent (take 4096 bytes) (front_says (take 4096 bytes)) c → length bytes ≡ 4096 → IsContent bytes (file_says bytes) c
  front_whole c is long =
      let all : take 4096 bytes ≡ bytes = take_all 4096 bytes (omega (arith, long)) in
      record {
        says_record = by_front ∙ ap (λ (x : Result Rec ℕ). and_then x (whole_says (length bytes))) is.says_record ∙ ap (λ (n : ℕ). whole_says n c.record) long;
        sequence = is.sequence ∙ ap (λ (b : List ℕ). base_of (Some b) + length (entry_places b)) all;
        end = is.end ∙ ap journal_end all;
        format = is.format ∙ ap format_of all;
      }
