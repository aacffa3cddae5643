-- Reading the entries of a journal, one by one.
use Rattle.std.proofs.Common.{◌≡◌, ◌≤◌, ◌<◌, ◌+◌, ◌-◌, ◌==◌, not, ℕ, Bool, true, false, List, [], ◌∷◌, length, if◌then◌else◌, Result, Err, refl, sym, ◌∙◌, ap, arith, eq-eqb, ne_eqb, ltb-true, nat_lt, get_or, ◌^◌}
use Rattle.std.proofs.lemmas.Bool.{and_parts}
use Rattle.ls_record.specs.declared.fault.RecordFault.{RecordFault}
use Rattle.ls_record.specs.declared.fault.RecordFault.TheVariants.{Short, Order, Limit, Extra, Memory as NoMemory}
use Rattle.ls_record.specs.Rows.{Rec}
use Rattle.ls_record.specs.Gives.{Tells}
use Rattle.ls_record.specs.EditReading.{edited_of}
use Rattle.ls_naming.specs.Current.{stands_at, entry_fits, entry_change, entry_end, format_of, changed_at, changed_by, end_behind, found_at, and_then, last_sequence, open_gate}
use Rattle.ls_settings.specs.declared.journal.Walk.{Walk}
use Rattle.ls_settings.specs.declared.fault.FileFault.{FileFault}
use Rattle.ls_settings.specs.declared.fault.FileFault.TheVariants.{Foreign, Memory}
use Rattle.ls_settings.specs.FileReading.{TellsPlace, IsFaultBehind, IsNext, IsWalked, rest_from}
use Rattle.ls_settings.proofs.JournalLemmas.{rest_there, rest_none}

-- a fault of bytes that begin at a place
pub tells_behind : {A : Type 0} (at : ℕ) (read : Result A RecordFault) (fault : RecordFault) (e : FileFault) → Tells read fault → IsFaultBehind at fault e → TellsPlace (found_at at read) e
tells_behind at read fault Memory tells is = tt
tells_behind at read NoMemory (Foreign place) tells is = absurd (is.0 refl)
tells_behind at read (Short p) (Foreign place) tells is = ap (found_at at) tells ∙ (λ i. Err (sym is.1 i))
tells_behind at read (Order p) (Foreign place) tells is = ap (found_at at) tells ∙ (λ i. Err (sym is.1 i))
tells_behind at read (Limit p) (Foreign place) tells is = ap (found_at at) tells ∙ (λ i. Err (sym is.1 i))
tells_behind at read (Extra p) (Foreign place) tells is = ap (found_at at) tells ∙ (λ i. Err (sym is.1 i))

-- ---- one entry

module _ (bytes : List ℕ) (walk : Walk) where
  pub worn : walk.sequence ≡ 2 ^ 64 - 1 → changed_at bytes walk.at walk.sequence walk.record ≡ Err walk.at
  worn is = ap (λ (b : Bool). if b then Err walk.at else if not (entry_fits bytes walk.at) then Err (walk.at + 1) else found_at (walk.at + 5) (edited_of (format_of bytes) walk.record (entry_change bytes walk.at)))
      (eq-eqb walk.sequence last_sequence is)

  module _ (less : (walk.sequence ≡ 2 ^ 64 - 1) → ⊥) where
    unworn : changed_at bytes walk.at walk.sequence walk.record
        ≡ (if not (entry_fits bytes walk.at) then Err (walk.at + 1) else found_at (walk.at + 5) (edited_of (format_of bytes) walk.record (entry_change bytes walk.at)))
    unworn = ap (λ (b : Bool). if b then Err walk.at else if not (entry_fits bytes walk.at) then Err (walk.at + 1) else found_at (walk.at + 5) (edited_of (format_of bytes) walk.record (entry_change bytes walk.at)))
        (ne_eqb walk.sequence last_sequence less)

    pub unfitting : entry_fits bytes walk.at ≡ false → changed_at bytes walk.at walk.sequence walk.record ≡ Err (walk.at + 1)
    unfitting e = unworn ∙ ap (λ (b : Bool). if not b then Err (walk.at + 1) else found_at (walk.at + 5) (edited_of (format_of bytes) walk.record (entry_change bytes walk.at))) e

    pub fitting : entry_fits bytes walk.at ≡ true → changed_at bytes walk.at walk.sequence walk.record ≡ found_at (walk.at + 5) (edited_of (format_of bytes) walk.record (entry_change bytes walk.at))
    fitting e = unworn ∙ ap (λ (b : Bool). if not b then Err (walk.at + 1) else found_at (walk.at + 5) (edited_of (format_of bytes) walk.record (entry_change bytes walk.at))) e

-- ---- all of them

-- what is left to be read says what all says
pub record IsSoFar (bytes : List ℕ) (start now : Walk) : Type 0 where
  pub says : changed_by bytes (rest_from bytes start.at) start.sequence start.record ≡ changed_by bytes (rest_from bytes now.at) now.sequence now.record
  pub count : start.sequence + length (rest_from bytes start.at) ≡ now.sequence + length (rest_from bytes now.at)
  pub ends : end_behind bytes start.at (rest_from bytes start.at) ≡ end_behind bytes now.at (rest_from bytes now.at)
  pub small : now.at ≤ 4096

module _ (bytes : List ℕ) (start now : Walk) (so_far : IsSoFar bytes start now) where
  pub walked : stands_at bytes now.at ≡ false → IsWalked bytes start now
  walked none =
      let rest : rest_from bytes now.at ≡ [] = rest_none bytes now.at none in
      record {
        says = so_far.says ∙ ap (λ (l : List ℕ). changed_by bytes l now.sequence now.record) rest;
        count = omega (arith, so_far.count, ap length rest);
        ends = sym (so_far.ends ∙ ap (end_behind bytes now.at) rest);
      }

  module _ (there : stands_at bytes now.at ≡ true) where
    more : changed_by bytes (rest_from bytes start.at) start.sequence start.record
        ≡ and_then (changed_at bytes now.at now.sequence now.record) (λ r. changed_by bytes (rest_from bytes (entry_end bytes now.at)) (now.sequence + 1) r)
    more = so_far.says ∙ ap (λ (l : List ℕ). changed_by bytes l now.sequence now.record) (rest_there bytes now.at there)

    pub stopped : (e : FileFault) → TellsPlace (changed_at bytes now.at now.sequence now.record) e → TellsPlace (changed_by bytes (rest_from bytes start.at) start.sequence start.record) e
    stopped (Foreign at) tells = more ∙ ap (λ (x : Result Rec ℕ). and_then x (λ r. changed_by bytes (rest_from bytes (entry_end bytes now.at)) (now.sequence + 1) r)) tells
    stopped Memory tells = tt

    pub goes_on : (next : Walk) → IsNext bytes now next → IsSoFar bytes start next
    goes_on next is =
        let rest : rest_from bytes now.at ≡ now.at ∷ rest_from bytes next.at = rest_there bytes now.at there ∙ ap (λ (n : ℕ). now.at ∷ rest_from bytes n) (sym is.behind) in
        record {
          says = more ∙ ap (λ (x : Result Rec ℕ). and_then x (λ r. changed_by bytes (rest_from bytes (entry_end bytes now.at)) (now.sequence + 1) r)) is.says
              ∙ (λ i. changed_by bytes (rest_from bytes (sym is.behind i)) (sym is.count i) next.record);
          count = omega (arith, so_far.count, ap length rest, is.count);
          ends = so_far.ends ∙ ap (end_behind bytes now.at) rest ∙ ap (λ (n : ℕ). end_behind bytes n (rest_from bytes next.at)) (sym is.behind);
          small = is.small;
        }

    pub within : now.at < length bytes
    within = ltb-true now.at (length bytes) (and_parts (nat_lt now.at (length bytes)) (get_or bytes now.at 0 == open_gate) there).0
