-- Going over files, one after another.
use Rattle.std.proofs.Common.{◌≡◌, ◌≤◌, ◌++◌, List, [], ◌∷◌, ℕ, Option, Some, None, length, get_or, map, refl, sym, ap, subst, ◌∙◌, arith}
use Rattle.std.specs.Prelude.{Result, Ok, Err, OnOk}
use Rattle.ls_bytes.specs.declared.memory.Memory.{Memory}
use Rattle.ls_formats.specs.PartNames.{PartOf, part_name_text}
use Rattle.ls_record.specs.declared.row.UserRow.{UserRow}
use Rattle.ls_arming.specs.declared.arming.Arming.{Arming}
use Rattle.ls_naming.specs.Named.{row_files}
use Rattle.ls_sealing.specs.Protectors.{has_weaver}
use Rattle.ls_naming.specs.Current.{Foreign}
use Rattle.ls_board.specs.declared.world.World.{World}
use Rattle.ls_standing.specs.Opening.{beside, file_fault, content_at, slot_in, foreign_or, first_foreign_of, files_of_rows}
use Rattle.ls_checker.proofs.ZipLemmas.{behind, behind_first}
use Rattle.ls_checker.specs.Walking.{Walked, passed, walked, foreign_at}

pub walked_append : (w : World) (s : Walked) (xs ys : List (UserRow × PartOf))
    → walked w s (xs ++ ys) ≡ walked w (walked w s xs) ys
walked_append w s [] ys = refl
walked_append w s (x ∷ xs) ys = walked_append w (passed w x s.earlier s.foreign) xs ys

-- behind a file at fault nothing changes
stopped : (w : World) (earlier : List ℕ) (f : Foreign) (xs : List (UserRow × PartOf))
    → (walked w (record { earlier = earlier; foreign = Some f }) xs).foreign ≡ Some f
stopped w earlier f [] = refl
stopped w earlier f (x ∷ xs) = stopped w earlier f xs

says_by : (w : World) (earlier : List ℕ) (name : PartOf) (at : Option ℕ) (xs : List (UserRow × PartOf))
    → (walked w (record { earlier = earlier; foreign = None }) xs).foreign ≡ first_foreign_of w earlier xs
    → (walked w (record { earlier = earlier; foreign = foreign_at name at }) xs).foreign
    ≡ foreign_or name at (first_foreign_of w earlier xs)
says_by w earlier name None xs rest = rest
says_by w earlier name (Some at) xs rest = stopped w earlier (record { name = part_name_text name; at = at }) xs

-- what is met first is the first file at fault
pub walked_says : (w : World) (earlier : List ℕ) (xs : List (UserRow × PartOf))
    → (walked w (record { earlier = earlier; foreign = None }) xs).foreign ≡ first_foreign_of w earlier xs
walked_says w earlier [] = refl
walked_says w earlier (x ∷ xs) =
    let bytes = content_at w x.1 in
    says_by w (earlier ++ slot_in x.1.part bytes) x.1 (file_fault (beside w earlier x.0) x.0 x.1 bytes) xs
    (walked_says w (earlier ++ slot_in x.1.part bytes) xs)

rows_by : (w : World) (armed : Option Arming) (row : UserRow) (rows : List UserRow) (s s1 s2 : Walked) (r : Result Unit Memory)
    → s1 ≡ walked w s (map (λ name. (row, name)) (row_files (has_weaver w) armed row))
    → OnOk r (s2 ≡ walked w s1 (files_of_rows (has_weaver w) armed rows))
    → OnOk r (s2 ≡ walked w s (files_of_rows (has_weaver w) armed (row ∷ rows)))
rows_by w armed row rows s s1 s2 (Ok u) first rest =
    rest ∙ ap (λ (x : Walked). walked w x (files_of_rows (has_weaver w) armed rows)) first
    ∙ sym (walked_append w s (map (λ name. (row, name)) (row_files (has_weaver w) armed row)) (files_of_rows (has_weaver w) armed rows))
rows_by w armed row rows s s1 s2 (Err e) first rest = rest

-- a row is passed, and then the others
pub rows_walked : (w : World) (armed : Option Arming) (rows : List UserRow) (row : UserRow) (s s1 s2 : Walked) (r : Result Unit Memory)
    → 1 ≤ length rows → row ≡ get_or rows 0 row
    → s1 ≡ walked w s (map (λ name. (row, name)) (row_files (has_weaver w) armed row))
    → OnOk r (s2 ≡ walked w s1 (files_of_rows (has_weaver w) armed (behind rows)))
    → OnOk r (s2 ≡ walked w s (files_of_rows (has_weaver w) armed rows))
rows_walked w armed [] row s s1 s2 r some at first rest = absurd (omega (arith, some))
rows_walked w armed (a ∷ rows) row s s1 s2 r some at first rest =
    subst (λ (x : UserRow). OnOk r (s2 ≡ walked w s (files_of_rows (has_weaver w) armed (x ∷ rows)))) at
    (rows_by w armed row rows s s1 s2 r first
    (subst (λ (l : List UserRow). OnOk r (s2 ≡ walked w s1 (files_of_rows (has_weaver w) armed l))) (behind_first a rows) rest))
