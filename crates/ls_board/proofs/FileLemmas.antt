-- What the files of a world are after a change of one file.
use Rattle.std.proofs.Common.{◌≡◌, ◌≢◌, ℕ, Bool, true, false, cond, List, Option, None, Some, refl, sym, ◌∙◌, ap}
use Rattle.std.specs.Prelude.{IsTrue}
use Rattle.std.specs.Ordering.{eq_by_cmp}
use Rattle.std.specs.FinMap.Entries.{find, find-put, is_sorted, same_entries}
use Rattle.std.proofs.lemmas.Cmp.{nat_list_cmp_total}
use Rattle.std.proofs.lemmas.Map.Lookups.{exact_bytes}
use Rattle.ls_board.specs.declared.world.World.{World}
use Rattle.ls_board.specs.Order.{byte_cmp}
use Rattle.ls_board.specs.Effect.{Mark, file_at, touch_at, with_file, marked}
pub use Rattle.ls_board.proofs.LookupLemmas.{equal}
use Rattle.ls_board.proofs.LookupLemmas.{same_key, other_key, find_without, put_same, put_other}
use Rattle.ls_board.proofs.PutLemmas.{true_test, put_sorted, without_sorted}

pub find_with_file : (files : List (List ℕ × List ℕ)) (n : List ℕ) (content : Option (List ℕ)) (q : List ℕ)
    → find byte_cmp q (with_file files n content) ≡ cond (eq_by_cmp byte_cmp q n) content (find byte_cmp q files)
find_with_file files n (Some bytes) q = find-put byte_cmp nat_list_cmp_total q n bytes files
find_with_file files n None q = find_without byte_cmp nat_list_cmp_total files n q

module _ (w : World) (m : Mark) where
  pub file_marked_same : file_at (marked w m) m.name ≡ m.content
  file_marked_same =
      find_with_file w.files m.name m.content m.name ∙ ap (λ (b : Bool). cond b m.content (find byte_cmp m.name w.files)) (same_key byte_cmp nat_list_cmp_total m.name)

  pub file_marked_other : (n : List ℕ) → n ≢ m.name → file_at (marked w m) n ≡ file_at w n
  file_marked_other n apart =
      find_with_file w.files m.name m.content n ∙ ap (λ (b : Bool). cond b m.content (find byte_cmp n w.files)) (other_key byte_cmp nat_list_cmp_total exact_bytes n m.name apart)

  pub touch_marked_same : touch_at (marked w m) m.name ≡ Some m.touch
  touch_marked_same = put_same byte_cmp nat_list_cmp_total w.touched m.name m.touch

  pub touch_marked_other : (n : List ℕ) → n ≢ m.name → touch_at (marked w m) n ≡ touch_at w n
  touch_marked_other n apart = put_other byte_cmp nat_list_cmp_total exact_bytes w.touched m.name n m.touch apart

-- ---- the order of a table of files

pub with_file_sorted : (files : List (List ℕ × List ℕ)) (n : List ℕ) (content : Option (List ℕ)) → IsTrue (is_sorted byte_cmp files) → IsTrue (is_sorted byte_cmp (with_file files n content))
with_file_sorted files n (Some bytes) sorted = put_sorted byte_cmp nat_list_cmp_total files n bytes sorted
with_file_sorted files n None sorted = without_sorted byte_cmp nat_list_cmp_total files n sorted

-- a file that is given what it holds is as it was
pub with_file_same : (files : List (List ℕ × List ℕ)) (n : List ℕ) → IsTrue (is_sorted byte_cmp files) → with_file files n (find byte_cmp n files) ≡ files
with_file_same files n sorted =
    same_entries byte_cmp nat_list_cmp_total exact_bytes (with_file files n (find byte_cmp n files)) files
    (true_test _ (with_file_sorted files n (find byte_cmp n files) sorted)) (true_test _ sorted)
    (λ q. find_with_file files n (find byte_cmp n files) q ∙ here q)
  where
    here : (q : List ℕ) → cond (eq_by_cmp byte_cmp q n) (find byte_cmp n files) (find byte_cmp q files) ≡ find byte_cmp q files
    here q = elim (eq_by_cmp byte_cmp q n) as (λ b. eq_by_cmp byte_cmp q n ≡ b → cond b (find byte_cmp n files) (find byte_cmp q files) ≡ find byte_cmp q files) [
      | true ↦ λ e. ap (λ (m : List ℕ). find byte_cmp m files) (sym (exact_bytes q n (equal _ e)))
      | false ↦ λ e. refl
    ] refl
