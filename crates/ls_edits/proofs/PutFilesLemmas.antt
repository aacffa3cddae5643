-- The `resume` files of users are put.
use Rattle.std.proofs.Common.{◌≡◌, ◌<◌, ◌^◌, ℕ, Bool, true, false, cond, List, [], ◌∷◌, Option, Some, refl, sym, ◌∙◌, ap, arith}
use Rattle.std.specs.Prelude.{◌==◌}
use Rattle.std.specs.List.{AllByRecursion}
use Rattle.std.proofs.lemmas.Bool.{eqb-true, eq-eqb}
use Rattle.ls_board.specs.declared.action.Action.TheVariants.{Put}
use Rattle.ls_board.specs.declared.world.World.{World}
use Rattle.ls_board.specs.Effect.{file_at, put_mark, after}
use Rattle.ls_board.specs.Runs.{after_all}
use Rattle.ls_board.proofs.FileLemmas.{file_marked_same, file_marked_other}
use Rattle.ls_formats.specs.declared.name.FileName.{FileName}
use Rattle.ls_formats.specs.declared.name.FileName.TheVariants.{Settings, Protector as ProtectorName}
use Rattle.ls_formats.specs.PartNames.{PartOf, IsPartOf, part_name_text}
use Rattle.ls_formats.proofs.ApartLemmas.{names_apart}
use Rattle.ls_record.specs.Rows.{has}
use Rattle.ls_sealing.proofs.WritingLemmas.{cond_or}
use Rattle.ls_edits.specs.Arming.{resume_of, arming_files}

-- ---- names of `resume` files

pub name_in : PartOf → FileName → PartOf
name_in name (Settings side) = name
name_in name (ProtectorName other) = other

pub is_part : (user : ℕ) → user < 2 ^ 32 → IsPartOf (resume_of user)
is_part user small = record { user = small; id = omega arith; part = refl }

pub one_user : (m n : ℕ) → m < 2 ^ 32 → n < 2 ^ 32 → part_name_text (resume_of m) ≡ part_name_text (resume_of n) → m ≡ n
unfolding name_in
one_user m n sm sn e = ap (λ (f : FileName). (name_in (resume_of m) f).user) (names_apart (ProtectorName (resume_of m)) (ProtectorName (resume_of n)) (is_part m sm) (is_part n sn) e)

-- ---- files are put

abbrev pub AreSmall : List ℕ → Type 0
AreSmall users = AllByRecursion (λ u. u < 2 ^ 32) users

module _ (content : ℕ → List ℕ) where
  put_one : (v : World) (u k : ℕ) → u < 2 ^ 32 → k < 2 ^ 32
      → file_at (after v (Put (part_name_text (resume_of u)) (content u)) 0) (part_name_text (resume_of k)) ≡ cond (u == k) (Some (content k)) (file_at v (part_name_text (resume_of k)))
  put_one v u k su sk = by (u == k) refl
    where
      by : (b : Bool) → (u == k) ≡ b
          → file_at (after v (Put (part_name_text (resume_of u)) (content u)) 0) (part_name_text (resume_of k)) ≡ cond b (Some (content k)) (file_at v (part_name_text (resume_of k)))
      by true hit =
          let is : u ≡ k = eqb-true u k hit in
          ap (λ (n : ℕ). file_at (after v (Put (part_name_text (resume_of u)) (content u)) 0) (part_name_text (resume_of n))) (sym is)
          ∙ file_marked_same v (put_mark v (part_name_text (resume_of u)) (content u))
          ∙ ap (λ (n : ℕ). Some (content n)) is
      by false other =
          file_marked_other v (put_mark v (part_name_text (resume_of u)) (content u)) (part_name_text (resume_of k))
          (λ e. apart u k other (one_user k u sk su e))
        where
          apart : (m n : ℕ) → (m == n) ≡ false → n ≡ m → ⊥
          apart m n no_way same = let right : (m == n) ≡ true = eq-eqb m n (sym same) in let bad : true ≡ false = sym right ∙ no_way in absurd (cc)

  pub put_all : (v : World) (users : List ℕ) (k : ℕ) → AreSmall users → k < 2 ^ 32
      → file_at (after_all v (arming_files content users)) (part_name_text (resume_of k)) ≡ cond (has users k) (Some (content k)) (file_at v (part_name_text (resume_of k)))
  put_all v [] k small sk = refl
  put_all v (u ∷ users) k small sk =
      put_all (after v (Put (part_name_text (resume_of u)) (content u)) 0) users k small.1 sk
      ∙ ap (λ (f : Option (List ℕ)). cond (has users k) (Some (content k)) f) (put_one v u k small.0 sk)
      ∙ cond_or (u == k) (has users k) (Some (content k)) (file_at v (part_name_text (resume_of k)))

  pub put_rest : (v : World) (users : List ℕ) → after_all v (arming_files content users) ≡ record v { files = (after_all v (arming_files content users)).files; touched = (after_all v (arming_files content users)).touched }
  put_rest v [] = refl
  put_rest v (u ∷ users) = put_rest (after v (Put (part_name_text (resume_of u)) (content u)) 0) users
