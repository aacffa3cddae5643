-- What is left over on a board, read in several calls.
use Rattle.std.proofs.Common.{◌≡◌, ℕ, Bool, IsTrue, List, [], length, map, None, refl, sym, ap, subst}
use Rattle.std.specs.Prelude.{Ok, Err, ◌↔◌, nat_lt}
use Rattle.ls_board.specs.declared.action.BoardFault.{BoardFault}
use Rattle.ls_board.specs.declared.world.World.{World}
use Rattle.ls_board.specs.Acts.{Sight}
use Rattle.ls_record.specs.Rows.{Rec}
use Rattle.ls_naming.specs.Named.{NamesKey, NamesEnrolled}
use Rattle.ls_reading.specs.Reading.{Reads, Sees}
use Rattle.ls_reading.proofs.SeeLemmas.{reads_err, reads_both, reads_value, reads_as}
use Rattle.ls_sealing.specs.Protectors.{has_weaver}
use Rattle.ls_standing.specs.Clearing.{IsLeftName, AreListedLeftovers}
use Rattle.ls_standing.proofs.ContainsLemmas.{none_in}
use Rattle.ls_sweep.specs.declared.leftovers.Leftovers.{Leftovers}
use Rattle.ls_sweep.specs.Files.{IsUnnamedFile}
use Rattle.ls_sweep.specs.Sifted.{AreThose, AreUnusedBelow}
use Rattle.ls_sweep.specs.NamedSlots.{AreNamedSlots}
use Rattle.ls_sweep.specs.Swept.{AreLeftFiles, AreLeftEnrolled, AreLeftKeys, AreLeftOver}
use Rattle.ls_sweep.proofs.SiftLemmas.{those_are, unused_are}

-- ---- a list, sifted

abbrev names : World → List (List ℕ)
names w = map (λ file. file.0) w.files

abbrev aliases : World → List ℕ
aliases w = map (λ row. row.0) w.keys

abbrev sids : World → List ℕ
sids w = map (λ row. row.0) w.gk

-- those of a list that was seen
those_seen : {X : Type 0} (P : X → Type 0) (look : World → List X) (old new : Sight) (all left : List X) → Sees look old (Ok all) new → AreThose P all left
    → Reads (λ w those. AreThose P (look w) those) old (Ok left) new
those_seen P look old new all left sees those =
    reads_value (λ w t. t ≡ look w) (λ w those. AreThose P (look w) those) old new all left sees (λ w is. subst (λ l. AreThose P l left) is those)

module _ (old new : Sight) (r : Rec) (slots : ℕ) (count : IsTrue old.told → slots ≡ length old.world.slots) where
  weaver : IsTrue old.told → nat_lt 0 slots ≡ has_weaver old.world
  weaver told = ap (nat_lt 0) (count told)

  pub files_left : (all left : List (List ℕ)) → Sees names old (Ok all) new → AreThose (IsUnnamedFile (nat_lt 0 slots) r []) all left → Reads (λ w found. AreLeftFiles w r found) old (Ok left) new
  files_left all left sees those =
      reads_as (λ w found. AreThose (IsUnnamedFile (nat_lt 0 slots) r []) (names w) found) (λ w found. AreLeftFiles w r found) old new (Ok left)
      (λ told found are. subst (λ (b : Bool). AreThose (IsUnnamedFile b r []) (names old.world) found) (weaver told) are)
      (those_seen (IsUnnamedFile (nat_lt 0 slots) r []) names old new all left sees those)

  pub enrolled_left : (all left : List ℕ) → Sees sids old (Ok all) new → AreThose (λ id. ¬ NamesEnrolled (nat_lt 0 slots) r id) all left → Reads (λ w found. AreLeftEnrolled w r found) old (Ok left) new
  enrolled_left all left sees those =
      reads_as (λ w found. AreThose (λ id. ¬ NamesEnrolled (nat_lt 0 slots) r id) (sids w) found) (λ w found. AreLeftEnrolled w r found) old new (Ok left)
      (λ told found are. subst (λ (b : Bool). AreThose (λ id. ¬ NamesEnrolled b r id) (sids old.world) found) (weaver told) are)
      (those_seen (λ id. ¬ NamesEnrolled (nat_lt 0 slots) r id) sids old new all left sees those)

pub keys_left : (old new : Sight) (r : Rec) (all left : List ℕ) → Sees aliases old (Ok all) new → AreThose (λ alias. ¬ NamesKey r alias) all left → Reads (λ w found. AreLeftKeys w r found) old (Ok left) new
keys_left old new r all left sees those = those_seen (λ alias. ¬ NamesKey r alias) aliases old new all left sees those

-- ---- all of it

module _ (r : Rec) (used : List ℕ) (s0 : Sight) where
  abbrev Left : World → Leftovers → Type 0
  Left w left = AreLeftOver w r used left

  pub no_files : (s1 : Sight) (e : BoardFault) → Reads (λ w found. AreLeftFiles w r found) s0 (Err e) s1 → Reads Left s0 (Err e) s1
  no_files s1 e first = reads_err (λ w found. AreLeftFiles w r found) Left s0 s1 e first

  module _ (s1 : Sight) (files : List (List ℕ)) (first : Reads (λ w found. AreLeftFiles w r found) s0 (Ok files) s1) where
    pub no_enrolled : (s2 : Sight) (e : BoardFault) → Reads (λ w found. AreLeftEnrolled w r found) s1 (Err e) s2 → Reads Left s0 (Err e) s2
    no_enrolled s2 e second =
        reads_both (λ w found. AreLeftFiles w r found) Left s0 s1 Left s2 files (Err e) (λ w left p q. q) first
        (reads_err (λ w found. AreLeftEnrolled w r found) Left s1 s2 e second)

    module _ (s2 : Sight) (enrolled : List ℕ) (second : Reads (λ w found. AreLeftEnrolled w r found) s1 (Ok enrolled) s2) where
      abbrev Both : World → List ℕ → Type 0
      Both w found = AreLeftFiles w r files × AreLeftEnrolled w r found

      both : Reads Both s0 (Ok enrolled) s2
      both = reads_both (λ w found. AreLeftFiles w r found) Both s0 s1 (λ w found. AreLeftEnrolled w r found) s2 files (Ok enrolled) (λ w found p q. (p, q)) first second

      pub no_keys : (s3 : Sight) (e : BoardFault) → Reads (λ w found. AreLeftKeys w r found) s2 (Err e) s3 → Reads Left s0 (Err e) s3
      no_keys s3 e third =
          reads_both Both Left s0 s2 Left s3 enrolled (Err e) (λ w left p q. q) both
          (reads_err (λ w found. AreLeftKeys w r found) Left s2 s3 e third)

      pub all_left : (s3 : Sight) (keys slots : List ℕ) (cell : Bool) (count : ℕ) → (IsTrue s0.told → count ≡ length s0.world.slots) → AreUnusedBelow count used slots → (IsTrue cell ↔ (r.armed ≡ None))
          → Reads (λ w found. AreLeftKeys w r found) s2 (Ok keys) s3 → Reads Left s0 (Ok (record { files = files; slots = slots; enrolled = enrolled; keys = keys; cell = cell })) s3
      all_left s3 keys slots cell count told_count unused taking third =
          reads_as Beside Left s0 s3 (Ok left)
          (λ told t is. subst (Left s0.world) (sym is.0) (record {
            files = is.1;
            slots = subst (λ (n : ℕ). AreUnusedBelow n used slots) (told_count told) unused;
            enrolled = is.2;
            keys = is.3;
            cell = taking;
          }))
          (reads_value All Beside s0 s3 keys left all (λ w is. (refl, is.0, is.1, is.2)))
        where
          left : Leftovers
          left = record { files = files; slots = slots; enrolled = enrolled; keys = keys; cell = cell }

          Beside : World → Leftovers → Type 0
          Beside w t = (t ≡ left) × AreLeftFiles w r files × AreLeftEnrolled w r enrolled × AreLeftKeys w r keys

          All : World → List ℕ → Type 0
          All w found = AreLeftFiles w r files × AreLeftEnrolled w r enrolled × AreLeftKeys w r found

          all : Reads All s0 (Ok keys) s3
          all = reads_both Both All s0 s2 (λ w found. AreLeftKeys w r found) s3 enrolled (Ok keys) (λ w found p q. (p.0, p.1, q)) both third

-- ---- in the words of worlds

module _ (w : World) (r : Rec) (used : List ℕ) (left : Leftovers) (named : AreNamedSlots w r used) (all : AreLeftOver w r used left) where
  left_name : (n : List ℕ) → IsUnnamedFile (has_weaver w) r [] n → IsLeftName w r n
  left_name n is = record { name = is.name; part = is.part; spelled = is.spelled; unnamed = is.unnamed }

  unnamed_file : (n : List ℕ) → IsLeftName w r n → IsUnnamedFile (has_weaver w) r [] n
  unnamed_file n is = record { name = is.name; part = is.part; spelled = is.spelled; unnamed = is.unnamed; current = none_in n }

  pub listed : AreListedLeftovers w r left.files left.slots left.enrolled left.keys left.cell
  listed = record {
    files = λ n.
        let are = those_are (IsUnnamedFile (has_weaver w) r []) (names w) left.files n all.files in
        (λ k. let both = are.0 k in (both.0, left_name n both.1), λ both. are.1 (both.0, unnamed_file n both.1));
    blanks = λ slot.
        let are = unused_are (length w.slots) used left.slots slot all.slots in (
          λ k. let both = are.0 k in (both.0, λ is. both.1 ((named slot).1 is)),
          λ both. are.1 (both.0, λ k. both.1 ((named slot).0 k)),
        );
    counters = λ sid. those_are (λ id. ¬ NamesEnrolled (has_weaver w) r id) (sids w) left.enrolled sid all.enrolled;
    keys = λ alias. those_are (λ n. ¬ NamesKey r n) (aliases w) left.keys alias all.keys;
    taking = all.cell;
  }
