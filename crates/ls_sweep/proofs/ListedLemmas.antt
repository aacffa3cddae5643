-- Lists that a board gave, read from their bytes.
use Rattle.std.proofs.Common.{◌≡◌, ◌<◌, ◌^◌, ℕ, List, map, Result, Ok, Err, IfOk, refl, sym, subst}
use Rattle.std.specs.Prelude.{IfErr}
use Rattle.std.specs.List.{AllByRecursion, flat_map}
use Rattle.ls_bytes.specs.Fields.{be64}
use Rattle.ls_bytes.specs.Names.{IsName}
use Rattle.ls_board.specs.declared.action.Action.TheVariants.{List as ListNames, KeyList, GkList}
use Rattle.ls_board.specs.declared.action.Answer.{Answer}
use Rattle.ls_board.specs.declared.action.BoardFault.{BoardFault}
use Rattle.ls_board.specs.declared.action.BoardFault.TheVariants.{Memory}
use Rattle.ls_board.specs.declared.world.World.{World}
use Rattle.ls_board.specs.Acts.{Sight, Acts, Readies}
use Rattle.ls_board.specs.Effect.{HasShape}
use Rattle.ls_board.specs.Listing.{line_of, IsFields, IsListing}
use Rattle.ls_board.proofs.ListLemmas.{names_read, numbers_read}
use Rattle.ls_reading.specs.Reading.{Sees}
use Rattle.ls_reading.proofs.SeeLemmas.{reads_acted, reads_unkept, reads_failed}

abbrev names : World → List (List ℕ)
names w = map (λ file. file.0) w.files

abbrev aliases : World → List ℕ
aliases w = map (λ row. row.0) w.keys

abbrev sids : World → List ℕ
sids w = map (λ row. row.0) w.gk

module _ (old ready new : Sight) {E : Type 0} (made : Result Unit E) (readies : Readies old 1 0 made ready) (result : Result Answer BoardFault) (out : List ℕ) where
  -- ---- files

  module _ (acts : Acts ready ListNames result out new) where
    pub names_shape : (answer : Answer) → result ≡ Ok answer → IsListing out
    names_shape answer was = (subst (λ (r : Result Answer BoardFault). IfOk r (λ a. HasShape ListNames a out)) was acts.shape).1

    pub names_failed : (fault : BoardFault) → result ≡ Err fault → Sees names old (Err fault) new
    names_failed fault was = reads_failed (λ w t. t ≡ names w) old ready new 1 0 made readies ListNames (λ w mid within. within) (λ w count. refl) refl result out acts fault was

    pub names_listed : (answer : Answer) → result ≡ Ok answer → (r : Result (List (List ℕ)) BoardFault) → IfOk r (λ found. out ≡ flat_map line_of found)
        → IfOk r (λ found. AllByRecursion IsName found) → IfErr r (λ fault. fault ≡ Memory) → Sees names old r new
    names_listed answer was (Ok found) lines each lacking = reads_acted (λ w t. t ≡ names w) old ready new 1 0 made readies ListNames (λ w mid within. within) (λ w count. refl) refl result out acts answer found was
        (λ w answers. names_read w.files found out answers.1 each lines)
    names_listed answer was (Err fault) lines each lacking = subst (λ (f : BoardFault). Sees names old (Err f) new) (sym lacking)
        (reads_unkept (λ w t. t ≡ names w) old ready new 1 0 made readies ListNames (λ w mid within. within) (λ w count. refl) refl result out acts answer was)

  -- ---- keys

  module _ (acts : Acts ready KeyList result out new) where
    pub keys_shape : (answer : Answer) → result ≡ Ok answer → IsFields out
    keys_shape answer was = (subst (λ (r : Result Answer BoardFault). IfOk r (λ a. HasShape KeyList a out)) was acts.shape).1

    pub keys_failed : (fault : BoardFault) → result ≡ Err fault → Sees aliases old (Err fault) new
    keys_failed fault was = reads_failed (λ w t. t ≡ aliases w) old ready new 1 0 made readies KeyList (λ w mid within. within) (λ w count. refl) refl result out acts fault was

    pub keys_listed : (answer : Answer) → result ≡ Ok answer → (r : Result (List ℕ) BoardFault) → IfOk r (λ found. out ≡ flat_map be64 found)
        → IfOk r (λ found. AllByRecursion (λ n. n < 2 ^ 64) found) → IfErr r (λ fault. fault ≡ Memory) → Sees aliases old r new
    keys_listed answer was (Ok found) fields each lacking = reads_acted (λ w t. t ≡ aliases w) old ready new 1 0 made readies KeyList (λ w mid within. within) (λ w count. refl) refl result out acts answer found was
        (λ w answers. numbers_read w.keys found out answers.1 each fields)
    keys_listed answer was (Err fault) fields each lacking = subst (λ (f : BoardFault). Sees aliases old (Err f) new) (sym lacking)
        (reads_unkept (λ w t. t ≡ aliases w) old ready new 1 0 made readies KeyList (λ w mid within. within) (λ w count. refl) refl result out acts answer was)

  -- ---- Gatekeeper records

  module _ (acts : Acts ready GkList result out new) where
    pub sids_shape : (answer : Answer) → result ≡ Ok answer → IsFields out
    sids_shape answer was = (subst (λ (r : Result Answer BoardFault). IfOk r (λ a. HasShape GkList a out)) was acts.shape).1

    pub sids_failed : (fault : BoardFault) → result ≡ Err fault → Sees sids old (Err fault) new
    sids_failed fault was = reads_failed (λ w t. t ≡ sids w) old ready new 1 0 made readies GkList (λ w mid within. within) (λ w count. refl) refl result out acts fault was

    pub sids_listed : (answer : Answer) → result ≡ Ok answer → (r : Result (List ℕ) BoardFault) → IfOk r (λ found. out ≡ flat_map be64 found)
        → IfOk r (λ found. AllByRecursion (λ n. n < 2 ^ 64) found) → IfErr r (λ fault. fault ≡ Memory) → Sees sids old r new
    sids_listed answer was (Ok found) fields each lacking = reads_acted (λ w t. t ≡ sids w) old ready new 1 0 made readies GkList (λ w mid within. within) (λ w count. refl) refl result out acts answer found was
        (λ w answers. numbers_read w.gk found out answers.1 each fields)
    sids_listed answer was (Err fault) fields each lacking = subst (λ (f : BoardFault). Sees sids old (Err f) new) (sym lacking)
        (reads_unkept (λ w t. t ≡ sids w) old ready new 1 0 made readies GkList (λ w mid within. within) (λ w count. refl) refl result out acts answer was)
