-- Several protectors are erased.
use Rattle.std.proofs.Common.{◌≡◌, ℕ, Bool, true, false, List, [], ◌∷◌, ◌++◌, replicate, Option, None, Some, refl, sym, subst}
use Rattle.std.specs.List.{Contains}
use Rattle.std.proofs.lemmas.List.Concat.{flat_map-cons}
use Rattle.std.proofs.lemmas.List.Elements.{Contains-append_left, Contains-append_right}
use Rattle.ls_board.specs.declared.action.Action.{Action}
use Rattle.ls_board.specs.declared.action.Action.TheVariants.{GkForget, KeyDrop}
use Rattle.ls_exchange.specs.Exchanges.{retiring_of}
use Rattle.ls_formats.specs.declared.parts.Parts.{Parts}
use Rattle.ls_naming.specs.Named.{only_if}
use Rattle.ls_protector.specs.Parts.{erasing_of}
use Rattle.ls_sealing.specs.Building.{slot_writes}
use Rattle.ls_standing.specs.Clearing.{AllTakeAway, blank_write}
use Rattle.ls_standing.proofs.ContainsLemmas.{at_first, behind_first, in_flat}

-- ---- what holds of each erasing holds of them all

pub each_erased : (P : List Action → Type 0) → P [] → ((xs ys : List Action) → P xs → P ys → P (xs ++ ys)) → (all : List Parts) → ((q : Parts) → Contains all q → P (erasing_of q)) → P (retiring_of all)
each_erased P none both [] each = none
each_erased P none both (q ∷ all) each =
    subst P (sym (flat_map-cons erasing_of q all)) (both (erasing_of q) (retiring_of all) (each q (at_first q all)) (each_erased P none both all (λ p h. each p (behind_first q all p h))))

-- ---- one protector

module _ (q : Parts) where
  abbrev forgets : List Action
  forgets = only_if q.gk (GkForget q.id ∷ [])

  abbrev blanks : List Action
  blanks = slot_writes q.slot (replicate 16 0) (replicate 16 0)

  pub erasing_away : AllTakeAway (erasing_of q)
  erasing_away = by q.slot q.gk
    where
      counter : (b : Bool) → AllTakeAway (only_if b (GkForget q.id ∷ []))
      counter true = (tt, tt)
      counter false = tt

      by : (o : Option ℕ) (b : Bool) → AllTakeAway (slot_writes o (replicate 16 0) (replicate 16 0) ++ (KeyDrop q.id ∷ only_if b (GkForget q.id ∷ [])))
      by None b = (tt, counter b)
      by (Some n) b = (refl, (tt, counter b))

  -- ---- what is done of it

  module _ (all : List Parts) (within : Contains all q) where
    in_all : (a : Action) → Contains (erasing_of q) a → Contains (retiring_of all) a
    in_all a h = in_flat erasing_of all q a within h

    pub slot_blanked : (n : ℕ) → q.slot ≡ Some n → Contains (retiring_of all) (blank_write n)
    slot_blanked n its = in_all (blank_write n)
        (Contains-append_left blanks (KeyDrop q.id ∷ forgets) (blank_write n)
        (subst (λ (o : Option ℕ). Contains (slot_writes o (replicate 16 0) (replicate 16 0)) (blank_write n)) (sym its) (at_first (blank_write n) [])))

    pub key_dropped : Contains (retiring_of all) (KeyDrop q.id)
    key_dropped = in_all (KeyDrop q.id) (Contains-append_right blanks (KeyDrop q.id ∷ forgets) (KeyDrop q.id) (at_first (KeyDrop q.id) forgets))

    pub counter_forgotten : q.gk ≡ true → Contains (retiring_of all) (GkForget q.id)
    counter_forgotten its = in_all (GkForget q.id)
        (Contains-append_right blanks (KeyDrop q.id ∷ forgets) (GkForget q.id)
        (behind_first (KeyDrop q.id) forgets (GkForget q.id)
        (subst (λ (b : Bool). Contains (only_if b (GkForget q.id ∷ [])) (GkForget q.id)) (sym its) (at_first (GkForget q.id) []))))
