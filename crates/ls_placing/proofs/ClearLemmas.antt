-- A new place is clear of all that is named and retired.
use Rattle.std.proofs.Common.{◌≡◌, ◌≢◌, ◌⊎◌, inl, inr, ◌++◌, ◌∷◌, [], ℕ, Bool, true, false, List, Option, Some, refl, sym, ◌∙◌, ap, subst, arith}
use Rattle.std.specs.Prelude.{IsTrue, is_some, IfSome}
use Rattle.std.specs.List.{Contains, AllByRecursion}
use Rattle.std.proofs.lemmas.Bool.{ne_eqb}
use Rattle.ls_board.specs.Acts.{Sight}
use Rattle.ls_credential.specs.declared.kind.Kind.{Kind}
use Rattle.ls_credential.specs.declared.kind.Kind.TheVariants.{Empty, Pattern, Pin, Password}
use Rattle.ls_formats.specs.declared.part.FilePart.{FilePart}
use Rattle.ls_formats.specs.declared.parts.Parts.{Parts}
use Rattle.ls_formats.specs.PartNames.{PartOf, IsPartOf, is_of_user}
use Rattle.ls_naming.specs.Named.{credential_parts, token_parts}
use Rattle.ls_protector.specs.Clear.{IsClear}
use Rattle.ls_protector.specs.Parts.{names_for, parts_of}
use Rattle.ls_protector.proofs.PartLemmas.{unnamed_clear}
use Rattle.ls_record.specs.Rows.{IsRecord, is_protector_id}
use Rattle.ls_sealing.specs.Protectors.{Protector, Purpose, credential, token, HasNumbers, is_enrolled, parts_for, file_name}
use Rattle.ls_standing.specs.NamedProtectors.{NamesProtector, IsElsewhere}
use Rattle.ls_standing.specs.Quiet.{IsUnnamedProtector}
use Rattle.ls_standing.proofs.ContainsLemmas.{none_in, first_or_behind, in_map, of_map}
use Rattle.ls_standing.proofs.PairLemmas.{each_in, pairs_append}
use Rattle.ls_standing.proofs.UnnamedLemmas.{unnamed_protector}
use Rattle.ls_sweep.specs.FreshIds.{IsLowestFree}
use Rattle.ls_turn.specs.declared.session.Session.{Session}
use Rattle.ls_turn.specs.Serving.{CanServe, KeepOnce, KeepApart}
use Rattle.ls_placing.specs.Placing.{AreTakenIds, HasNewPlace, IsFreeSlot, ids_of, slots_of}
use Rattle.ls_placing.proofs.NumberLemmas.{not_contained}
use Rattle.ls_placing.proofs.SlotLemmas.{slot_taken}

-- ---- a new place

pub place_is_new : (parts : List Parts) (names : List (List ℕ)) (taken used : List ℕ) (slots id : ℕ) (slot : Option ℕ)
    → AreTakenIds names (ids_of parts) taken → ((other : ℕ) → Contains taken other → other ≢ id)
    → ((n : ℕ) → Contains (slots_of parts) n → Contains used n) → IsFreeSlot slots used slot → HasNewPlace parts names id slot
place_is_new parts names taken used slots id slot are free all is = record {
  ids = λ q has. free q.id (are.each q.id (inl (in_map (λ (p : Parts). p.id) parts q has)));
  slots = λ q has n its same.
      let low : IsLowestFree slots used n = subst (λ (o : Option ℕ). IfSome o (IsLowestFree slots used)) same is.lowest in
      not_contained used n low.free (all n (slot_taken parts q n has its));
  files = λ name part has. free name.id (are.each name.id (inr (name, part, has, refl)));
}

-- ---- it is clear of what is named

module _ (b : Sight) (x : Session) (names : List (List ℕ)) (p : Protector) (slot : Option ℕ) (can : CanServe b x) (told : IsTrue b.told)
    (is : IsRecord x.settings.settled.rec) (numbers : HasNumbers p)
    (even : is_enrolled (is_some slot) p.purpose ≡ true → is_protector_id p.id ≡ true) (new : HasNewPlace x.named.items names p.id slot) where
  elsewhere : (q : Protector) → NamesProtector x.settings.settled.rec q → IsElsewhere b.world p.id slot q
  elsewhere q named =
      let kept = can.each q named in
      record {
        id_apart = λ same. new.ids kept.0 kept.1 (ap (λ (z : Parts). z.id) kept.2.2 ∙ same);
        slot_apart = λ n its. new.slots (parts_of true q (Some n)) (can.numbers told q named n its) n refl;
      }

  pub new_is_unnamed : IsUnnamedProtector b.world x.settings.settled.rec p slot
  new_is_unnamed = unnamed_protector b.world x.settings.settled.rec is p slot numbers even elsewhere

  pub new_is_clear : IsClear b.world x.settings.settled.rec (parts_of (is_some slot) p slot)
  new_is_clear = unnamed_clear b.world x.settings.settled.rec p slot is new_is_unnamed

-- ---- its files

abbrev OfProtector : FilePart → Type 0
OfProtector part = is_of_user part ≡ false

credential_all : (b : Bool) (kind : Kind) → AllByRecursion OfProtector (credential_parts b kind)
credential_all true Empty = (refl, (refl, tt))
credential_all false Empty = (refl, (refl, tt))
credential_all true Pattern = (refl, (refl, (refl, (refl, tt))))
credential_all false Pattern = (refl, (refl, (refl, (refl, tt))))
credential_all true Pin = (refl, (refl, (refl, (refl, tt))))
credential_all false Pin = (refl, (refl, (refl, (refl, tt))))
credential_all true Password = (refl, (refl, (refl, (refl, tt))))
credential_all false Password = (refl, (refl, (refl, (refl, tt))))

token_all : (b : Bool) → AllByRecursion OfProtector (token_parts b)
token_all true = (refl, (refl, (refl, tt)))
token_all false = (refl, (refl, tt))

of_protector : (b : Bool) (purpose : Purpose) (part : FilePart) → Contains (parts_for b purpose) part → is_of_user part ≡ false
of_protector b (credential kind) part has = each_in OfProtector (credential_parts b kind) part (credential_all b kind) has
of_protector b token part has = each_in OfProtector (token_parts b) part (token_all b) has

pub new_files : (parts : List Parts) (names : List (List ℕ)) (p : Protector) (slot : Option ℕ) (weaver : Bool) → HasNumbers p → HasNewPlace parts names p.id slot
    → (n : List ℕ) → Contains (names_for weaver p) n → ¬ Contains names n
new_files parts names p slot weaver numbers new n has other =
    let found = of_map (file_name p) (parts_for weaver p.purpose) n has in
    let name : PartOf = record { user = p.user; id = p.id; part = found.0 } in
    let is_part : IsPartOf name = record {
      user = numbers.user;
      id = numbers.id;
      part = ne_eqb p.id 0 (λ none. let some = numbers.some in omega (arith, none, some)) ∙ sym (of_protector weaver p.purpose found.0 found.1);
    } in
    new.files name is_part (subst (Contains names) (sym found.2) other) refl

-- ---- with it behind the others

module _ (parts : List Parts) (names : List (List ℕ)) (q : Parts) (new : HasNewPlace parts names q.id q.slot) where
  last : (z : Parts) → Contains (q ∷ []) z → q ≡ z
  last z has = by (first_or_behind q [] z has)
    where
      by : (q ≡ z) ⊎ Contains [] z → q ≡ z
      by (inl same) = same
      by (inr rest) = absurd (none_in z rest)

  pub kept_once : KeepOnce parts → KeepOnce (parts ++ q ∷ [])
  kept_once were = pairs_append (λ (a b : Parts). a.id ≢ b.id) parts (q ∷ []) were (tt, tt)
      (λ a z has it. subst (λ (y : Parts). a.id ≢ y.id) (last z it) (new.ids a has))

  pub kept_apart : KeepApart parts → KeepApart (parts ++ q ∷ [])
  kept_apart were = pairs_append (λ (a b : Parts). (n : ℕ) → a.slot ≡ Some n → b.slot ≢ Some n) parts (q ∷ []) were (tt, tt)
      (λ a z has it. subst (λ (y : Parts). (n : ℕ) → a.slot ≡ Some n → y.slot ≢ Some n) (last z it) (new.slots a has))
