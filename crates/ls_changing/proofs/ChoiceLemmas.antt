-- The numbers that are chosen fit the record, and the plan is made of them.
use Rattle.std.proofs.Common.{◌≡◌, ◌⊎◌, inl, inr, ⊎_elim, ◌<◌, ◌+◌, ◌-◌, ◌*◌, ◌%◌, ◌^◌, not, ℕ, zero, suc, Bool, true, false, cond, List, [], ◌∷◌, map, drop, length, Option, None, Some, refl, sym, ap, subst, ◌∙◌, arith}
use Rattle.std.specs.Prelude.{◌==◌, ◌&&◌, is_some, slice_index}
use Rattle.std.specs.List.{Contains}
use Rattle.std.proofs.lemmas.Bool.{eq-eqb, ne_eqb, eqb-true}
use Rattle.std.proofs.lemmas.List.{length-drop, get_or-drop}
use Rattle.ls_arming.specs.Numbers.{contains}
use Rattle.ls_credential.specs.declared.kind.Kind.{Kind}
use Rattle.ls_credential.specs.declared.kind.Kind.TheVariants.{Empty, Pattern, Pin, Password}
use Rattle.ls_credential.specs.Counts.{metrics_of, IsSmall}
use Rattle.ls_credential.specs.Rules.{KindAndText, fault_of}
use Rattle.ls_formats.specs.declared.parts.Parts.{Parts}
use Rattle.ls_placing.specs.Placing.{HasNewPlace, IsFreeSlot}
use Rattle.ls_promises.proofs.FreshLemmas.{found_free}
use Rattle.ls_record.specs.declared.row.UserRow.{UserRow}
use Rattle.ls_record.specs.Rows.{IsRecord, is_odd, is_protector_id, is_secure_id}
use Rattle.ls_sealing.specs.Draws.{credential_draw_size}
use Rattle.ls_sealing.specs.Protectors.{Protector}
use Rattle.ls_standing.specs.NamedProtectors.{NamesProtector}
use Rattle.ls_standing.proofs.ContainsLemmas.{in_map, any_contained}
use Rattle.ls_standing.proofs.IdLemmas.{is_row}
use Rattle.ls_turn.specs.declared.session.Session.{Session}
use Rattle.ls_turn.specs.Agreeing.{retired_files}
use Rattle.ls_turn.specs.Serving.{FitsBoard, IsKeptAs}
use Rattle.ls_vault.specs.Drawn.{credential_len}
use Rattle.ls_vault.specs.Fresh.{first_free, odd, fresh, drawn_number}
use Rattle.ls_vault.specs.Kinds.{is_empty}
use Rattle.ls_changing.specs.declared.numbers.Numbers.{Numbers}
use Rattle.ls_changing.specs.declared.numbers.Taken.{Taken}
use Rattle.ls_changing.specs.Drawing.{own_len}
use Rattle.ls_changing.specs.Planning.{IsChoice, secure_for, draw_len}
use Rattle.ls_changing.specs.Replacing.{comes}
use Rattle.ls_changing.proofs.StagedLemmas.{both_true}

-- ---- a fresh odd number

odd_free : (k d : ℕ) (taken : List ℕ) → d % 2 ≡ 1 → first_free k d taken % 2 ≡ 1
unfolding first_free
odd_free zero d taken is = is
odd_free (suc k) d taken is = by (contains taken d) (odd_free k ((d + 2) % 2 ^ 64) taken (omega (arith, is)))
  where
    by : (b : Bool) → first_free k ((d + 2) % 2 ^ 64) taken % 2 ≡ 1 → cond b (first_free k ((d + 2) % 2 ^ 64) taken) d % 2 ≡ 1
    by true rest = rest
    by false rest = is

fresh_odd : (d : ℕ) (taken : List ℕ) → is_odd (fresh d taken) ≡ true
fresh_odd d taken = eq-eqb (fresh d taken % 2) 1 (odd_free (length taken) (odd d) taken (omega arith))

pub length_map_same : {X Y : Type 0} (f : X → Y) (xs : List X) → length (map f xs) ≡ length xs
length_map_same f [] = refl
length_map_same f (x ∷ xs) = ap (λ (n : ℕ). suc n) (length_map_same f xs)

not_contained : (ns : List ℕ) (n : ℕ) → contains ns n ≡ false → ¬ Contains ns n
not_contained ns n is has = let both : true ≡ false = sym (any_contained (λ m. m == n) ns n has (eq-eqb n n refl)) ∙ is in cc

-- ---- the secure id

-- there is no credential, or the secure id is odd
kind_cases : (kind : Kind) → (kind ≡ Empty) ⊎ ((is_empty kind ≡ false) × ((id : ℕ) → is_secure_id kind id ≡ is_odd id))
kind_cases Empty = inl refl
kind_cases Pattern = inr (refl, λ id. refl)
kind_cases Pin = inr (refl, λ id. refl)
kind_cases Password = inr (refl, λ id. refl)

module _ (kind was : Kind) (old new : ℕ) (its : is_secure_id was old ≡ true) (odd_new : is_odd new ≡ true) where
  abbrev then : ℕ
  then = cond (is_empty kind) 0 (cond (is_empty was && not (is_empty kind)) new old)

  -- what it is then, case by case
  abbrev Cases : ℕ → Type 0
  Cases secure = (is_secure_id kind secure ≡ true) × ((old == 0) ≡ false → (secure == 0) ≡ false → secure ≡ old) × (comes old secure ≡ true → secure ≡ new)

  none : kind ≡ Empty → Cases then
  none e =
      let zero_is : then ≡ 0 = ap (λ (k : Kind). cond (is_empty k) 0 (cond (is_empty was && not (is_empty k)) new old)) e in
      subst Cases (sym zero_is) (
        ap (λ (k : Kind). is_secure_id k 0) e,
        λ had some. let bad : true ≡ false = some in absurd (cc),
        λ c. let bad : false ≡ true = (both_true (old == 0) false c).1 in absurd (cc),
      )

  first : was ≡ Empty → is_empty kind ≡ false → ((id : ℕ) → is_secure_id kind id ≡ is_odd id) → Cases then
  first e some rule =
      let new_is : then ≡ new = (λ i. cond (some i) 0 (cond (is_empty (e i) && not (some i)) new old)) in
      let had_none : (old == 0) ≡ true = sym (ap (λ (k : Kind). is_secure_id k old) e) ∙ its in
      subst Cases (sym new_is) (
        rule new ∙ odd_new,
        λ had kept. let bad : true ≡ false = sym had_none ∙ had in absurd (cc),
        λ c. refl,
      )

  kept : is_empty was ≡ false → ((id : ℕ) → is_secure_id was id ≡ is_odd id) → is_empty kind ≡ false → ((id : ℕ) → is_secure_id kind id ≡ is_odd id) → Cases then
  kept had was_rule some rule =
      let old_is : then ≡ old = (λ i. cond (some i) 0 (cond (had i && not (some i)) new old)) in
      subst Cases (sym old_is) (
        rule old ∙ (sym (was_rule old) ∙ its),
        λ a b. refl,
        λ c. let bad : is_odd 0 ≡ true = ap is_odd (sym (eqb-true old 0 (both_true (old == 0) (not (old == 0)) c).0)) ∙ (sym (was_rule old) ∙ its) in absurd (cc),
      )

  pub secure_cases : Cases then
  secure_cases = ⊎_elim none (λ k. ⊎_elim (λ e. first e k.0 k.1) (λ h. kept h.0 h.1 k.0 k.1) (kind_cases was)) (kind_cases kind)

-- ---- the choice

pub choice_is : (x : Session) → ((p : Protector) → NamesProtector x.settings.settled.rec p → (q : Parts) × Contains x.named.items q × IsKeptAs x.slots p q) → IsRecord x.settings.settled.rec → (row : UserRow) → Contains x.settings.settled.rec.users row → (c : KindAndText) (drawn : List ℕ) (t : Taken) (n : Numbers)
    → fault_of c.kind c.text ≡ None → IsSmall (metrics_of c) → HasNewPlace x.named.items (retired_files x) n.id n.slot
    → is_protector_id n.id ≡ true → (n.id < 2 ^ 64) × (n.secure < 2 ^ 64) → IsFreeSlot x.slots t.slots n.slot
    → n.secure ≡ secure_for x.settings.settled.rec.users row c drawn → IsChoice x row c drawn n
choice_is x each is row here c drawn t n rule small place even sizes free secure = record {
  chosen = record {
    here = here;
    rule = rule;
    small = λ some. small;
    even = even;
    id = sizes.0;
    other = λ q named e. let z = each q named in place.ids z.0 z.1 (ap (λ (p : Parts). p.id) z.2.2 ∙ e);
    rules = cases.0;
    secure = sizes.1;
    same = cases.1;
    new = λ come r has e. not_contained ids_were (fresh (drawn_number drawn) ids_were)
        (found_free (length ids_were) (odd (drawn_number drawn)) ids_were (omega arith) (let few = is.few in omega (arith, few, length_map_same (λ (r : UserRow). r.secure) x.settings.settled.rec.users)))
        (subst (Contains ids_were) (e ∙ cases.2 come) (in_map (λ (r : UserRow). r.secure) x.settings.settled.rec.users r has));
  };
  place = place;
  fits = free.fits;
  secure = secure;
}
  where
    ids_were : List ℕ
    ids_were = map (λ r. r.secure) x.settings.settled.rec.users

    new : ℕ
    new = fresh (drawn_number drawn) (map (λ r. r.secure) x.settings.settled.rec.users)

    cases : Cases c.kind row.kind row.secure new (is_row x.settings.settled.rec is row here).secure.0 (fresh_odd (drawn_number drawn) ids_were) n.secure
    cases = subst (Cases c.kind row.kind row.secure new (is_row x.settings.settled.rec is row here).secure.0 (fresh_odd (drawn_number drawn) ids_were)) (sym secure)
        (secure_cases c.kind row.kind row.secure new (is_row x.settings.settled.rec is row here).secure.0 (fresh_odd (drawn_number drawn) ids_were))

-- ---- what is drawn for the protector

size_of : (kind : Kind) (slots : ℕ) (weaver : Bool) → (slots == 0) ≡ not weaver → credential_len slots kind ≡ 8 + credential_draw_size weaver kind
size_of Empty slots true is = ap (λ (b : Bool). 8 + 32 + 2 * 12 + 0 + cond b (16384 + 0) 16) is
size_of Empty slots false is = ap (λ (b : Bool). 8 + 32 + 2 * 12 + 0 + cond b (16384 + 0) 16) is
size_of Pattern slots true is = ap (λ (b : Bool). 8 + 32 + 2 * 12 + (16 + 12) + cond b (16384 + 8) 16) is
size_of Pattern slots false is = ap (λ (b : Bool). 8 + 32 + 2 * 12 + (16 + 12) + cond b (16384 + 8) 16) is
size_of Pin slots true is = ap (λ (b : Bool). 8 + 32 + 2 * 12 + (16 + 12) + cond b (16384 + 8) 16) is
size_of Pin slots false is = ap (λ (b : Bool). 8 + 32 + 2 * 12 + (16 + 12) + cond b (16384 + 8) 16) is
size_of Password slots true is = ap (λ (b : Bool). 8 + 32 + 2 * 12 + (16 + 12) + cond b (16384 + 8) 16) is
size_of Password slots false is = ap (λ (b : Bool). 8 + 32 + 2 * 12 + (16 + 12) + cond b (16384 + 8) 16) is

pub bytes_long : (slots : ℕ) (slot : Option ℕ) → FitsBoard slots slot → (row : UserRow) (c : KindAndText) (drawn bytes : List ℕ) (first : Bool) → first ≡ (is_empty row.kind && not (is_empty c.kind))
    → length drawn ≡ draw_len slots row c → bytes ≡ drop (own_len first + 8) drawn → length bytes ≡ credential_draw_size (is_some slot) c.kind
bytes_long slots slot fits row c drawn bytes first is long cut =
    let n = size_of c.kind slots (is_some slot) (slots_none slot fits) in
    let l : length drawn ≡ own_len first + credential_len slots c.kind = long ∙ ap (λ (b : Bool). own_len b + credential_len slots c.kind) (sym is) in
    let d : length bytes ≡ length drawn - (own_len first + 8) = ap length cut ∙ length-drop (own_len first + 8) drawn in
    omega (arith, n, l, d)
  where
    slots_none : (o : Option ℕ) → FitsBoard slots o → (slots == 0) ≡ not (is_some o)
    slots_none None f = eq-eqb slots 0 f
    slots_none (Some k) f = ne_eqb slots 0 (omega (arith, f))

-- they are bytes, as what they are cut from
pub bytes_each : (n : ℕ) (drawn bytes : List ℕ) → bytes ≡ drop n drawn → ((i : ℕ) → slice_index drawn i < 256) → (i : ℕ) → slice_index bytes i < 256
bytes_each n drawn bytes cut each i = subst (λ (l : List ℕ). slice_index l i < 256) (sym cut) (subst (λ (b : ℕ). b < 256) (sym (get_or-drop n drawn i 0)) (each (n + i)))
