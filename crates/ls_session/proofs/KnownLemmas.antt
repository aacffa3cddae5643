-- The protectors that the settings name, found on a board.
use Rattle.std.proofs.Common.{◌≡◌, ◌⊎◌, ⊎_elim, inl, inr, ℕ, Bool, IsTrue, List, [], ◌∷◌, length, None, sym, ◌∙◌, ap, subst, arith}
use Rattle.std.specs.Prelude.{map, Result, Ok, Err, IfOk, OnOk}
use Rattle.std.specs.List.{Contains, AllByRecursion, AllZip, flat_map}
use Rattle.ls_board.specs.declared.action.Part.{Part}
use Rattle.ls_board.specs.declared.world.World.{World}
use Rattle.ls_board.specs.Acts.{Sight, Rose}
use Rattle.ls_board.specs.Effect.{touch_at}
use Rattle.ls_board.specs.Images.{Leaves}
use Rattle.ls_board.specs.Runs.{LeavesOnly}
use Rattle.ls_board.proofs.RunLemmas.{joins}
use Rattle.ls_formats.specs.declared.parts.Parts.{Parts}
use Rattle.ls_formats.specs.PartNames.{PartOf}
use Rattle.ls_naming.specs.Named.{row_files}
use Rattle.ls_reading.specs.Reading.{Sees}
use Rattle.ls_record.specs.declared.row.UserRow.{UserRow}
use Rattle.ls_record.specs.Rows.{Rec}
use Rattle.ls_sealing.specs.Protectors.{Protector, has_weaver, file_name, parts_for}
use Rattle.ls_settings.specs.declared.fault.OpenRefusal.{OpenRefusal}
use Rattle.ls_settings.specs.declared.fault.OpenRefusal.TheVariants.{Foreign, Fault, Memory}
use Rattle.ls_standing.specs.Named.{credential_of, token_of}
use Rattle.ls_standing.specs.NamedProtectors.{row_protectors, named_protectors, NamesProtector}
use Rattle.ls_standing.specs.Opening.{first_foreign}
use Rattle.ls_standing.specs.Standing.{NamedAreUntouched}
use Rattle.ls_standing.proofs.ContainsLemmas.{at_first, behind_first, first_or_behind, of_map, in_map, of_flat, in_flat}
use Rattle.ls_standing.proofs.ProtectorLemmas.{in_row, protector_files}
use Rattle.ls_protector.specs.Clear.{NamesParts}
use Rattle.ls_protector.specs.Settled.{IsSettled}
use Rattle.ls_turn.specs.Agreeing.{parts_in}
use Rattle.ls_turn.specs.Serving.{IsKeptAs}
use Rattle.ls_session.specs.Checking.{Checks}
use Rattle.ls_session.specs.Keeping.{kept_behind}
use Rattle.ls_session.proofs.KeepLemmas.{named_places}

-- ---- each names one of the record

all_kept : (slots : ℕ) (P : Parts → Type 0) (protectors : List Protector) (parts : List Parts)
    → ((p : Protector) (q : Parts) → Contains protectors p → IsKeptAs slots p q → P q)
    → AllZip (IsKeptAs slots) protectors parts → AllByRecursion P parts
all_kept slots P [] [] each zip = tt
all_kept slots P [] (q ∷ parts) each zip = absurd (zip)
all_kept slots P (p ∷ protectors) [] each zip = absurd (zip)
all_kept slots P (p ∷ protectors) (q ∷ parts) each zip =
    (each p q (at_first p protectors) zip.0, all_kept slots P protectors parts (λ x y within. each x y (behind_first p protectors x within)) zip.1)

names_it : (r : Rec) (slots : ℕ) (p : Protector) (q : Parts) → NamesProtector r p → IsKeptAs slots p q → NamesParts r q
names_it r slots p q named kept =
    let found = of_flat row_protectors r.users p named in
    let row = found.0 in
    let user : p.user ≡ q.user = ap (λ (x : Parts). x.user) (sym kept.2) in
    let id : p.id ≡ q.id = ap (λ (x : Parts). x.id) (sym kept.2) in
    let its = first_or_behind (credential_of row) (map (token_of row) row.tokens) p found.2 in (
      row,
      found.1,
      ⊎_elim (λ (e : credential_of row ≡ p). ap (λ (x : Protector). x.user) e ∙ user) (λ (k : Contains (map (token_of row) row.tokens) p). ap (λ (x : Protector). x.user) (of_map (token_of row) row.tokens p k).2 ∙ user) its,
      ⊎_elim (λ (e : credential_of row ≡ p). inl (ap (λ (x : Protector). x.id) e ∙ id))
          (λ (k : Contains (map (token_of row) row.tokens) p).
          let t = of_map (token_of row) row.tokens p k in
          inr (subst (Contains row.tokens) (ap (λ (x : Protector). x.id) t.2 ∙ id) t.1)) its,
    )

pub all_named : (r : Rec) (slots : ℕ) (parts : List Parts) → AllZip (IsKeptAs slots) (named_protectors r) parts → AllByRecursion (NamesParts r) parts
all_named r slots parts zip = all_kept slots (NamesParts r) (named_protectors r) parts (λ p q named kept. names_it r slots p q named kept) zip

-- ---- none of its files is touched

all_mapped : (w : World) (protectors : List Protector) → ((p : Protector) → Contains protectors p → IsSettled w (parts_in w p)) → AllByRecursion (IsSettled w) (map (parts_in w) protectors)
all_mapped w [] each = tt
all_mapped w (p ∷ protectors) each = (each p (at_first p protectors), all_mapped w protectors (λ q within. each q (behind_first p protectors q within)))

settled : (w : World) (r : Rec) → NamedAreUntouched w r → (p : Protector) → NamesProtector r p → IsSettled w (parts_in w p)
settled w r untouched p named = record {
  still = λ n within.
      let found = of_flat row_protectors r.users p named in
      let part = of_map (file_name p) (parts_for (has_weaver w) p.purpose) n within in
      let name : PartOf = record { user = p.user; id = p.id; part = part.0 } in
      let file : Contains (protector_files (has_weaver w) p) name = in_map (λ x. record { user = p.user; id = p.id; part = x }) (parts_for (has_weaver w) p.purpose) part.0 part.1 in
      ap (touch_at w) (sym part.2) ∙ untouched name (in_flat (λ row. row_files (has_weaver w) r.armed row) r.users found.0 name found.1 (in_row (has_weaver w) r.armed found.0 p name found.2 file));
}

pub all_settled : (w : World) (r : Rec) (parts : List Parts) → NamedAreUntouched w r → parts ≡ map (parts_in w) (named_protectors r) → AllByRecursion (IsSettled w) parts
all_settled w r parts untouched is = subst (AllByRecursion (IsSettled w)) (sym is) (all_mapped w (named_protectors r) (λ p named. settled w r untouched p named))

-- ---- what is found

-- in a world whose files have no fault
found_in : (w : World) (r : Rec) (n : ℕ) (rows : List UserRow) (start kept : Result (List Parts) PartOf)
    → n ≡ length w.slots → rows ≡ r.users → start ≡ Ok [] → first_foreign w r ≡ None → kept ≡ kept_behind n (flat_map row_protectors rows) start w
    → kept ≡ Ok (map (parts_in w) (named_protectors r))
found_in w r n rows start kept count its begins none found =
    found
    ∙ ap (λ (m : ℕ). kept_behind m (flat_map row_protectors rows) start w) count
    ∙ ap (λ (l : List UserRow). kept_behind (length w.slots) (flat_map row_protectors l) start w) its
    ∙ ap (λ (s : Result (List Parts) PartOf). kept_behind (length w.slots) (named_protectors r) s w) begins
    ∙ named_places w r none

-- ---- checks in a row

module _ (r : Rec) (old mid new : Sight) where
  pub both : {A B : Type 0} (a : A) (result : Result B OpenRefusal) → Checks {T = A} r old (Ok a) mid → Checks {T = B} r mid result new → Checks {T = B} r old result new
  both a result first second = record {
    keeps = record {
      told = second.keeps.told ∙ first.keeps.told;
      never_fails = second.keeps.never_fails ∙ first.keeps.never_fails;
      slots = second.keeps.slots ∙ first.keeps.slots;
      later = λ p. omega (arith, second.keeps.later p, first.keeps.later p);
      quiet = subst (λ (f : Part → ℕ). OnOk result (new.faults ≡ f)) first.keeps.quiet second.keeps.quiet;
      other = λ e is apart. second.keeps.other e is apart ∙ first.keeps.quiet;
      cause = λ p is. subst (λ (f : Part → ℕ). Rose (f p) (new.faults p)) first.keeps.quiet (second.keeps.cause p is);
    };
    same = λ told. second.same (on told) ∙ first.same told;
    crash = λ told. joins old mid new (Leaves old.world) (first.crash told) (subst (λ (w : World). LeavesOnly mid new (Leaves w)) (first.same told) (second.crash (on told)));
    none = λ told. subst (λ (w : World). OnOk result (first_foreign w r ≡ None)) (first.same told) (second.none (on told));
    foreign = λ told name at is. ap (λ (w : World). first_foreign w r) (sym (first.same told)) ∙ second.foreign (on told) name at is;
  }
    where
      on : IsTrue old.told → IsTrue mid.told
      on told = subst (λ (b : Bool). IsTrue b) (sym first.keeps.told) told

module _ (r : Rec) (old new : Sight) where
  -- another value
  pub checked : {A B : Type 0} (a : A) (b : B) → Checks {T = A} r old (Ok a) new → Checks {T = B} r old (Ok b) new
  checked a b checks = record {
    keeps = record {
      told = checks.keeps.told;
      never_fails = checks.keeps.never_fails;
      slots = checks.keeps.slots;
      later = checks.keeps.later;
      quiet = checks.keeps.quiet;
      other = λ e is apart. absurd (cc);
      cause = λ p is. absurd (cc);
    };
    same = checks.same;
    crash = checks.crash;
    none = checks.none;
    foreign = λ told name at is. absurd (cc);
  }

  -- no memory behind it
  pub lacked : {A B : Type 0} (a : A) → Checks {T = A} r old (Ok a) new → Checks {T = B} r old (Err Memory) new
  lacked a checks = record {
    keeps = record {
      told = checks.keeps.told;
      never_fails = checks.keeps.never_fails;
      slots = checks.keeps.slots;
      later = checks.keeps.later;
      quiet = tt;
      other = λ e is apart. checks.keeps.quiet;
      cause = λ p is. absurd (cc);
    };
    same = checks.same;
    crash = checks.crash;
    none = λ told. tt;
    foreign = λ told name at is. absurd (cc);
  }

  -- what is never found in a told world without faults
  pub never : {A B : Type 0} (look : World → A) (a : A) (e : OpenRefusal) (n : List ℕ) (at : ℕ) → (e ≡ Memory) ⊎ (e ≡ Foreign n at) → Sees {T = A} look old (Ok a) new → (IsTrue old.told → ⊥) → Checks {T = B} r old (Err e) new
  never look a e n at either sees untold = record {
    keeps = record {
      told = sees.keeps.told;
      never_fails = sees.keeps.never_fails;
      slots = sees.keeps.slots;
      later = sees.keeps.later;
      quiet = tt;
      other = λ f is apart. sees.keeps.quiet;
      cause = λ p is. absurd (⊎_elim (λ (m : e ≡ Memory). no_fault Memory p (sym m ∙ error p is) tt) (λ (m : e ≡ Foreign n at). no_fault (Foreign n at) p (sym m ∙ error p is) tt) either);
    };
    same = λ told. absurd (untold told);
    crash = λ told. absurd (untold told);
    none = λ told. tt;
    foreign = λ told name place is. absurd (untold told);
  }
    where
      NotFault : OpenRefusal → Type 0
      NotFault (Fault p) = ⊥
      NotFault _ = Unit {0}

      error : {B : Type 0} (p : Part) → ◌≡◌ {A = Result B OpenRefusal} (Err e) (Err (Fault p)) → e ≡ Fault p
      error p is = cc

      no_fault : (f : OpenRefusal) (p : Part) → f ≡ Fault p → NotFault f → ⊥
      no_fault f p is apart = subst NotFault is apart

-- ---- as the calls have it

-- how those are kept that were found
pub kept_there : (slots n : ℕ) (rows : List UserRow) (r : Rec) (kept : Result (List Parts) PartOf) (parts : List Parts) → n ≡ slots → rows ≡ r.users → kept ≡ Ok parts
    → IfOk kept (λ l. AllZip (IsKeptAs n) (flat_map row_protectors rows) l) → AllZip (IsKeptAs slots) (named_protectors r) parts
kept_there slots n rows r kept parts count its is zip =
    subst (λ (m : ℕ). AllZip (IsKeptAs m) (named_protectors r) parts) count
    (subst (λ (l : List UserRow). AllZip (IsKeptAs n) (flat_map row_protectors l) parts) its
    (subst (λ (k : Result (List Parts) PartOf). IfOk k (λ l. AllZip (IsKeptAs n) (flat_map row_protectors rows) l)) is zip))

-- what is found is what the world has
pub parts_there : (w : World) (r : Rec) (n : ℕ) (rows : List UserRow) (start kept : Result (List Parts) PartOf) (parts : List Parts)
    → n ≡ length w.slots → rows ≡ r.users → start ≡ Ok [] → first_foreign w r ≡ None → kept ≡ kept_behind n (flat_map row_protectors rows) start w → kept ≡ Ok parts
    → parts ≡ map (parts_in w) (named_protectors r)
parts_there w r n rows start kept parts count its begins none found is = same parts (map (parts_in w) (named_protectors r)) (sym is ∙ found_in w r n rows start kept count its begins none found)
  where
    same : (xs ys : List Parts) → ◌≡◌ {A = Result (List Parts) PartOf} (Ok xs) (Ok ys) → xs ≡ ys
    same xs ys e = cc

-- and so there is always something
pub not_there : (w : World) (r : Rec) (n : ℕ) (rows : List UserRow) (start kept : Result (List Parts) PartOf) (name : PartOf)
    → n ≡ length w.slots → rows ≡ r.users → start ≡ Ok [] → first_foreign w r ≡ None → kept ≡ kept_behind n (flat_map row_protectors rows) start w → kept ≡ Err name → ⊥
not_there w r n rows start kept name count its begins none found is = apart (map (parts_in w) (named_protectors r)) (sym is ∙ found_in w r n rows start kept count its begins none found)
  where
    apart : (xs : List Parts) → ◌≡◌ {A = Result (List Parts) PartOf} (Err name) (Ok xs) → ⊥
    apart xs e = cc

-- the record is that of the settings
module _ (r s : Rec) (is : s ≡ r) (old mid new : Sight) where
  pub known_err : {A B C : Type 0} (a : A) (e : OpenRefusal) → Checks {T = A} s old (Ok a) mid → Checks {T = B} s mid (Err e) new → Checks {T = C} r old (Err e) new
  known_err {A} {B} {C} a e first second = subst (λ (x : Rec). Checks {T = C} x old (Err e) new) is (failed {B = B} {C = C} (both s old mid new a (Err e) first second))
    where
      failed : {B C : Type 0} → Checks {T = B} s old (Err e) new → Checks {T = C} s old (Err e) new
      failed checks = record {
        keeps = record {
          told = checks.keeps.told;
          never_fails = checks.keeps.never_fails;
          slots = checks.keeps.slots;
          later = checks.keeps.later;
          quiet = tt;
          other = λ f same apart. checks.keeps.other f (again f same) apart;
          cause = λ p same. checks.keeps.cause p (again (Fault p) same);
        };
        same = checks.same;
        crash = checks.crash;
        none = λ told. tt;
        foreign = λ told name at same. checks.foreign told name at (again (Foreign name at) same);
      }
        where
          again : {B C : Type 0} (f : OpenRefusal) → ◌≡◌ {A = Result C OpenRefusal} (Err e) (Err f) → ◌≡◌ {A = Result B OpenRefusal} (Err e) (Err f)
          again {B} {C} f same = ap (λ (x : OpenRefusal). Err x) (inside same)
            where
              inside : ◌≡◌ {A = Result C OpenRefusal} (Err e) (Err f) → e ≡ f
              inside q = cc

  pub known_ok : {A B C : Type 0} (a : A) (b : B) (v : C) → Checks {T = A} s old (Ok a) mid → Checks {T = B} s mid (Ok b) new → Checks {T = C} r old (Ok v) new
  known_ok {A} {B} {C} a b v first second = subst (λ (x : Rec). Checks {T = C} x old (Ok v) new) is (checked s old new b v (both s old mid new a (Ok b) first second))

  pub known_lacks : {A B C : Type 0} (a : A) (b : B) → Checks {T = A} s old (Ok a) mid → Checks {T = B} s mid (Ok b) new → Checks {T = C} r old (Err Memory) new
  known_lacks {A} {B} {C} a b first second = subst (λ (x : Rec). Checks {T = C} x old (Err Memory) new) is (lacked s old new {B = C} b (both s old mid new a (Ok b) first second))

  pub settled_there : {A B : Type 0} (a : A) (b : B) (parts : List Parts) → Checks {T = A} s old (Ok a) mid → Checks {T = B} s mid (Ok b) new
      → (IsTrue old.told → NamedAreUntouched old.world r) → (IsTrue mid.told → parts ≡ map (parts_in mid.world) (named_protectors s))
      → IsTrue new.told → AllByRecursion (IsSettled new.world) parts
  settled_there a b parts first second untouched its told =
      let there : IsTrue mid.told = subst (λ (x : Bool). IsTrue x) second.keeps.told told in
      let here : IsTrue old.told = subst (λ (x : Bool). IsTrue x) first.keeps.told there in
      let same : new.world ≡ mid.world = second.same there in
      subst (λ (w : World). AllByRecursion (IsSettled w) parts) (sym same)
      (all_settled mid.world s parts (subst (λ (w : World). NamedAreUntouched w s) (sym (first.same here)) (subst (NamedAreUntouched old.world) (sym is) (untouched here))) (its there))
