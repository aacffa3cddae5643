-- A row that shows the length of a PIN otherwise is put: what the next record names, in every world.
use Rattle.std.proofs.Common.{◌≡◌, ◌≢◌, ◌⊎◌, inl, inr, ⊎_elim, ◌∷◌, ℕ, Bool, true, false, List, [], refl, sym, ◌∙◌, ap, subst, arith}
use Rattle.std.specs.Prelude.{◌==◌, nat_lt, is_some}
use Rattle.std.specs.List.{Contains, flat_map}
use Rattle.std.specs.Option.{option_and_then}
use Rattle.std.proofs.lemmas.Bool.{eqb-true, eqb-false}
use Rattle.std.proofs.lemmas.List.Elements.{Contains-append_left, Contains-append_right, Contains-append_cases}
use Rattle.ls_board.specs.declared.world.World.{World}
use Rattle.ls_board.specs.Effect.{file_at}
use Rattle.ls_board.specs.Reach.{SameBut}
use Rattle.ls_edits.specs.Rows.{with_pin}
use Rattle.ls_edits.proofs.PutRowLemmas.{of_put, row_put, others_put}
use Rattle.ls_formats.specs.declared.part.FilePart.TheVariants.{Weaver}
use Rattle.ls_formats.specs.declared.parts.Parts.{Parts}
use Rattle.ls_formats.specs.PartNames.{PartOf}
use Rattle.ls_naming.specs.Named.{NamesFile, NamesKey, row_files, row_keys, row_enrolled, only_if}
use Rattle.ls_protector.specs.Clear.{AreUnnamed}
use Rattle.ls_protector.specs.Parts.{parts_of}
use Rattle.ls_record.specs.declared.edit.Edit.TheVariants.{PutRow}
use Rattle.ls_record.specs.declared.row.UserRow.{UserRow}
use Rattle.ls_record.specs.Edits.{changed as edited}
use Rattle.ls_record.specs.Rows.{Rec, IsRecord, IsBefore}
use Rattle.ls_sealing.specs.Protectors.{Protector, has_weaver, has_part, held_number, slot_number, where_it_has, file_name}
use Rattle.ls_settings.specs.Loaded.{settings_reach}
use Rattle.ls_standing.specs.Bare.{IsBare}
use Rattle.ls_standing.specs.NamedProtectors.{NamesProtector, row_protectors}
use Rattle.ls_standing.proofs.ContainsLemmas.{in_flat, of_flat}
use Rattle.ls_standing.proofs.PairLemmas.{pair_cases}
use Rattle.ls_standing.proofs.SameLemmas.{no_settings}
use Rattle.ls_turn.specs.Agreeing.{AreNamed, parts_in}

-- ---- the rows of the next record

one_row : (r : Rec) → IsRecord r → (row : UserRow) → Contains r.users row → (other : UserRow) → Contains r.users other → other.user ≡ row.user → other ≡ row
one_row r is row here other there same = by (pair_cases IsBefore r.users is.pairs other row there here)
  where
    by : (other ≡ row) ⊎ (IsBefore other row ⊎ IsBefore row other) → other ≡ row
    by (inl e) = e
    by (inr (inl before)) = let less = before.user in let none : ⊥ = omega (arith, less, same) in absurd none
    by (inr (inr before)) = let less = before.user in let none : ⊥ = omega (arith, less, same) in absurd none

module _ (r : Rec) (is : IsRecord r) (row : UserRow) (here : Contains r.users row) (on : Bool) (pin : ℕ) where
  abbrev row' : UserRow
  row' = with_pin on pin row

  abbrev pub next : Rec
  next = edited r (PutRow row')

  -- what doesn't depend on the length that is shown
  module _ {Y : Type 0} (f : UserRow → List Y) (same : f row' ≡ f row) (y : Y) where
    pub flat_on : Contains (flat_map f r.users) y → Contains (flat_map f next.users) y
    flat_on has = from (of_flat f r.users y has)
      where
        by : (x : UserRow) → Contains r.users x → Contains (f x) y → (b : Bool) → (x.user == row.user) ≡ b → Contains (flat_map f next.users) y
        by x has own true eq = in_flat f next.users row' y (row_put r row') (subst (λ (l : List Y). Contains l y) (ap f (one_row r is row here x has (eqb-true x.user row.user eq)) ∙ sym same) own)
        by x has own false eq = in_flat f next.users x y (others_put r row' x has (eqb-false x.user row.user eq)) own

        from : (x : UserRow) × Contains r.users x × Contains (f x) y → Contains (flat_map f next.users) y
        from found = by found.0 found.1 found.2 (found.0.user == row.user) refl

    pub flat_back : Contains (flat_map f next.users) y → Contains (flat_map f r.users) y
    flat_back has = from (of_flat f next.users y has)
      where
        by : (x : UserRow) → Contains (f x) y → (Contains r.users x × (x.user ≢ row'.user)) ⊎ (x ≡ row') → Contains (flat_map f r.users) y
        by x own (inl old) = in_flat f r.users x y old.0 own
        by x own (inr e) = in_flat f r.users row y here (subst (λ (l : List Y). Contains l y) (ap f e ∙ same) own)

        from : (x : UserRow) × Contains next.users x × Contains (f x) y → Contains (flat_map f r.users) y
        from found = by found.0 found.2 (of_put r row' found.0 found.1)

  pub protector_on : (p : Protector) → NamesProtector r p → NamesProtector next p
  protector_on p has = flat_on row_protectors refl p has

  pub protector_back : (p : Protector) → NamesProtector next p → NamesProtector r p
  protector_back p has = flat_back row_protectors refl p has

  pub file_on : (weaver : Bool) (name : PartOf) → NamesFile weaver r name → NamesFile weaver next name
  file_on weaver name has = flat_on (row_files weaver r.armed) refl name has

  pub file_back : (weaver : Bool) (name : PartOf) → NamesFile weaver next name → NamesFile weaver r name
  file_back weaver name has = flat_back (row_files weaver r.armed) refl name has

  key_on : (alias : ℕ) → NamesKey r alias → NamesKey next alias
  key_on alias has = ⊎_elim
      (λ (rows : Contains (flat_map row_keys r.users) alias). Contains-append_left (flat_map row_keys next.users) (only_if (is_some r.armed) (0 ∷ [])) alias (flat_on row_keys refl alias rows))
      (λ (own : Contains (only_if (is_some r.armed) (0 ∷ [])) alias). Contains-append_right (flat_map row_keys next.users) (only_if (is_some r.armed) (0 ∷ [])) alias own)
      (Contains-append_cases (flat_map row_keys r.users) (only_if (is_some r.armed) (0 ∷ [])) alias has)

  -- where the world is bare beside the record, it is so beside the next one
  pub bare_on : (start w : World) (retired : List (List ℕ)) → IsBare start w r retired → IsBare start w next retired
  bare_on start w retired bare = record {
    files = λ name part none kept. bare.files name part (λ named. none (file_on (has_weaver w) name named)) kept;
    strange = bare.strange;
    slots = λ slot small none. bare.slots slot small
        (λ named. none (record { name = named.name; named = file_on (has_weaver w) named.name named.named; part = named.part; small = named.small; holds = named.holds }));
    counters = λ sid none. bare.counters sid (λ named. none (flat_on (row_enrolled (has_weaver w)) refl sid named));
    keys = λ alias none. bare.keys alias (λ named. none (key_on alias named));
    cell = bare.cell;
  }

  -- ---- behind a change that touches the settings files alone

  module _ (w after : World) (but : SameBut settings_reach w after) where
    pub number_same : (p : Protector) → held_number after p ≡ held_number w p
    number_same p =
        let file : file_at after (file_name p Weaver) ≡ file_at w (file_name p Weaver) = but.file (file_name p Weaver) (no_settings (record { user = p.user; id = p.id; part = Weaver })) in
        λ i. option_and_then slot_number (where_it_has (has_part (nat_lt 0 (but.count i)) p.purpose Weaver) (file i))

    parts_same : (p : Protector) → parts_in after p ≡ parts_in w p
    parts_same p = λ i. parts_of (nat_lt 0 (but.count i)) p (number_same p i)

    pub named_on : (parts : List Parts) → AreNamed w r parts → AreNamed after next parts
    named_on parts was = record {
      each = λ p named. subst (Contains parts) (sym (parts_same p)) (was.each p (protector_back p named));
      only = λ q has. let found = was.only q has in (found.0, protector_on found.0 found.1, found.2 ∙ sym (parts_same found.0));
    }

    pub unnamed_on : (names : List (List ℕ)) → AreUnnamed w r names → AreUnnamed after next names
    unnamed_on names was n has = let u = was n has in record {
      settings = u.settings;
      named = λ name named. u.named name (file_back (has_weaver w) name (subst (λ (c : ℕ). NamesFile (nat_lt 0 c) next name) but.count named));
    }
