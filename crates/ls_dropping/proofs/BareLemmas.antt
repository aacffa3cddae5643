-- What is left of a user who was dropped.
use Rattle.std.proofs.Common.{◌≡◌, ◌≢◌, ◌⊎◌, inl, inr, ⊎_elim, not, ℕ, Bool, true, false, List, [], ◌∷◌, ◌++◌, map, replicate, Option, Some, refl, sym, ap, subst, ◌∙◌, arith}
use Rattle.std.specs.Prelude.{◌==◌, is_some, nat_lt}
use Rattle.std.specs.Option.{option_and_then}
use Rattle.std.specs.List.{Contains}
use Rattle.std.proofs.lemmas.Bool.{eq-eqb, eqb-true}
use Rattle.std.proofs.lemmas.List.Elements.{Contains-append_left, Contains-append_right}
use Rattle.ls_board.specs.declared.action.Action.{Action}
use Rattle.ls_board.specs.declared.action.Action.TheVariants.{GkForget, KeyDrop, Remove, Sync}
use Rattle.ls_board.specs.declared.world.World.{World}
use Rattle.ls_board.specs.Effect.{file_at}
use Rattle.ls_board.specs.Reach.{SameBut, AllTouchOnly}
use Rattle.ls_board.specs.Runs.{after_all}
use Rattle.ls_board.proofs.FrameLemmas.{same_refl, plan_same}
use Rattle.ls_board.proofs.RunLemmas.{after_all-append}
use Rattle.ls_formats.specs.declared.part.FilePart.{FilePart}
use Rattle.ls_formats.specs.declared.part.FilePart.TheVariants.{Weaver}
use Rattle.ls_formats.specs.PartNames.{PartOf, part_name_text}
use Rattle.ls_naming.specs.Named.{only_if, has_secure, user_parts, credential_parts, parts_of, token_files, row_files, row_enrolled, NamesFile, NamesEnrolled}
use Rattle.ls_record.specs.declared.row.UserRow.{UserRow}
use Rattle.ls_record.specs.Rows.{Rec, IsRecord, IsBefore}
use Rattle.ls_record.proofs.ChangeLemmas.{split_rows}
use Rattle.ls_sealing.specs.Protectors.{Protector, has_weaver, held_number, is_enrolled, parts_for, has_part, file_name, slot_number, where_it_has}
use Rattle.ls_sealing.specs.Building.{slot_writes}
use Rattle.ls_settings.specs.Loaded.{Loaded, settings_reach}
use Rattle.ls_standing.specs.Bare.{IsBare, named_by}
use Rattle.ls_standing.specs.Clearing.{blank_write, LetsGo}
use Rattle.ls_standing.specs.Named.{credential_of}
use Rattle.ls_standing.specs.NamedProtectors.{row_protectors, NamesProtector}
use Rattle.ls_standing.specs.Quiet.{unnamed, IsUnnamedProtector}
use Rattle.ls_standing.proofs.BareLemmas.{changed}
use Rattle.ls_standing.proofs.ContainsLemmas.{at_first, behind_first, in_map, of_map, in_flat, of_flat}
use Rattle.ls_standing.proofs.LettingLemmas.{lets_retire}
use Rattle.ls_standing.proofs.PairLemmas.{pair_cases}
use Rattle.ls_standing.proofs.TouchLemmas.{later_touch}
use Rattle.ls_standing.proofs.SameLemmas.{no_settings, named_but_settings}
use Rattle.ls_change.specs.declared.work.Work.{Work}
use Rattle.ls_change.specs.Work.{next_of, actions_of}
use Rattle.ls_edits.proofs.DropLemmas.{files_still}
use Rattle.ls_edits.proofs.FilterLemmas.{in_filter}
use Rattle.ls_retiring.specs.declared.built.Built.{Built}
use Rattle.ls_retiring.specs.Retiring.{protector_of, erasing_of, erasing_all, file_names, own_removes}
use Rattle.ls_dropping.specs.Dropping.{DroppedUser, DropsUser, dropping, HaveSlots, StaysArmed, files_left}
use Rattle.ls_dropping.proofs.DroppingLemmas.{next, next_is, dropping_away, dropping_touch}

module _ (w : World) (r : Rec) (is : IsRecord r) (row : UserRow) (there : Contains r.users row) (gone : List Built) (protectors : map protector_of gone ≡ row_protectors row)
    (slots : HaveSlots w gone) (armed : StaysArmed r (next w r is row there)) (old : List (List ℕ)) where
  abbrev less : Rec
  less = next w r is row there

  abbrev u : DroppedUser
  u = record { row = row; gone = gone }

  abbrev forgets : List Action
  forgets = only_if (has_secure row) (GkForget row.secure ∷ [])

  abbrev files : List Action
  files = own_removes row.user (user_parts r.armed row)

  abbrev plan : List Action
  plan = dropping r.armed u

  -- ---- rows

  -- a row is that of the user, or it stays
  row_cases : (x : UserRow) → Contains r.users x → (x ≡ row) ⊎ (Contains less.users x × (x.user ≢ row.user))
  row_cases x h = by (x.user == row.user) refl
    where
      one : x.user ≡ row.user → x ≡ row
      one same = one_of (pair_cases IsBefore r.users is.pairs x row h there)
        where
          one_of : (x ≡ row) ⊎ (IsBefore x row ⊎ IsBefore row x) → x ≡ row
          one_of (inl e) = e
          one_of (inr (inl before)) = let lt = before.user in absurd (omega (arith, lt, same))
          one_of (inr (inr behind)) = let lt = behind.user in absurd (omega (arith, lt, same))

      by : (b : Bool) → (x.user == row.user) ≡ b → (x ≡ row) ⊎ (Contains less.users x × (x.user ≢ row.user))
      by true same = inl (one (eqb-true x.user row.user same))
      by false other = inr (
        subst (λ (l : List UserRow). Contains l x) (sym (split_rows r.users row.user is.pairs)) (in_filter (λ (y : UserRow). not (y.user == row.user)) r.users x h (ap not other)),
        λ e. let bad : true ≡ false = sym (eq-eqb x.user row.user e) ∙ other in cc,
      )

  -- ---- what the plan has

  in_erasing : (b : Built) → Contains gone b → (a : Action) → Contains (erasing_of b) a → Contains plan a
  in_erasing b h a k = Contains-append_left (erasing_all gone) (forgets ++ (files ++ Sync ∷ [])) a (in_flat erasing_of gone b a h k)

  in_forgets : (a : Action) → Contains forgets a → Contains plan a
  in_forgets a k = Contains-append_right (erasing_all gone) (forgets ++ (files ++ Sync ∷ [])) a (Contains-append_left forgets (files ++ Sync ∷ []) a k)

  in_files : (a : Action) → Contains files a → Contains plan a
  in_files a k =
      Contains-append_right (erasing_all gone) (forgets ++ (files ++ Sync ∷ [])) a
      (Contains-append_right forgets (files ++ Sync ∷ []) a (Contains-append_left files (Sync ∷ []) a k))

  only_there : {X : Type 0} (b : Bool) (x : X) → b ≡ true → Contains (only_if b (x ∷ [])) x
  only_there true x e = at_first x []
  only_there false x e = absurd (cc)

  -- the one that was built for a protector
  abbrev BuiltFor : Protector → Type 0
  BuiltFor p = (b : Built) × Contains gone b × (protector_of b ≡ p)

  built_for : (p : Protector) → Contains (row_protectors row) p → BuiltFor p
  built_for p h = of_map protector_of gone p (subst (λ (l : List Protector). Contains l p) (sym protectors) h)

  blanks : Built → List Action
  blanks b = slot_writes b.place.slot (replicate 16 0) (replicate 16 0)

  drops_key : Built → List Action
  drops_key b = KeyDrop (protector_of b).id ∷ only_if (is_enrolled (is_some b.place.slot) (protector_of b).purpose) (GkForget (protector_of b).id ∷ [])

  slot_blanked : (p : Protector) → Contains (row_protectors row) p → (slot : ℕ) → held_number w p ≡ Some slot → Contains plan (blank_write slot)
  unfolding blanks drops_key
  slot_blanked p h slot number = by (built_for p h)
    where
      by : BuiltFor p → Contains plan (blank_write slot)
      by (b, k, e) =
          let its : b.place.slot ≡ Some slot = sym (slots b k).0 ∙ ap (held_number w) e ∙ number in
          in_erasing b k (blank_write slot)
          (Contains-append_left (blanks b) (drops_key b) (blank_write slot)
          (subst (λ (o : Option ℕ). Contains (slot_writes o (replicate 16 0) (replicate 16 0)) (blank_write slot)) (sym its) (at_first (blank_write slot) [])))

  key_dropped : (p : Protector) → Contains (row_protectors row) p → Contains plan (KeyDrop p.id)
  unfolding blanks drops_key
  key_dropped p h = by (built_for p h)
    where
      by : BuiltFor p → Contains plan (KeyDrop p.id)
      by (b, k, e) = subst (λ (q : Protector). Contains plan (KeyDrop q.id)) e
          (in_erasing b k (KeyDrop (protector_of b).id)
          (Contains-append_right (blanks b) (drops_key b) (KeyDrop (protector_of b).id)
          (at_first (KeyDrop (protector_of b).id) (only_if (is_enrolled (is_some b.place.slot) (protector_of b).purpose) (GkForget (protector_of b).id ∷ [])))))

  counter_forgotten : (p : Protector) → Contains (row_protectors row) p → is_enrolled (has_weaver w) p.purpose ≡ true → Contains plan (GkForget p.id)
  unfolding blanks drops_key
  counter_forgotten p h enrolled = by (built_for p h)
    where
      by : BuiltFor p → Contains plan (GkForget p.id)
      by (b, k, e) =
          let its : is_enrolled (is_some b.place.slot) (protector_of b).purpose ≡ true = ap (λ (t : Bool). is_enrolled t (protector_of b).purpose) (slots b k).1 ∙ ap (λ (q : Protector). is_enrolled (has_weaver w) q.purpose) e ∙ enrolled in
          subst (λ (q : Protector). Contains plan (GkForget q.id)) e
          (in_erasing b k (GkForget (protector_of b).id)
          (Contains-append_right (blanks b) (drops_key b) (GkForget (protector_of b).id)
          (behind_first (KeyDrop (protector_of b).id) (only_if (is_enrolled (is_some b.place.slot) (protector_of b).purpose) (GkForget (protector_of b).id ∷ [])) (GkForget (protector_of b).id)
          (only_there (is_enrolled (is_some b.place.slot) (protector_of b).purpose) (GkForget (protector_of b).id) its))))

  file_stays : (p : Protector) → Contains (row_protectors row) p → (part : FilePart) → Contains (parts_for (has_weaver w) p.purpose) part → Contains (old ++ files_left u) (file_name p part)
  file_stays p h part within = by (built_for p h)
    where
      by : BuiltFor p → Contains (old ++ files_left u) (file_name p part)
      by (b, k, e) =
          let mine : Contains (parts_for (is_some b.place.slot) (protector_of b).purpose) part =
          subst (λ (t : Bool). Contains (parts_for t (protector_of b).purpose) part) (sym (slots b k).1)
          (subst (λ (q : Protector). Contains (parts_for (has_weaver w) q.purpose) part) (sym e) within) in
          Contains-append_right old (files_left u) (file_name p part)
          (subst (λ (q : Protector). Contains (files_left u) (file_name q part)) e
          (in_flat file_names gone b (file_name (protector_of b) part) k
          (in_map (file_name (protector_of b)) (parts_for (is_some b.place.slot) (protector_of b).purpose) part mine)))

  -- ---- what is let go

  each_goes : (p : Protector) → NamesProtector r p → (NamesProtector less p × (held_number w p ≡ held_number w p)) ⊎ Contains (row_protectors row) p
  each_goes p h = by (of_flat row_protectors r.users p h)
    where
      by : (x : UserRow) × Contains r.users x × Contains (row_protectors x) p → (NamesProtector less p × (held_number w p ≡ held_number w p)) ⊎ Contains (row_protectors row) p
      by (x, within, own) = of_row (row_cases x within)
        where
          of_row : (x ≡ row) ⊎ (Contains less.users x × (x.user ≢ row.user)) → (NamesProtector less p × (held_number w p ≡ held_number w p)) ⊎ Contains (row_protectors row) p
          of_row (inl e) = inr (subst (λ (y : UserRow). Contains (row_protectors y) p) e own)
          of_row (inr stays) = inl (in_flat row_protectors less.users x p stays.0 own, refl)

  secure_goes : (x : UserRow) → Contains r.users x → has_secure x ≡ true → NamesEnrolled (has_weaver w) less x.secure ⊎ Contains plan (GkForget x.secure)
  secure_goes x h some = by (row_cases x h)
    where
      by : (x ≡ row) ⊎ (Contains less.users x × (x.user ≢ row.user)) → NamesEnrolled (has_weaver w) less x.secure ⊎ Contains plan (GkForget x.secure)
      by (inl e) = inr (subst (λ (y : UserRow). Contains plan (GkForget y.secure)) (sym e)
          (in_forgets (GkForget row.secure) (only_there (has_secure row) (GkForget row.secure) (ap has_secure (sym e) ∙ some))))
      by (inr stays) = inl (in_flat (row_enrolled (has_weaver w)) less.users x x.secure stays.0
          (Contains-append_left (only_if (has_secure x) (x.secure ∷ [])) (only_if (is_enrolled (has_weaver w) (credential_of x).purpose) (x.protector ∷ [])) x.secure
          (only_there (has_secure x) x.secure some)))

  abbrev name_in : UserRow → FilePart → PartOf
  name_in x part = record { user = x.user; id = 0; part = part }

  abbrev OwnGoes : UserRow → FilePart → Type 0
  OwnGoes x part = NamesFile (has_weaver w) less (name_in x part) ⊎ (Contains (old ++ files_left u) (part_name_text (name_in x part)) ⊎ Contains plan (Remove (part_name_text (name_in x part))))

  own_goes : (x : UserRow) → Contains r.users x → (part : FilePart) → Contains (user_parts r.armed x) part → OwnGoes x part
  own_goes x h part own = by (row_cases x h)
    where
      by : (x ≡ row) ⊎ (Contains less.users x × (x.user ≢ row.user)) → OwnGoes x part
      by (inl e) = inr (inr (subst (λ (y : UserRow). Contains plan (Remove (part_name_text (name_in y part)))) (sym e)
          (in_files (Remove (part_name_text (name_in row part)))
          (in_map (λ (q : FilePart). Remove (part_name_text (name_in row q))) (user_parts r.armed row) part (subst (λ (y : UserRow). Contains (user_parts r.armed y) part) e own)))))
      by (inr stays) = inl (in_flat (row_files (has_weaver w) less.armed) less.users x (name_in x part) stays.0
          (subst (λ (l : List PartOf). Contains l (name_in x part)) (sym (files_still w x (has_weaver w) r.armed row.user stays.1))
          (Contains-append_left (parts_of x.user 0 (user_parts r.armed x)) (parts_of x.user x.protector (credential_parts (has_weaver w) x.kind) ++ token_files (has_weaver w) x) (name_in x part)
          (in_map (name_in x) (user_parts r.armed x) part own))))

  -- ---- behind the commit

  module _ (then : World) (settings : SameBut settings_reach w then) where
    weaver_same : has_weaver then ≡ has_weaver w
    weaver_same = ap (nat_lt 0) settings.count

    number_same : (p : Protector) → held_number then p ≡ held_number w p
    number_same p =
        let n = file_name p Weaver in
        ap (λ (b : Bool). option_and_then slot_number (where_it_has (has_part b p.purpose Weaver) (file_at then n))) weaver_same
        ∙ ap (λ (f : Option (List ℕ)). option_and_then slot_number (where_it_has (has_part (has_weaver w) p.purpose Weaver) f))
        (settings.file n (no_settings (record { user = p.user; id = p.id; part = Weaver })))

    lets_go : LetsGo w r old then less (old ++ files_left u) (row_protectors row) plan
    lets_go = record {
      away = dropping_away w r is row there gone;
      each = λ p h. ⊎_elim (λ stays. inl (stays.0, number_same p)) inr (each_goes p h);
      slots = slot_blanked;
      keys = key_dropped;
      counters = counter_forgotten;
      secure = λ x h some. ⊎_elim (λ named. inl (subst (λ (b : Bool). NamesEnrolled b less x.secure) (sym weaver_same) named)) inr (secure_goes x h some);
      armed = λ was. inl (armed was);
      files = λ p h part within. inl (file_stays p h part within);
      own = λ x h part within. ⊎_elim (λ named. inl (subst (λ (b : Bool). NamesFile b less (name_in x part)) (sym weaver_same) named)) inr (own_goes x h part within);
      retired = λ n h. inl (Contains-append_left old (files_left u) n h);
    }

    pub dropped_bare : (start : World) → IsBare start w r old → AllTouchOnly (unnamed then less) plan → IsBare start (after_all then plan) less (old ++ files_left u)
    dropped_bare start bare only =
        changed start w w then r less old (old ++ files_left u) plan (next_is w r is row there) bare (same_refl (named_by w less []) w) settings only
        (lets_retire w then r less old (old ++ files_left u) (row_protectors row) plan weaver_same lets_go)

-- ---- the change

module _ (w : World) (s : Loaded) (k : Work) (u : DroppedUser) (drops : DropsUser w s k u) (touches : AllTouchOnly settings_reach k.commit.actions) where
  pub bare_then : (start : World) (old : List (List ℕ)) → HaveSlots w u.gone → StaysArmed s.settled.rec (next_of k) → IsBare start w s.settled.rec old
      → IsBare start (after_all w (actions_of k)) (next_of k) (old ++ files_left u)
  bare_then start old slots armed bare =
      subst (λ (v : World). IsBare start v (next_of k) (old ++ files_left u)) (sym world)
      (subst (λ (n : Rec). IsBare start (after_all then (dropping s.settled.rec.armed u)) n (old ++ files_left u)) (sym drops.next)
      (dropped_bare w s.settled.rec drops.rules u.row drops.there u.gone drops.protectors slots
      (subst (λ (n : Rec). StaysArmed s.settled.rec n) drops.next armed) old then settings start bare only))
    where
      then : World
      then = after_all w k.commit.actions

      world : after_all w (actions_of k) ≡ after_all then (dropping s.settled.rec.armed u)
      world =
          ap (λ (l : List Action). after_all w (l ++ (k.commit.actions ++ k.after))) drops.before
          ∙ after_all-append w k.commit.actions k.after
          ∙ ap (λ (l : List Action). after_all then l) drops.after

      settings : SameBut settings_reach w then
      settings = plan_same settings_reach w k.commit.actions touches

      -- what isn't named stays so behind the commit
      only : AllTouchOnly (unnamed then (next w s.settled.rec drops.rules u.row drops.there)) (dropping s.settled.rec.armed u)
      only = later_touch w then (next w s.settled.rec drops.rules u.row drops.there) (dropping s.settled.rec.armed u)
          (named_but_settings w then (next w s.settled.rec drops.rules u.row drops.there) settings)
          (dropping_touch w s.settled.rec drops.rules u.row drops.there u.gone
          (λ b h. subst (λ (n : Rec). IsUnnamedProtector w n (protector_of b) b.place.slot) drops.next (drops.unnamed b h)))
