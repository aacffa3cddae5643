-- A world with nothing but what is named keeps nothing else behind the change.
use Rattle.std.proofs.Common.{◌≡◌, ◌≢◌, ◌⊎◌, inl, inr, ⊎_elim, not, ℕ, Bool, true, false, List, [], ◌∷◌, ◌++◌, map, replicate, length, Option, None, Some, refl, sym, ap, subst, ◌∙◌, arith}
use Rattle.std.specs.Prelude.{◌==◌, ◌&&◌, is_some, nat_lt}
use Rattle.std.specs.List.{Contains}
use Rattle.std.specs.Option.{option_and_then}
use Rattle.std.proofs.lemmas.List.Elements.{Contains-append_left, Contains-append_right, Contains-append_cases}
use Rattle.std.proofs.lemmas.Bool.{lt-ltb}
use Rattle.ls_board.specs.declared.action.Action.{Action}
use Rattle.ls_board.specs.declared.action.Action.TheVariants.{Put, GkEnroll, GkForget, KeyDrop, Remove, Sync}
use Rattle.ls_board.specs.declared.world.World.{World}
use Rattle.ls_board.specs.Effect.{file_at}
use Rattle.ls_board.specs.Reach.{SameBut, AllTouchOnly}
use Rattle.ls_board.specs.Runs.{after_all}
use Rattle.ls_board.proofs.FrameLemmas.{plan_same}
use Rattle.ls_formats.specs.declared.part.FilePart.{FilePart}
use Rattle.ls_formats.specs.declared.part.FilePart.TheVariants.{Weaver, Handle, E0, P1, Resume}
use Rattle.ls_formats.specs.PartNames.{PartOf, part_name_text}
use Rattle.ls_naming.specs.Named.{only_if, has_secure, is_armed, user_parts, credential_parts, parts_of, token_files, row_files, NamesFile, NamesKey, NamesEnrolled}
use Rattle.ls_protector.specs.Parts.{names_for, reach_of_parts}
use Rattle.ls_protector.specs.Parts as protector
use Rattle.ls_protector.proofs.PartLemmas.{written_touch}
use Rattle.ls_record.specs.declared.row.UserRow.{UserRow}
use Rattle.ls_record.specs.Rows.{Rec, IsRecord}
use Rattle.ls_secret.specs.Secrets.{SecretValue}
use Rattle.ls_sealing.specs.Building.{FitsSlots, slot_writes, erasing_actions}
use Rattle.ls_sealing.specs.Protectors.{Protector, has_weaver, has_part, held_number, slot_number, where_it_has, file_name, is_enrolled, parts_for}
use Rattle.ls_settings.specs.Loaded.{settings_reach}
use Rattle.ls_standing.specs.Bare.{IsBare, named_by}
use Rattle.ls_standing.specs.Clearing.{LetsGo, blank_write}
use Rattle.ls_standing.specs.Named.{credential_of, token_of}
use Rattle.ls_standing.specs.NamedProtectors.{NamesProtector, row_protectors}
use Rattle.ls_standing.specs.Quiet.{IsUnnamedProtector, unnamed}
use Rattle.ls_standing.specs.Same.{SameNamed}
use Rattle.ls_standing.proofs.BareLemmas.{changed}
use Rattle.ls_standing.proofs.ContainsLemmas.{none_in, at_first, behind_first, first_or_behind, in_map, of_map, in_flat, of_flat}
use Rattle.ls_standing.proofs.FrameLemmas.{weaver_same}
use Rattle.ls_standing.proofs.LettingLemmas.{lets_retire}
use Rattle.ls_standing.proofs.NamedLemmas.{name_of, credential_enrolled, credential_key, secure_enrolled}
use Rattle.ls_standing.proofs.ProtectorLemmas.{any_part, named as slot_of}
use Rattle.ls_standing.proofs.SameLemmas.{no_settings}
use Rattle.ls_standing.proofs.TouchLemmas.{Inside, all_touch_more}
use Rattle.ls_standing.proofs.UnnamedLemmas.{of_only_if}
use Rattle.ls_edits.proofs.PutRowLemmas.{row_put}
use Rattle.ls_changing.specs.Replacing.{Chosen, IsChosen, row_then, comes, goes, enrolling, forgetting, handle_of, handle_name}
use Rattle.ls_changing.proofs.RowLemmas.{next, next_is, row_cases}
use Rattle.ls_changing.proofs.StagedLemmas.{m, first, before, last, same_named, touch_both, both_true, not_true}
use Rattle.ls_changing.proofs.ReadyLemmas.{number_is}
use Rattle.ls_changing.proofs.LeavingLemmas.{gone, leaving, leaving_away, number_stays, protector_file}

only_there : {X : Type 0} (b : Bool) (x : X) → b ≡ true → Contains (only_if b (x ∷ [])) x
only_there true x e = at_first x []
only_there false x e = absurd (cc)

-- the board has Weaver exactly where a slot is given
pub weaver_by : (slot : Option ℕ) (w : World) → FitsSlots slot w → has_weaver w ≡ is_some slot
weaver_by None w fits = ap (nat_lt 0) fits
weaver_by (Some k) w fits = lt-ltb 0 (length w.slots) (let small = fits.0 in omega (arith, small))

-- ---- what the next record names of the row

module _ (r : Rec) (is : IsRecord r) (n : Chosen) (fits : IsChosen r n) where
  abbrev row : UserRow
  row = row_then n

  abbrev then : Rec
  then = next r is n fits

  pub its_row : Contains then.users row
  its_row = row_put r row

  pub new_named : NamesProtector then (credential_of row)
  new_named = in_flat row_protectors then.users row (credential_of row) its_row (at_first (credential_of row) (map (token_of row) row.tokens))

  own_named : (weaver : Bool) (part : FilePart) → Contains (user_parts r.armed row) part → NamesFile weaver then (name_of n.row.user 0 part)
  own_named weaver part own =
      in_flat (row_files weaver then.armed) then.users row (name_of n.row.user 0 part) its_row
      (Contains-append_left (parts_of row.user 0 (user_parts r.armed row)) (parts_of row.user row.protector (credential_parts weaver row.kind) ++ token_files weaver row)
      (name_of n.row.user 0 part) (in_map (name_of n.row.user 0) (user_parts r.armed row) part own))

  -- a protector of the record stays, or is the old one
  pub was_cases : (z : Protector) → NamesProtector r z → NamesProtector then z ⊎ (z ≡ gone r is n fits)
  was_cases z h = by (of_flat row_protectors r.users z h)
    where
      of_own : (credential_of n.row ≡ z) ⊎ Contains (map (token_of n.row) n.row.tokens) z → NamesProtector then z ⊎ (z ≡ gone r is n fits)
      of_own (inl e) = inr (sym e)
      of_own (inr k) = inl (in_flat row_protectors then.users row z its_row (behind_first (credential_of row) (map (token_of row) row.tokens) z k))

      of_row : (x : UserRow) → Contains (row_protectors x) z → (x ≡ n.row) ⊎ (Contains then.users x × (x.user ≢ n.row.user)) → NamesProtector then z ⊎ (z ≡ gone r is n fits)
      of_row x own (inl e) = of_own (first_or_behind (credential_of n.row) (map (token_of n.row) n.row.tokens) z (subst (λ (y : UserRow). Contains (row_protectors y) z) e own))
      of_row x own (inr stays) = inl (in_flat row_protectors then.users x z stays.0 own)

      by : (x : UserRow) × Contains r.users x × Contains (row_protectors x) z → NamesProtector then z ⊎ (z ≡ gone r is n fits)
      by (x, within, own) = of_row x own (row_cases r is n fits x within)

  -- ---- what is written is named then

  module _ (w : World) (slot : FitsSlots n.slot w) (free : IsUnnamedProtector w r (credential_of row) n.slot) (s : SecretValue) (bytes handle : List ℕ) where
    abbrev end : World
    end = last r is n fits w slot free s bytes handle

    same : SameNamed r w end
    same = same_named r is n fits w slot free s bytes handle

    pub end_weaver : has_weaver end ≡ is_some n.slot
    end_weaver = weaver_same r w end same ∙ weaver_by n.slot w slot

    inside : Inside (reach_of_parts (protector.parts_of (is_some n.slot) (credential_of row) n.slot)) (named_by end then [])
    inside = record {
      file = λ f reached. inl (by f (of_map (file_name (credential_of row)) (parts_for (is_some n.slot) (credential_of row).purpose) f reached));
      slot = λ k e. slot_of end then (credential_of row) k new_named (number_is r is n fits w slot free s bytes handle ∙ e);
      sid = λ sid its. subst (λ (k : ℕ). NamesEnrolled (has_weaver end) then k) (sym its.1)
          (credential_enrolled (has_weaver end) then row its_row (ap (λ (b : Bool). is_enrolled b (credential_of row).purpose) end_weaver ∙ its.0));
      alias = λ alias e. subst (λ (k : ℕ). NamesKey then k) (sym e) (credential_key (has_weaver end) then row its_row);
      cell = λ none. absurd none;
    }
      where
        by : (f : List ℕ) → (part : FilePart) × Contains (parts_for (is_some n.slot) (credential_of row).purpose) part × (file_name (credential_of row) part ≡ f)
            → (name : PartOf) × NamesFile (has_weaver end) then name × (f ≡ part_name_text name)
        by f (part, within, e) = (
          name_of n.row.user n.id part,
          protector_file (has_weaver end) then (credential_of row) new_named part
              (subst (λ (b : Bool). has_part b (credential_of row).purpose part ≡ true) (sym end_weaver) (any_part (parts_for (is_some n.slot) (credential_of row).purpose) part within)),
          sym e,
        )

    others_named : AllTouchOnly (named_by end then []) (enrolling n.row n.secure handle)
    others_named = by (comes n.row.secure n.secure) refl
      where
        by : (b : Bool) → comes n.row.secure n.secure ≡ b → AllTouchOnly (named_by end then []) (only_if b (GkEnroll n.secure ∷ Put (handle_name n.row.user) handle ∷ []))
        by true new =
            let has : has_secure row ≡ true = (both_true (n.row.secure == 0) (not (n.secure == 0)) new).1 in (
              secure_enrolled (has_weaver end) then row its_row has,
              (
                inl (handle_of n.row.user, own_named (has_weaver end) Handle (Contains-append_left (only_if (has_secure row) (Handle ∷ [])) _ Handle (only_there (has_secure row) Handle has)), refl),
                tt,
              ),
            )
        by false kept = tt

    pub before_named : AllTouchOnly (named_by end then []) (before r is n fits w slot free s bytes handle)
    before_named =
        touch_both (named_by end then []) (first r is n fits w slot free s bytes handle) (enrolling n.row n.secure handle ++ Sync ∷ [])
        (all_touch_more (reach_of_parts (protector.parts_of (is_some n.slot) (credential_of row) n.slot)) (named_by end then []) inside (first r is n fits w slot free s bytes handle)
        (written_touch (credential_of row) n.slot (m r is n fits w slot free s bytes handle)))
        (touch_both (named_by end then []) (enrolling n.row n.secure handle) (Sync ∷ []) others_named (tt, tt))

    -- ---- the old protector goes

    module _ (o : Option ℕ) (kept : o ≡ held_number w (gone r is n fits)) (old : List (List ℕ)) (mid : World) (settings : SameBut settings_reach end mid) where
      abbrev left : List (List ℕ)
      left = old ++ names_for (is_some o) (gone r is n fits)

      abbrev plan : List Action
      plan = leaving n o

      weaver_was : is_some o ≡ has_weaver w → (z : Protector) → z ≡ gone r is n fits → is_enrolled (has_weaver w) z.purpose ≡ true → is_enrolled (is_some o) (gone r is n fits).purpose ≡ true
      weaver_was has z e enrolled = ap (λ (b : Bool). is_enrolled b (gone r is n fits).purpose) has ∙ (ap (λ (q : Protector). is_enrolled (has_weaver w) q.purpose) (sym e) ∙ enrolled)

      mid_weaver : has_weaver mid ≡ has_weaver end
      mid_weaver = ap (nat_lt 0) settings.count

      pub mid_number : (z : Protector) → held_number mid z ≡ held_number end z
      mid_number z =
          let f = file_name z Weaver in
          ap (λ (b : Bool). option_and_then slot_number (where_it_has (has_part b z.purpose Weaver) (file_at mid f))) mid_weaver
          ∙ ap (λ (file : Option (List ℕ)). option_and_then slot_number (where_it_has (has_part (has_weaver end) z.purpose Weaver) file))
          (settings.file f (no_settings (record { user = z.user; id = z.id; part = Weaver })))

      abbrev forgets : List Action
      forgets = only_if (is_enrolled (is_some o) (gone r is n fits).purpose) (GkForget n.row.protector ∷ [])

      in_erasing : (a : Action) → Contains (erasing_actions (gone r is n fits) o) a → Contains plan a
      in_erasing a has = Contains-append_left (erasing_actions (gone r is n fits) o) (forgetting n.row n.secure) a has

      in_forgetting : (a : Action) → Contains (only_if (goes n.row.secure n.secure) (GkForget n.row.secure ∷ Remove (handle_name n.row.user) ∷ [])) a → Contains plan a
      in_forgetting a has = Contains-append_right (erasing_actions (gone r is n fits) o) (forgetting n.row n.secure) a (Contains-append_left (only_if (goes n.row.secure n.secure) (GkForget n.row.secure ∷ Remove (handle_name n.row.user) ∷ [])) (Sync ∷ []) a has)

      one : (z : Protector) → Contains (gone r is n fits ∷ []) z → z ≡ gone r is n fits
      one z has = ⊎_elim (λ (e : gone r is n fits ≡ z). sym e) (λ (k : Contains [] z). absurd (none_in z k)) (first_or_behind (gone r is n fits) [] z has)

      slot_goes : (k : ℕ) → o ≡ Some k → Contains plan (blank_write k)
      slot_goes k e = in_erasing (blank_write k) (Contains-append_left (slot_writes o (replicate 16 0) (replicate 16 0)) (KeyDrop n.row.protector ∷ forgets) (blank_write k)
          (subst (λ (x : Option ℕ). Contains (slot_writes x (replicate 16 0) (replicate 16 0)) (blank_write k)) (sym e) (at_first (blank_write k) [])))

      key_goes : Contains plan (KeyDrop n.row.protector)
      key_goes = in_erasing (KeyDrop n.row.protector) (Contains-append_right (slot_writes o (replicate 16 0) (replicate 16 0)) (KeyDrop n.row.protector ∷ forgets) (KeyDrop n.row.protector) (at_first (KeyDrop n.row.protector) forgets))

      counter_goes : is_enrolled (is_some o) (gone r is n fits).purpose ≡ true → Contains plan (GkForget n.row.protector)
      counter_goes enrolled = in_erasing (GkForget n.row.protector) (Contains-append_right (slot_writes o (replicate 16 0) (replicate 16 0)) (KeyDrop n.row.protector ∷ forgets) (GkForget n.row.protector)
          (behind_first (KeyDrop n.row.protector) forgets (GkForget n.row.protector) (only_there (is_enrolled (is_some o) (gone r is n fits).purpose) (GkForget n.row.protector) enrolled)))

      secure_goes : has_secure n.row ≡ true → (b : Bool) → (n.secure == 0) ≡ b → NamesEnrolled (has_weaver mid) then n.row.secure ⊎ Contains plan (GkForget n.row.secure)
      secure_goes has true lost = inr (in_forgetting (GkForget n.row.secure)
          (subst (λ (b : Bool). Contains (only_if b (GkForget n.row.secure ∷ Remove (handle_name n.row.user) ∷ [])) (GkForget n.row.secure)) (λ i. sym (goes_is lost) i) (at_first (GkForget n.row.secure) (Remove (handle_name n.row.user) ∷ []))))
        where
          goes_is : (n.secure == 0) ≡ true → goes n.row.secure n.secure ≡ true
          goes_is l = λ i. has i && l i
      secure_goes has false some = inl (subst (λ (k : ℕ). NamesEnrolled (has_weaver mid) then k) (fits.same (not_true (n.row.secure == 0) has) some)
          (secure_enrolled (has_weaver mid) then row its_row (ap not some)))

      abbrev OwnGoes : UserRow → FilePart → Type 0
      OwnGoes x part = NamesFile (has_weaver mid) then (name_of x.user 0 part) ⊎ (Contains left (part_name_text (name_of x.user 0 part)) ⊎ Contains plan (Remove (part_name_text (name_of x.user 0 part))))

      abbrev rest : List FilePart
      rest = only_if n.row.escrow (E0 ∷ P1 ∷ []) ++ only_if (is_armed r.armed n.row.user) (Resume ∷ [])

      handle_goes : has_secure n.row ≡ true → (b : Bool) → (n.secure == 0) ≡ b → OwnGoes n.row Handle
      handle_goes has true lost = inr (inr (in_forgetting (Remove (handle_name n.row.user))
          (subst (λ (b : Bool). Contains (only_if b (GkForget n.row.secure ∷ Remove (handle_name n.row.user) ∷ [])) (Remove (handle_name n.row.user))) (λ i. sym goes_is i)
          (behind_first (GkForget n.row.secure) (Remove (handle_name n.row.user) ∷ []) (Remove (handle_name n.row.user)) (at_first (Remove (handle_name n.row.user)) [])))))
        where
          goes_is : goes n.row.secure n.secure ≡ true
          goes_is = λ i. has i && lost i
      handle_goes has false some = inl (own_named (has_weaver mid) Handle (Contains-append_left (only_if (has_secure row) (Handle ∷ [])) rest Handle (only_there (has_secure row) Handle (ap not some))))

      own_goes : (part : FilePart) → Contains (user_parts r.armed n.row) part → OwnGoes n.row part
      own_goes part own = by (Contains-append_cases (only_if (has_secure n.row) (Handle ∷ [])) rest part own)
        where
          by : Contains (only_if (has_secure n.row) (Handle ∷ [])) part ⊎ Contains rest part → OwnGoes n.row part
          by (inl k) = let its = of_only_if (has_secure n.row) Handle part k in subst (OwnGoes n.row) its.1 (handle_goes its.0 (n.secure == 0) refl)
          by (inr k) = inl (own_named (has_weaver mid) part (Contains-append_right (only_if (has_secure row) (Handle ∷ [])) rest part k))

      other_own : (x : UserRow) → Contains then.users x → (part : FilePart) → Contains (user_parts r.armed x) part → OwnGoes x part
      other_own x within part own = inl (in_flat (row_files (has_weaver mid) then.armed) then.users x (name_of x.user 0 part) within
          (Contains-append_left (parts_of x.user 0 (user_parts r.armed x)) (parts_of x.user x.protector (credential_parts (has_weaver mid) x.kind) ++ token_files (has_weaver mid) x)
          (name_of x.user 0 part) (in_map (name_of x.user 0) (user_parts r.armed x) part own)))

      lets_go : is_some o ≡ has_weaver w → LetsGo w r old mid then left (gone r is n fits ∷ []) plan
      lets_go has = record {
        away = leaving_away r is n fits o;
        each = λ z h. ⊎_elim
            (λ (stays : NamesProtector then z). inl (stays, mid_number z ∙ number_stays r w end same z h))
            (λ (e : z ≡ gone r is n fits). inr (subst (λ (q : Protector). Contains (gone r is n fits ∷ []) q) (sym e) (at_first (gone r is n fits) []))) (was_cases z h);
        slots = λ z h k number. slot_goes k (kept ∙ (ap (held_number w) (sym (one z h)) ∙ number));
        keys = λ z h. subst (λ (q : Protector). Contains plan (KeyDrop q.id)) (sym (one z h)) key_goes;
        counters = λ z h enrolled. subst (λ (q : Protector). Contains plan (GkForget q.id)) (sym (one z h)) (counter_goes (weaver_was has z (one z h) enrolled));
        secure = λ x h some. ⊎_elim
            (λ (e : x ≡ n.row). subst (λ (y : UserRow). NamesEnrolled (has_weaver mid) then y.secure ⊎ Contains plan (GkForget y.secure)) (sym e) (secure_goes (ap has_secure (sym e) ∙ some) (n.secure == 0) refl))
            (λ (stays : Contains then.users x × (x.user ≢ n.row.user)). inl (secure_enrolled (has_weaver mid) then x stays.0 some)) (row_cases r is n fits x h);
        armed = λ was. inl was;
        files = λ z h part within. inl (Contains-append_right old (names_for (is_some o) (gone r is n fits)) (file_name z part)
            (subst (λ (q : Protector). Contains (names_for (is_some o) (gone r is n fits)) (file_name q part)) (sym (one z h))
            (in_map (file_name (gone r is n fits)) (parts_for (is_some o) (gone r is n fits).purpose) part
            (subst (λ (b : Bool). Contains (parts_for b (gone r is n fits).purpose) part) (sym has) (subst (λ (q : Protector). Contains (parts_for (has_weaver w) q.purpose) part) (one z h) within)))));
        own = λ x h part within. ⊎_elim
            (λ (e : x ≡ n.row). subst (λ (y : UserRow). OwnGoes y part) (sym e) (own_goes part (subst (λ (y : UserRow). Contains (user_parts r.armed y) part) e within)))
            (λ (stays : Contains then.users x × (x.user ≢ n.row.user)). other_own x stays.0 part within) (row_cases r is n fits x h);
        retired = λ f h. inl (Contains-append_left old (names_for (is_some o) (gone r is n fits)) f h);
      }

      pub changed_bare : is_some o ≡ has_weaver w → AllTouchOnly (unnamed mid then) plan → (start : World) → IsBare start w r old → IsBare start (after_all mid plan) then left
      changed_bare has only start bare =
          changed start w end mid r then old left plan (next_is r is n fits) bare
          (plan_same (named_by end then []) w (before r is n fits w slot free s bytes handle) before_named) settings only
          (lets_retire w mid r then old left (gone r is n fits ∷ []) plan (mid_weaver ∙ weaver_same r w end same) (lets_go has))
