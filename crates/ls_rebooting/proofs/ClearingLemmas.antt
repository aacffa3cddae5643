-- What takes an arming away touches nothing that the next record names, and leaves all that it names.
use Rattle.std.proofs.Common.{◌≡◌, ◌⊎◌, inl, inr, ⊎_elim, ℕ, Bool, true, List, [], ◌∷◌, ◌++◌, ◌||◌, false, Option, None, Some, refl, sym, ◌∙◌, ap, subst}
use Rattle.std.specs.Prelude.{nat_lt, ◌==◌}
use Rattle.std.specs.List.{Contains}
use Rattle.std.specs.Option.{option_and_then}
use Rattle.std.proofs.lemmas.Bool.{eqb-true}
use Rattle.std.proofs.lemmas.List.Elements.{Contains-append_left, Contains-append_right, Contains-append_cases}
use Rattle.ls_arming.specs.declared.arming.Arming.{Arming}
use Rattle.ls_board.specs.declared.action.Action.{Action}
use Rattle.ls_board.specs.declared.action.Action.TheVariants.{KeyDrop, Remove, ResumeTake, Sync}
use Rattle.ls_board.specs.declared.world.World.{World}
use Rattle.ls_board.specs.Effect.{file_at}
use Rattle.ls_board.specs.Reach.{AllTouchOnly, Reach, SameBut}
use Rattle.ls_board.specs.Runs.{AllApply, AllSound, after_all}
use Rattle.ls_board.proofs.FrameLemmas.{plan_same, same_refl}
use Rattle.ls_edits.specs.Arming.{resume_of}
use Rattle.ls_edits.proofs.HeldLemmas.{more_files}
use Rattle.ls_edits.proofs.PutFilesLemmas.{AreSmall, is_part}
use Rattle.ls_edits.proofs.UnarmedLemmas.{no_key, no_resume, rows_users}
use Rattle.ls_formats.specs.declared.name.FileName.TheVariants.{Protector as ProtectorName}
use Rattle.ls_formats.specs.declared.part.FilePart.{FilePart}
use Rattle.ls_formats.specs.declared.part.FilePart.TheVariants.{Handle, E0, P1, Resume, Weaver}
use Rattle.ls_formats.specs.PartNames.{PartOf, IsPartOf, part_name_text}
use Rattle.ls_naming.specs.Named.{NamesFile, has_secure, is_armed, only_if, parts_of, row_files, user_parts, credential_parts, token_files}
use Rattle.ls_protector.specs.Clear.{AreUnnamed}
use Rattle.ls_record.specs.declared.edit.Edit.TheVariants.{ClearArmed}
use Rattle.ls_record.specs.declared.row.UserRow.{UserRow}
use Rattle.ls_record.specs.Edits.{changed as edited}
use Rattle.ls_record.specs.Rows.{Rec, IsRecord, has}
use Rattle.ls_record.proofs.ChangeLemmas.{changed_keeps}
use Rattle.ls_sealing.specs.Protectors.{Protector, file_name, has_part, has_weaver, held_number, parts_for, slot_number, where_it_has}
use Rattle.ls_settings.specs.Loaded.{settings_reach}
use Rattle.ls_standing.specs.Bare.{IsBare, named_by}
use Rattle.ls_standing.specs.Clearing.{AllTakeAway, LetsGo}
use Rattle.ls_standing.specs.NamedProtectors.{NamesProtector, row_protectors}
use Rattle.ls_standing.specs.Quiet.{unnamed}
use Rattle.ls_standing.specs.Same.{SameNamed}
use Rattle.ls_standing.proofs.BareLemmas.{changed, strange_kept}
use Rattle.ls_standing.proofs.ContainsLemmas.{at_first, behind_first, in_flat, in_map, none_in, of_flat}
use Rattle.ls_standing.proofs.FrameLemmas.{weaver_same, where_same}
use Rattle.ls_standing.proofs.IdLemmas.{is_row}
use Rattle.ls_standing.proofs.LettingLemmas.{lets_retire}
use Rattle.ls_standing.proofs.NamedLemmas.{name_of, part_found, secure_enrolled}
use Rattle.ls_standing.proofs.ProtectorLemmas.{in_row}
use Rattle.ls_standing.proofs.QuietLemmas.{plan_kept}
use Rattle.ls_standing.proofs.SameLemmas.{named_but_settings, named_trans}
use Rattle.ls_standing.proofs.TouchLemmas.{all_quiet, file_unnamed, later_touch}
use Rattle.ls_standing.proofs.UnnamedLemmas.{of_only_if}
use Rattle.ls_turn.specs.Serving.{KeepsStrange}
use Rattle.ls_rebooting.specs.Clearing.{clearing, removals}
use Rattle.ls_rebooting.proofs.ArmedLemmas.{its_arming}

-- ---- the actions

pub clearing_sound : (slots : ℕ) (users : List ℕ) → AllSound slots (clearing users)
clearing_sound slots users = (tt, by users)
  where
    by : (users : List ℕ) → AllSound slots (removals users ++ Sync ∷ [])
    by [] = (tt, tt)
    by (u ∷ users) = (tt, by users)

pub clearing_applies : (users : List ℕ) (w : World) → AllApply w (clearing users)
clearing_applies users w = (tt, by users _)
  where
    by : (users : List ℕ) (w : World) → AllApply w (removals users ++ Sync ∷ [])
    by [] w = (tt, tt)
    by (u ∷ users) w = (tt, by users _)

-- the `resume` file of each of them goes
removal_there : (users : List ℕ) (user : ℕ) → has users user ≡ true → Contains (clearing users) (Remove (part_name_text (resume_of user)))
removal_there users user armed = behind_first (KeyDrop 0) (removals users ++ Sync ∷ []) (Remove (part_name_text (resume_of user)))
    (Contains-append_left (removals users) (Sync ∷ []) (Remove (part_name_text (resume_of user)))
    (in_map (λ u. Remove (part_name_text (resume_of u))) users user (its users armed)))
  where
    its : (users : List ℕ) → has users user ≡ true → Contains users user
    its [] e = absurd (cc)
    its (u ∷ users) e = one (u == user) refl e (its users)
      where
        one : (b : Bool) → (u == user) ≡ b → (b || has users user) ≡ true → (has users user ≡ true → Contains users user) → Contains (u ∷ users) user
        one true is e later = subst (λ (n : ℕ). Contains (u ∷ users) n) (eqb-true u user is) (at_first u users)
        one false is e later = behind_first u users user (later e)

removals_away : (users : List ℕ) → AreSmall users → AllTakeAway (removals users ++ Sync ∷ [])
removals_away [] small = (tt, tt)
removals_away (u ∷ users) small = ((resume_of u, is_part u small.0, refl), removals_away users small.1)

-- ---- a protector's slot

-- a named protector has the slot that it had
number_stays : (r : Rec) (w end : World) → SameNamed r w end → (p : Protector) → NamesProtector r p → held_number end p ≡ held_number w p
number_stays r w end same p named =
    ap (λ (b : Bool). option_and_then slot_number (where_it_has (has_part b p.purpose Weaver) (file_at end (file_name p Weaver)))) (weaver_same r w end same)
    ∙ ap (λ (o : Option (List ℕ)). option_and_then slot_number o)
    (where_same (has_part (has_weaver w) p.purpose Weaver) (file_at end (file_name p Weaver)) (file_at w (file_name p Weaver)) (λ within. same.file (name_of p.user p.id Weaver) (its_file within)))
  where
    its_file : has_part (has_weaver w) p.purpose Weaver ≡ true → NamesFile (has_weaver w) r (name_of p.user p.id Weaver)
    its_file within =
        let row = of_flat row_protectors r.users p named in
        in_flat (row_files (has_weaver w) r.armed) r.users row.0 (name_of p.user p.id Weaver) row.1
        (in_row (has_weaver w) r.armed row.0 p (name_of p.user p.id Weaver) row.2
        (in_map (λ (q : FilePart). name_of p.user p.id q) (parts_for (has_weaver w) p.purpose) Weaver (part_found Weaver (parts_for (has_weaver w) p.purpose) within)))

-- ---- what the clearing reaches

-- files of users and protectors
abbrev part_files : Reach
part_files = record { files = λ n. (name : PartOf) × IsPartOf name × (n ≡ part_name_text name); slots = λ slot. ⊥; sids = λ sid. ⊥; aliases = λ alias. 0 ≡ alias; cell = ⊥ }

module _ (w : World) (r : Rec) (is : IsRecord r) (a : Arming) (named : r.armed ≡ Some a) where
  abbrev pub next : Rec
  next = edited r ClearArmed

  pub next_is : IsRecord next
  next_is = changed_keeps r is ClearArmed tt

  small : AreSmall a.users
  small = rows_users r.users a.users (λ x h. (is_row r is x h).user) (its_arming r a is named).there

  pub clearing_touch : AllTouchOnly (unnamed w next) (clearing a.users)
  clearing_touch = (no_key w next next_is refl, by a.users small)
    where
      by : (users : List ℕ) → AreSmall users → AllTouchOnly (unnamed w next) (removals users ++ Sync ∷ [])
      by [] all = (tt, tt)
      by (u ∷ users) all = (file_unnamed w next (resume_of u) next_is (is_part u all.0) (no_resume w next next_is refl u), by users all.1)

  parts_touch : AllTouchOnly part_files (clearing a.users)
  parts_touch = (refl, by a.users small)
    where
      by : (users : List ℕ) → AreSmall users → AllTouchOnly part_files (removals users ++ Sync ∷ [])
      by [] all = (tt, tt)
      by (u ∷ users) all = ((resume_of u, is_part u all.0, refl), by users all.1)

  -- a file that the next record names is named by this one
  named_before : (weaver : Bool) (name : PartOf) → NamesFile weaver next name → NamesFile weaver r name
  named_before weaver name has =
      let row = of_flat (row_files weaver None) r.users name has in
      in_flat (row_files weaver r.armed) r.users row.0 name row.1 (more_files w row.0 weaver (is_armed r.armed row.0.user) name row.2)

  -- ---- behind the commit

  module _ (then : World) (settings : SameBut settings_reach w then) where
    abbrev end : World
    end = after_all then (clearing a.users)

    touch_then : AllTouchOnly (unnamed then next) (clearing a.users)
    touch_then = later_touch w then next (clearing a.users) (named_but_settings w then next settings) clearing_touch

    pub same_end : SameNamed next w end
    same_end = named_trans w then end next (named_but_settings w then next settings) (plan_kept next then (clearing a.users) (all_quiet then next (clearing a.users) touch_then)).named

    weaver_then : has_weaver then ≡ has_weaver w
    weaver_then = ap (nat_lt 0) settings.count

    weaver_end : has_weaver end ≡ has_weaver w
    weaver_end = weaver_same next w end same_end

    pub number_end : (p : Protector) → NamesProtector next p → held_number end p ≡ held_number w p
    number_end p has = number_stays next w end same_end p has

    pub strange_end : KeepsStrange w end
    strange_end n strange =
        (plan_same part_files then (clearing a.users) parts_touch).file n (λ reached. strange (ProtectorName reached.0) reached.1 reached.2)
        ∙ strange_kept w then settings n strange

    pub unnamed_end : (names : List (List ℕ)) → AreUnnamed w r names → AreUnnamed end next names
    unnamed_end names was n has = record {
      settings = (was n has).settings;
      named = λ name its. (was n has).named name (named_before (has_weaver w) name (subst (λ (b : Bool). NamesFile b next name) weaver_end its));
    }

    -- ---- what is left

    own_named : (row : UserRow) → Contains r.users row → (part : FilePart) → Contains (user_parts None row) part → NamesFile (has_weaver then) next (name_of row.user 0 part)
    own_named row has part own =
        in_flat (row_files (has_weaver then) None) r.users row (name_of row.user 0 part) has
        (Contains-append_left (parts_of row.user 0 (user_parts None row)) (parts_of row.user row.protector (credential_parts (has_weaver then) row.kind) ++ token_files (has_weaver then) row)
        (name_of row.user 0 part) (in_map (name_of row.user 0) (user_parts None row) part own))

    abbrev plan : List Action
    plan = ResumeTake ∷ clearing a.users

    abbrev OwnGoes : List (List ℕ) → UserRow → FilePart → Type 0
    OwnGoes retired row part =
        NamesFile (has_weaver then) next (name_of row.user 0 part)
        ⊎ (Contains retired (part_name_text (name_of row.user 0 part)) ⊎ Contains plan (Remove (part_name_text (name_of row.user 0 part))))

    own_goes : (retired : List (List ℕ)) (row : UserRow) → Contains r.users row → (part : FilePart) → Contains (user_parts r.armed row) part → OwnGoes retired row part
    own_goes retired row its_row part own =
        ⊎_elim (λ (k : Contains handle part). stays (Contains-append_left handle (escrow ++ []) part k))
        (λ (k : Contains (escrow ++ only_if (is_armed r.armed row.user) (Resume ∷ [])) part).
        ⊎_elim (λ (l : Contains escrow part). stays (Contains-append_right handle (escrow ++ []) part (Contains-append_left escrow [] part l))) goes
        (Contains-append_cases escrow (only_if (is_armed r.armed row.user) (Resume ∷ [])) part k))
        (Contains-append_cases handle (escrow ++ only_if (is_armed r.armed row.user) (Resume ∷ [])) part own)
      where
        handle : List FilePart
        handle = only_if (has_secure row) (Handle ∷ [])

        escrow : List FilePart
        escrow = only_if row.escrow (E0 ∷ P1 ∷ [])

        stays : Contains (handle ++ (escrow ++ [])) part → OwnGoes retired row part
        stays k = inl (own_named row its_row part k)

        goes : Contains (only_if (is_armed r.armed row.user) (Resume ∷ [])) part → OwnGoes retired row part
        goes k =
            let its = of_only_if (is_armed r.armed row.user) Resume part k in
            let armed : has a.users row.user ≡ true = ap (λ (o : Option Arming). is_armed o row.user) (sym named) ∙ its.0 in
            inr (inr (subst (λ (p : FilePart). Contains plan (Remove (part_name_text (name_of row.user 0 p)))) its.1
            (behind_first ResumeTake (clearing a.users) (Remove (part_name_text (resume_of row.user))) (removal_there a.users row.user armed))))

    lets_go : (retired : List (List ℕ)) → LetsGo w r retired then next retired [] plan
    lets_go retired = record {
      away = (tt, (tt, removals_away a.users small));
      each = λ p has. inl (has, number_stays next w then (named_but_settings w then next settings) p has);
      slots = λ p k. absurd (none_in p k);
      keys = λ p k. absurd (none_in p k);
      counters = λ p k. absurd (none_in p k);
      secure = λ row has some. inl (secure_enrolled (has_weaver then) next row has some);
      armed = λ was. inr (at_first ResumeTake (clearing a.users), behind_first ResumeTake (clearing a.users) (KeyDrop 0) (at_first (KeyDrop 0) (removals a.users ++ Sync ∷ [])));
      files = λ p k. absurd (none_in p k);
      own = own_goes retired;
      retired = λ n k. inl k;
    }

    -- The cell is empty already.
    pub bare_end : (start : World) (retired : List (List ℕ)) → w.cell ≡ None → IsBare start w r retired → IsBare start end next retired
    bare_end start retired empty bare =
        subst (λ (v : World). IsBare start (after_all v (clearing a.users)) next retired) (sym still_empty)
        (changed start w w then r next retired retired plan next_is bare (same_refl (named_by w next []) w) settings (refl, touch_then)
        (lets_retire w then r next retired retired [] plan weaver_then (lets_go retired)))
      where
        still_empty : then ≡ record then { cell = None }
        still_empty = λ i. record then { cell = (settings.cell (λ e. e) ∙ empty) i }
