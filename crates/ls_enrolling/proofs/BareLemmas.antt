-- A world with nothing but what is named keeps nothing else behind the commit.
use Rattle.std.proofs.Common.{◌≡◌, ℕ, Bool, true, false, List, [], ◌∷◌, ◌++◌, inl, Option, refl, sym, ap, subst, ◌∙◌}
use Rattle.std.specs.Prelude.{is_some, nat_lt}
use Rattle.std.specs.List.{Contains}
use Rattle.std.specs.Option.{option_and_then}
use Rattle.std.proofs.lemmas.List.Elements.{Contains-append_left}
use Rattle.ls_board.specs.declared.action.Action.TheVariants.{Sync}
use Rattle.ls_board.specs.declared.world.World.{World}
use Rattle.ls_board.specs.Effect.{file_at}
use Rattle.ls_board.specs.Reach.{SameBut, AllTouchOnly}
use Rattle.ls_board.proofs.FrameLemmas.{plan_same}
use Rattle.ls_formats.specs.declared.part.FilePart.{FilePart}
use Rattle.ls_formats.specs.declared.part.FilePart.TheVariants.{Weaver, E0, P1}
use Rattle.ls_formats.specs.PartNames.{PartOf, part_name_text}
use Rattle.ls_naming.specs.Named.{user_parts, credential_parts, parts_of, token_files, row_files, NamesFile, NamesKey, NamesEnrolled}
use Rattle.ls_placing.proofs.StayLemmas.{weaver_by, protector_file, number_stays}
use Rattle.ls_protector.specs.Parts.{reach_of_parts}
use Rattle.ls_protector.specs.Parts as protector
use Rattle.ls_protector.proofs.PartLemmas.{written_touch}
use Rattle.ls_record.specs.declared.row.UserRow.{UserRow}
use Rattle.ls_record.specs.Rows.{Rec, IsRecord}
use Rattle.ls_secret.specs.Secrets.{SecretValue}
use Rattle.ls_sealing.specs.Building.{FitsSlots}
use Rattle.ls_sealing.specs.Protectors.{Protector, has_weaver, has_part, held_number, slot_number, where_it_has, file_name, is_enrolled, parts_for}
use Rattle.ls_settings.specs.Loaded.{settings_reach}
use Rattle.ls_standing.specs.Bare.{IsBare, named_by}
use Rattle.ls_standing.specs.Clearing.{LetsGo}
use Rattle.ls_standing.specs.Named.{credential_of}
use Rattle.ls_standing.specs.Quiet.{IsUnnamedProtector}
use Rattle.ls_standing.specs.Same.{SameNamed}
use Rattle.ls_standing.proofs.BareLemmas.{changed}
use Rattle.ls_standing.proofs.ContainsLemmas.{none_in, at_first, behind_first, in_map, of_map, in_flat}
use Rattle.ls_standing.proofs.FrameLemmas.{weaver_same}
use Rattle.ls_standing.proofs.LettingLemmas.{lets_retire}
use Rattle.ls_standing.proofs.NamedLemmas.{name_of, credential_enrolled, credential_key, secure_enrolled}
use Rattle.ls_standing.proofs.ProtectorLemmas.{any_part, named as slot_of}
use Rattle.ls_standing.proofs.SameLemmas.{no_settings}
use Rattle.ls_standing.proofs.TouchLemmas.{Inside, all_touch_more}
use Rattle.ls_enrolling.specs.Enrolling.{Chosen, IsChosen, row_then, user_then, half_files, protector_written, written, e0_part, p1_part}
use Rattle.ls_enrolling.proofs.RowLemmas.{next, next_is, its_row, on_next, its_part, new_named, was_named}
use Rattle.ls_enrolling.proofs.StagedLemmas.{m, last, same_named, touch_both, number_is}

module _ (r : Rec) (is : IsRecord r) (n : Chosen) (fits : IsChosen r n) (w : World) (slot : FitsSlots n.slot w) (free : IsUnnamedProtector w r (credential_of (row_then n)) n.slot) where
  abbrev row : UserRow
  row = row_then n

  abbrev then : Rec
  then = next r is n fits

  abbrev end : World
  end = last r is n fits w slot free

  same : SameNamed r w end
  same = same_named r is n fits w slot free

  end_weaver : has_weaver end ≡ is_some n.slot
  end_weaver = weaver_same r w end same ∙ weaver_by n.slot w slot

  -- ---- what is written is named then

  inside : Inside (reach_of_parts (protector.parts_of (is_some n.slot) (credential_of row) n.slot)) (named_by end then [])
  inside = record {
    file = λ f reached. inl (by f (of_map (file_name (credential_of row)) (parts_for (is_some n.slot) (credential_of row).purpose) f reached));
    slot = λ k e. slot_of end then (credential_of row) k (new_named r is n fits) (number_is r is n fits w slot free ∙ e);
    sid = λ sid its. subst (λ (k : ℕ). NamesEnrolled (has_weaver end) then k) (sym its.1)
        (credential_enrolled (has_weaver end) then row (its_row r is n fits) (ap (λ (b : Bool). is_enrolled b (credential_of row).purpose) end_weaver ∙ its.0));
    alias = λ alias e. subst (λ (k : ℕ). NamesKey then k) (sym e) (credential_key (has_weaver end) then row (its_row r is n fits));
    cell = λ none. absurd none;
  }
    where
      by : (f : List ℕ) → (part : FilePart) × Contains (parts_for (is_some n.slot) (credential_of row).purpose) part × (file_name (credential_of row) part ≡ f)
          → (name : PartOf) × NamesFile (has_weaver end) then name × (f ≡ part_name_text name)
      by f (part, within, e) = (
        name_of n.user n.id part,
        protector_file (has_weaver end) then (credential_of row) (new_named r is n fits) part
            (subst (λ (b : Bool). has_part b (credential_of row).purpose part ≡ true) (sym end_weaver) (any_part (parts_for (is_some n.slot) (credential_of row).purpose) part within)),
        sym e,
      )

  own_named : (part : FilePart) → Contains (user_parts r.armed row) part → NamesFile (has_weaver end) then (name_of n.user 0 part)
  own_named part own =
      in_flat (row_files (has_weaver end) then.armed) then.users row (name_of n.user 0 part) (its_row r is n fits)
      (Contains-append_left (parts_of n.user 0 (user_parts r.armed row)) (parts_of n.user n.id (credential_parts (has_weaver end) row.kind) ++ token_files (has_weaver end) row)
      (name_of n.user 0 part) (in_map (name_of n.user 0) (user_parts r.armed row) part own))

  abbrev s : SecretValue
  s = (user_then n).secret

  files_named : AllTouchOnly (named_by end then []) (half_files n.user n.escrow s n.drawn)
  files_named = by n.escrow refl
    where
      by : (b : Bool) → n.escrow ≡ b → AllTouchOnly (named_by end then []) (half_files n.user b s n.drawn)
      by true with = (
        inl (e0_part n.user, own_named E0 (its_part r is n fits with E0 (at_first E0 (P1 ∷ []))), refl),
        (inl (p1_part n.user, own_named P1 (its_part r is n fits with P1 (behind_first E0 (P1 ∷ []) P1 (at_first P1 []))), refl), tt),
      )
      by false none = tt

  pub written_named : AllTouchOnly (named_by end then []) (written w n)
  written_named =
      touch_both (named_by end then []) (protector_written w n) (half_files n.user n.escrow s n.drawn ++ Sync ∷ [])
      (all_touch_more (reach_of_parts (protector.parts_of (is_some n.slot) (credential_of row) n.slot)) (named_by end then []) inside (protector_written w n)
      (written_touch (credential_of row) n.slot (m r is n fits w slot free)))
      (touch_both (named_by end then []) (half_files n.user n.escrow s n.drawn) (Sync ∷ []) files_named (tt, tt))

  -- ---- nothing goes

  module _ (mid : World) (settings : SameBut settings_reach end mid) (old : List (List ℕ)) where
    mid_weaver : has_weaver mid ≡ has_weaver end
    mid_weaver = ap (nat_lt 0) settings.count

    mid_number : (z : Protector) → held_number mid z ≡ held_number end z
    mid_number z =
        ap (λ (b : Bool). option_and_then slot_number (where_it_has (has_part b z.purpose Weaver) (file_at mid (file_name z Weaver)))) mid_weaver
        ∙ ap (λ (file : Option (List ℕ)). option_and_then slot_number (where_it_has (has_part (has_weaver end) z.purpose Weaver) file))
        (settings.file (file_name z Weaver) (no_settings (record { user = z.user; id = z.id; part = Weaver })))

    lets_go : LetsGo w r old mid then old [] []
    lets_go = record {
      away = tt;
      each = λ z h. inl (was_named r is n fits z h, mid_number z ∙ number_stays r w end same z h);
      slots = λ z h. absurd (none_in z h);
      keys = λ z h. absurd (none_in z h);
      counters = λ z h. absurd (none_in z h);
      secure = λ x h some. inl (secure_enrolled (has_weaver mid) then x (on_next r is n fits x h) some);
      armed = λ was. inl was;
      files = λ z h. absurd (none_in z h);
      own = λ x h part within. inl (in_flat (row_files (has_weaver mid) then.armed) then.users x (name_of x.user 0 part) (on_next r is n fits x h)
          (Contains-append_left (parts_of x.user 0 (user_parts r.armed x)) (parts_of x.user x.protector (credential_parts (has_weaver mid) x.kind) ++ token_files (has_weaver mid) x)
          (name_of x.user 0 part) (in_map (name_of x.user 0) (user_parts r.armed x) part within)));
      retired = λ f h. inl h;
    }

    pub added_bare : (start : World) → IsBare start w r old → IsBare start mid then old
    added_bare start bare =
        changed start w end mid r then old old [] (next_is r is n fits) bare
        (plan_same (named_by end then []) w (written w n) written_named) settings tt
        (lets_retire w mid r then old old [] [] (mid_weaver ∙ weaver_same r w end same) lets_go)
