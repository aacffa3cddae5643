-- What adds a user is written: what the world holds then.
use Rattle.std.proofs.Common.{◌≡◌, ◌≢◌, ◌⊎◌, inl, inr, ⊎_elim, ◌<◌, ◌^◌, ℕ, Bool, true, false, List, [], ◌∷◌, ◌++◌, Option, None, Some, refl, sym, ap, subst, ◌∙◌}
use Rattle.std.specs.Option.{option_and_then}
use Rattle.ls_board.specs.declared.action.Action.{Action}
use Rattle.ls_board.specs.declared.action.Action.TheVariants.{Put, Sync}
use Rattle.ls_board.specs.declared.world.World.{World}
use Rattle.ls_board.specs.Effect.{after, file_at, touch_at, put_mark}
use Rattle.ls_board.specs.Reach.{Reach, AllTouchOnly}
use Rattle.ls_board.specs.Runs.{after_all, AllApply, AllSound}
use Rattle.ls_board.proofs.FileLemmas.{file_marked_same, file_marked_other}
use Rattle.ls_board.proofs.FrameLemmas.{plan_same}
use Rattle.ls_board.proofs.RunLemmas.{after_all-append}
use Rattle.ls_formats.specs.declared.part.FilePart.{FilePart}
use Rattle.ls_formats.specs.declared.part.FilePart.TheVariants.{Weaver, E0, P1}
use Rattle.ls_formats.specs.PartNames.{PartOf, IsPartOf, part_name_text}
use Rattle.ls_naming.proofs.NamingLemmas.{record_named}
use Rattle.ls_record.specs.Rows.{Rec, IsRecord, is_protector_id}
use Rattle.ls_secret.specs.Escrow.{e0_of}
use Rattle.ls_secret.specs.Secrets.{SecretValue}
use Rattle.ls_sealing.specs.Building.{Writing, FitsSlots, writing_of, held_of, for_credential}
use Rattle.ls_sealing.specs.Protectors.{Protector, Held, has_weaver, has_part, held, held_number, slot_number, file_name}
use Rattle.ls_sealing.specs.Sparing.{Spares}
use Rattle.ls_sealing.proofs.ActionLemmas.{applies}
use Rattle.ls_sealing.proofs.HeldLemmas.{held_but}
use Rattle.ls_sealing.proofs.WritingLemmas.{is_held, number_again_slot}
use Rattle.ls_standing.specs.Named.{credential_of, user_file}
use Rattle.ls_standing.specs.Quiet.{IsUnnamedProtector, IsUnnamed, unnamed}
use Rattle.ls_standing.specs.Same.{SameNamed}
use Rattle.ls_standing.specs.Standing.{NamedAreUntouched}
use Rattle.ls_standing.proofs.NamedLemmas.{name_of, credential_named}
use Rattle.ls_standing.proofs.QuietLemmas.{plan_kept}
use Rattle.ls_standing.proofs.TouchLemmas.{all_quiet, writing_touch, file_unnamed, same_name}
use Rattle.ls_enrolling.specs.Enrolling.{Chosen, IsChosen, row_then, user_then, half_files, half_iv, first_half, second_half, protector_bytes, protector_written, written, e0_part, p1_part}
use Rattle.ls_enrolling.proofs.RowLemmas.{next, next_is, its_row, other_user, e0_is, p1_is}

-- ---- actions one behind another

pub touch_both : (reach : Reach) (xs ys : List Action) → AllTouchOnly reach xs → AllTouchOnly reach ys → AllTouchOnly reach (xs ++ ys)
touch_both reach [] ys first second = second
touch_both reach (x ∷ xs) ys first second = (first.0, touch_both reach xs ys first.1 second)

apply_both : (w : World) (xs ys : List Action) → AllApply w xs → AllApply (after_all w xs) ys → AllApply w (xs ++ ys)
apply_both w [] ys first second = second
apply_both w (x ∷ xs) ys first second = (first.0, apply_both (after w x 0) xs ys first.1 second)

pub sound_both : (slots : ℕ) (xs ys : List Action) → AllSound slots xs → AllSound slots ys → AllSound slots (xs ++ ys)
sound_both slots [] ys first second = second
sound_both slots (x ∷ xs) ys first second = (first.0, sound_both slots xs ys first.1 second)

module _ (r : Rec) (is : IsRecord r) (n : Chosen) (fits : IsChosen r n) where
  abbrev s : SecretValue
  s = (user_then n).secret

  abbrev files : List Action
  files = half_files n.user n.escrow s n.drawn

  own_unnamed : (w : World) (name : PartOf) → IsPartOf name → name.user ≡ n.user → IsUnnamed w r (part_name_text name)
  own_unnamed w name part e = file_unnamed w r name is part (λ h. other_user r is n fits (has_weaver w) name h e)

  files_touch : (w : World) → AllTouchOnly (unnamed w r) files
  files_touch w = by n.escrow
    where
      by : (b : Bool) → AllTouchOnly (unnamed w r) (half_files n.user b s n.drawn)
      by true = (own_unnamed w (e0_part n.user) (e0_is n.user fits.small) refl, (own_unnamed w (p1_part n.user) (p1_is n.user fits.small) refl, tt))
      by false = tt

  module _ (w : World) (slot : FitsSlots n.slot w) (free : IsUnnamedProtector w r (credential_of (row_then n)) n.slot) where
    abbrev pub p : Protector
    p = credential_of (row_then n)

    abbrev pub m : Writing
    m = writing_of n.id n.slot (for_credential (user_then n).credential s) (protector_bytes n.escrow n.drawn) w.gk_key

    abbrev pub first : List Action
    first = protector_written w n

    abbrev mid : World
    mid = after_all w first

    abbrev pub last : World
    last = after_all w (written w n)

    pub written_touch : AllTouchOnly (unnamed w r) (written w n)
    written_touch =
        touch_both (unnamed w r) first (files ++ Sync ∷ []) (writing_touch w r p n.slot is free m)
        (touch_both (unnamed w r) files (Sync ∷ []) (files_touch w) (tt, tt))

    files_apply : (v : World) → AllApply v files
    files_apply v = by n.escrow v
      where
        by : (b : Bool) (v : World) → AllApply v (half_files n.user b s n.drawn)
        by true v = (tt, (tt, tt))
        by false v = tt

    pub written_apply : AllApply w (written w n)
    written_apply = apply_both w first (files ++ Sync ∷ []) (applies p m w n.slot) (apply_both mid files (Sync ∷ []) (files_apply mid) (tt, tt))

    pub same_named : SameNamed r w last
    same_named = (plan_kept r w (written w n) (all_quiet w r (written w n) written_touch)).named

    last_is : last ≡ after_all mid (files ++ Sync ∷ [])
    last_is = after_all-append w first (files ++ Sync ∷ [])

    pub last_untouched : (z : Rec) → NamedAreUntouched last z
    last_untouched z name named = ap (λ (v : World). touch_at v (part_name_text name)) (last_is ∙ after_all-append mid files (Sync ∷ []))

    -- ---- the protector is as it was written

    abbrev reach : Reach
    reach = record {
      files = λ f. (f ≡ part_name_text (e0_part n.user)) ⊎ (f ≡ part_name_text (p1_part n.user));
      slots = λ k. ⊥;
      sids = λ sid. ⊥;
      aliases = λ alias. ⊥;
      cell = ⊥;
    }

    only_files : AllTouchOnly reach (files ++ Sync ∷ [])
    only_files = touch_both reach files (Sync ∷ []) (by n.escrow) (tt, tt)
      where
        by : (b : Bool) → AllTouchOnly reach (half_files n.user b s n.drawn)
        by true = (inl refl, (inr refl, tt))
        by false = tt

    spared : Spares reach mid p
    spared = record {
      file = λ part has. ⊎_elim (other part has (e0_part n.user) (e0_is n.user fits.small) refl) (other part has (p1_part n.user) (p1_is n.user fits.small) refl);
      slot = λ k number reached. reached;
      counter = λ enrolled reached. reached;
      key = λ reached. reached;
    }
      where
        other : (part : FilePart) → has_part (has_weaver mid) p.purpose part ≡ true → (own : PartOf) → IsPartOf own → own.id ≡ 0 → file_name p part ≡ part_name_text own → ⊥
        other part has own own_is zero e =
            let part_is = record_named (has_weaver mid) (next r is n fits) (next_is r is n fits) (name_of n.user n.id part)
            (credential_named (has_weaver mid) (next r is n fits) (row_then n) (its_row r is n fits) part has) in
            let one = same_name (name_of n.user n.id part) own part_is own_is e in
            let bad : is_protector_id 0 ≡ true = ap is_protector_id (sym (ap (λ (x : PartOf). x.id) one ∙ zero)) ∙ fits.even in
            absurd (cc)

    pub its_held : held last p ≡ held_of p.purpose n.slot m w.gk_key
    its_held =
        ap (λ (v : World). held v p) last_is
        ∙ (held_but p reach mid (after_all mid (files ++ Sync ∷ [])) spared (plan_same reach mid (files ++ Sync ∷ []) only_files)
        ∙ is_held p m w n.slot slot refl)

    slot_small : (k : ℕ) → n.slot ≡ Some k → k < 2 ^ 32
    slot_small k e = (subst (λ (o : Option ℕ). FitsSlots o w) e slot).1

    -- it has its slot
    pub number_is : held_number last p ≡ n.slot
    number_is = ap (λ (h : Held). option_and_then slot_number (h.files Weaver)) its_held ∙ by n.slot slot_small
      where
        by : (o : Option ℕ) → ((k : ℕ) → o ≡ Some k → k < 2 ^ 32)
            → option_and_then slot_number ((held_of p.purpose o (writing_of n.id o (for_credential (user_then n).credential s) (protector_bytes n.escrow n.drawn) w.gk_key) w.gk_key).files Weaver) ≡ o
        by None small = refl
        by (Some k) small = number_again_slot k (small k refl)

    -- ---- the two halves

    module _ (with : n.escrow ≡ true) where
      abbrev e0_name : List ℕ
      e0_name = part_name_text (e0_part n.user)

      abbrev p1_name : List ℕ
      p1_name = part_name_text (p1_part n.user)

      abbrev one : World
      one = after mid (Put e0_name (e0_of s (first_half n.drawn) (half_iv n.drawn))) 0

      abbrev two : World
      two = after one (Put p1_name (second_half n.drawn)) 0

      last_then : last ≡ record two { touched = [] }
      last_then = last_is ∙ ap (λ (b : Bool). after_all mid (half_files n.user b s n.drawn ++ Sync ∷ [])) with

      names_differ : e0_name ≢ p1_name
      names_differ e = let same = same_name (e0_part n.user) (p1_part n.user) (e0_is n.user fits.small) (p1_is n.user fits.small) e in let bad : E0 ≡ P1 = ap (λ (x : PartOf). x.part) same in absurd (cc)

      pub e0_there : user_file last (row_then n) E0 ≡ Some (e0_of s (first_half n.drawn) (half_iv n.drawn))
      e0_there =
          ap (λ (v : World). file_at v e0_name) last_then
          ∙ (file_marked_other one (put_mark one p1_name (second_half n.drawn)) e0_name names_differ
          ∙ file_marked_same mid (put_mark mid e0_name (e0_of s (first_half n.drawn) (half_iv n.drawn))))

      pub p1_there : user_file last (row_then n) P1 ≡ Some (second_half n.drawn)
      p1_there = ap (λ (v : World). file_at v p1_name) last_then ∙ file_marked_same one (put_mark one p1_name (second_half n.drawn))
