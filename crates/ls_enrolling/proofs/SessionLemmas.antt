-- What the change asks of the session that carries it out.
use Rattle.std.proofs.Common.{◌≡◌, ◌≢◌, ◌⊎◌, inl, inr, ⊎_elim, ◌≤◌, ℕ, Bool, true, false, List, [], ◌∷◌, ◌++◌, length, IsTrue, Some, refl, sym, ap, subst, ◌∙◌, append-nil}
use Rattle.std.specs.Prelude.{is_some}
use Rattle.std.specs.List.{Contains}
use Rattle.std.proofs.lemmas.List.Elements.{Contains-append_left, Contains-append_right, Contains-append_cases}
use Rattle.ls_board.specs.declared.action.Action.{Action}
use Rattle.ls_board.specs.declared.action.Action.TheVariants.{Sync}
use Rattle.ls_board.specs.declared.world.World.{World}
use Rattle.ls_board.specs.Acts.{Sight}
use Rattle.ls_board.specs.Effect.{file_at}
use Rattle.ls_board.specs.Reach.{SameBut, AllTouchOnly}
use Rattle.ls_board.specs.Runs.{after_all, AllApply, AllSound}
use Rattle.ls_board.proofs.FrameLemmas.{plan_same}
use Rattle.ls_board.proofs.RunLemmas.{after_all-append}
use Rattle.ls_change.specs.Work.{IsQuietWork, actions_of, next_of, staged}
use Rattle.ls_exchange.specs.Exchanges.{Exchanged, plain, AreNew, AreNamed, AreLeftOut}
use Rattle.ls_formats.specs.declared.name.FileName.TheVariants.{Protector as ProtectorName}
use Rattle.ls_formats.specs.declared.parts.Parts.{Parts}
use Rattle.ls_formats.specs.PartNames.{PartOf, IsPartOf, part_name_text}
use Rattle.ls_naming.specs.Named.{NamesFile}
use Rattle.ls_naming.proofs.NamingLemmas.{record_named}
use Rattle.ls_placing.proofs.StayLemmas.{fits_slots, number_stays}
use Rattle.ls_protector.specs.Clear.{AreUnnamed, IsClear, NamesParts}
use Rattle.ls_protector.specs.Parts.{parts_of}
use Rattle.ls_protector.specs.Steps.{Drafted}
use Rattle.ls_protector.proofs.PartLemmas.{unnamed_clear}
use Rattle.ls_record.specs.Rows.{Rec, IsRecord}
use Rattle.ls_sealing.specs.Building.{FitsSlots}
use Rattle.ls_sealing.specs.Protectors.{Protector, has_weaver, held_number}
use Rattle.ls_settings.specs.Loaded.{IsReady, settings_reach}
use Rattle.ls_standing.specs.Bare.{IsStrange, named_by}
use Rattle.ls_standing.specs.Named.{credential_of}
use Rattle.ls_standing.specs.NamedProtectors.{NamesProtector}
use Rattle.ls_standing.specs.Quiet.{IsUnnamedProtector, IsUnnamed, unnamed}
use Rattle.ls_standing.specs.Same.{SameNamed}
use Rattle.ls_standing.proofs.BareLemmas.{strange_kept}
use Rattle.ls_standing.proofs.ContainsLemmas.{none_in, at_first, first_or_behind}
use Rattle.ls_standing.proofs.FrameLemmas.{weaver_same}
use Rattle.ls_standing.proofs.PairLemmas.{pairs_append}
use Rattle.ls_standing.proofs.SameLemmas.{named_but_settings}
use Rattle.ls_standing.proofs.TouchLemmas.{same_name}
use Rattle.ls_turn.specs.declared.session.Session.{Session}
use Rattle.ls_turn.specs.Agreeing.{ArePartNames, files_of, retired_files}
use Rattle.ls_turn.specs.Serving.{CanServe, FitsBoard, IsKeptAs}
use Rattle.ls_turn.specs.Working.{IsSoundWork, KeepsNamed, LeavesKept}
use Rattle.ls_enrolling.specs.declared.planned.Planned.{Planned}
use Rattle.ls_enrolling.specs.Enrolling.{Chosen, IsChosen, row_then, user_then, half_files, written}
use Rattle.ls_enrolling.specs.Planning.{IsPlan, chosen_of, exchange_of}
use Rattle.ls_enrolling.proofs.RowLemmas.{next, next_is, its_row, new_named, was_named, named_cases, file_cases}
use Rattle.ls_enrolling.proofs.StagedLemmas.{last, same_named, written_touch, written_apply, number_is, sound_both}
use Rattle.ls_enrolling.proofs.BareLemmas.{written_named}

pub one_in : {X : Type 0} (x z : X) → Contains (x ∷ []) z → z ≡ x
one_in x z has = ⊎_elim (λ (e : x ≡ z). sym e) (λ (k : Contains [] z). absurd (none_in z k)) (first_or_behind x [] z has)

module _ (b : Sight) (x : Session) (can : CanServe b x) (is : IsRecord x.settings.settled.rec) (user : ℕ) (escrow : Bool) (drawn : List ℕ) (k : Planned) (plan : IsPlan b x user escrow drawn k) where
  abbrev pub r : Rec
  r = x.settings.settled.rec

  abbrev pub n : Chosen
  n = chosen_of user escrow drawn k

  abbrev pub fits : IsChosen r n
  fits = plan.choice.chosen

  abbrev pub then : Rec
  then = next r is n fits

  abbrev pub work : Exchanged
  work = exchange_of k

  abbrev w : World
  w = b.world

  abbrev pub new : Protector
  new = credential_of (row_then n)

  -- those that are named then
  abbrev pub list : List Parts
  list = x.named.items ++ k.draft.parts ∷ []

  abbrev files : List Action
  files = half_files user escrow (user_then n).secret drawn

  pub parts_are : k.draft.parts ≡ parts_of (is_some k.slot) new k.slot
  parts_are = ap (λ (d : Drafted). d.parts) plan.draft.is

  -- ---- on every board

  before_is : (plain work).before ≡ k.draft.plan ++ (files ++ Sync ∷ [])
  before_is = ap (λ (l : List Action). l ++ (k.others ++ Sync ∷ [])) (append-nil k.draft.plan) ∙ ap (λ (l : List Action). k.draft.plan ++ (l ++ Sync ∷ [])) plan.others

  pub sound : IsSoundWork x.slots (plain work)
  sound = record {
    before = subst (AllSound x.slots) (sym before_is) (sound_both x.slots k.draft.plan (files ++ Sync ∷ []) plan.asked.sound (sound_both x.slots files (Sync ∷ []) (by escrow) (tt, tt)));
    after = tt;
  }
    where
      by : (b : Bool) → AllSound x.slots (half_files user b (user_then n).secret drawn)
      by true = (tt, (tt, tt))
      by false = tt

  pub names : AreNamed work
  names p has = subst (NamesParts (next_of (plain work))) (sym (one_in k.draft.parts p has ∙ parts_are))
      (subst (λ (z : Rec). NamesParts z (parts_of (is_some k.slot) new k.slot)) (sym plan.next) (row_then n, its_row r is n fits, refl, inl refl))

  pub left_out : AreLeftOut w work
  left_out p has = absurd (none_in p has)

  pub retired_is : x.retired.items ++ [] ≡ x.retired.items
  retired_is = append-nil x.retired.items

  pub retired : ArePartNames (files_of (x.retired.items ++ []))
  retired = subst (λ (l : List Parts). ArePartNames (files_of l)) (sym retired_is) can.names

  pub named : KeepsNamed x.slots (plain work) list
  named = record {
    each = λ p has. each p (named_cases r is n fits p (subst (λ (z : Rec). NamesProtector z p) plan.next has));
    only = λ z has. only z (Contains-append_cases x.named.items (k.draft.parts ∷ []) z has);
    once = pairs_append (λ p q. p.id ≢ q.id) x.named.items (k.draft.parts ∷ []) can.once (tt, tt)
        (λ y z hy hz e. plan.choice.place.ids y hy (e ∙ ap (λ (p : Parts). p.id) (one_in k.draft.parts z hz ∙ parts_are)));
  }
    where
      each : (p : Protector) → NamesProtector r p ⊎ (p ≡ new) → (z : Parts) × Contains list z × IsKeptAs x.slots p z
      each p (inl old) = let e = can.each p old in (e.0, Contains-append_left x.named.items (k.draft.parts ∷ []) e.0 e.1, e.2)
      each p (inr e) = (
        k.draft.parts,
        Contains-append_right x.named.items (k.draft.parts ∷ []) k.draft.parts (at_first k.draft.parts []),
        (k.slot, plan.choice.fits, parts_are ∙ ap (λ (p : Protector). parts_of (is_some k.slot) p k.slot) (sym e)),
      )

      on_then : (p : Protector) → NamesProtector then p → NamesProtector (next_of (plain work)) p
      on_then p has = subst (λ (z : Rec). NamesProtector z p) (sym plan.next) has

      only : (z : Parts) → Contains x.named.items z ⊎ Contains (k.draft.parts ∷ []) z → (p : Protector) × NamesProtector (next_of (plain work)) p × IsKeptAs x.slots p z
      only z (inl h) = let found = can.only z h in (found.0, on_then found.0 (was_named r is n fits found.0 found.1), found.2)
      only z (inr h) = (new, on_then new (new_named r is n fits), (k.slot, plan.choice.fits, one_in k.draft.parts z h ∙ parts_are))

  -- ---- where the world is told

  module _ (told : IsTrue b.told) (lens : b.slots ≡ length b.world.slots) (few : b.slots ≤ 256) (free : IsUnnamedProtector b.world r (credential_of (row_then n)) k.slot) where
    pub slot : FitsSlots k.slot w
    slot = fits_slots b.slots w k.slot lens few (subst (λ (m : ℕ). FitsBoard m k.slot) can.slots plan.choice.fits)

    abbrev pub end : World
    end = last r is n fits w slot free

    pub same : SameNamed r w end
    same = same_named r is n fits w slot free

    before_told : (plain work).before ≡ written w n
    before_told = before_is ∙ ap (λ (d : Drafted). d.plan ++ (files ++ Sync ∷ [])) (plan.written told)

    pub staged_is : staged w (plain work) ≡ end
    staged_is = ap (after_all w) before_told

    pub quiet : IsReady w x.settings → IsQuietWork w x.settings (plain work)
    quiet ready = record {
      ready = ready;
      before = subst (AllTouchOnly (unnamed w r)) (sym before_told) (written_touch r is n fits w slot free);
      applies = subst (AllApply w) (sym before_told) (written_apply r is n fits w slot free);
      after = tt;
      follows = tt;
    }

    pub are_new : AreNew w x.settings work
    are_new p has = subst (IsClear w r) (sym (one_in k.draft.parts p has ∙ parts_are)) (unnamed_clear w r new k.slot is free)

    -- ---- behind the commit

    module _ (commits : AllTouchOnly settings_reach k.commit.actions) where
      abbrev pub fin : World
      fin = after_all end k.commit.actions

      pub fin_is : after_all w (actions_of (plain work)) ≡ fin
      fin_is =
          after_all-append w (plain work).before (k.commit.actions ++ [])
          ∙ (ap (λ (v : World). after_all v (k.commit.actions ++ [])) staged_is
          ∙ ap (after_all end) (append-nil k.commit.actions))

      pub settings : SameBut settings_reach end fin
      settings = plan_same settings_reach end k.commit.actions commits

      same_fin : SameNamed then end fin
      same_fin = named_but_settings end fin then settings

      pub fin_weaver : has_weaver fin ≡ has_weaver w
      fin_weaver = weaver_same then end fin same_fin ∙ weaver_same r w end same

      pub fin_cell : fin.cell ≡ end.cell
      fin_cell = settings.cell (λ reached. reached)

      -- a protector has the slot that it had
      pub number_old : (p : Protector) → NamesProtector r p → held_number fin p ≡ held_number w p
      number_old p was = number_stays then end fin same_fin p (was_named r is n fits p was) ∙ number_stays r w end same p was

      pub number_new : held_number fin new ≡ k.slot
      number_new = number_stays then end fin same_fin new (new_named r is n fits) ∙ number_is r is n fits w slot free

      -- no file that was retired is named
      stays_retired : (f : List ℕ) → Contains (retired_files x) f → IsUnnamed fin then f
      stays_retired f has = record {
        settings = was.settings;
        named = λ name h e. was.named name (old_file name h e) e;
      }
        where
          was : IsUnnamed w r f
          was = can.retired told f has

          old_file : (name : PartOf) → NamesFile (has_weaver fin) then name → f ≡ part_name_text name → NamesFile (has_weaver w) r name
          old_file name h e = by (file_cases r is n fits (has_weaver fin) name h)
            where
              part : IsPartOf name
              part = record_named (has_weaver fin) then (next_is r is n fits) name h

              no_id : name.id ≡ 0 → ⊥
              no_id zero = let of_f = can.names f has in let one : of_f.0 ≡ name = same_name of_f.0 name of_f.1 part (sym of_f.3 ∙ e) in of_f.2 (ap (λ (y : PartOf). y.id) one ∙ zero)

              by : NamesFile (has_weaver fin) r name ⊎ ((name.id ≡ 0) ⊎ (name.id ≡ k.id)) → NamesFile (has_weaver w) r name
              by (inl old) = subst (λ (b : Bool). NamesFile b r name) fin_weaver old
              by (inr (inl zero)) = absurd (no_id zero)
              by (inr (inr its)) = absurd (plan.choice.place.files name part (subst (λ (g : List ℕ). Contains (retired_files x) g) e has) its)

      pub retired_unnamed : AreUnnamed (after_all w (actions_of (plain work))) (next_of (plain work)) (files_of (x.retired.items ++ []))
      retired_unnamed =
          subst (λ (l : List Parts). AreUnnamed (after_all w (actions_of (plain work))) (next_of (plain work)) (files_of l)) (sym retired_is)
          (λ f has. subst (λ (v : World). IsUnnamed v (next_of (plain work)) f) (sym fin_is) (subst (λ (z : Rec). IsUnnamed fin z f) (sym plan.next) (stays_retired f has)))

      strange_fin : (f : List ℕ) → IsStrange f → file_at fin f ≡ file_at w f
      strange_fin f strange =
          strange_kept end fin settings f strange
          ∙ (plan_same (named_by end then []) w (written w n) (written_named r is n fits w slot free)).file f
          (λ reached. ⊎_elim (λ named. strange (ProtectorName named.0) (record_named (has_weaver end) then (next_is r is n fits) named.0 named.1) named.2) (λ k. none_in f k) reached)

      pub left : LeavesKept w (plain work) list (x.retired.items ++ [])
      left = record {
        numbers = λ p has j held. numbers_fin p (named_cases r is n fits p (subst (λ (z : Rec). NamesProtector z p) plan.next has)) j (ap (λ (v : World). held_number v p) (sym fin_is) ∙ held);
        apart = pairs_append (λ p q. (m : ℕ) → p.slot ≡ Some m → q.slot ≢ Some m) x.named.items (k.draft.parts ∷ []) (can.apart told) (tt, tt)
            (λ y z hy hz m e f. plan.choice.place.slots y hy m e (sym (ap (λ (p : Parts). p.slot) (one_in k.draft.parts z hz ∙ parts_are)) ∙ f));
        are_retired = retired_unnamed;
        strange = λ f strange. ap (λ (v : World). file_at v f) fin_is ∙ strange_fin f strange;
      }
        where
          numbers_fin : (p : Protector) → NamesProtector r p ⊎ (p ≡ new) → (j : ℕ) → held_number fin p ≡ Some j → Contains list (parts_of (is_some (Some j)) p (Some j))
          numbers_fin p (inl old) j held = Contains-append_left x.named.items (k.draft.parts ∷ []) (parts_of true p (Some j)) (can.numbers told p old j (sym (number_old p old) ∙ held))
          numbers_fin p (inr e) j held =
              let at : k.slot ≡ Some j = sym number_new ∙ (ap (held_number fin) (sym e) ∙ held) in
              subst (Contains list) (parts_are ∙ ((λ i. parts_of (is_some (at i)) new (at i)) ∙ ap (λ (p : Protector). parts_of true p (Some j)) (sym e)))
              (Contains-append_right x.named.items (k.draft.parts ∷ []) k.draft.parts (at_first k.draft.parts []))
