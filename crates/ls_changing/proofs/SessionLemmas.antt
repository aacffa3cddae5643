-- What the change asks of the session that carries it out.
use Rattle.std.proofs.Common.{◌≡◌, ◌≢◌, ◌⊎◌, inl, inr, ⊎_elim, ◌<◌, ◌≤◌, ℕ, Bool, true, false, List, [], ◌∷◌, ◌++◌, length, IsTrue, Option, None, Some, refl, sym, ap, subst, ◌∙◌, arith, append-nil}
use Rattle.std.specs.Prelude.{is_some, IfSome}
use Rattle.std.specs.List.{Contains}
use Rattle.std.proofs.lemmas.List.Elements.{Contains-append_left, Contains-append_right, Contains-append_cases}
use Rattle.ls_board.specs.declared.action.Action.{Action}
use Rattle.ls_board.specs.declared.action.Action.TheVariants.{Put, GkEnroll, GkForget, Remove, Sync}
use Rattle.ls_board.specs.declared.world.World.{World}
use Rattle.ls_board.specs.Acts.{Sight}
use Rattle.ls_board.specs.Effect.{file_at}
use Rattle.ls_board.specs.Reach.{Reach, SameBut, AllTouchOnly}
use Rattle.ls_board.specs.Runs.{after_all, AllApply, AllSound}
use Rattle.ls_board.proofs.FrameLemmas.{plan_same}
use Rattle.ls_board.proofs.RunLemmas.{after_all-append}
use Rattle.ls_change.specs.Work.{IsQuietWork, actions_of, next_of, staged}
use Rattle.ls_credential.specs.Rules.{KindAndText}
use Rattle.ls_exchange.specs.Exchanges.{Exchanged, plain, AreNew, AreNamed, AreLeftOut}
use Rattle.ls_formats.specs.declared.parts.Parts.{Parts}
use Rattle.ls_formats.specs.PartNames.{PartOf, IsPartOf, part_name_text}
use Rattle.ls_naming.specs.Named.{only_if, NamesFile, row_files, user_parts, credential_parts, parts_of as name_parts, token_files}
use Rattle.ls_naming.proofs.NamingLemmas.{record_named}
use Rattle.ls_protector.specs.Clear.{AreUnnamed, IsClear, NamesParts}
use Rattle.ls_protector.specs.Parts.{parts_of, names_for, erasing_of}
use Rattle.ls_protector.specs.Steps.{Drafted}
use Rattle.ls_protector.proofs.PartLemmas.{unnamed_clear}
use Rattle.ls_record.specs.declared.row.UserRow.{UserRow}
use Rattle.ls_record.specs.Rows.{Rec, IsRecord}
use Rattle.ls_secret.specs.Secrets.{SecretValue}
use Rattle.ls_sealing.specs.Building.{FitsSlots, erasing_actions}
use Rattle.ls_sealing.specs.Protectors.{Protector, has_weaver, held_number, file_name, parts_for, is_enrolled}
use Rattle.ls_settings.specs.Loaded.{IsReady, settings_reach}
use Rattle.ls_standing.specs.Bare.{IsStrange, named_by}
use Rattle.ls_standing.specs.Named.{credential_of}
use Rattle.ls_standing.specs.NamedProtectors.{NamesProtector, IsElsewhere}
use Rattle.ls_standing.specs.Quiet.{IsUnnamedProtector, IsUnnamed, unnamed}
use Rattle.ls_standing.specs.Same.{SameNamed}
use Rattle.ls_standing.proofs.BareLemmas.{strange_kept}
use Rattle.ls_standing.proofs.ContainsLemmas.{none_in, at_first, of_map, in_flat, of_flat}
use Rattle.ls_formats.specs.declared.name.FileName.TheVariants.{Protector as ProtectorName}
use Rattle.ls_standing.proofs.FrameLemmas.{weaver_same}
use Rattle.ls_standing.proofs.IdLemmas.{one_protector, is_row}
use Rattle.ls_standing.proofs.NamedLemmas.{name_of}
use Rattle.ls_standing.proofs.PairLemmas.{pairs_append}
use Rattle.ls_standing.proofs.ProtectorLemmas.{any_part, numbers}
use Rattle.ls_standing.proofs.QuietLemmas.{plan_kept}
use Rattle.ls_standing.proofs.SameLemmas.{named_but_settings, named_trans}
use Rattle.ls_standing.proofs.TouchLemmas.{all_quiet, later_touch, same_name, files_unnamed}
use Rattle.ls_turn.specs.declared.session.Session.{Session}
use Rattle.ls_turn.specs.Agreeing.{ArePartNames, files_of, retired_files}
use Rattle.ls_turn.specs.Serving.{CanServe, FitsBoard, IsKeptAs, KeepOnce, KeepApart}
use Rattle.ls_turn.specs.Working.{IsSoundWork, KeepsNamed, LeavesKept}
use Rattle.ls_changing.specs.declared.planned.Planned.{Planned}
use Rattle.ls_changing.specs.Replacing.{Chosen, IsChosen, row_then, comes, goes, enrolling, forgetting, handle_of, handle_name}
use Rattle.ls_changing.specs.Planning.{IsPlan, chosen_of, exchange_of}
use Rattle.ls_changing.proofs.ListLemmas.{one_in, others_in, itself_in, of_others, pairs_apart, pairs_without}
use Rattle.ls_changing.proofs.RowLemmas.{next, next_is, of_next, handle_is}
use Rattle.ls_changing.proofs.StagedLemmas.{before, last, before_touch, before_apply, same_named, touch_both}
use Rattle.ls_changing.proofs.ReadyLemmas.{number_is}
use Rattle.ls_changing.proofs.LeavingLemmas.{gone, gone_named, leaving, leaving_away, leaving_sound, leaving_touch, gone_unnamed, next_cases, away_apply, sound_both, number_stays, protector_file}
use Rattle.ls_changing.proofs.BareLemmas.{its_row, new_named, was_cases, before_named}

-- ---- slots

pub fits_slots : (slots : ℕ) (w : World) (o : Option ℕ) → slots ≡ length w.slots → slots ≤ 256 → FitsBoard slots o → FitsSlots o w
fits_slots slots w None same few fits = sym same ∙ fits
fits_slots slots w (Some k) same few fits = (omega (arith, same, few, fits), omega (arith, few, fits))

within : (slots : ℕ) (o : Option ℕ) → FitsBoard slots o → IfSome o (λ k. k < slots)
within slots None fits = tt
within slots (Some k) fits = fits

enrolling_sound : (slots : ℕ) (row : UserRow) (secure : ℕ) (handle : List ℕ) → AllSound slots (enrolling row secure handle ++ Sync ∷ [])
enrolling_sound slots row secure handle = sound_both slots (enrolling row secure handle) (Sync ∷ []) (by (comes row.secure secure)) (tt, tt)
  where
    by : (b : Bool) → AllSound slots (only_if b (GkEnroll secure ∷ Put (handle_name row.user) handle ∷ []))
    by true = (tt, (tt, tt))
    by false = tt

-- ---- files of users and protectors

abbrev own_reach : Reach
own_reach = record {
  files = λ f. (name : PartOf) × IsPartOf name × (f ≡ part_name_text name);
  slots = λ k. Unit {0};
  sids = λ sid. Unit {0};
  aliases = λ alias. Unit {0};
  cell = ⊥;
}

module _ (b : Sight) (x : Session) (can : CanServe b x) (is : IsRecord x.settings.settled.rec) (row : UserRow) (c : KindAndText) (s : SecretValue) (drawn : List ℕ)
    (k : Planned) (plan : IsPlan b x row c s drawn k) (front back : List Parts) (q : Parts) (split : x.named.items ≡ front ++ q ∷ back) (its_id : q.id ≡ row.protector) where
  abbrev pub r : Rec
  r = x.settings.settled.rec

  abbrev pub n : Chosen
  n = chosen_of row c k

  abbrev fits : IsChosen r n
  fits = plan.chosen

  abbrev pub then : Rec
  then = next r is n fits

  abbrev pub work : Exchanged
  work = exchange_of k q

  abbrev w : World
  w = b.world

  abbrev lost : Protector
  lost = gone r is n fits

  abbrev new : Protector
  new = credential_of (row_then n)

  -- those that are named then
  abbrev pub list : List Parts
  list = (front ++ back) ++ k.draft.parts ∷ []

  -- ---- the protectors that the session names

  pub q_in : Contains x.named.items q
  q_in = subst (λ (l : List Parts). Contains l q) (sym split) (itself_in q front back)

  pub rest_in : (z : Parts) → Contains (front ++ back) z → Contains x.named.items z
  rest_in z has = subst (λ (l : List Parts). Contains l z) (sym split) (others_in q front back z has)

  pub named_cases : (z : Parts) → Contains x.named.items z → (z ≡ q) ⊎ Contains (front ++ back) z
  named_cases z has = of_others q front back z (subst (λ (l : List Parts). Contains l z) split has)

  once_split : KeepOnce (front ++ q ∷ back)
  once_split = subst KeepOnce split can.once

  pub rest_id : (z : Parts) → Contains (front ++ back) z → z.id ≢ q.id
  rest_id z has = ⊎_elim (λ (p : z.id ≢ q.id). p) (λ (p : q.id ≢ z.id) e. p (sym e)) (pairs_apart q (λ p q. p.id ≢ q.id) front back once_split z has)

  -- the old protector, with its slot
  abbrev pub kept_q : (p : Protector) × NamesProtector r p × IsKeptAs x.slots p q
  kept_q = can.only q q_in

  abbrev pub o : Option ℕ
  o = kept_q.2.0

  pub kept_gone : kept_q.0 ≡ lost
  kept_gone = one_protector r is kept_q.0 lost kept_q.1 (gone_named r is n fits) (ap (λ (z : Parts). z.id) (sym kept_q.2.2) ∙ its_id)

  pub q_is : q ≡ parts_of (is_some o) lost o
  q_is = kept_q.2.2 ∙ ap (λ (p : Protector). parts_of (is_some o) p o) kept_gone

  slot_is : q.slot ≡ o
  slot_is = ap (λ (z : Parts). z.slot) q_is

  pub parts_are : k.draft.parts ≡ parts_of (is_some k.slot) new k.slot
  parts_are = ap (λ (d : Drafted). d.parts) plan.draft.is

  -- a protector of the record that isn't the old one is another
  pub not_lost : (p : Protector) → NamesProtector r p → (z : Parts) → z ≡ q → z.id ≡ p.id → p ≡ lost
  not_lost p named z e same = one_protector r is p lost named (gone_named r is n fits) (sym same ∙ (ap (λ (y : Parts). y.id) e ∙ its_id))

  -- ---- on every board

  before_is : (plain work).before ≡ k.draft.plan ++ (enrolling row k.secure plan.handle ++ Sync ∷ [])
  before_is = ap (λ (l : List Action). l ++ (k.others ++ Sync ∷ [])) (append-nil k.draft.plan) ∙ ap (λ (l : List Action). k.draft.plan ++ (l ++ Sync ∷ [])) plan.others

  pub after_is : (plain work).after ≡ leaving n o
  after_is =
      ap (λ (l : List Action). l ++ k.after) (append-nil (erasing_of q))
      ∙ (ap (λ (z : Parts). erasing_of z ++ k.after) q_is
      ∙ ap (λ (l : List Action). erasing_actions lost o ++ l) plan.after)

  pub sound : IsSoundWork x.slots (plain work)
  sound = record {
    before = subst (AllSound x.slots) (sym before_is) (sound_both x.slots k.draft.plan (enrolling row k.secure plan.handle ++ Sync ∷ []) plan.asked.sound (enrolling_sound x.slots row k.secure plan.handle));
    after = subst (AllSound x.slots) (sym after_is) (leaving_sound x.slots n o (within x.slots o kept_q.2.1));
  }

  pub names : AreNamed work
  names p has = subst (NamesParts (next_of (plain work))) (sym (one_in k.draft.parts p has ∙ parts_are))
      (subst (λ (z : Rec). NamesParts z (parts_of (is_some k.slot) new k.slot)) (sym plan.next) (row_then n, its_row r is n fits, refl, inl refl))

  -- a name of a file of the old protector
  gone_name : (f : List ℕ) → Contains (names_for (is_some o) lost) f → (name : PartOf) × IsPartOf name × (name.id ≢ 0) × (f ≡ part_name_text name)
  gone_name f has =
      let part = of_map (file_name lost) (parts_for (is_some o) lost.purpose) f has in
      let name = name_of row.user row.protector part.0 in
      let some = (numbers r is lost (gone_named r is n fits)).some in (
        name,
        record_named (is_some o) r is name (protector_file (is_some o) r lost (gone_named r is n fits) part.0 (any_part (parts_for (is_some o) lost.purpose) part.0 part.1)),
        λ e. omega (arith, some, e),
        sym part.2,
      )

  -- a file of what was retired is one of those before, or of the old protector
  pub retired_cases : (f : List ℕ) → Contains (files_of (x.retired.items ++ q ∷ [])) f → Contains (retired_files x) f ⊎ Contains (names_for (is_some o) lost) f
  retired_cases f has = by (of_flat (λ (p : Parts). p.names) (x.retired.items ++ q ∷ []) f has)
    where
      of_parts : (p : Parts) → Contains p.names f → Contains x.retired.items p ⊎ Contains (q ∷ []) p → Contains (retired_files x) f ⊎ Contains (names_for (is_some o) lost) f
      of_parts p own (inl k) = inl (in_flat (λ (p : Parts). p.names) x.retired.items p f k own)
      of_parts p own (inr k) = inr (subst (λ (z : Parts). Contains z.names f) (one_in q p k ∙ q_is) own)

      by : (p : Parts) × Contains (x.retired.items ++ q ∷ []) p × Contains p.names f → Contains (retired_files x) f ⊎ Contains (names_for (is_some o) lost) f
      by (p, within, own) = of_parts p own (Contains-append_cases x.retired.items (q ∷ []) p within)

  pub files : ArePartNames (files_of (x.retired.items ++ q ∷ []))
  files f has = ⊎_elim (can.names f) (gone_name f) (retired_cases f has)

  pub named : KeepsNamed x.slots (plain work) list
  named = record {
    each = λ p has. each p (next_cases r is n fits p (subst (λ (z : Rec). NamesProtector z p) plan.next has));
    only = λ z has. only z (Contains-append_cases (front ++ back) (k.draft.parts ∷ []) z has);
    once = pairs_append (λ p q. p.id ≢ q.id) (front ++ back) (k.draft.parts ∷ []) (pairs_without q (λ p q. p.id ≢ q.id) front back once_split) (tt, tt)
        (λ y z hy hz e. plan.place.ids y (rest_in y hy) (e ∙ ap (λ (p : Parts). p.id) (one_in k.draft.parts z hz ∙ parts_are)));
  }
    where
      each : (p : Protector) → (NamesProtector r p × (p ≢ lost)) ⊎ (p ≡ new) → (z : Parts) × Contains list z × IsKeptAs x.slots p z
      each p (inl old) =
          let e = can.each p old.0 in
          ⊎_elim
          (λ (same : e.0 ≡ q). absurd (old.1 (not_lost p old.0 e.0 same (ap (λ (z : Parts). z.id) e.2.2))))
          (λ (stays : Contains (front ++ back) e.0). (e.0, Contains-append_left (front ++ back) (k.draft.parts ∷ []) e.0 stays, e.2)) (named_cases e.0 e.1)
      each p (inr e) = (
        k.draft.parts,
        Contains-append_right (front ++ back) (k.draft.parts ∷ []) k.draft.parts (at_first k.draft.parts []),
        (k.slot, plan.fits, parts_are ∙ ap (λ (p : Protector). parts_of (is_some k.slot) p k.slot) (sym e)),
      )

      on_next : (p : Protector) → NamesProtector then p → NamesProtector (next_of (plain work)) p
      on_next p has = subst (λ (z : Rec). NamesProtector z p) (sym plan.next) has

      only : (z : Parts) → Contains (front ++ back) z ⊎ Contains (k.draft.parts ∷ []) z → (p : Protector) × NamesProtector (next_of (plain work)) p × IsKeptAs x.slots p z
      only z (inl h) =
          let found = can.only z (rest_in z h) in
          ⊎_elim
          (λ (stays : NamesProtector then found.0). (found.0, on_next found.0 stays, found.2))
          (λ (e : found.0 ≡ lost). absurd (rest_id z h (ap (λ (y : Parts). y.id) found.2.2 ∙ (ap (λ (p : Protector). p.id) e ∙ sym its_id)))) (was_cases r is n fits found.0 found.1)
      only z (inr h) = (new, on_next new (new_named r is n fits), (k.slot, plan.fits, one_in k.draft.parts z h ∙ parts_are))

  -- ---- where the world is told

  module _ (told : IsTrue b.told) (lens : b.slots ≡ length b.world.slots) (few : b.slots ≤ 256) (free : IsUnnamedProtector b.world r (credential_of (row_then (chosen_of row c k))) k.slot) where
    pub slot : FitsSlots k.slot w
    slot = fits_slots b.slots w k.slot lens few (subst (λ (m : ℕ). FitsBoard m k.slot) can.slots plan.fits)

    pub slot_was : FitsSlots o w
    slot_was = fits_slots b.slots w o lens few (subst (λ (m : ℕ). FitsBoard m o) can.slots kept_q.2.1)

    abbrev pub end : World
    end = last r is n fits w slot free s plan.bytes plan.handle

    pub same : SameNamed r w end
    same = same_named r is n fits w slot free s plan.bytes plan.handle

    before_told : (plain work).before ≡ before r is n fits w slot free s plan.bytes plan.handle
    before_told = before_is ∙ ap (λ (d : Drafted). d.plan ++ (enrolling row k.secure plan.handle ++ Sync ∷ [])) (plan.written told)

    pub staged_is : staged w (plain work) ≡ end
    staged_is = ap (after_all w) before_told

    elsewhere : (z : Protector) → NamesProtector r z → z ≢ lost → IsElsewhere w lost.id o z
    elsewhere z h other = record {
      id_apart = λ e. other (one_protector r is z lost h (gone_named r is n fits) e);
      slot_apart = λ j number kept. slot_other j number kept (named_cases (parts_of true z (Some j)) (can.numbers told z h j number));
    }
      where
        apart_split : KeepApart (front ++ q ∷ back)
        apart_split = subst KeepApart split (can.apart told)

        slot_other : (j : ℕ) → held_number w z ≡ Some j → o ≡ Some j → (parts_of true z (Some j) ≡ q) ⊎ Contains (front ++ back) (parts_of true z (Some j)) → ⊥
        slot_other j number kept (inl e) = other (not_lost z h (parts_of true z (Some j)) e refl)
        slot_other j number kept (inr h) = ⊎_elim (λ p. p j refl (slot_is ∙ kept)) (λ p. p j (slot_is ∙ kept) refl)
            (pairs_apart q (λ p q. (m : ℕ) → p.slot ≡ Some m → q.slot ≢ Some m) front back apart_split (parts_of true z (Some j)) h)

    other : (j : ℕ) → o ≡ Some j → k.slot ≢ Some j
    other j kept = plan.place.slots q q_in j (slot_is ∙ kept)

    unnamed_then : IsUnnamedProtector end then lost o
    unnamed_then = gone_unnamed r is n fits w slot free s plan.bytes plan.handle o elsewhere other

    touch_then : AllTouchOnly (unnamed end then) (leaving n o)
    touch_then = leaving_touch r is n fits w slot free s plan.bytes plan.handle o elsewhere other

    pub quiet : IsReady w x.settings → IsQuietWork w x.settings (plain work)
    quiet ready = record {
      ready = ready;
      before = subst (AllTouchOnly (unnamed w r)) (sym before_told) (before_touch r is n fits w slot free s plan.bytes plan.handle);
      applies = subst (AllApply w) (sym before_told) (before_apply r is n fits w slot free s plan.bytes plan.handle);
      after = subst (AllTouchOnly (unnamed (staged w (plain work)) (next_of (plain work)))) (sym after_is)
          (subst (λ (v : World). AllTouchOnly (unnamed v (next_of (plain work))) (leaving n o)) (sym staged_is)
          (subst (λ (z : Rec). AllTouchOnly (unnamed end z) (leaving n o)) (sym plan.next) touch_then));
      follows = subst (AllApply (after_all w ((plain work).before ++ (plain work).commit.actions))) (sym after_is)
          (away_apply (after_all w ((plain work).before ++ (plain work).commit.actions)) (leaving n o) (leaving_away r is n fits o));
    }

    pub are_new : AreNew w x.settings work
    are_new p has = subst (IsClear w r) (sym (one_in k.draft.parts p has ∙ parts_are)) (unnamed_clear w r new k.slot is free)

    pub left_out : AreLeftOut w work
    left_out p has =
        subst (IsClear (staged w (plain work)) (next_of (plain work))) (sym (one_in q p has ∙ q_is))
        (subst (λ (v : World). IsClear v (next_of (plain work)) (parts_of (is_some o) lost o)) (sym staged_is)
        (subst (λ (z : Rec). IsClear end z (parts_of (is_some o) lost o)) (sym plan.next) (unnamed_clear end then lost o (next_is r is n fits) unnamed_then)))

    -- ---- behind it all

    module _ (commits : AllTouchOnly settings_reach k.commit.actions) where
      abbrev pub mid : World
      mid = after_all end k.commit.actions

      abbrev pub fin : World
      fin = after_all mid (leaving n o)

      pub fin_is : after_all w (actions_of (plain work)) ≡ fin
      fin_is =
          after_all-append w (plain work).before (k.commit.actions ++ (plain work).after)
          ∙ (ap (λ (v : World). after_all v (k.commit.actions ++ (plain work).after)) staged_is
          ∙ (after_all-append end k.commit.actions (plain work).after
          ∙ ap (after_all mid) after_is))

      pub settings : SameBut settings_reach end mid
      settings = plan_same settings_reach end k.commit.actions commits

      pub touch_mid : AllTouchOnly (unnamed mid then) (leaving n o)
      touch_mid = later_touch end mid then (leaving n o) (named_but_settings end mid then settings) touch_then

      pub same_fin : SameNamed then end fin
      same_fin = named_trans end mid fin then (named_but_settings end mid then settings) (plan_kept then mid (leaving n o) (all_quiet mid then (leaving n o) touch_mid)).named

      pub fin_weaver : has_weaver fin ≡ has_weaver end
      fin_weaver = weaver_same then end fin same_fin

      -- a protector that stays has its slot
      pub number_old : (p : Protector) → NamesProtector r p → NamesProtector then p → held_number fin p ≡ held_number w p
      number_old p was now = number_stays then end fin same_fin p now ∙ number_stays r w end same p was

      pub number_new : held_number fin new ≡ k.slot
      number_new = number_stays then end fin same_fin new (new_named r is n fits) ∙ number_is r is n fits w slot free s plan.bytes plan.handle

      -- ---- files that were retired

      file_back : (weaver : Bool) (name : PartOf) → NamesFile weaver then name → name.id ≢ 0 → name.id ≢ k.id → NamesFile weaver r name
      file_back weaver name h some apart = by (of_flat (row_files weaver then.armed) then.users name h)
        where
          user_part : Contains (name_parts row.user 0 (user_parts r.armed (row_then n))) name → ⊥
          user_part h = let found = of_map (name_of row.user 0) (user_parts r.armed (row_then n)) name h in some (ap (λ (y : PartOf). y.id) (sym found.2))

          its_part : Contains (name_parts row.user k.id (credential_parts weaver c.kind)) name → ⊥
          its_part h = let found = of_map (name_of row.user k.id) (credential_parts weaver c.kind) name h in apart (ap (λ (y : PartOf). y.id) (sym found.2))

          of_own : Contains (row_files weaver r.armed (row_then n)) name → NamesFile weaver r name
          of_own h = ⊎_elim (λ u. absurd (user_part u))
              (λ (late : Contains (name_parts row.user k.id (credential_parts weaver c.kind) ++ token_files weaver row) name).
              ⊎_elim (λ p. absurd (its_part p))
              (λ (t : Contains (token_files weaver row) name).
              in_flat (row_files weaver r.armed) r.users row name fits.here
              (Contains-append_right (name_parts row.user 0 (user_parts r.armed row)) (name_parts row.user row.protector (credential_parts weaver row.kind) ++ token_files weaver row) name
              (Contains-append_right (name_parts row.user row.protector (credential_parts weaver row.kind)) (token_files weaver row) name t)))
              (Contains-append_cases (name_parts row.user k.id (credential_parts weaver c.kind)) (token_files weaver row) name late))
              (Contains-append_cases (name_parts row.user 0 (user_parts r.armed (row_then n))) (name_parts row.user k.id (credential_parts weaver c.kind) ++ token_files weaver row) name h)

          of_row : (y : UserRow) → Contains (row_files weaver r.armed y) name → (Contains r.users y × (y.user ≢ row.user)) ⊎ (y ≡ row_then n) → NamesFile weaver r name
          of_row y own (inl old) = in_flat (row_files weaver r.armed) r.users y name old.0 own
          of_row y own (inr e) = of_own (subst (λ (z : UserRow). Contains (row_files weaver r.armed z) name) e own)

          by : (y : UserRow) × Contains then.users y × Contains (row_files weaver r.armed y) name → NamesFile weaver r name
          by (y, inside, own) = of_row y own (of_next r is n fits y inside)

      was_retired : (f : List ℕ) → Contains (retired_files x) f → IsUnnamed fin then f
      was_retired f has = record {
        settings = was.settings;
        named = λ name h e. was.named name (old_file name h e) e;
      }
        where
          was : IsUnnamed w r f
          was = can.retired told f has

          weaver_was : has_weaver fin ≡ has_weaver w
          weaver_was = fin_weaver ∙ weaver_same r w end same

          old_file : (name : PartOf) → NamesFile (has_weaver fin) then name → f ≡ part_name_text name → NamesFile (has_weaver w) r name
          old_file name h e =
              let of_f = can.names f has in
              let part = record_named (has_weaver fin) then (next_is r is n fits) name h in
              let one : of_f.0 ≡ name = same_name of_f.0 name of_f.1 part (sym of_f.3 ∙ e) in
              subst (λ (b : Bool). NamesFile b r name) weaver_was
              (file_back (has_weaver fin) name h (λ zero. of_f.2 (ap (λ (y : PartOf). y.id) one ∙ zero))
              (plan.place.files name part (subst (λ (g : List ℕ). Contains (retired_files x) g) e has)))

      now_retired : (f : List ℕ) → Contains (names_for (is_some o) lost) f → IsUnnamed fin then f
      now_retired f has =
          let part = of_map (file_name lost) (parts_for (is_some o) lost.purpose) f has in
          let was : IsUnnamed end then f = subst (IsUnnamed end then) part.2 (files_unnamed end then lost o (next_is r is n fits) unnamed_then part.0) in
          record { settings = was.settings; named = λ name h. was.named name (subst (λ (b : Bool). NamesFile b then name) fin_weaver h) }

      pub retired_unnamed : AreUnnamed (after_all w (actions_of (plain work))) (next_of (plain work)) (files_of (x.retired.items ++ q ∷ []))
      retired_unnamed f has =
          subst (λ (v : World). IsUnnamed v (next_of (plain work)) f) (sym fin_is)
          (subst (λ (z : Rec). IsUnnamed fin z f) (sym plan.next) (⊎_elim (was_retired f) (now_retired f) (retired_cases f has)))

      -- ---- files outside the grammar

      leaving_own : AllTouchOnly own_reach (leaving n o)
      leaving_own = touch_both own_reach (erasing_actions lost o) (forgetting row k.secure) (erase o) (touch_both own_reach (only_if (goes row.secure k.secure) (GkForget row.secure ∷ Remove (handle_name row.user) ∷ [])) (Sync ∷ []) (by (goes row.secure k.secure)) (tt, tt))
        where
          forgets : (b : Bool) → AllTouchOnly own_reach (only_if b (GkForget row.protector ∷ []))
          forgets true = (tt, tt)
          forgets false = tt

          erase : (o : Option ℕ) → AllTouchOnly own_reach (erasing_actions lost o)
          erase None = (tt, forgets (is_enrolled false lost.purpose))
          erase (Some j) = (tt, (tt, forgets (is_enrolled true lost.purpose)))

          by : (b : Bool) → AllTouchOnly own_reach (only_if b (GkForget row.secure ∷ Remove (handle_name row.user) ∷ []))
          by true = (tt, ((handle_of row.user, handle_is row.user (is_row r is row fits.here).user, refl), tt))
          by false = tt

      strange_fin : (f : List ℕ) → IsStrange f → file_at fin f ≡ file_at w f
      strange_fin f strange =
          (plan_same own_reach mid (leaving n o) leaving_own).file f (λ reached. strange (ProtectorName reached.0) reached.1 reached.2)
          ∙ (strange_kept end mid settings f strange
          ∙ (plan_same (named_by end then []) w (before r is n fits w slot free s plan.bytes plan.handle) (before_named r is n fits w slot free s plan.bytes plan.handle)).file f
          (λ reached. ⊎_elim (λ named. strange (ProtectorName named.0) (record_named (has_weaver end) then (next_is r is n fits) named.0 named.1) named.2) (λ k. none_in f k) reached))

      -- ---- what is left

      pub left : LeavesKept w (plain work) list (x.retired.items ++ q ∷ [])
      left = record {
        numbers = λ p has j held. numbers_fin p (next_cases r is n fits p (on_then p has)) (on_then p has) j (ap (λ (v : World). held_number v p) (sym fin_is) ∙ held);
        apart = pairs_append (λ p q. (m : ℕ) → p.slot ≡ Some m → q.slot ≢ Some m) (front ++ back) (k.draft.parts ∷ [])
            (pairs_without q (λ p q. (m : ℕ) → p.slot ≡ Some m → q.slot ≢ Some m) front back (subst KeepApart split (can.apart told))) (tt, tt)
            (λ y z hy hz m e f. plan.place.slots y (rest_in y hy) m e (sym (ap (λ (p : Parts). p.slot) (one_in k.draft.parts z hz ∙ parts_are)) ∙ f));
        are_retired = retired_unnamed;
        strange = λ f strange. ap (λ (v : World). file_at v f) fin_is ∙ strange_fin f strange;
      }
        where
          on_then : (p : Protector) → NamesProtector (next_of (plain work)) p → NamesProtector then p
          on_then p has = subst (λ (z : Rec). NamesProtector z p) plan.next has

          numbers_fin : (p : Protector) → (NamesProtector r p × (p ≢ lost)) ⊎ (p ≡ new) → NamesProtector then p → (j : ℕ) → held_number fin p ≡ Some j → Contains list (parts_of (is_some (Some j)) p (Some j))
          numbers_fin p (inl old) has j held =
              let kept = can.numbers told p old.0 j (sym (number_old p old.0 has) ∙ held) in
              ⊎_elim
              (λ (e : parts_of true p (Some j) ≡ q). absurd (old.1 (not_lost p old.0 (parts_of true p (Some j)) e refl)))
              (λ (stays : Contains (front ++ back) (parts_of true p (Some j))). Contains-append_left (front ++ back) (k.draft.parts ∷ []) (parts_of true p (Some j)) stays) (named_cases (parts_of true p (Some j)) kept)
          numbers_fin p (inr e) has j held =
              let at : k.slot ≡ Some j = sym number_new ∙ (ap (held_number fin) (sym e) ∙ held) in
              subst (Contains list) (parts_are ∙ ((λ i. parts_of (is_some (at i)) new (at i)) ∙ ap (λ (p : Protector). parts_of true p (Some j)) (sym e)))
              (Contains-append_right (front ++ back) (k.draft.parts ∷ []) k.draft.parts (at_first k.draft.parts []))
