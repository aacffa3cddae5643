-- The world in which the new protectors are written.
use Rattle.std.proofs.Common.{◌≡◌, ◌≢◌, ◌⊎◌, inl, inr, ⊎_elim, ◌≤◌, ◌<◌, ◌+◌, ◌^◌, ℕ, zero, suc, Bool, true, false, List, [], ◌∷◌, ◌++◌, map, length, IsTrue, Option, None, Some, refl, sym, ◌∙◌, ap, subst, arith, append-nil}
use Rattle.std.specs.Prelude.{is_some, MatchOption}
use Rattle.std.specs.Option.{option_and_then}
use Rattle.std.specs.List.{Contains}
use Rattle.std.proofs.lemmas.List.Elements.{Contains-append_left, Contains-append_right, Contains-append_cases}
use Rattle.ls_board.specs.declared.action.Action.{Action}
use Rattle.ls_board.specs.declared.action.Action.TheVariants.{Sync}
use Rattle.ls_board.specs.declared.world.World.{World}
use Rattle.ls_board.specs.Acts.{Sight}
use Rattle.ls_board.specs.Reach.{AllTouchOnly, Reach, SameBut}
use Rattle.ls_board.specs.Runs.{AllApply, AllSound, after_all}
use Rattle.ls_board.proofs.FrameLemmas.{plan_same}
use Rattle.ls_board.proofs.RunLemmas.{after_all-append}
use Rattle.ls_change.specs.Work.{IsQuietWork, actions_of, staged}
use Rattle.ls_exchange.specs.Exchanges.{AreLeftOut, AreNew, new_parts, plain, settling_of, staging_of}
use Rattle.ls_formats.specs.declared.parts.Parts.{Parts}
use Rattle.ls_formats.specs.declared.part.FilePart.TheVariants.{Weaver}
use Rattle.ls_protector.specs.Clear.{IsClear}
use Rattle.ls_protector.specs.Drafts.{MayBeAsked}
use Rattle.ls_protector.specs.Parts.{parts_of}
use Rattle.ls_protector.specs.Steps.{Drafted}
use Rattle.ls_protector.proofs.PartLemmas.{unnamed_clear}
use Rattle.ls_record.specs.Rows.{Pairs, Rec}
use Rattle.ls_sealing.specs.Building.{FitsSlots, Writing, for_token, held_of, slot_file, writing_actions, writing_of}
use Rattle.ls_sealing.specs.Protectors.{Held, Protector, has_part, has_weaver, held, held_number, slot_number, token, where_it_has}
use Rattle.ls_sealing.specs.Sparing.{Spares, reach_of}
use Rattle.ls_sealing.proofs.ActionLemmas.{touches}
use Rattle.ls_sealing.proofs.ApartLemmas.{spare}
use Rattle.ls_sealing.proofs.WritingLemmas.{is_held, number_again_slot}
use Rattle.ls_settings.specs.Loaded.{IsReady, settings_reach}
use Rattle.ls_standing.specs.NamedProtectors.{NamesProtector}
use Rattle.ls_standing.specs.Quiet.{IsUnnamedProtector, unnamed}
use Rattle.ls_standing.specs.Same.{SameNamed}
use Rattle.ls_standing.specs.Several.{Written, writing_all}
use Rattle.ls_standing.proofs.ContainsLemmas.{at_first, behind_first, first_or_behind, in_map, none_in, of_map}
use Rattle.ls_standing.proofs.FrameLemmas.{weaver_same}
use Rattle.ls_standing.proofs.PairLemmas.{each_in}
use Rattle.ls_standing.proofs.QuietLemmas.{plan_kept}
use Rattle.ls_standing.proofs.SameLemmas.{named_but_settings}
use Rattle.ls_standing.proofs.SeveralLemmas.{all_held, all_unnamed}
use Rattle.ls_standing.proofs.TouchLemmas.{all_quiet}
use Rattle.ls_turn.specs.declared.session.Session.{Session}
use Rattle.ls_turn.specs.Serving.{CanServe, FitsBoard}
use Rattle.ls_turn.specs.Working.{IsSoundWork}
use Rattle.ls_changing.proofs.LeavingLemmas.{number_stays, sound_both}
use Rattle.ls_changing.proofs.SessionLemmas.{fits_slots}
use Rattle.ls_changing.proofs.StagedLemmas.{apply_both, touch_both}
use Rattle.ls_activating.specs.declared.planned.Planned.{Planned}
use Rattle.ls_activating.specs.Counting.{count_for}
use Rattle.ls_activating.specs.Planning.{IsPlannedFor, Made, exchange_of}
use Rattle.ls_activating.proofs.NextLemmas.{drafts_is, its_draft, new_named, next, next_cases, next_is, next_rules, old_named, parts_is, parts_new, work}
use Rattle.ls_activating.proofs.PlaceLemmas.{HasOtherSlot, fits, ids_once, its, its_numbers, its_parts, made, slots_once}
use Rattle.ls_activating.proofs.RoomLemmas.{as_many_chosen, length_mapped}

-- ---- syncs

synced_more : (v : World) (l : List Parts) → after_all (record v { touched = [] }) (settling_of l) ≡ record v { touched = [] }
synced_more v [] = refl
synced_more v (q ∷ l) = synced_more v l

synced : (v : World) (l : List Parts) → l ≢ [] → after_all v (settling_of l) ≡ record v { touched = [] }
synced v [] some = absurd (some refl)
synced v (q ∷ l) some = synced_more v l

pub syncs_touch : (reach : Reach) (l : List Parts) → AllTouchOnly reach (settling_of l)
syncs_touch reach [] = tt
syncs_touch reach (q ∷ l) = (tt, syncs_touch reach l)

syncs_apply : (v : World) (l : List Parts) → AllApply v (settling_of l)
syncs_apply v [] = tt
syncs_apply v (q ∷ l) = (tt, syncs_apply (record v { touched = [] }) l)

syncs_sound : (slots : ℕ) (l : List Parts) → AllSound slots (settling_of l)
syncs_sound slots [] = tt
syncs_sound slots (q ∷ l) = (tt, syncs_sound slots l)

-- ---- drafts

drafts_sound : (slots : ℕ) (l : List Drafted) → ((d : Drafted) → Contains l d → MayBeAsked slots d.plan) → AllSound slots (staging_of l)
drafts_sound slots [] each = tt
drafts_sound slots (d ∷ l) each = sound_both slots d.plan (staging_of l) (each d (at_first d l)).sound (drafts_sound slots l (λ o has. each o (behind_first d l o has)))

drafts_apply : (slots : ℕ) (l : List Drafted) → ((d : Drafted) → Contains l d → MayBeAsked slots d.plan) → (v : World) → AllApply v (staging_of l)
drafts_apply slots [] each v = tt
drafts_apply slots (d ∷ l) each v =
    apply_both v d.plan (staging_of l) ((each d (at_first d l)).applies v) (drafts_apply slots l (λ o has. each o (behind_first d l o has)) (after_all v d.plan))

-- the slot in a token's `weaver` file
token_numbered : (slot : Option ℕ) → ((n : ℕ) → slot ≡ Some n → n < 2 ^ 32) → option_and_then slot_number (where_it_has (has_part (is_some slot) token Weaver) (Some (slot_file slot))) ≡ slot
token_numbered None small = refl
token_numbered (Some n) small = number_again_slot n (small n refl)

module _ (b : Sight) (x : Session) (can : CanServe b x) (user : ℕ) (k : Planned) (p : IsPlannedFor b x user k) where
  abbrev w : World
  w = b.world

  abbrev all_made : List Made
  all_made = made b x can user k p

  abbrev pub writing : Made → Writing
  writing m = writing_of m.token.id m.slot (for_token m.token.token p.entry.secret.version p.by.p0) m.bytes []

  abbrev pub wrote : Made → Written
  wrote m = record { of = its b x can user k p m; slot = m.slot; writing = writing m }

  abbrev pub all : List Written
  all = map wrote all_made

  staging_is : (l : List Made) → staging_of (map (its_draft b x can user k p) l) ≡ writing_all (map wrote l)
  staging_is [] = refl
  staging_is (m ∷ l) = ap (λ (xs : List Action). writing_actions (its b x can user k p m) m.slot (writing m) ++ xs) (staging_is l)

  pub before_is : (plain (work b x can user k p)).before ≡ writing_all all ++ settling_of (parts_new b x can user k p)
  before_is = λ i. (ap (λ (l : List Drafted). staging_of l) (drafts_is b x can user k p) ∙ staging_is all_made) i ++ settling_of (parts_is b x can user k p i)

  -- there is one at least
  parts_some : parts_new b x can user k p ≢ []
  parts_some none =
      let long = ap (λ (l : List Parts). length l) none in
      let parts = length_mapped (its_parts b x can user k p) all_made in
      let tokens = length_mapped (λ (m : Made). m.token) all_made in
      let are = ap (λ (l : List _). length l) p.by.plan.drafts.tokens_are in
      let many = as_many_chosen x user in
      p.some (omega (arith, long, parts, tokens, are, many))

  pub is_sound : IsSoundWork x.slots (plain (work b x can user k p))
  is_sound = record {
    before = sound_both x.slots (staging_of k.drafts.items) (settling_of (new_parts k.drafts.items)) (drafts_sound x.slots k.drafts.items p.by.plan.drafts.asked) (syncs_sound x.slots (new_parts k.drafts.items));
    after = tt;
  }

  pub are_left_out : AreLeftOut w (work b x can user k p)
  are_left_out q has = absurd (none_in q has)

  -- ---- where the world is told

  module _ (told : IsTrue b.told) (lens : b.slots ≡ length b.world.slots) (few : b.slots ≤ 256)
      (free : (m : Made) → Contains (made b x can user k p) m → IsUnnamedProtector b.world x.settings.settled.rec (its b x can user k p m) m.slot) where
    pub slot : (m : Made) → Contains all_made m → FitsSlots m.slot w
    slot m within = fits_slots b.slots w m.slot lens few (subst (λ (n : ℕ). FitsBoard n m.slot) can.slots (fits b x can user k p m within))

    abbrev pub mid : World
    mid = after_all w (writing_all all)

    abbrev pub end : World
    end = record mid { touched = [] }

    pub staged_is : staged w (plain (work b x can user k p)) ≡ end
    staged_is = ap (after_all w) before_is ∙ (after_all-append w (writing_all all) (settling_of (parts_new b x can user k p)) ∙ synced mid (parts_new b x can user k p) parts_some)

    each_free : (z : Written) → Contains all z → IsUnnamedProtector w x.settings.settled.rec z.of z.slot
    each_free z has =
        let m = of_map wrote all_made z has in
        subst (λ (y : Written). IsUnnamedProtector w x.settings.settled.rec y.of y.slot) m.2 (free m.0 m.1)

    pub before_touch : AllTouchOnly (unnamed w x.settings.settled.rec) (writing_all all ++ settling_of (parts_new b x can user k p))
    before_touch = touch_both (unnamed w x.settings.settled.rec) (writing_all all) (settling_of (parts_new b x can user k p)) (all_unnamed w x.settings.settled.rec all p.rules each_free)
        (syncs_touch (unnamed w x.settings.settled.rec) (parts_new b x can user k p))

    pub is_quiet : IsQuietWork w x.settings (plain (work b x can user k p))
    is_quiet = record {
      ready = can.ready told;
      before = subst (AllTouchOnly (unnamed w x.settings.settled.rec)) (sym before_is) before_touch;
      applies = apply_both w (staging_of k.drafts.items) (settling_of (new_parts k.drafts.items)) (drafts_apply x.slots k.drafts.items p.by.plan.drafts.asked w)
          (syncs_apply (after_all w (staging_of k.drafts.items)) (new_parts k.drafts.items));
      after = tt;
      follows = tt;
    }

    pub are_new : AreNew w x.settings (work b x can user k p)
    are_new z has =
        let m = of_map (its_parts b x can user k p) all_made z (subst (λ (l : List Parts). Contains l z) (parts_is b x can user k p) has) in
        subst (IsClear w x.settings.settled.rec) m.2 (unnamed_clear w x.settings.settled.rec (its b x can user k p m.0) m.0.slot p.rules (free m.0 m.1))

    pub same : SameNamed x.settings.settled.rec w end
    same = subst (SameNamed x.settings.settled.rec w) staged_is
        (plan_kept x.settings.settled.rec w (plain (work b x can user k p)).before (all_quiet w x.settings.settled.rec (plain (work b x can user k p)).before is_quiet.before)).named

    -- ---- each is as it was written

    fits_then : (o : Option ℕ) (v : World) → length v.slots ≡ length w.slots → FitsSlots o w → FitsSlots o v
    fits_then o v count here = subst (λ (n : ℕ). MatchOption o (n ≡ 0) (λ s. (s < n) × (s < 2 ^ 32))) (sym count) here

    small : (m : Made) → Contains all_made m → (n : ℕ) → m.slot ≡ Some n → n < 2 ^ 32
    small m within n is = (subst (λ (o : Option ℕ). FitsSlots o w) is (slot m within)).1

    its_number : (v : World) (m : Made) → Contains all_made m → held v (its b x can user k p m) ≡ held_of token m.slot (writing m) w.gk_key → held_number v (its b x can user k p m) ≡ m.slot
    its_number v m within is = ap (λ (h : Held). option_and_then slot_number (h.files Weaver)) is ∙ token_numbered m.slot (small m within)

    spares_first : (f : Made) → Contains all_made f → (v : World) → held_number v (its b x can user k p f) ≡ f.slot → (l : List Made) → ((m : Made) → Contains l m → Contains all_made m)
        → ((m : Made) → Contains l m → f.token.id ≢ m.token.id) → ((m : Made) → Contains l m → HasOtherSlot f m) → (z : Written) → Contains (map wrote l) z → Spares (reach_of z.of z.slot) v (its b x can user k p f)
    spares_first f here v number l within ids slots z has =
        let m = of_map wrote l z has in
        subst (λ (y : Written). Spares (reach_of y.of y.slot) v (its b x can user k p f)) m.2
        (spare (its b x can user k p m.0) (its b x can user k p f) m.0.slot v (its_numbers b x can user k p m.0 (within m.0 m.1)) (its_numbers b x can user k p f here)
        (λ e. ids m.0 m.1 (sym e)) (λ n is. slots m.0 m.1 n (sym number ∙ is)))

    held_each : (l : List Made) → ((m : Made) → Contains l m → Contains all_made m) → Pairs (λ (m : Made) (o : Made). m.token.id ≢ o.token.id) l → Pairs HasOtherSlot l
        → (v : World) → length v.slots ≡ length w.slots → v.gk_key ≡ w.gk_key → (m : Made) → Contains l m
        → held (after_all v (writing_all (map wrote l))) (its b x can user k p m) ≡ held_of token m.slot (writing m) w.gk_key
    held_each [] within ids slots v count device m has = absurd (none_in m has)
    held_each (f ∷ l) within ids slots v count device m has =
        ap (λ (u : World). held u (its b x can user k p m)) (after_all-append v (writing_actions (its b x can user k p f) f.slot (writing f)) (writing_all (map wrote l)))
        ∙ ⊎_elim first (held_each l (λ o h. within o (behind_first f l o h)) ids.1 slots.1 next_world (kept.count ∙ count) (ap (λ (u : World). u.gk_key) kept.rest ∙ device) m) (first_or_behind f l m has)
      where
        next_world : World
        next_world = after_all v (writing_actions (its b x can user k p f) f.slot (writing f))

        kept : SameBut (reach_of (its b x can user k p f) f.slot) v next_world
        kept = plan_same (reach_of (its b x can user k p f) f.slot) v (writing_actions (its b x can user k p f) f.slot (writing f)) (touches (its b x can user k p f) (writing f) f.slot)

        here : Contains all_made f
        here = within f (at_first f l)

        written_now : held next_world (its b x can user k p f) ≡ held_of token f.slot (writing f) w.gk_key
        written_now =
            is_held (its b x can user k p f) (writing f) v f.slot (fits_then f.slot v count (slot f here)) refl
            ∙ ap (held_of token f.slot (writing f)) device

        first : f ≡ m → held (after_all next_world (writing_all (map wrote l))) (its b x can user k p m) ≡ held_of token m.slot (writing m) w.gk_key
        first e = subst (λ (o : Made). held (after_all next_world (writing_all (map wrote l))) (its b x can user k p o) ≡ held_of token o.slot (writing o) w.gk_key) e
            (all_held next_world (its b x can user k p f) (map wrote l)
            (spares_first f here next_world (its_number next_world f here written_now) l (λ o h. within o (behind_first f l o h))
            (λ o h. each_in (λ (o : Made). f.token.id ≢ o.token.id) l o ids.0 h) (λ o h. each_in (HasOtherSlot f) l o slots.0 h))
            ∙ written_now)

    pub held_new : (m : Made) → Contains all_made m → held end (its b x can user k p m) ≡ held_of token m.slot (writing m) w.gk_key
    held_new m within = held_each all_made (λ o h. h) (ids_once b x can user k p) (slots_once b x can user k p) w refl refl m within

    pub number_end : (m : Made) → Contains all_made m → held_number end (its b x can user k p m) ≡ m.slot
    number_end m within = its_number end m within (held_new m within)

    -- ---- behind the commit

    module _ (commits : AllTouchOnly settings_reach k.commit.actions) where
      abbrev pub fin : World
      fin = after_all end k.commit.actions

      pub fin_is : after_all w (actions_of (plain (work b x can user k p))) ≡ fin
      fin_is =
          after_all-append w (plain (work b x can user k p)).before (k.commit.actions ++ [])
          ∙ (ap (λ (v : World). after_all v (k.commit.actions ++ [])) staged_is
          ∙ ap (λ (l : List Action). after_all end l) (append-nil k.commit.actions))

      pub settings : SameBut settings_reach end fin
      settings = plan_same settings_reach end k.commit.actions commits

      pub same_fin : SameNamed (next b x can user k p) end fin
      same_fin = named_but_settings end fin (next b x can user k p) settings

      pub fin_weaver : has_weaver fin ≡ has_weaver w
      fin_weaver = weaver_same (next b x can user k p) end fin same_fin ∙ weaver_same x.settings.settled.rec w end same

      -- a protector that the record names has its slot
      pub number_old : (q : Protector) → NamesProtector x.settings.settled.rec q → held_number fin q ≡ held_number w q
      number_old q named = number_stays (next b x can user k p) end fin same_fin q (old_named b x can user k p q named) ∙ number_stays x.settings.settled.rec w end same q named

      pub number_new : (m : Made) → Contains all_made m → held_number fin (its b x can user k p m) ≡ m.slot
      number_new m within = number_stays (next b x can user k p) end fin same_fin (its b x can user k p m) (new_named b x can user k p m within) ∙ number_end m within
