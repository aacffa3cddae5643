-- What a change that lets protectors go asks of the session that commits it.
use Rattle.std.proofs.Common.{◌≡◌, ◌≢◌, ◌⊎◌, inl, inr, ⊎_elim, ◌<◌, not, ℕ, Bool, true, false, List, ◌++◌, IsTrue, Option, None, Some, refl, sym, ap, subst, ◌∙◌, arith}
use Rattle.std.specs.Prelude.{is_some, nat_lt, IfSome}
use Rattle.std.specs.List.{Contains}
use Rattle.std.specs.Option.{option_and_then}
use Rattle.std.proofs.lemmas.Bool.{lt-ltb, not-true}
use Rattle.std.proofs.lemmas.List.Elements.{Contains-append_cases}
use Rattle.ls_board.specs.declared.action.Action.{Action}
use Rattle.ls_board.specs.declared.world.World.{World}
use Rattle.ls_board.specs.Acts.{Sight}
use Rattle.ls_board.specs.Effect.{file_at}
use Rattle.ls_board.specs.Reach.{Reach, SameBut, AllTouchOnly}
use Rattle.ls_board.specs.Runs.{after_all, AllSound}
use Rattle.ls_board.proofs.FrameLemmas.{plan_same}
use Rattle.ls_board.proofs.RunLemmas.{after_all-append}
use Rattle.ls_change.specs.Work.{IsQuietWork, actions_of}
use Rattle.ls_dropping.proofs.DroppingLemmas.{touch_both, away_both, away_apply}
use Rattle.ls_edits.proofs.FilterLemmas.{filtered_in, in_filter}
use Rattle.ls_exchange.specs.Exchanges.{Exchanged, plain, retiring_of, AreLeftOut}
use Rattle.ls_formats.specs.declared.part.FilePart.{FilePart}
use Rattle.ls_formats.specs.declared.part.FilePart.TheVariants.{Weaver}
use Rattle.ls_formats.specs.declared.parts.Parts.{Parts}
use Rattle.ls_formats.specs.PartNames.{PartOf, IsPartOf, part_name_text}
use Rattle.ls_naming.specs.Named.{NamesFile, row_files}
use Rattle.ls_naming.proofs.NamingLemmas.{record_named}
use Rattle.ls_protector.specs.Clear.{AreUnnamed, IsClear}
use Rattle.ls_protector.specs.Parts.{erasing_of, parts_of}
use Rattle.ls_record.specs.Rows.{Rec, IsRecord}
use Rattle.ls_record.proofs.FilterLemmas.{pairs_filter}
use Rattle.ls_retiring.proofs.SoundLemmas.{sound_both}
use Rattle.ls_sealing.specs.Protectors.{Protector, parts_for, has_weaver, has_part, held_number, slot_number, where_it_has, file_name}
use Rattle.ls_sealing.proofs.ActionLemmas.{erasing_sound}
use Rattle.ls_settings.specs.Commits.{Prepared}
use Rattle.ls_settings.specs.Loaded.{settings_reach}
use Rattle.ls_standing.specs.Bare.{IsStrange}
use Rattle.ls_standing.specs.Clearing.{AllTakeAway}
use Rattle.ls_standing.specs.NamedProtectors.{NamesProtector, row_protectors}
use Rattle.ls_standing.specs.Quiet.{IsUnnamed, unnamed}
use Rattle.ls_standing.specs.Same.{SameNamed}
use Rattle.ls_standing.proofs.BareLemmas.{cleared, strange_kept}
use Rattle.ls_standing.proofs.ContainsLemmas.{of_map, in_map, in_flat, of_flat}
use Rattle.ls_standing.proofs.FrameLemmas.{weaver_same, where_same}
use Rattle.ls_standing.proofs.NamedLemmas.{name_of, part_found}
use Rattle.ls_standing.proofs.ProtectorLemmas.{any_part, in_row, numbers}
use Rattle.ls_standing.proofs.QuietLemmas.{plan_kept}
use Rattle.ls_standing.proofs.SameLemmas.{named_but_settings, named_trans}
use Rattle.ls_standing.proofs.TouchLemmas.{erasing_touch, later_touch, all_quiet}
use Rattle.ls_turn.specs.declared.session.Session.{Session}
use Rattle.ls_turn.specs.Agreeing.{ArePartNames, files_of, retired_files}
use Rattle.ls_turn.specs.Serving.{CanServe, FitsBoard, IsKeptAs}
use Rattle.ls_turn.specs.Working.{IsSoundWork, KeepsNamed, LeavesKept}
use Rattle.ls_removals.specs.declared.going.Going.{Going}
use Rattle.ls_removals.specs.Going.{goes, leaving, staying}
use Rattle.ls_removals.specs.Letting.{letting, LeavesOut}
use Rattle.ls_removals.proofs.ErasingLemmas.{each_erased, erasing_away}
use Rattle.ls_removals.proofs.GoneLemmas.{IsGone, gone_of, unnamed_gone, gone_clear}

-- ---- a protector and its slot

within : (slots : ℕ) (o : Option ℕ) → FitsBoard slots o → IfSome o (λ k. k < slots)
within slots None fits = tt
within slots (Some k) fits = fits

-- a protector has a slot exactly where the board has slots
pub fits_weaver : (slots : ℕ) (o : Option ℕ) → FitsBoard slots o → is_some o ≡ nat_lt 0 slots
fits_weaver slots None fits = ap (nat_lt 0) (sym fits)
fits_weaver slots (Some k) fits = sym (lt-ltb 0 slots (omega (arith, fits)))

-- ---- what takes away leaves files outside the grammar

abbrev everything : Reach
everything = record {
  files = λ f. Unit {0};
  slots = λ k. Unit {0};
  sids = λ sid. Unit {0};
  aliases = λ alias. Unit {0};
  cell = Unit {0};
}

away_strange : (w : World) (plan : List Action) → AllTakeAway plan → (f : List ℕ) → IsStrange f → file_at (after_all w plan) f ≡ file_at w f
away_strange w plan away = (cleared w w plan everything (λ f strange. refl) (record {
  away = away;
  files = λ name part none. absurd (none tt);
  slots = λ slot small none. absurd (none tt);
  counters = λ sid none. absurd (none tt);
  keys = λ alias none. absurd (none tt);
  cell = λ none. absurd (none tt);
})).strange

-- ---- what a named protector has

protector_file : (b : Bool) (r : Rec) (p : Protector) → NamesProtector r p → (part : FilePart) → has_part b p.purpose part ≡ true → NamesFile b r (name_of p.user p.id part)
protector_file b r p has part within =
    let row = of_flat row_protectors r.users p has in
    in_flat (row_files b r.armed) r.users row.0 (name_of p.user p.id part) row.1
    (in_row b r.armed row.0 p (name_of p.user p.id part) row.2 (in_map (λ (q : FilePart). name_of p.user p.id q) (parts_for b p.purpose) part (part_found part (parts_for b p.purpose) within)))

-- a protector that is named has the slot that it had
pub number_stays : (r : Rec) (w end : World) → SameNamed r w end → (z : Protector) → NamesProtector r z → held_number end z ≡ held_number w z
number_stays r w end same z named =
    ap (λ (b : Bool). option_and_then slot_number (where_it_has (has_part b z.purpose Weaver) (file_at end (file_name z Weaver)))) (weaver_same r w end same)
    ∙ ap (λ (o : Option (List ℕ)). option_and_then slot_number o)
    (where_same (has_part (has_weaver w) z.purpose Weaver) (file_at end (file_name z Weaver)) (file_at w (file_name z Weaver))
    (λ has. same.file (name_of z.user z.id Weaver) (protector_file (has_weaver w) r z named Weaver has)))

module _ (b : Sight) (x : Session) (can : CanServe b x) (is : IsRecord x.settings.settled.rec) (g : Going) (commit : Prepared) (after : List Action)
    (l : LeavesOut x.settings.settled.rec commit.to.settled.rec (goes g) after) where
  abbrev r : Rec
  r = x.settings.settled.rec

  abbrev next : Rec
  next = commit.to.settled.rec

  abbrev w : World
  w = b.world

  abbrev pub gone : List Parts
  gone = leaving g x.named.items

  abbrev pub rest : List Parts
  rest = staying g x.named.items

  abbrev pub work : Exchanged
  work = letting commit gone after

  -- what is done behind the commit
  abbrev pub plan : List Action
  plan = retiring_of gone ++ after

  abbrev pub retired : List Parts
  retired = x.retired.items ++ gone

  -- ---- those that go, and those that stay

  pub its : (q : Parts) → Contains gone q → IsGone x.slots r g q
  its q has = gone_of b x can g q has

  pub rest_in : (q : Parts) → Contains rest q → Contains x.named.items q × (goes g q.user q.id ≡ false)
  rest_in q has = let f = filtered_in (λ (p : Parts). not (goes g p.user p.id)) x.named.items q has in (f.0, not-true (goes g q.user q.id) f.1)

  pub in_rest : (q : Parts) → Contains x.named.items q → goes g q.user q.id ≡ false → Contains rest q
  in_rest q has stays = in_filter (λ (p : Parts). not (goes g p.user p.id)) x.named.items q has (ap not stays)

  pub in_gone : (q : Parts) → Contains x.named.items q → goes g q.user q.id ≡ true → Contains gone q
  in_gone q has away = in_filter (λ (p : Parts). goes g p.user p.id) x.named.items q has away

  -- ---- on every board

  plan_sound : AllSound x.slots plan
  plan_sound = sound_both x.slots (retiring_of gone) after
      (each_erased (AllSound x.slots) tt (sound_both x.slots) gone
      (λ q has. let d = its q has in subst (λ (z : Parts). AllSound x.slots (erasing_of z)) (sym d.is) (erasing_sound d.p x.slots d.slot (within x.slots d.slot d.fits))))
      (l.sound x.slots)

  pub plan_away : AllTakeAway plan
  plan_away = away_both (retiring_of gone) after (each_erased AllTakeAway tt away_both gone (λ q has. erasing_away q)) l.away

  pub sound : IsSoundWork x.slots (plain work)
  sound = record { before = tt; after = plan_sound }

  -- a file of what was retired is one of those before, or of a protector that goes
  pub retired_cases : (f : List ℕ) → Contains (files_of retired) f → Contains (retired_files x) f ⊎ ((q : Parts) × Contains gone q × Contains q.names f)
  retired_cases f has = by (of_flat (λ (p : Parts). p.names) retired f has)
    where
      by : (p : Parts) × Contains retired p × Contains p.names f → Contains (retired_files x) f ⊎ ((q : Parts) × Contains gone q × Contains q.names f)
      by (p, inside, own) = ⊎_elim
          (λ (k : Contains x.retired.items p). inl (in_flat (λ (p : Parts). p.names) x.retired.items p f k own))
          (λ (k : Contains gone p). inr (p, k, own)) (Contains-append_cases x.retired.items gone p inside)

  gone_name : (q : Parts) → Contains gone q → (f : List ℕ) → Contains q.names f → (name : PartOf) × IsPartOf name × (name.id ≢ 0) × (f ≡ part_name_text name)
  gone_name q has f own =
      let d = its q has in
      let part = of_map (file_name d.p) (parts_for (is_some d.slot) d.p.purpose) f (subst (λ (z : Parts). Contains z.names f) d.is own) in
      let name = name_of d.p.user d.p.id part.0 in
      let some = (numbers r is d.p d.named).some in (
        name,
        record_named (is_some d.slot) r is name (protector_file (is_some d.slot) r d.p d.named part.0 (any_part (parts_for (is_some d.slot) d.p.purpose) part.0 part.1)),
        λ e. omega (arith, some, e),
        sym part.2,
      )

  pub files : ArePartNames (files_of retired)
  files f has = ⊎_elim (can.names f) (λ (h : (q : Parts) × Contains gone q × Contains q.names f). gone_name h.0 h.1 f h.2) (retired_cases f has)

  -- the parts that are kept of a protector go where it goes
  pub kept_goes : (slots : ℕ) (p : Protector) (q : Parts) → IsKeptAs slots p q → goes g q.user q.id ≡ goes g p.user p.id
  kept_goes slots p q kept = ap (λ (z : Parts). goes g z.user z.id) kept.2

  pub named : KeepsNamed x.slots (plain work) rest
  named = record {
    each = λ p has.
        let back = l.back p has in
        let kept = can.each p back.0 in
        (kept.0, in_rest kept.0 kept.1 (kept_goes x.slots p kept.0 kept.2 ∙ back.1), kept.2);
    only = λ q has.
        let inside = rest_in q has in
        let found = can.only q inside.0 in
        (found.0, l.stay found.0 found.1 (sym (kept_goes x.slots found.0 q found.2) ∙ inside.1), found.2);
    once = pairs_filter (λ (p q : Parts). p.id ≢ q.id) (λ (p : Parts). not (goes g p.user p.id)) x.named.items can.once;
  }

  -- ---- where the world is told

  module _ (told : IsTrue b.told) where
    pub clear : (q : Parts) → Contains gone q → IsClear w next q
    clear q has = gone_clear b x can g q has is next after l told

    touch : AllTouchOnly (unnamed w next) plan
    unfolding its
    touch = touch_both (unnamed w next) (retiring_of gone) after
        (each_erased (AllTouchOnly (unnamed w next)) tt (touch_both (unnamed w next)) gone touch_one)
        (l.unnamed w)
      where
        touch_one : (q : Parts) → Contains gone q → AllTouchOnly (unnamed w next) (erasing_of q)
        touch_one q has = let d = its q has in
            subst (λ (z : Parts). AllTouchOnly (unnamed w next) (erasing_of z)) (sym d.is) (erasing_touch w next d.p d.slot l.rules (unnamed_gone b x can g q has is next after l told))

    pub quiet : IsQuietWork w x.settings (plain work)
    quiet = record {
      ready = can.ready told;
      before = tt;
      applies = tt;
      after = touch;
      follows = away_apply (after_all w commit.actions) plan plan_away;
    }

    pub left_out : AreLeftOut w work
    left_out q has = clear q has

    -- ---- behind it all

    module _ (commits : AllTouchOnly settings_reach commit.actions) where
      abbrev pub mid : World
      mid = after_all w commit.actions

      abbrev pub fin : World
      fin = after_all mid plan

      pub fin_is : after_all w (actions_of (plain work)) ≡ fin
      fin_is = after_all-append w commit.actions plan

      pub settings : SameBut settings_reach w mid
      settings = plan_same settings_reach w commit.actions commits

      same_mid : SameNamed next w mid
      same_mid = named_but_settings w mid next settings

      pub touch_mid : AllTouchOnly (unnamed mid next) plan
      touch_mid = later_touch w mid next plan same_mid touch

      pub same_fin : SameNamed next w fin
      same_fin = named_trans w mid fin next same_mid (plan_kept next mid plan (all_quiet mid next plan touch_mid)).named

      pub fin_weaver : has_weaver fin ≡ has_weaver w
      fin_weaver = weaver_same next w fin same_fin

      pub number_fin : (p : Protector) → NamesProtector next p → held_number fin p ≡ held_number w p
      number_fin p has = number_stays next w fin same_fin p has

      -- a file that the old record doesn't name, or nothing of which the next one names, is unnamed
      was_unnamed : (f : List ℕ) → IsUnnamed w r f → IsUnnamed fin next f
      was_unnamed f was = record {
        settings = was.settings;
        named = λ name h. was.named name (l.files (has_weaver w) name (subst (λ (c : Bool). NamesFile c next name) fin_weaver h));
      }

      now_unnamed : (f : List ℕ) → IsUnnamed w next f → IsUnnamed fin next f
      now_unnamed f was = record {
        settings = was.settings;
        named = λ name h. was.named name (subst (λ (c : Bool). NamesFile c next name) fin_weaver h);
      }

      retired_fin : AreUnnamed fin next (files_of retired)
      retired_fin f has = ⊎_elim
          (λ (k : Contains (retired_files x) f). was_unnamed f (can.retired told f k))
          (λ (k : (q : Parts) × Contains gone q × Contains q.names f). now_unnamed f ((clear k.0 k.1).files f k.2)) (retired_cases f has)

      pub retired_unnamed : AreUnnamed (after_all w (actions_of (plain work))) next (files_of retired)
      retired_unnamed = subst (λ (v : World). AreUnnamed v next (files_of retired)) (sym fin_is) retired_fin

      strange_fin : (f : List ℕ) → IsStrange f → file_at fin f ≡ file_at w f
      strange_fin f strange = away_strange mid plan plan_away f strange ∙ strange_kept w mid settings f strange

      numbers_fin : (p : Protector) → NamesProtector next p → (n : ℕ) → held_number fin p ≡ Some n → Contains rest (parts_of (is_some (Some n)) p (Some n))
      numbers_fin p has n number =
          let back = l.back p has in
          in_rest (parts_of (is_some (Some n)) p (Some n)) (can.numbers told p back.0 n (sym (number_fin p has) ∙ number)) back.1

      pub left : LeavesKept w (plain work) rest retired
      left = record {
        numbers = λ p has n number. numbers_fin p has n (ap (λ (v : World). held_number v p) (sym fin_is) ∙ number);
        apart = pairs_filter (λ (p q : Parts). (m : ℕ) → p.slot ≡ Some m → q.slot ≢ Some m) (λ (p : Parts). not (goes g p.user p.id)) x.named.items (can.apart told);
        are_retired = retired_unnamed;
        strange = λ f strange. ap (λ (v : World). file_at v f) fin_is ∙ strange_fin f strange;
      }
