-- Where a change leads that lets protectors go.
use Rattle.std.proofs.Common.{◌≡◌, ◌⊎◌, inl, inr, ⊎_elim, ℕ, Bool, true, false, List, [], ◌++◌, length, IsTrue, Option, None, Some, refl, sym, ap, subst, ◌∙◌}
use Rattle.std.specs.Prelude.{◌+◌, is_some, nat_lt, filter}
use Rattle.std.specs.List.{Contains, flat_map}
use Rattle.std.proofs.lemmas.List.Concat.{flat_map-append}
use Rattle.std.proofs.lemmas.List.Elements.{Contains-append_left, Contains-append_right}
use Rattle.ls_arming.specs.declared.arming.Arming.{Arming}
use Rattle.ls_board.specs.declared.action.Action.{Action}
use Rattle.ls_board.specs.declared.action.Action.TheVariants.{GkForget, KeyDrop, ResumeTake}
use Rattle.ls_board.specs.declared.world.World.{World}
use Rattle.ls_board.specs.Acts.{Sight}
use Rattle.ls_board.specs.Reach.{AllTouchOnly}
use Rattle.ls_board.specs.Runs.{after_all}
use Rattle.ls_board.proofs.FrameLemmas.{same_refl}
use Rattle.ls_change.specs.Work.{actions_of}
use Rattle.ls_edits.proofs.FilterLemmas.{filtered_in, in_filter}
use Rattle.ls_exchange.specs.Exchanges.{plain, retiring_of}
use Rattle.ls_formats.specs.declared.part.FilePart.{FilePart}
use Rattle.ls_formats.specs.declared.parts.Parts.{Parts}
use Rattle.ls_protector.specs.Parts.{parts_of}
use Rattle.ls_record.specs.Rows.{Rec, IsRecord}
use Rattle.ls_sealing.specs.Protectors.{Protector, has_weaver, held_number, is_enrolled, parts_for, file_name}
use Rattle.ls_settings.specs.Commits.{Prepared, IsCommit}
use Rattle.ls_settings.specs.Loaded.{Loaded, settings_reach}
use Rattle.ls_standing.specs.Bare.{IsBare, named_by}
use Rattle.ls_standing.specs.Books.{dead_users}
use Rattle.ls_standing.specs.Clearing.{LetsGo, blank_write}
use Rattle.ls_standing.specs.NamedProtectors.{NamesProtector, row_protectors}
use Rattle.ls_standing.proofs.BareLemmas.{changed}
use Rattle.ls_standing.proofs.ContainsLemmas.{in_flat, in_map}
use Rattle.ls_standing.proofs.FrameLemmas.{weaver_same}
use Rattle.ls_standing.proofs.LettingLemmas.{lets_retire}
use Rattle.ls_standing.proofs.SameLemmas.{named_but_settings}
use Rattle.ls_script.specs.declared.reply.Reply.TheVariants.{Fine}
use Rattle.ls_vault.specs.declared.state.State.{State}
use Rattle.ls_vault.specs.States.{committed}
use Rattle.ls_vault.specs.declared.vault.Books.{Books}
use Rattle.ls_turn.specs.declared.session.Session.{Session}
use Rattle.ls_turn.specs.Agreeing.{Agrees, AreNamed, files_of, parts_in, retired_files}
use Rattle.ls_turn.specs.Serving.{CanServe, Turned}
use Rattle.ls_turn.specs.Working.{LeadsTo}
use Rattle.ls_committing.specs.Committing.{IsReadied}
use Rattle.ls_removals.specs.declared.going.Going.{Going}
use Rattle.ls_removals.specs.Going.{goes}
use Rattle.ls_removals.specs.Letting.{LeavesOut, LeavesTo}
use Rattle.ls_removals.proofs.ErasingLemmas.{slot_blanked, key_dropped, counter_forgotten}
use Rattle.ls_removals.proofs.LettingLemmas.{fits_weaver, number_stays, gone, rest, work, plan, retired, rest_in, in_rest, in_gone, kept_goes, plan_away, mid, fin, fin_is, settings, touch_mid, same_fin, fin_weaver, number_fin, retired_unnamed}

module _ (b : Sight) (x : Session) (can : CanServe b x) (is : IsRecord x.settings.settled.rec) (g : Going) (commit : Prepared) (after : List Action)
    (l : LeavesOut x.settings.settled.rec commit.to.settled.rec (goes g) after)
    (told : IsTrue b.told) (commits : AllTouchOnly settings_reach commit.actions) where
  abbrev r : Rec
  r = x.settings.settled.rec

  abbrev next : Rec
  next = commit.to.settled.rec

  abbrev w : World
  w = b.world

  abbrev named_still : List Parts
  named_still = rest b x can is g commit after l

  abbrev parts_gone : List Parts
  parts_gone = gone b x can is g commit after l

  abbrev away : List Action
  away = plan b x can is g commit after l

  abbrev files_then : List Parts
  files_then = retired b x can is g commit after l

  abbrev middle : World
  middle = mid b x can is g commit after l told commits

  abbrev end : World
  end = fin b x can is g commit after l told commits

  -- ---- the protectors

  weaver_end : has_weaver end ≡ has_weaver w
  weaver_end = fin_weaver b x can is g commit after l told commits

  number_end : (p : Protector) → NamesProtector next p → held_number end p ≡ held_number w p
  number_end = number_fin b x can is g commit after l told commits

  parts_same : (p : Protector) → NamesProtector next p → parts_in end p ≡ parts_in w p
  parts_same p has = λ i. parts_of (weaver_end i) p (number_end p has i)

  module _ (s : State) (a : Agrees w x s) where
    pub still_named : AreNamed end next named_still
    still_named = record {
      each = λ p has. subst (Contains named_still) (sym (parts_same p has))
          (in_rest b x can is g commit after l (parts_in w p) (a.named.each p (l.back p has).0) (l.back p has).1);
      only = λ q has.
          let inside = rest_in b x can is g commit after l q has in
          let found = a.named.only q inside.0 in
          let stays = l.stay found.0 found.1 (ap (λ (z : Parts). goes g z.user z.id) (sym found.2) ∙ inside.1) in
          (found.0, stays, found.2 ∙ sym (parts_same found.0 stays));
    }

  -- ---- nothing else is kept

  -- the protectors that go
  abbrev goers : List Protector
  goers = filter (λ (p : Protector). goes g p.user p.id) (flat_map row_protectors r.users)

  goer : (p : Protector) → Contains goers p → NamesProtector r p × (goes g p.user p.id ≡ true)
  goer p has = filtered_in (λ (p : Protector). goes g p.user p.id) (flat_map row_protectors r.users) p has

  abbrev Kept : Protector → Type 0
  Kept p = (q : Parts) × Contains parts_gone q × (slot : Option ℕ) × (is_some slot ≡ has_weaver w) × (q ≡ parts_of (is_some slot) p slot)

  module _ (lens : b.slots ≡ length w.slots) where
    kept : (p : Protector) → Contains goers p → Kept p
    kept p has =
        let one = goer p has in
        let its = can.each p one.0 in (
          its.0,
          in_gone b x can is g commit after l its.0 its.1 (kept_goes b x can is g commit after l x.slots p its.0 its.2 ∙ one.1),
          its.2.0,
          fits_weaver x.slots its.2.0 its.2.1 ∙ ap (nat_lt 0) (can.slots ∙ lens),
          its.2.2,
        )

    in_away : (a : Action) → Contains (retiring_of parts_gone) a → Contains away a
    in_away a has = Contains-append_left (retiring_of parts_gone) after a has

    behind : (a : Action) → Contains after a → Contains away a
    behind a has = Contains-append_right (retiring_of parts_gone) after a has

    each_goes : (p : Protector) → NamesProtector r p → (d : Bool) → goes g p.user p.id ≡ d → (NamesProtector next p × (held_number middle p ≡ held_number w p)) ⊎ Contains goers p
    each_goes p has true flag = inr (in_filter (λ (p : Protector). goes g p.user p.id) (flat_map row_protectors r.users) p has flag)
    each_goes p has false flag = inl (l.stay p has flag, number_stays next w middle (named_but_settings w middle next (settings b x can is g commit after l told commits)) p (l.stay p has flag))

    slot_goes : (p : Protector) → Contains goers p → (n : ℕ) → held_number w p ≡ Some n → Contains away (blank_write n)
    slot_goes p has n number =
        let one = goer p has in
        let q = parts_of (is_some (Some n)) p (Some n) in
        in_away (blank_write n) (slot_blanked q parts_gone (in_gone b x can is g commit after l q (can.numbers told p one.0 n number) one.1) n refl)

    key_goes : (p : Protector) → Contains goers p → Contains away (KeyDrop p.id)
    key_goes p has = let k = kept p has in
        in_away (KeyDrop p.id) (subst (λ (z : Parts). Contains (retiring_of parts_gone) (KeyDrop z.id)) k.4 (key_dropped k.0 parts_gone k.1))

    counter_goes : (p : Protector) → Contains goers p → is_enrolled (has_weaver w) p.purpose ≡ true → Contains away (GkForget p.id)
    counter_goes p has enrolled = let k = kept p has in
        in_away (GkForget p.id) (subst (λ (z : Parts). Contains (retiring_of parts_gone) (GkForget z.id)) k.4
        (counter_forgotten k.0 parts_gone k.1 (ap (λ (z : Parts). z.gk) k.4 ∙ (ap (λ (c : Bool). is_enrolled c p.purpose) k.3 ∙ enrolled))))

    files_are : files_of files_then ≡ retired_files x ++ files_of parts_gone
    files_are = flat_map-append (λ (p : Parts). p.names) x.retired.items parts_gone

    file_stays : (p : Protector) → Contains goers p → (part : FilePart) → Contains (parts_for (has_weaver w) p.purpose) part → Contains (files_of files_then) (file_name p part)
    file_stays p has part within = let k = kept p has in
        in_flat (λ (q : Parts). q.names) files_then k.0 (file_name p part) (Contains-append_right x.retired.items parts_gone k.0 k.1)
        (subst (λ (z : Parts). Contains z.names (file_name p part)) (sym k.4)
        (in_map (file_name p) (parts_for (is_some k.2) p.purpose) part (subst (λ (c : Bool). Contains (parts_for c p.purpose) part) (sym k.3) within)))

    middle_weaver : has_weaver middle ≡ has_weaver w
    middle_weaver = weaver_same next w middle (named_but_settings w middle next (settings b x can is g commit after l told commits))

    lets_go : LetsGo w r (retired_files x) middle next (files_of files_then) goers away
    lets_go = record {
      away = plan_away b x can is g commit after l;
      each = λ p has. each_goes p has (goes g p.user p.id) refl;
      slots = slot_goes;
      keys = key_goes;
      counters = counter_goes;
      secure = λ row has some. ⊎_elim inl (λ k. inr (behind (GkForget row.secure) k)) (l.secure (has_weaver middle) row has some);
      armed = λ was. ⊎_elim inl (λ k. inr (behind ResumeTake k.0, behind (KeyDrop 0) k.1)) (l.armed was);
      files = λ p has part within. inl (file_stays p has part within);
      own = λ row has part within. ⊎_elim inl (λ k. inr (inr (behind _ k))) (l.parts (has_weaver middle) row has part within);
      retired = λ f has. inl (subst (λ (names : List (List ℕ)). Contains names f) (sym files_are) (Contains-append_left (retired_files x) (files_of parts_gone) f has));
    }

    pub bare_end : (start : World) → IsBare start w r (retired_files x) → IsBare start end next (files_of files_then)
    bare_end start bare =
        changed start w w middle r next (retired_files x) (files_of files_then) away l.rules bare (same_refl (named_by w next []) w)
        (settings b x can is g commit after l told commits) (touch_mid b x can is g commit after l told commits)
        (lets_retire w middle r next (retired_files x) (files_of files_then) goers away middle_weaver lets_go)

    -- ---- the books

    dead_end : dead_users next.armed end.cell ≡ dead_users next.armed w.cell
    dead_end = by next.armed refl
      where
        by : (armed : Option Arming) → next.armed ≡ armed → dead_users armed end.cell ≡ dead_users armed w.cell
        by None none = refl
        by (Some z) some = ap (dead_users (Some z)) ((same_fin b x can is g commit after l told commits).cell z some)

    -- ---- where it leads

    module _ (y : Session) (ready : IsReadied x y) (prepared : IsCommit x.settings commit.to commit.actions) (s : State) (a : Agrees w x s) (t : Turned) (leads : LeavesTo w y next s t) where
      abbrev seen : World
      seen = after_all w (actions_of (plain (work b x can is g commit after l)))

      seen_is : seen ≡ end
      seen_is = fin_is b x can is g commit after l told commits

      abbrev target : Turned
      target = record { reply = Fine; stage = record { state = committed leads.left; moments = w.moments; noise = w.noise } }

      kept_now : leads.left.books.kept + 1 ≡ commit.to.settled.sequence
      kept_now = ap (λ (n : ℕ). n + 1) (leads.kept ∙ ap (λ (z : Books). z.kept) a.books_are) ∙ sym prepared.below

      dead_now : leads.left.books.dead ≡ dead_users next.armed seen.cell
      dead_now = leads.dead ∙ (sym dead_end ∙ ap (λ (v : World). dead_users next.armed v.cell) (sym seen_is))

      leads_there : LeadsTo w y named_still files_then (plain (work b x can is g commit after l)) s target
      leads_there = record {
        reply = refl;
        keeps = l.rules;
        readies = record {
          holds = leads.holds;
          untouched = λ name has. a.stands.named name (l.files (has_weaver w) name has);
        };
        session = leads.session;
        books_are = λ i. record { kept = kept_now i; dead = dead_now i };
        moments = refl;
        noise = refl;
        opened = leads.opened;
        metrics = leads.metrics;
        captured = leads.captured;
        are_named = subst (λ (v : World). AreNamed v next named_still) (sym seen_is) (still_named s a);
        are_retired = retired_unnamed b x can is g commit after l told commits;
        prepared = λ flag not_last. leads.prepared flag;
        bare = λ start bare. subst (λ (v : World). IsBare start v next (files_of files_then)) (sym seen_is)
            (bare_end start
            (subst (λ (z : Loaded). IsBare start w z.settled.rec (retired_files x)) ready.settings
            (subst (λ (z : List Parts). IsBare start w y.settings.settled.rec (files_of z)) ready.retired bare)));
      }

      pub leads_on : LeadsTo w y named_still files_then (plain (work b x can is g commit after l)) s t
      leads_on = subst (λ (u : Turned). LeadsTo w y named_still files_then (plain (work b x can is g commit after l)) s u) (sym leads.turn) leads_there
