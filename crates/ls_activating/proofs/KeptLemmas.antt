-- What the change leaves of what is named and retired.
use Rattle.std.proofs.Common.{◌≡◌, ◌≢◌, ◌⊎◌, inl, inr, ⊎_elim, ◌≤◌, ◌<◌, ℕ, Bool, true, false, List, [], ◌∷◌, ◌++◌, map, length, IsTrue, Option, None, Some, refl, sym, ◌∙◌, ap, subst, arith, append-nil}
use Rattle.std.specs.Prelude.{is_some}
use Rattle.std.specs.List.{Contains}
use Rattle.std.proofs.lemmas.Bool.{cases_eq}
use Rattle.std.proofs.lemmas.List.Elements.{Contains-append_left, Contains-append_right, Contains-append_cases}
use Rattle.ls_arming.specs.declared.arming.Arming.{Arming}
use Rattle.ls_board.specs.declared.action.Action.{Action}
use Rattle.ls_board.specs.declared.world.World.{World}
use Rattle.ls_board.specs.Acts.{Sight}
use Rattle.ls_board.specs.Effect.{file_at}
use Rattle.ls_board.specs.Reach.{AllTouchOnly, SameBut}
use Rattle.ls_board.specs.Runs.{after_all}
use Rattle.ls_board.proofs.FrameLemmas.{plan_same}
use Rattle.ls_change.specs.Work.{actions_of, next_of}
use Rattle.ls_edits.proofs.PutRowLemmas.{row_put, of_put, others_put}
use Rattle.ls_exchange.specs.Exchanges.{plain, settling_of}
use Rattle.ls_formats.specs.declared.name.FileName.TheVariants.{Protector as ProtectorName}
use Rattle.ls_formats.specs.declared.part.FilePart.{FilePart}
use Rattle.ls_formats.specs.declared.parts.Parts.{Parts}
use Rattle.ls_formats.specs.PartNames.{PartOf, IsPartOf, part_name_text}
use Rattle.ls_naming.specs.Named.{NamesEnrolled, NamesFile, NamesKey, credential_parts, has_secure, parts_of as name_parts, row_files, token_files, token_parts, user_parts}
use Rattle.ls_naming.proofs.NamingLemmas.{record_named}
use Rattle.ls_protector.specs.Clear.{AreUnnamed}
use Rattle.ls_protector.specs.Parts.{names_for, parts_of, reach_of_parts}
use Rattle.ls_protector.proofs.PartLemmas.{written_touch}
use Rattle.ls_record.specs.declared.row.UserRow.{UserRow}
use Rattle.ls_record.specs.Rows.{Rec}
use Rattle.ls_sealing.specs.Building.{writing_actions}
use Rattle.ls_sealing.specs.Protectors.{Protector, file_name, has_part, has_weaver, held_number, is_enrolled, parts_for, token}
use Rattle.ls_settings.specs.Loaded.{settings_reach}
use Rattle.ls_standing.specs.Bare.{IsBare, IsStrange, named_by}
use Rattle.ls_standing.specs.Clearing.{LetsGo}
use Rattle.ls_standing.specs.NamedProtectors.{NamesProtector, row_protectors}
use Rattle.ls_standing.specs.Quiet.{IsUnnamed, IsUnnamedProtector}
use Rattle.ls_standing.specs.Several.{writing_all}
use Rattle.ls_standing.proofs.BareLemmas.{changed, strange_kept}
use Rattle.ls_standing.proofs.ContainsLemmas.{at_first, behind_first, in_flat, in_map, none_in, of_flat, of_map}
use Rattle.ls_standing.proofs.FrameLemmas.{weaver_same}
use Rattle.ls_standing.proofs.LettingLemmas.{lets_retire}
use Rattle.ls_standing.proofs.NamedLemmas.{name_of, secure_enrolled, token_key}
use Rattle.ls_standing.proofs.PairLemmas.{pairs_append, pairs_map}
use Rattle.ls_standing.proofs.ProtectorLemmas.{any_part, named as slot_of}
use Rattle.ls_standing.proofs.TouchLemmas.{Inside, all_touch_more, same_name}
use Rattle.ls_turn.specs.declared.session.Session.{Session}
use Rattle.ls_turn.specs.Agreeing.{Agrees, AreNamed, files_of, parts_in, retired_files}
use Rattle.ls_turn.specs.Serving.{CanServe, KeepApart}
use Rattle.ls_turn.specs.Working.{LeavesKept}
use Rattle.ls_turn.proofs.RowLemmas.{one_row}
use Rattle.ls_vault.specs.declared.state.State.{State}
use Rattle.ls_changing.proofs.BareLemmas.{weaver_by}
use Rattle.ls_changing.proofs.LeavingLemmas.{protector_file}
use Rattle.ls_changing.proofs.StagedLemmas.{touch_both}
use Rattle.ls_activating.specs.declared.planned.Planned.{Planned}
use Rattle.ls_activating.specs.Counting.{token_ids}
use Rattle.ls_activating.specs.Planning.{IsPlannedFor, Made}
use Rattle.ls_activating.proofs.NextLemmas.{list, new_named, next, next_cases, next_is, next_rules, old_named, parts_new, row_next, work}
use Rattle.ls_activating.proofs.PlaceLemmas.{HasOtherSlot, its, its_id, its_parts, its_row, made, of_id, place, slots_once, tokens}
use Rattle.ls_activating.proofs.WorldLemmas.{all, before_is, end, fin, fin_is, fin_weaver, number_end, number_new, number_old, same, same_fin, settings, slot, staged_is, syncs_touch, wrote, writing}

-- ---- the files of a row with further tokens

module _ (weaver : Bool) (armed : Option Arming) (row : UserRow) (ids : List ℕ) where
  abbrev more : UserRow
  more = record row { tokens = row.tokens ++ ids }

  pub file_cases : (name : PartOf) → Contains (row_files weaver armed more) name → Contains (row_files weaver armed row) name ⊎ ((t : ℕ) × Contains ids t × (name.id ≡ t))
  file_cases name own = ⊎_elim
      (λ user. inl (Contains-append_left own_part (credential_part ++ token_files weaver row) name user))
      (λ late. ⊎_elim
      (λ its. inl (Contains-append_right own_part (credential_part ++ token_files weaver row) name (Contains-append_left credential_part (token_files weaver row) name its)))
      (λ tokens. of_token (of_flat (λ t. name_parts row.user t (token_parts weaver)) (row.tokens ++ ids) name tokens))
      (Contains-append_cases credential_part (token_files weaver more) name late))
      (Contains-append_cases own_part (credential_part ++ token_files weaver more) name own)
    where
      own_part : List PartOf
      own_part = name_parts row.user 0 (user_parts armed row)

      credential_part : List PartOf
      credential_part = name_parts row.user row.protector (credential_parts weaver row.kind)

      of_token : (t : ℕ) × Contains (row.tokens ++ ids) t × Contains (name_parts row.user t (token_parts weaver)) name → Contains (row_files weaver armed row) name ⊎ ((t : ℕ) × Contains ids t × (name.id ≡ t))
      of_token (t, has, file) = ⊎_elim
          (λ old. inl (Contains-append_right own_part (credential_part ++ token_files weaver row) name (Contains-append_right credential_part (token_files weaver row) name
          (in_flat (λ t. name_parts row.user t (token_parts weaver)) row.tokens t name old file))))
          (λ new. let part = of_map (name_of row.user t) (token_parts weaver) name file in inr (t, new, ap (λ (n : PartOf). n.id) (sym part.2)))
          (Contains-append_cases row.tokens ids t has)

module _ (b : Sight) (x : Session) (can : CanServe b x) (user : ℕ) (k : Planned) (p : IsPlannedFor b x user k)
    (told : IsTrue b.told) (lens : b.slots ≡ length b.world.slots) (few : b.slots ≤ 256)
    (free : (m : Made) → Contains (made b x can user k p) m → IsUnnamedProtector b.world x.settings.settled.rec (its b x can user k p m) m.slot)
    (commits : AllTouchOnly settings_reach k.commit.actions) where
  abbrev w : World
  w = b.world

  abbrev r : Rec
  r = x.settings.settled.rec

  abbrev then_rec : Rec
  then_rec = next b x can user k p

  abbrev last : World
  last = end b x can user k p told lens few free

  abbrev final : World
  final = fin b x can user k p told lens few free commits

  abbrev names : List Parts
  names = list b x can user k p

  abbrev mades : List Made
  mades = made b x can user k p

  -- ---- what is written is named then

  end_weaver : (m : Made) → Contains mades m → has_weaver last ≡ is_some m.slot
  end_weaver m within = weaver_same r w last (same b x can user k p told lens few free) ∙ weaver_by m.slot w (slot b x can user k p told lens few free m within)

  inside : (m : Made) → Contains mades m → Inside (reach_of_parts (its_parts b x can user k p m)) (named_by last then_rec [])
  inside m within = record {
    file = λ f reached. inl (by f (of_map (file_name (its b x can user k p m)) (parts_for (is_some m.slot) token) f reached));
    slot = λ n e. slot_of last then_rec (its b x can user k p m) n (new_named b x can user k p m within) (number_end b x can user k p told lens few free m within ∙ e);
    sid = λ sid its. absurd (no_counter its.0);
    alias = λ alias e. subst (λ (n : ℕ). NamesKey then_rec n) (sym e)
        (token_key (has_weaver last) then_rec (row_next b x can user k p) (row_put r (row_next b x can user k p)) m.token.id
        (Contains-append_right p.row.tokens (token_ids (tokens b x can user k p)) m.token.id (its_id b x can user k p m within)));
    cell = λ none. absurd none;
  }
    where
      no_counter : is_enrolled (is_some m.slot) token ≡ true → ⊥
      no_counter e = cc

      by : (f : List ℕ) → (part : FilePart) × Contains (parts_for (is_some m.slot) token) part × (file_name (its b x can user k p m) part ≡ f)
          → (name : PartOf) × NamesFile (has_weaver last) then_rec name × (f ≡ part_name_text name)
      by f (part, has, e) = (
        name_of p.row.user m.token.id part,
        protector_file (has_weaver last) then_rec (its b x can user k p m) (new_named b x can user k p m within) part
            (subst (λ (c : Bool). has_part c token part ≡ true) (sym (end_weaver m within)) (any_part (parts_for (is_some m.slot) token) part has)),
        sym e,
      )

  all_named : (l : List Made) → ((m : Made) → Contains l m → Contains mades m) → AllTouchOnly (named_by last then_rec []) (writing_all (map (wrote b x can user k p) l))
  all_named [] within = tt
  all_named (m ∷ l) within =
      touch_both (named_by last then_rec []) (writing_actions (its b x can user k p m) m.slot (writing b x can user k p m)) (writing_all (map (wrote b x can user k p) l))
      (all_touch_more (reach_of_parts (its_parts b x can user k p m)) (named_by last then_rec []) (inside m (within m (at_first m l))) (writing_actions (its b x can user k p m) m.slot (writing b x can user k p m))
      (written_touch (its b x can user k p m) m.slot (writing b x can user k p m)))
      (all_named l (λ o h. within o (behind_first m l o h)))

  pub same_named_by : SameBut (named_by last then_rec []) w last
  same_named_by = subst (λ (v : World). SameBut (named_by last then_rec []) w v) (staged_is b x can user k p told lens few free)
      (subst (λ (l : List Action). SameBut (named_by last then_rec []) w (after_all w l)) (sym (before_is b x can user k p))
      (plan_same (named_by last then_rec []) w (writing_all (all b x can user k p) ++ settling_of (parts_new b x can user k p))
      (touch_both (named_by last then_rec []) (writing_all (all b x can user k p)) (settling_of (parts_new b x can user k p)) (all_named mades (λ m h. h))
      (syncs_touch (named_by last then_rec []) (parts_new b x can user k p)))))

  -- ---- files outside the grammar

  strange_fin : (f : List ℕ) → IsStrange f → file_at final f ≡ file_at w f
  strange_fin f strange =
      strange_kept last final (settings b x can user k p told lens few free commits) f strange
      ∙ same_named_by.file f
      (λ reached. ⊎_elim (λ named. strange (ProtectorName named.0) (record_named (has_weaver last) then_rec (next_rules b x can user k p) named.0 named.1) named.2) (λ none. none_in f none) reached)

  -- ---- files that were retired

  was_retired : (f : List ℕ) → Contains (retired_files x) f → IsUnnamed final then_rec f
  was_retired f has = record {
    settings = was.settings;
    named = λ name h e. not_named name e (record_named (has_weaver final) then_rec (next_rules b x can user k p) name h) (of_flat (row_files (has_weaver final) then_rec.armed) then_rec.users name h);
  }
    where
      was : IsUnnamed w r f
      was = can.retired told f has

      old_name : (name : PartOf) → f ≡ part_name_text name → NamesFile (has_weaver final) r name → ⊥
      old_name name e named = was.named name (subst (λ (c : Bool). NamesFile c r name) (fin_weaver b x can user k p told lens few free commits) named) e

      new_name : (name : PartOf) → f ≡ part_name_text name → IsPartOf name → (t : ℕ) × Contains (token_ids (tokens b x can user k p)) t × (name.id ≡ t) → ⊥
      new_name name e part (t, new, id) =
          let m = of_id b x can user k p t new in
          (place b x can user k p m.0 m.1).files name part (subst (λ (g : List ℕ). Contains (retired_files x) g) e has) (id ∙ sym m.2)

      not_named : (name : PartOf) → f ≡ part_name_text name → IsPartOf name → (s : UserRow) × Contains then_rec.users s × Contains (row_files (has_weaver final) r.armed s) name → ⊥
      not_named name e part (s, there, own) = ⊎_elim
          (λ old. old_name name e (in_flat (row_files (has_weaver final) r.armed) r.users s name old.0 own))
          (λ (same_row : s ≡ row_next b x can user k p). ⊎_elim
          (λ in_old. old_name name e (in_flat (row_files (has_weaver final) r.armed) r.users p.row name (its_row b x can user k p) in_old))
          (new_name name e part)
          (file_cases (has_weaver final) r.armed p.row (token_ids (tokens b x can user k p)) name (subst (λ (y : UserRow). Contains (row_files (has_weaver final) r.armed y) name) same_row own)))
          (of_put r (row_next b x can user k p) s there)

  pub retired_unnamed : AreUnnamed (after_all w (actions_of (plain (work b x can user k p)))) (next_of (plain (work b x can user k p))) (retired_files x)
  retired_unnamed f has =
      subst (λ (v : World). IsUnnamed v (next_of (plain (work b x can user k p))) f) (sym (fin_is b x can user k p told lens few free commits))
      (subst (λ (z : Rec). IsUnnamed final z f) (sym (next_is b x can user k p)) (was_retired f has))

  -- ---- what is left

  abbrev Apart : Parts → Parts → Type 0
  Apart y z = (n : ℕ) → y.slot ≡ Some n → z.slot ≢ Some n

  pub leaves : LeavesKept w (plain (work b x can user k p)) names x.retired.items
  leaves = record {
    numbers = λ q has n held. numbers q (next_cases b x can user k p q (on_next q has)) n (ap (λ (v : World). held_number v q) (sym (fin_is b x can user k p told lens few free commits)) ∙ held);
    apart = pairs_append Apart x.named.items (parts_new b x can user k p) (can.apart told)
        (pairs_map Apart (its_parts b x can user k p) mades (slots_once b x can user k p))
        (λ y z hy hz n e. let m = of_map (its_parts b x can user k p) mades z hz in subst (λ (q : Parts). q.slot ≢ Some n) m.2 ((place b x can user k p m.0 m.1).slots y hy n e));
    are_retired = retired_unnamed;
    strange = λ f strange. ap (λ (v : World). file_at v f) (fin_is b x can user k p told lens few free commits) ∙ strange_fin f strange;
  }
    where
      on_next : (q : Protector) → NamesProtector (next_of (plain (work b x can user k p))) q → NamesProtector then_rec q
      on_next q has = subst (λ (z : Rec). NamesProtector z q) (next_is b x can user k p) has

      numbers : (q : Protector) → NamesProtector r q ⊎ ((m : Made) × Contains mades m × (q ≡ its b x can user k p m)) → (n : ℕ) → held_number final q ≡ Some n → Contains names (parts_of (is_some (Some n)) q (Some n))
      numbers q (inl old) n held =
          Contains-append_left x.named.items (parts_new b x can user k p) (parts_of true q (Some n)) (can.numbers told q old n (sym (number_old b x can user k p told lens few free commits q old) ∙ held))
      numbers q (inr (m, within, e)) n held =
          let at : m.slot ≡ Some n = sym (number_new b x can user k p told lens few free commits m within) ∙ (ap (held_number final) (sym e) ∙ held) in
          subst (Contains names) ((λ i. parts_of (is_some (at i)) (its b x can user k p m) (at i)) ∙ ap (λ (z : Protector). parts_of true z (Some n)) (sym e))
          (Contains-append_right x.named.items (parts_new b x can user k p) (its_parts b x can user k p m) (in_map (its_parts b x can user k p) mades m within))

  -- ---- nothing else is kept

  row_cases : (s : UserRow) → Contains r.users s → (s ≡ p.row) ⊎ Contains then_rec.users s
  row_cases s there = ⊎_elim (λ (e : s.user ≡ p.row.user). inl (one_row r p.rules p.row (its_row b x can user k p) s there e)) (λ apart. inr (others_put r (row_next b x can user k p) s there apart)) (cases_eq s.user p.row.user)

  in_then : Contains then_rec.users (row_next b x can user k p)
  in_then = row_put r (row_next b x can user k p)

  own_named : (s : UserRow) → Contains then_rec.users s → (part : FilePart) → Contains (user_parts r.armed s) part → NamesFile (has_weaver final) then_rec (name_of s.user 0 part)
  own_named s there part own =
      in_flat (row_files (has_weaver final) then_rec.armed) then_rec.users s (name_of s.user 0 part) there
      (Contains-append_left (name_parts s.user 0 (user_parts r.armed s)) (name_parts s.user s.protector (credential_parts (has_weaver final) s.kind) ++ token_files (has_weaver final) s)
      (name_of s.user 0 part) (in_map (name_of s.user 0) (user_parts r.armed s) part own))

  lets_go : LetsGo w r (retired_files x) final then_rec (retired_files x) [] []
  lets_go = record {
    away = tt;
    each = λ q named. inl (old_named b x can user k p q named, number_old b x can user k p told lens few free commits q named);
    slots = λ q gone. absurd (none_in q gone);
    keys = λ q gone. absurd (none_in q gone);
    counters = λ q gone. absurd (none_in q gone);
    secure = λ s there some. inl (⊎_elim
        (λ (e : s ≡ p.row). subst (λ (y : UserRow). NamesEnrolled (has_weaver final) then_rec y.secure) (sym e) (secure_enrolled (has_weaver final) then_rec (row_next b x can user k p) in_then (ap has_secure (sym e) ∙ some)))
        (λ stays. secure_enrolled (has_weaver final) then_rec s stays some) (row_cases s there));
    armed = λ was. inl was;
    files = λ q gone. absurd (none_in q gone);
    own = λ s there part own. inl (⊎_elim
        (λ (e : s ≡ p.row). subst (λ (y : UserRow). NamesFile (has_weaver final) then_rec (name_of y.user 0 part)) (sym e)
        (own_named (row_next b x can user k p) in_then part (subst (λ (y : UserRow). Contains (user_parts r.armed y) part) e own)))
        (λ stays. own_named s stays part own) (row_cases s there));
    retired = λ n has. inl has;
  }

  pub bare_then : (start : World) → IsBare start w r (retired_files x) → IsBare start final then_rec (retired_files x)
  bare_then start bare =
      changed start w last final r then_rec (retired_files x) (retired_files x) [] (next_rules b x can user k p) bare same_named_by (settings b x can user k p told lens few free commits) tt
      (lets_retire w final r then_rec (retired_files x) (retired_files x) [] [] (fin_weaver b x can user k p told lens few free commits) lets_go)

  -- ---- the protectors that are named

  parts_old : (q : Protector) → NamesProtector r q → parts_in final q ≡ parts_in w q
  parts_old q named = λ i. parts_of (fin_weaver b x can user k p told lens few free commits i) q (number_old b x can user k p told lens few free commits q named i)

  parts_now : (m : Made) → Contains mades m → parts_in final (its b x can user k p m) ≡ its_parts b x can user k p m
  parts_now m within =
      let weaver = fin_weaver b x can user k p told lens few free commits ∙ weaver_by m.slot w (slot b x can user k p told lens few free m within) in
      λ i. parts_of (weaver i) (its b x can user k p m) (number_new b x can user k p told lens few free commits m within i)

  pub named_now : (st : State) → Agrees w x st → AreNamed final then_rec names
  named_now st a = record {
    each = λ q has. each q (next_cases b x can user k p q has);
    only = λ z has. only z (Contains-append_cases x.named.items (parts_new b x can user k p) z has);
  }
    where
      each : (q : Protector) → NamesProtector r q ⊎ ((m : Made) × Contains mades m × (q ≡ its b x can user k p m)) → Contains names (parts_in final q)
      each q (inl old) = subst (Contains names) (sym (parts_old q old)) (Contains-append_left x.named.items (parts_new b x can user k p) (parts_in w q) (a.named.each q old))
      each q (inr (m, within, e)) =
          subst (Contains names) (sym (ap (parts_in final) e ∙ parts_now m within))
          (Contains-append_right x.named.items (parts_new b x can user k p) (its_parts b x can user k p m) (in_map (its_parts b x can user k p) mades m within))

      only : (z : Parts) → Contains x.named.items z ⊎ Contains (parts_new b x can user k p) z → (q : Protector) × NamesProtector then_rec q × (z ≡ parts_in final q)
      only z (inl h) = let found = a.named.only z h in (found.0, old_named b x can user k p found.0 found.1, found.2 ∙ sym (parts_old found.0 found.1))
      only z (inr h) =
          let m = of_map (its_parts b x can user k p) mades z h in
          (its b x can user k p m.0, new_named b x can user k p m.0 m.1, sym m.2 ∙ sym (parts_now m.0 m.1))
