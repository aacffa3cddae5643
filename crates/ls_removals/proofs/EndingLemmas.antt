-- A user goes: what the record without its row leaves out.
use Rattle.std.proofs.Common.{◌≡◌, ◌≢◌, ◌⊎◌, inl, inr, ⊎_elim, not, ℕ, Bool, true, false, List, [], ◌∷◌, ◌++◌, Option, None, Some, refl, sym, ◌∙◌, ap, subst}
use Rattle.std.specs.Prelude.{◌==◌, ◌&&◌}
use Rattle.std.specs.List.{Contains}
use Rattle.std.proofs.lemmas.Bool.{cases_eq, eq-eqb, ne_eqb}
use Rattle.std.proofs.lemmas.List.Elements.{Contains-append_left, Contains-append_right}
use Rattle.ls_arming.specs.declared.arming.Arming.{Arming}
use Rattle.ls_board.specs.declared.action.Action.{Action}
use Rattle.ls_board.specs.declared.action.Action.TheVariants.{GkForget, KeyDrop, Remove, ResumeTake, Sync}
use Rattle.ls_board.specs.declared.world.World.{World}
use Rattle.ls_board.specs.Reach.{AllTouchOnly}
use Rattle.ls_board.specs.Runs.{AllSound}
use Rattle.ls_dropping.proofs.DroppingLemmas.{next, may, next_is, touch_both, away_both, own_is, own_touch, own_away, forget_touch, forget_away}
use Rattle.ls_edits.proofs.DropLemmas.{of_drop, files_still}
use Rattle.ls_edits.proofs.FilterLemmas.{in_filter}
use Rattle.ls_edits.proofs.SoundRowLemmas.{one_user}
use Rattle.ls_edits.proofs.UnarmedLemmas.{no_key}
use Rattle.ls_formats.specs.declared.part.FilePart.{FilePart}
use Rattle.ls_formats.specs.PartNames.{PartOf}
use Rattle.ls_naming.specs.Named.{NamesFile, NamesEnrolled, has_credential, has_secure, only_if, parts_of, row_enrolled, row_files, user_parts, credential_parts, token_files}
use Rattle.ls_record.specs.declared.edit.Edit.TheVariants.{DropRow}
use Rattle.ls_record.specs.declared.row.UserRow.{UserRow}
use Rattle.ls_record.specs.Edits.{MayChange}
use Rattle.ls_record.specs.Rows.{Rec, IsRecord}
use Rattle.ls_record.proofs.ChangeLemmas.{split_rows}
use Rattle.ls_retiring.specs.Retiring.{own_name, own_removes}
use Rattle.ls_retiring.proofs.SoundLemmas.{sound_both, own_sound}
use Rattle.ls_sealing.specs.Protectors.{Protector}
use Rattle.ls_standing.specs.Clearing.{AllTakeAway}
use Rattle.ls_standing.specs.NamedProtectors.{NamesProtector, row_protectors}
use Rattle.ls_standing.specs.Quiet.{unnamed}
use Rattle.ls_standing.proofs.ContainsLemmas.{at_first, behind_first, in_map, in_flat, of_flat}
use Rattle.ls_turn.proofs.RowLemmas.{one_row}
use Rattle.ls_removals.specs.declared.going.Going.{Going}
use Rattle.ls_removals.specs.Going.{goes}
use Rattle.ls_removals.specs.Ending.{all_of, ending, ends}
use Rattle.ls_removals.specs.Letting.{LeavesOut}

both_true : (b : Bool) → b ≡ true → (b && true) ≡ true
both_true true e = refl
both_true false e = absurd (cc)

-- ---- whether an arming ends

ended : (was now : Option Arming) → ends was now ≡ true → now ≡ None
ended None None e = refl
ended None (Some z) e = absurd (cc)
ended (Some a) None e = refl
ended (Some a) (Some z) e = absurd (cc)

ending_some : (was now : Option Arming) → ¬ (was ≡ None) → (now ≢ None) ⊎ (ends was now ≡ true)
ending_some None now some = absurd (some refl)
ending_some (Some a) None some = inr refl
ending_some (Some a) (Some z) some = inl (λ e. cc)

module _ (w0 : World) (r : Rec) (is : IsRecord r) (row : UserRow) (here : Contains r.users row) (user : ℕ) (its_user : row.user ≡ user) where
  abbrev pub less : Rec
  less = next w0 r is row here

  abbrev it : Going
  it = all_of user

  abbrev forgets : List Action
  forgets = only_if (has_secure row) (GkForget row.secure ∷ [])

  abbrev removes : List Action
  removes = own_removes row.user (user_parts r.armed row)

  abbrev disarming : List Action
  disarming = only_if (ends r.armed less.armed) (ResumeTake ∷ KeyDrop 0 ∷ [])

  abbrev pub plan : List Action
  plan = ending r.armed less.armed row

  pub drop_may : MayChange r (DropRow row.user)
  drop_may = may w0 r is row here

  less_is : IsRecord less
  less_is = next_is w0 r is row here

  -- ---- rows

  stays_there : (x : UserRow) → Contains r.users x → x.user ≢ row.user → Contains less.users x
  stays_there x within apart = subst (λ (l : List UserRow). Contains l x) (sym (split_rows r.users row.user is.pairs))
      (in_filter (λ (y : UserRow). not (y.user == row.user)) r.users x within (ap not (ne_eqb x.user row.user apart)))

  -- a row is that of the user, or it stays
  row_cases : (x : UserRow) → Contains r.users x → (x ≡ row) ⊎ (Contains less.users x × (x.user ≢ row.user))
  row_cases x within = ⊎_elim
      (λ (e : x.user ≡ row.user). inl (one_row r is row here x within e))
      (λ (apart : x.user ≢ row.user). inr (stays_there x within apart, apart))
      (cases_eq x.user row.user)

  -- ---- protectors

  goes_its : (p : Protector) → p.user ≡ user → goes it p.user p.id ≡ true
  goes_its p e = both_true (p.user == user) (eq-eqb p.user user e)

  back : (p : Protector) → NamesProtector less p → NamesProtector r p × (goes it p.user p.id ≡ false)
  back p named = by (of_flat row_protectors less.users p named)
    where
      by : (x : UserRow) × Contains less.users x × Contains (row_protectors x) p → NamesProtector r p × (goes it p.user p.id ≡ false)
      by (x, there, own) =
          let at = of_drop w0 r row.user is x there in (
            in_flat row_protectors r.users x p at.0 own,
            ap (λ (b : Bool). b && true) (ne_eqb p.user user (λ e. at.1 (sym (one_user x p own) ∙ (e ∙ sym its_user)))),
          )

  stay : (p : Protector) → NamesProtector r p → goes it p.user p.id ≡ false → NamesProtector less p
  stay p named none = by (of_flat row_protectors r.users p named)
    where
      one : (x : UserRow) → Contains (row_protectors x) p → (x ≡ row) ⊎ (Contains less.users x × (x.user ≢ row.user)) → NamesProtector less p
      one x own (inl e) =
          let bad : true ≡ false = sym (goes_its p (one_user x p own ∙ (ap (λ (z : UserRow). z.user) e ∙ its_user))) ∙ none in
          absurd (cc)
      one x own (inr there) = in_flat row_protectors less.users x p there.0 own

      by : (x : UserRow) × Contains r.users x × Contains (row_protectors x) p → NamesProtector less p
      by (x, within, own) = one x own (row_cases x within)

  -- ---- files and Gatekeeper records

  files : (weaver : Bool) (name : PartOf) → NamesFile weaver less name → NamesFile weaver r name
  files weaver name named = by (of_flat (row_files weaver less.armed) less.users name named)
    where
      by : (x : UserRow) × Contains less.users x × Contains (row_files weaver less.armed x) name → NamesFile weaver r name
      by (x, there, own) =
          let at = of_drop w0 r row.user is x there in
          in_flat (row_files weaver r.armed) r.users x name at.0 (subst (λ (l : List PartOf). Contains l name) (files_still w0 x weaver r.armed row.user at.1) own)

  only_there : (b : Bool) (a : Action) → b ≡ true → Contains (only_if b (a ∷ [])) a
  only_there true a e = at_first a []
  only_there false a e = absurd (cc)

  in_forgets : (a : Action) → Contains forgets a → Contains plan a
  in_forgets a k = Contains-append_left forgets (removes ++ (disarming ++ Sync ∷ [])) a k

  in_removes : (a : Action) → Contains removes a → Contains plan a
  in_removes a k = Contains-append_right forgets (removes ++ (disarming ++ Sync ∷ [])) a (Contains-append_left removes (disarming ++ Sync ∷ []) a k)

  in_disarming : (a : Action) → Contains disarming a → Contains plan a
  in_disarming a k =
      Contains-append_right forgets (removes ++ (disarming ++ Sync ∷ [])) a
      (Contains-append_right removes (disarming ++ Sync ∷ []) a (Contains-append_left disarming (Sync ∷ []) a k))

  secure : (weaver : Bool) (x : UserRow) → Contains r.users x → has_secure x ≡ true → NamesEnrolled weaver less x.secure ⊎ Contains plan (GkForget x.secure)
  secure weaver x within has = by (row_cases x within)
    where
      by : (x ≡ row) ⊎ (Contains less.users x × (x.user ≢ row.user)) → NamesEnrolled weaver less x.secure ⊎ Contains plan (GkForget x.secure)
      by (inl e) = inr (subst (λ (z : UserRow). Contains plan (GkForget z.secure)) (sym e)
          (in_forgets (GkForget row.secure) (only_there (has_secure row) (GkForget row.secure) (ap has_secure (sym e) ∙ has))))
      by (inr there) = inl (in_flat (row_enrolled weaver) less.users x x.secure there.0
          (Contains-append_left (only_if (has_secure x) (x.secure ∷ [])) (only_if (not weaver && has_credential x.kind) (x.protector ∷ [])) x.secure
          (subst (λ (b : Bool). Contains (only_if b (x.secure ∷ [])) x.secure) (sym has) (at_first x.secure []))))

  abbrev own_of : UserRow → FilePart → PartOf
  own_of x part = record { user = x.user; id = 0; part = part }

  parts : (weaver : Bool) (x : UserRow) → Contains r.users x → (part : FilePart) → Contains (user_parts r.armed x) part
      → NamesFile weaver less (own_of x part) ⊎ Contains plan (Remove (own_name x.user part))
  parts weaver x within part own = by (row_cases x within)
    where
      by : (x ≡ row) ⊎ (Contains less.users x × (x.user ≢ row.user)) → NamesFile weaver less (own_of x part) ⊎ Contains plan (Remove (own_name x.user part))
      by (inl e) = inr (subst (λ (z : UserRow). Contains plan (Remove (own_name z.user part))) (sym e)
          (in_removes (Remove (own_name row.user part))
          (in_map (λ (q : FilePart). Remove (own_name row.user q)) (user_parts r.armed row) part (subst (λ (z : UserRow). Contains (user_parts r.armed z) part) e own))))
      by (inr there) = inl (in_flat (row_files weaver less.armed) less.users x (own_of x part) there.0
          (subst (λ (l : List PartOf). Contains l (own_of x part)) (sym (files_still w0 x weaver r.armed row.user there.1))
          (Contains-append_left (parts_of x.user 0 (user_parts r.armed x)) (parts_of x.user x.protector (credential_parts weaver x.kind) ++ token_files weaver x) (own_of x part)
          (in_map (own_of x) (user_parts r.armed x) part own))))

  -- ---- the arming

  armed : ¬ (r.armed ≡ None) → (less.armed ≢ None) ⊎ (Contains plan ResumeTake × Contains plan (KeyDrop 0))
  armed some = ⊎_elim inl (λ (e : ends r.armed less.armed ≡ true). inr (in_disarming ResumeTake (first (ends r.armed less.armed) e), in_disarming (KeyDrop 0) (second (ends r.armed less.armed) e))) (ending_some r.armed less.armed some)
    where
      first : (b : Bool) → b ≡ true → Contains (only_if b (ResumeTake ∷ KeyDrop 0 ∷ [])) ResumeTake
      first true e = at_first ResumeTake (KeyDrop 0 ∷ [])
      first false e = absurd (cc)

      second : (b : Bool) → b ≡ true → Contains (only_if b (ResumeTake ∷ KeyDrop 0 ∷ [])) (KeyDrop 0)
      second true e = behind_first ResumeTake (KeyDrop 0 ∷ []) (KeyDrop 0) (at_first (KeyDrop 0) [])
      second false e = absurd (cc)

  -- ---- what is taken away

  sound : (slots : ℕ) → AllSound slots plan
  sound slots =
      sound_both slots forgets (removes ++ (disarming ++ Sync ∷ [])) (forget_sound (has_secure row))
      (sound_both slots removes (disarming ++ Sync ∷ []) (own_sound slots row.user (user_parts r.armed row))
      (sound_both slots disarming (Sync ∷ []) (disarm_sound (ends r.armed less.armed)) (tt, tt)))
    where
      forget_sound : (b : Bool) → AllSound slots (only_if b (GkForget row.secure ∷ []))
      forget_sound true = (tt, tt)
      forget_sound false = tt

      disarm_sound : (b : Bool) → AllSound slots (only_if b (ResumeTake ∷ KeyDrop 0 ∷ []))
      disarm_sound true = (tt, (tt, tt))
      disarm_sound false = tt

  away : AllTakeAway plan
  away =
      away_both forgets (removes ++ (disarming ++ Sync ∷ [])) (forget_away w0 r is row here (has_secure row) row.secure)
      (away_both removes (disarming ++ Sync ∷ []) (own_away w0 r is row here (user_parts r.armed row) (own_is w0 r is row here))
      (away_both disarming (Sync ∷ []) (disarm_away (ends r.armed less.armed)) (tt, tt)))
    where
      disarm_away : (b : Bool) → AllTakeAway (only_if b (ResumeTake ∷ KeyDrop 0 ∷ []))
      disarm_away true = (tt, (tt, tt))
      disarm_away false = tt

  touch : (w : World) → AllTouchOnly (unnamed w less) plan
  touch w =
      touch_both (unnamed w less) forgets (removes ++ (disarming ++ Sync ∷ [])) (forget_touch w r is row here (has_secure row) refl)
      (touch_both (unnamed w less) removes (disarming ++ Sync ∷ []) (own_touch w r is row here (user_parts r.armed row) (own_is w r is row here))
      (touch_both (unnamed w less) disarming (Sync ∷ []) (disarm_touch (ends r.armed less.armed) refl) (tt, tt)))
    where
      disarm_touch : (b : Bool) → ends r.armed less.armed ≡ b → AllTouchOnly (unnamed w less) (only_if b (ResumeTake ∷ KeyDrop 0 ∷ []))
      disarm_touch true e = let none = ended r.armed less.armed e in (none, (no_key w less less_is none, tt))
      disarm_touch false e = tt

  -- ---- what is left out

  leaves : LeavesOut r less (goes it) plan
  leaves = record {
    rules = less_is;
    back = back;
    stay = stay;
    files = files;
    sound = sound;
    away = away;
    unnamed = touch;
    secure = secure;
    parts = parts;
    armed = armed;
  }

  pub user_leaves : (n : Rec) (after : List Action) → n ≡ less → after ≡ plan → LeavesOut r n (goes it) after
  user_leaves n after same its =
      subst (λ (z : Rec). LeavesOut r z (goes it) after) (sym same)
      (subst (λ (l : List Action). LeavesOut r less (goes it) l) (sym its) leaves)
