-- What drops a user is quiet, and readies the next record.
use Rattle.std.proofs.Common.{◌≡◌, ◌≢◌, ◌<◌, ◌⊎◌, inl, inr, ⊎_elim, not, ℕ, Bool, true, false, List, [], ◌∷◌, ◌++◌, replicate, Option, None, Some, refl, sym, ap, subst, ◌∙◌}
use Rattle.std.specs.Prelude.{◌==◌, is_some, IfSome}
use Rattle.std.specs.List.{Contains}
use Rattle.std.proofs.lemmas.Bool.{eq-eqb}
use Rattle.std.proofs.lemmas.List.Concat.{flat_map-cons}
use Rattle.std.proofs.lemmas.List.Elements.{Contains-append_left, Contains-append_cases}
use Rattle.ls_board.specs.declared.action.Action.{Action}
use Rattle.ls_board.specs.declared.action.Action.TheVariants.{GkForget, KeyDrop, Poke, Sync}
use Rattle.ls_board.specs.declared.world.World.{World}
use Rattle.ls_board.specs.Effect.{after, Applies}
use Rattle.ls_board.specs.Reach.{Reach, AllTouchOnly}
use Rattle.ls_board.specs.Runs.{after_all, AllApply, AllSound}
use Rattle.ls_credential.specs.declared.kind.Kind.{Kind}
use Rattle.ls_credential.specs.declared.kind.Kind.TheVariants.{Empty, Pattern, Pin, Password}
use Rattle.ls_formats.specs.declared.part.FilePart.{FilePart}
use Rattle.ls_formats.specs.PartNames.{PartOf, IsPartOf}
use Rattle.ls_naming.specs.Named.{only_if, has_secure, user_parts, credential_parts, token_parts, parts_of, token_files, row_files, NamesFile, NamesEnrolled}
use Rattle.ls_naming.proofs.NamingLemmas.{record_named}
use Rattle.ls_record.specs.declared.edit.Edit.TheVariants.{DropRow}
use Rattle.ls_arming.specs.declared.arming.Arming.{Arming}
use Rattle.ls_record.specs.declared.row.UserRow.{UserRow}
use Rattle.ls_record.specs.Edits.{changed as edited, MayChange}
use Rattle.ls_record.specs.Rows.{Rec, IsRecord, IsBefore, is_odd, is_secure_id}
use Rattle.ls_record.proofs.ChangeLemmas.{changed_keeps}
use Rattle.ls_sealing.specs.Protectors.{Protector, has_weaver, held_number, is_enrolled}
use Rattle.ls_sealing.specs.Building.{slot_writes}
use Rattle.ls_settings.specs.Loaded.{Loaded}
use Rattle.ls_standing.specs.Clearing.{TakesAway, AllTakeAway}
use Rattle.ls_standing.specs.NamedProtectors.{row_protectors, NamesProtector, IsElsewhere}
use Rattle.ls_standing.specs.Opening.{first_foreign}
use Rattle.ls_standing.specs.Quiet.{unnamed, IsUnnamedProtector}
use Rattle.ls_standing.specs.Standing.{Holds, NamedAreUntouched, StandsDurably}
use Rattle.ls_standing.proofs.ContainsLemmas.{at_first, behind_first, in_map, of_map, in_flat, of_flat, any_contained}
use Rattle.ls_standing.proofs.IdLemmas.{is_row}
use Rattle.ls_standing.proofs.PairLemmas.{pair_cases}
use Rattle.ls_standing.proofs.TouchLemmas.{erasing_touch, file_unnamed}
use Rattle.ls_standing.proofs.UnnamedLemmas.{left_out, other_secure}
use Rattle.ls_vault.specs.declared.vault.Vault.{Vault}
use Rattle.ls_change.specs.declared.work.Work.{Work}
use Rattle.ls_change.specs.Work.{IsQuietWork, Readies, staged, next_of}
use Rattle.ls_edits.proofs.DropLemmas.{dropped, drop_untouched, of_drop}
use Rattle.ls_edits.proofs.SoundRowLemmas.{one_user}
use Rattle.ls_retiring.specs.declared.built.Built.{Built}
use Rattle.ls_retiring.specs.Retiring.{protector_of, erasing_of, erasing_all, own_removes}
use Rattle.ls_retiring.proofs.SoundLemmas.{sound_both, erase_sound, own_sound}
use Rattle.ls_dropping.specs.Dropping.{DroppedUser, DropsUser, dropping, without}

-- ---- actions one behind another

pub touch_both : (reach : Reach) (xs ys : List Action) → AllTouchOnly reach xs → AllTouchOnly reach ys → AllTouchOnly reach (xs ++ ys)
touch_both reach [] ys first second = second
touch_both reach (x ∷ xs) ys first second = (first.0, touch_both reach xs ys first.1 second)

pub away_both : (xs ys : List Action) → AllTakeAway xs → AllTakeAway ys → AllTakeAway (xs ++ ys)
away_both [] ys first second = second
away_both (x ∷ xs) ys first second = (first.0, away_both xs ys first.1 second)

-- what takes away may be done in every world
away_applies : (w : World) (a : Action) → TakesAway a → Applies w a
away_applies w (Poke n at bytes) away = absurd away
away_applies w a away = tt

pub away_apply : (w : World) (plan : List Action) → AllTakeAway plan → AllApply w plan
away_apply w [] away = tt
away_apply w (a ∷ plan) away = (away_applies w a away.0, away_apply (after w a 0) plan away.1)

-- ---- the record without a row

module _ (w : World) (r : Rec) (is : IsRecord r) (row : UserRow) (there : Contains r.users row) where
  abbrev pub next : Rec
  next = edited r (DropRow row.user)

  pub may : MayChange r (DropRow row.user)
  may = any_contained (λ (x : UserRow). x.user == row.user) r.users row there (eq-eqb row.user row.user refl)

  pub next_is : IsRecord next
  next_is = changed_keeps r is (DropRow row.user) may

  -- ---- protectors

  pub left : (p : Protector) → Contains (row_protectors row) p → first_foreign w r ≡ None → IsUnnamedProtector w next p (held_number w p)
  left p own fine = left_out w r is next next_is p (in_flat row_protectors r.users row p there own) others fine
    where
      others : (q : Protector) → NamesProtector next q → (NamesProtector r q × (q ≢ p)) ⊎ IsElsewhere w p.id (held_number w p) q
      others q named =
          let found = of_flat row_protectors next.users q named in
          let at = of_drop w r row.user is found.0 found.1 in
          inl (
            in_flat row_protectors r.users found.0 q at.0 found.2,
            λ e. at.1 (sym (one_user found.0 q found.2) ∙ ap (λ (x : Protector). x.user) e ∙ one_user row p own),
          )

  erase_touch : (all : List Built) → ((b : Built) → Contains all b → IsUnnamedProtector w next (protector_of b) b.place.slot) → AllTouchOnly (unnamed w next) (erasing_all all)
  erase_touch [] each = tt
  erase_touch (b ∷ all) each =
      subst (λ (l : List Action). AllTouchOnly (unnamed w next) l) (sym (flat_map-cons erasing_of b all))
      (touch_both (unnamed w next) (erasing_of b) (erasing_all all)
      (erasing_touch w next (protector_of b) b.place.slot next_is (each b (at_first b all)))
      (erase_touch all (λ c h. each c (behind_first b all c h))))

  -- ---- the secure id

  odd_by : (kind : Kind) (id : ℕ) → is_secure_id kind id ≡ true → not (id == 0) ≡ true → is_odd id ≡ true
  odd_by Empty id its some = let bad : false ≡ true = ap not (sym its) ∙ some in absurd (cc)
  odd_by Pattern id its some = its
  odd_by Pin id its some = its
  odd_by Password id its some = its

  not_zero : has_secure row ≡ true → row.secure ≢ 0
  not_zero some e = let bad : false ≡ true = sym (ap not (eq-eqb row.secure 0 e)) ∙ some in absurd (cc)

  -- no other row has it
  secure_apart : has_secure row ≡ true → (x : UserRow) → Contains next.users x → x.secure ≢ row.secure
  secure_apart some x h same = by (pair_cases IsBefore r.users is.pairs x row at.0 there)
    where
      at : Contains r.users x × (x.user ≢ row.user)
      at = of_drop w r row.user is x h

      by : (x ≡ row) ⊎ (IsBefore x row ⊎ IsBefore row x) → ⊥
      by (inl e) = at.1 (ap (λ (y : UserRow). y.user) e)
      by (inr (inl before)) = not_zero some (sym same ∙ before.apart.secure same)
      by (inr (inr behind)) = not_zero some (behind.apart.secure (sym same))

  secure_gone : has_secure row ≡ true → ¬ (NamesEnrolled (has_weaver w) next row.secure)
  secure_gone some =
      other_secure (has_weaver w) next row.secure next_is
      (odd_by row.kind row.secure (is_row r is row there).secure.0 some) (secure_apart some)

  pub forget_touch : (b : Bool) → has_secure row ≡ b → AllTouchOnly (unnamed w next) (only_if b (GkForget row.secure ∷ []))
  forget_touch true some = (secure_gone some, tt)
  forget_touch false none = tt

  -- ---- its own files

  -- a file that a row names is of its user
  pub file_user : (weaver : Bool) (armed : Option Arming) (x : UserRow) (name : PartOf) → Contains (row_files weaver armed x) name → name.user ≡ x.user
  file_user weaver armed x name h = by (Contains-append_cases one (two ++ three) name h)
    where
      one : List PartOf
      one = parts_of x.user 0 (user_parts armed x)

      two : List PartOf
      two = parts_of x.user x.protector (credential_parts weaver x.kind)

      three : List PartOf
      three = token_files weaver x

      of_part : (id : ℕ) (parts : List FilePart) → Contains (parts_of x.user id parts) name → name.user ≡ x.user
      of_part id parts k = ap (λ (n : PartOf). n.user) (sym (of_map (λ p. record { user = x.user; id = id; part = p }) parts name k).2)

      of_token : Contains three name → name.user ≡ x.user
      of_token k = let t = of_flat (λ t. parts_of x.user t (token_parts weaver)) x.tokens name k in of_part t.0 (token_parts weaver) t.2

      by : Contains one name ⊎ Contains (two ++ three) name → name.user ≡ x.user
      by (inl k) = of_part 0 (user_parts armed x) k
      by (inr k) = ⊎_elim (of_part x.protector (credential_parts weaver x.kind)) of_token (Contains-append_cases two three name k)

  abbrev own_of : FilePart → PartOf
  own_of part = record { user = row.user; id = 0; part = part }

  pub own_is : (part : FilePart) → Contains (user_parts r.armed row) part → IsPartOf (own_of part)
  own_is part h =
      record_named (has_weaver w) r is (own_of part)
      (in_flat (row_files (has_weaver w) r.armed) r.users row (own_of part) there
      (Contains-append_left (parts_of row.user 0 (user_parts r.armed row)) (parts_of row.user row.protector (credential_parts (has_weaver w) row.kind) ++ token_files (has_weaver w) row) (own_of part)
      (in_map own_of (user_parts r.armed row) part h)))

  pub own_gone : (part : FilePart) → ¬ (NamesFile (has_weaver w) next (own_of part))
  own_gone part named =
      let found = of_flat (row_files (has_weaver w) next.armed) next.users (own_of part) named in
      (of_drop w r row.user is found.0 found.1).1 (sym (file_user (has_weaver w) next.armed found.0 (own_of part) found.2))

  pub own_touch : (parts : List FilePart) → ((part : FilePart) → Contains parts part → IsPartOf (own_of part)) → AllTouchOnly (unnamed w next) (own_removes row.user parts)
  own_touch [] each = tt
  own_touch (part ∷ parts) each = (
    file_unnamed w next (own_of part) next_is (each part (at_first part parts)) (own_gone part),
    own_touch parts (λ q h. each q (behind_first part parts q h)),
  )

  pub dropping_touch : (gone : List Built) → ((b : Built) → Contains gone b → IsUnnamedProtector w next (protector_of b) b.place.slot)
      → AllTouchOnly (unnamed w next) (dropping r.armed (record { row = row; gone = gone }))
  dropping_touch gone each =
      let forgets = only_if (has_secure row) (GkForget row.secure ∷ []) in
      let files = own_removes row.user (user_parts r.armed row) in
      touch_both (unnamed w next) (erasing_all gone) (forgets ++ (files ++ Sync ∷ [])) (erase_touch gone each)
      (touch_both (unnamed w next) forgets (files ++ Sync ∷ []) (forget_touch (has_secure row) refl)
      (touch_both (unnamed w next) files (Sync ∷ []) (own_touch (user_parts r.armed row) own_is) (tt, tt)))

  -- ---- it only takes away

  slot_away : (o : Option ℕ) → AllTakeAway (slot_writes o (replicate 16 0) (replicate 16 0))
  slot_away None = tt
  slot_away (Some n) = (refl, tt)

  pub forget_away : (b : Bool) (sid : ℕ) → AllTakeAway (only_if b (GkForget sid ∷ []))
  forget_away true sid = (tt, tt)
  forget_away false sid = tt

  erase_away : (all : List Built) → AllTakeAway (erasing_all all)
  erase_away [] = tt
  erase_away (b ∷ all) =
      let p = protector_of b in
      let forgets = only_if (is_enrolled (is_some b.place.slot) p.purpose) (GkForget p.id ∷ []) in
      subst AllTakeAway (sym (flat_map-cons erasing_of b all))
      (away_both (erasing_of b) (erasing_all all)
      (away_both (slot_writes b.place.slot (replicate 16 0) (replicate 16 0)) (KeyDrop p.id ∷ forgets) (slot_away b.place.slot)
      (tt, forget_away (is_enrolled (is_some b.place.slot) p.purpose) p.id))
      (erase_away all))

  pub own_away : (parts : List FilePart) → ((part : FilePart) → Contains parts part → IsPartOf (own_of part)) → AllTakeAway (own_removes row.user parts)
  own_away [] each = tt
  own_away (part ∷ parts) each = ((own_of part, each part (at_first part parts), refl), own_away parts (λ q h. each q (behind_first part parts q h)))

  pub dropping_away : (gone : List Built) → AllTakeAway (dropping r.armed (record { row = row; gone = gone }))
  dropping_away gone =
      let forgets = only_if (has_secure row) (GkForget row.secure ∷ []) in
      let files = own_removes row.user (user_parts r.armed row) in
      away_both (erasing_all gone) (forgets ++ (files ++ Sync ∷ [])) (erase_away gone)
      (away_both forgets (files ++ Sync ∷ []) (forget_away (has_secure row) row.secure)
      (away_both files (Sync ∷ []) (own_away (user_parts r.armed row) own_is) (tt, tt)))

-- ---- what it asks of a board

module _ (slots : ℕ) (armed : Option Arming) (u : DroppedUser) where
  forget_sound : (b : Bool) (sid : ℕ) → AllSound slots (only_if b (GkForget sid ∷ []))
  forget_sound true sid = (tt, tt)
  forget_sound false sid = tt

  pub dropping_sound : ((b : Built) → Contains u.gone b → IfSome b.place.slot (λ n. n < slots)) → AllSound slots (dropping armed u)
  dropping_sound fits =
      let forgets = only_if (has_secure u.row) (GkForget u.row.secure ∷ []) in
      let files = own_removes u.row.user (user_parts armed u.row) in
      sound_both slots (erasing_all u.gone) (forgets ++ (files ++ Sync ∷ [])) (erase_sound slots u.gone fits)
      (sound_both slots forgets (files ++ Sync ∷ []) (forget_sound (has_secure u.row) u.row.secure)
      (sound_both slots files (Sync ∷ []) (own_sound slots u.row.user (user_parts armed u.row)) (tt, tt)))

-- ---- the change

module _ (w : World) (s : Loaded) (k : Work) (u : DroppedUser) (drops : DropsUser w s k u) where
  abbrev r : Rec
  r = s.settled.rec

  abbrev less : Rec
  less = next w r drops.rules u.row drops.there

  unnamed_then : (b : Built) → Contains u.gone b → IsUnnamedProtector w less (protector_of b) b.place.slot
  unnamed_then b h = subst (λ (n : Rec). IsUnnamedProtector w n (protector_of b) b.place.slot) drops.next (drops.unnamed b h)

  pub dropping_quiet : IsQuietWork w s k
  dropping_quiet = record {
    ready = drops.ready;
    before = subst (λ (l : List Action). AllTouchOnly (unnamed w r) l) (sym drops.before) tt;
    applies = subst (λ (l : List Action). AllApply w l) (sym drops.before) tt;
    after = subst (λ (l : List Action). AllTouchOnly (unnamed (staged w k) (next_of k)) l) (sym drops.after)
        (subst (λ (l : List Action). AllTouchOnly (unnamed (after_all w l) (next_of k)) (dropping r.armed u)) (sym drops.before)
        (subst (λ (n : Rec). AllTouchOnly (unnamed w n) (dropping r.armed u)) (sym drops.next)
        (dropping_touch w r drops.rules u.row drops.there u.gone unnamed_then)));
    follows = subst (λ (l : List Action). AllApply (after_all w (k.before ++ k.commit.actions)) l) (sym drops.after)
        (away_apply (after_all w (k.before ++ k.commit.actions)) (dropping r.armed u) (dropping_away w r drops.rules u.row drops.there u.gone));
  }

  pub dropping_readies : (v : Vault) → StandsDurably w s.settled v → Readies w k (without v u)
  dropping_readies v was = record {
    holds = subst (λ (l : List Action). Holds (after_all w l) (next_of k) (without v u)) (sym drops.before)
        (subst (λ (n : Rec). Holds w n (without v u)) (sym drops.next)
        (dropped w r u.row.user drops.rules v was.stands.holds (may w r drops.rules u.row drops.there)));
    untouched = subst (λ (l : List Action). NamedAreUntouched (after_all w l) (next_of k)) (sym drops.before)
        (subst (λ (n : Rec). NamedAreUntouched w n) (sym drops.next)
        (drop_untouched w r u.row.user drops.rules was.named));
  }
