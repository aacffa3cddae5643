-- The old protector is let go: the next record names nothing of it, and it is taken away.
use Rattle.std.proofs.Common.{◌≡◌, ◌≢◌, ◌⊎◌, inl, inr, ◌<◌, ◌^◌, not, ℕ, Bool, true, false, List, [], ◌∷◌, ◌++◌, map, replicate, Option, None, Some, refl, sym, ap, subst, ◌∙◌}
use Rattle.std.specs.Prelude.{◌==◌, is_some, IfSome}
use Rattle.std.specs.List.{Contains}
use Rattle.std.specs.Option.{option_and_then}
use Rattle.std.proofs.lemmas.Bool.{eqb-true, eqb-false}
use Rattle.ls_board.specs.declared.action.Action.{Action}
use Rattle.ls_board.specs.declared.action.Action.TheVariants.{GkForget, KeyDrop, Remove, Poke, Sync}
use Rattle.ls_board.specs.declared.world.World.{World}
use Rattle.ls_board.specs.Effect.{after, file_at, Applies}
use Rattle.ls_board.specs.Reach.{AllTouchOnly}
use Rattle.ls_board.specs.Runs.{AllApply, AllSound}
use Rattle.ls_formats.specs.declared.part.FilePart.{FilePart}
use Rattle.ls_formats.specs.declared.part.FilePart.TheVariants.{Weaver}
use Rattle.ls_naming.specs.Named.{only_if, has_secure, row_files, NamesFile, NamesEnrolled}
use Rattle.ls_record.specs.declared.row.UserRow.{UserRow}
use Rattle.ls_record.specs.Rows.{Rec, IsRecord}
use Rattle.ls_secret.specs.Secrets.{SecretValue}
use Rattle.ls_sealing.specs.Building.{FitsSlots, slot_writes, erasing_actions}
use Rattle.ls_sealing.specs.Protectors.{Protector, parts_for, has_weaver, has_part, held_number, slot_number, where_it_has, file_name, is_enrolled}
use Rattle.ls_sealing.proofs.ActionLemmas.{erasing_sound}
use Rattle.ls_standing.specs.Clearing.{TakesAway, AllTakeAway}
use Rattle.ls_standing.specs.Named.{credential_of, token_of}
use Rattle.ls_standing.specs.NamedProtectors.{NamesProtector, row_protectors, IsElsewhere}
use Rattle.ls_standing.specs.Quiet.{IsUnnamedProtector, IsUnnamed, unnamed}
use Rattle.ls_standing.specs.Same.{SameNamed}
use Rattle.ls_standing.proofs.ContainsLemmas.{at_first, behind_first, first_or_behind, in_map, of_map, in_flat, of_flat}
use Rattle.ls_standing.proofs.FrameLemmas.{weaver_same, where_same}
use Rattle.ls_standing.proofs.IdLemmas.{is_row}
use Rattle.ls_standing.proofs.NamedLemmas.{name_of, part_found}
use Rattle.ls_standing.proofs.ProtectorLemmas.{in_row, numbers}
use Rattle.ls_standing.proofs.TouchLemmas.{erasing_touch, file_unnamed}
use Rattle.ls_standing.proofs.UnnamedLemmas.{other_secure, unnamed_protector}
use Rattle.ls_edits.proofs.SoundRowLemmas.{one_user}
use Rattle.ls_changing.specs.Replacing.{Chosen, IsChosen, row_then, goes, forgetting, handle_of, handle_name}
use Rattle.ls_changing.proofs.RowLemmas.{next, next_is, of_next, apart_of, odd_by, handle_is, handle_named}
use Rattle.ls_changing.proofs.StagedLemmas.{last, same_named, touch_both, both_true, not_true}
use Rattle.ls_changing.proofs.ReadyLemmas.{number_is}

-- ---- what only takes away

pub away_both : (xs ys : List Action) → AllTakeAway xs → AllTakeAway ys → AllTakeAway (xs ++ ys)
away_both [] ys first second = second
away_both (x ∷ xs) ys first second = (first.0, away_both xs ys first.1 second)

away_applies : (w : World) (a : Action) → TakesAway a → Applies w a
away_applies w (Poke n at bytes) away = absurd away
away_applies w a away = tt

pub away_apply : (w : World) (plan : List Action) → AllTakeAway plan → AllApply w plan
away_apply w [] away = tt
away_apply w (a ∷ plan) away = (away_applies w a away.0, away_apply (after w a 0) plan away.1)

pub sound_both : (slots : ℕ) (xs ys : List Action) → AllSound slots xs → AllSound slots ys → AllSound slots (xs ++ ys)
sound_both slots [] ys first second = second
sound_both slots (x ∷ xs) ys first second = (first.0, sound_both slots xs ys first.1 second)

erasing_away : (p : Protector) (o : Option ℕ) → AllTakeAway (erasing_actions p o)
erasing_away p o =
    let forgets = only_if (is_enrolled (is_some o) p.purpose) (GkForget p.id ∷ []) in
    away_both (slot_writes o (replicate 16 0) (replicate 16 0)) (KeyDrop p.id ∷ forgets) (slot o) (tt, counter (is_enrolled (is_some o) p.purpose))
  where
    slot : (o : Option ℕ) → AllTakeAway (slot_writes o (replicate 16 0) (replicate 16 0))
    slot None = tt
    slot (Some n) = (refl, tt)

    counter : (b : Bool) → AllTakeAway (only_if b (GkForget p.id ∷ []))
    counter true = (tt, tt)
    counter false = tt

forgetting_away : (row : UserRow) (secure : ℕ) → row.user < 2 ^ 32 → AllTakeAway (forgetting row secure)
forgetting_away row secure small = away_both (only_if (goes row.secure secure) (GkForget row.secure ∷ Remove (handle_name row.user) ∷ [])) (Sync ∷ []) (by (goes row.secure secure)) (tt, tt)
  where
    by : (b : Bool) → AllTakeAway (only_if b (GkForget row.secure ∷ Remove (handle_name row.user) ∷ []))
    by true = (tt, ((handle_of row.user, handle_is row.user small, refl), tt))
    by false = tt

pub forgetting_sound : (slots : ℕ) (row : UserRow) (secure : ℕ) → AllSound slots (forgetting row secure)
forgetting_sound slots row secure = sound_both slots (only_if (goes row.secure secure) (GkForget row.secure ∷ Remove (handle_name row.user) ∷ [])) (Sync ∷ []) (by (goes row.secure secure)) (tt, tt)
  where
    by : (b : Bool) → AllSound slots (only_if b (GkForget row.secure ∷ Remove (handle_name row.user) ∷ []))
    by true = (tt, (tt, tt))
    by false = tt

-- what is done behind the commit
abbrev pub leaving : Chosen → Option ℕ → List Action
leaving n o = erasing_actions (credential_of n.row) o ++ forgetting n.row n.secure

pub leaving_sound : (slots : ℕ) (n : Chosen) (o : Option ℕ) → IfSome o (λ k. k < slots) → AllSound slots (leaving n o)
leaving_sound slots n o fits = sound_both slots (erasing_actions (credential_of n.row) o) (forgetting n.row n.secure) (erasing_sound (credential_of n.row) slots o fits) (forgetting_sound slots n.row n.secure)

-- ---- files of a protector that is named

pub protector_file : (b : Bool) (r : Rec) (p : Protector) → NamesProtector r p → (part : FilePart) → has_part b p.purpose part ≡ true → NamesFile b r (name_of p.user p.id part)
protector_file b r p has part within =
    let row = of_flat row_protectors r.users p has in
    in_flat (row_files b r.armed) r.users row.0 (name_of p.user p.id part) row.1
    (in_row b r.armed row.0 p (name_of p.user p.id part) row.2 (in_map (λ (q : FilePart). name_of p.user p.id q) (parts_for b p.purpose) part (part_found part (parts_for b p.purpose) within)))

-- a named protector has the slot that it had
pub number_stays : (r : Rec) (w end : World) → SameNamed r w end → (z : Protector) → NamesProtector r z → held_number end z ≡ held_number w z
number_stays r w end same z named =
    ap (λ (b : Bool). option_and_then slot_number (where_it_has (has_part b z.purpose Weaver) (file_at end (file_name z Weaver)))) (weaver_same r w end same)
    ∙ ap (λ (o : Option (List ℕ)). option_and_then slot_number o)
    (where_same (has_part (has_weaver w) z.purpose Weaver) (file_at end (file_name z Weaver)) (file_at w (file_name z Weaver))
    (λ has. same.file (name_of z.user z.id Weaver) (protector_file (has_weaver w) r z named Weaver has)))

-- ---- the old protector

module _ (r : Rec) (is : IsRecord r) (n : Chosen) (fits : IsChosen r n) where
  abbrev pub gone : Protector
  gone = credential_of n.row

  abbrev row : UserRow
  row = row_then n

  abbrev then : Rec
  then = next r is n fits

  pub gone_named : NamesProtector r gone
  gone_named = in_flat row_protectors r.users n.row gone fits.here (at_first gone (map (token_of n.row) n.row.tokens))

  pub leaving_away : (o : Option ℕ) → AllTakeAway (leaving n o)
  leaving_away o = away_both (erasing_actions gone o) (forgetting n.row n.secure) (erasing_away gone o) (forgetting_away n.row n.secure (is_row r is n.row fits.here).user)

  -- a protector of the next record is another one of the record, or the new one
  pub next_cases : (z : Protector) → NamesProtector then z → (NamesProtector r z × (z ≢ gone)) ⊎ (z ≡ credential_of row)
  next_cases z h = by (of_flat row_protectors then.users z h)
    where
      other_user : (x : UserRow) → x.user ≢ n.row.user → Contains (row_protectors x) z → z ≢ gone
      other_user x apart own e = apart (sym (one_user x z own) ∙ ap (λ (p : Protector). p.user) e)

      no_token : (id : ℕ) → token_of row id ≡ z → z ≢ gone
      no_token id of e = let bad : token_of row id ≡ gone = of ∙ e in let worse = ap (λ (p : Protector). p.purpose) bad in cc

      of_own : (credential_of row ≡ z) ⊎ Contains (map (token_of row) row.tokens) z → (NamesProtector r z × (z ≢ gone)) ⊎ (z ≡ credential_of row)
      of_own (inl e) = inr (sym e)
      of_own (inr k) =
          let found = of_map (token_of row) row.tokens z k in
          inl (
            in_flat row_protectors r.users n.row z fits.here (behind_first gone (map (token_of n.row) n.row.tokens) z k),
            no_token found.0 found.2,
          )

      of_row : (x : UserRow) → Contains (row_protectors x) z → (Contains r.users x × (x.user ≢ n.row.user)) ⊎ (x ≡ row) → (NamesProtector r z × (z ≢ gone)) ⊎ (z ≡ credential_of row)
      of_row x own (inl other) = inl (in_flat row_protectors r.users x z other.0 own, other_user x other.1 own)
      of_row x own (inr e) = of_own (first_or_behind (credential_of row) (map (token_of row) row.tokens) z (subst (λ (y : UserRow). Contains (row_protectors y) z) e own))

      by : (x : UserRow) × Contains then.users x × Contains (row_protectors x) z → (NamesProtector r z × (z ≢ gone)) ⊎ (z ≡ credential_of row)
      by (x, within, own) = of_row x own (of_next r is n fits x within)

  -- ---- the secure id

  secure_gone : (weaver : Bool) → goes n.row.secure n.secure ≡ true → ¬ (NamesEnrolled weaver then n.row.secure)
  secure_gone weaver lost =
      other_secure weaver then n.row.secure (next_is r is n fits) (odd_by n.row.kind n.row.secure (is_row r is n.row fits.here).secure.0 had)
      (λ x h e. by x e (of_next r is n fits x h))
    where
      both : (not (n.row.secure == 0) ≡ true) × ((n.secure == 0) ≡ true)
      both = both_true (not (n.row.secure == 0)) (n.secure == 0) lost

      had : (n.row.secure == 0) ≡ false
      had = not_true (n.row.secure == 0) both.0

      by : (x : UserRow) → x.secure ≡ n.row.secure → (Contains r.users x × (x.user ≢ n.row.user)) ⊎ (x ≡ row) → ⊥
      by x e (inl other) = eqb-false n.row.secure 0 had (sym e ∙ (apart_of r is n fits x other.0 other.1).secure e)
      by x e (inr new) = eqb-false n.row.secure 0 had (sym e ∙ (ap (λ (y : UserRow). y.secure) new ∙ eqb-true n.secure 0 both.1))

  handle_gone : (w : World) → goes n.row.secure n.secure ≡ true → IsUnnamed w then (handle_name n.row.user)
  handle_gone w lost = file_unnamed w then (handle_of n.row.user) (next_is r is n fits) (handle_is n.row.user (is_row r is n.row fits.here).user) none
    where
      by : (x : UserRow) → (x.user ≡ n.row.user) × (has_secure x ≡ true) → (Contains r.users x × (x.user ≢ n.row.user)) ⊎ (x ≡ row) → ⊥
      by x its (inl other) = other.1 its.0
      by x its (inr new) =
          let some : not (n.secure == 0) ≡ true = sym (ap has_secure new) ∙ its.1 in
          let bad : true ≡ false = sym (both_true (not (n.row.secure == 0)) (n.secure == 0) lost).1 ∙ not_true (n.secure == 0) some in
          cc

      none : ¬ (NamesFile (has_weaver w) then (handle_of n.row.user))
      none named =
          let found = of_flat (row_files (has_weaver w) then.armed) then.users (handle_of n.row.user) named in
          by found.0 (handle_named (has_weaver w) then.armed found.0 n.row.user (is_row then (next_is r is n fits) found.0 found.1) found.2) (of_next r is n fits found.0 found.1)

  forgetting_touch : (w : World) → AllTouchOnly (unnamed w then) (forgetting n.row n.secure)
  forgetting_touch w = touch_both (unnamed w then) (only_if (goes n.row.secure n.secure) (GkForget n.row.secure ∷ Remove (handle_name n.row.user) ∷ [])) (Sync ∷ []) (by (goes n.row.secure n.secure) refl) (tt, tt)
    where
      by : (b : Bool) → goes n.row.secure n.secure ≡ b → AllTouchOnly (unnamed w then) (only_if b (GkForget n.row.secure ∷ Remove (handle_name n.row.user) ∷ []))
      by true lost = (secure_gone (has_weaver w) lost, (handle_gone w lost, tt))
      by false kept = tt

  -- ---- behind what is written

  module _ (w : World) (slot : FitsSlots n.slot w) (free : IsUnnamedProtector w r (credential_of row) n.slot) (s : SecretValue) (bytes handle : List ℕ)
      (o : Option ℕ) (elsewhere : (z : Protector) → NamesProtector r z → z ≢ gone → IsElsewhere w gone.id o z) (other : (k : ℕ) → o ≡ Some k → n.slot ≢ Some k) where
    abbrev end : World
    end = last r is n fits w slot free s bytes handle

    same : SameNamed r w end
    same = same_named r is n fits w slot free s bytes handle

    others : (z : Protector) → NamesProtector then z → IsElsewhere end gone.id o z
    others z h = by (next_cases z h)
      where
        by : (NamesProtector r z × (z ≢ gone)) ⊎ (z ≡ credential_of row) → IsElsewhere end gone.id o z
        by (inl old) = let its = elsewhere z old.0 old.1 in record {
          id_apart = its.id_apart;
          slot_apart = λ k number. its.slot_apart k (sym (number_stays r w end same z old.0) ∙ number);
        }
        by (inr new) = record {
          id_apart = λ e. fits.other gone gone_named (sym e ∙ ap (λ (p : Protector). p.id) new);
          slot_apart = λ k number kept. other k kept (sym (number_is r is n fits w slot free s bytes handle) ∙ (ap (held_number end) (sym new) ∙ number));
        }

    pub gone_unnamed : IsUnnamedProtector end then gone o
    gone_unnamed = unnamed_protector end then (next_is r is n fits) gone o (numbers r is gone gone_named) (λ enrolled. (is_row r is n.row fits.here).protector.0) others

    pub leaving_touch : AllTouchOnly (unnamed end then) (leaving n o)
    leaving_touch = touch_both (unnamed end then) (erasing_actions gone o) (forgetting n.row n.secure) (erasing_touch end then gone o (next_is r is n fits) gone_unnamed) (forgetting_touch end)
