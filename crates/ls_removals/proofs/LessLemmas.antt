-- A row with fewer parts is put: what the next record leaves out.
use Rattle.std.proofs.Common.{◌≡◌, ◌≢◌, ◌⊎◌, inl, inr, ⊎_elim, not, ℕ, Bool, true, false, List, [], ◌∷◌, ◌++◌, sym, ◌∙◌, ap, subst}
use Rattle.std.specs.Prelude.{◌==◌, ◌&&◌}
use Rattle.std.specs.List.{Contains}
use Rattle.std.proofs.lemmas.Bool.{cases_eq, ne_eqb}
use Rattle.std.proofs.lemmas.List.Elements.{Contains-append_left}
use Rattle.ls_board.specs.declared.action.Action.{Action}
use Rattle.ls_board.specs.declared.action.Action.TheVariants.{Remove}
use Rattle.ls_board.specs.declared.world.World.{World}
use Rattle.ls_board.specs.Reach.{AllTouchOnly}
use Rattle.ls_board.specs.Runs.{AllSound}
use Rattle.ls_edits.specs.Rows.{HasNoNewPart}
use Rattle.ls_edits.proofs.MayLemmas.{may_put_less}
use Rattle.ls_edits.proofs.PartLemmas.{less_files, less_protectors}
use Rattle.ls_edits.proofs.PutRowLemmas.{of_put, row_put, others_put}
use Rattle.ls_edits.proofs.SoundRowLemmas.{one_user}
use Rattle.ls_formats.specs.declared.part.FilePart.{FilePart}
use Rattle.ls_formats.specs.PartNames.{PartOf}
use Rattle.ls_naming.specs.Named.{NamesFile, NamesEnrolled, has_credential, has_secure, only_if, parts_of, row_enrolled, row_files, user_parts, credential_parts, token_files}
use Rattle.ls_record.specs.declared.edit.Edit.TheVariants.{PutRow}
use Rattle.ls_record.specs.declared.row.UserRow.{UserRow}
use Rattle.ls_record.specs.Edits.{changed as edited, MayChange}
use Rattle.ls_record.specs.Rows.{Rec, IsRecord, IsRow}
use Rattle.ls_record.proofs.ChangeLemmas.{changed_keeps}
use Rattle.ls_retiring.specs.Retiring.{own_name}
use Rattle.ls_sealing.specs.Protectors.{Protector}
use Rattle.ls_standing.specs.Clearing.{AllTakeAway}
use Rattle.ls_standing.specs.NamedProtectors.{NamesProtector, row_protectors}
use Rattle.ls_standing.specs.Quiet.{unnamed}
use Rattle.ls_standing.proofs.ContainsLemmas.{at_first, in_map, in_flat, of_flat}
use Rattle.ls_turn.proofs.RowLemmas.{one_row}
use Rattle.ls_removals.specs.declared.going.Going.{Going}
use Rattle.ls_removals.specs.Going.{goes, goes_of}
use Rattle.ls_removals.specs.Letting.{LeavesOut}

module _ (r : Rec) (is : IsRecord r) (old row : UserRow) (here : Contains r.users old) (less : HasNoNewPart old row) (fits : IsRow row) where
  abbrev pub next : Rec
  next = edited r (PutRow row)

  pub may : MayChange r (PutRow row)
  may = may_put_less r is old row here less fits

  next_is : IsRecord next
  next_is = changed_keeps r is (PutRow row) may

  -- ---- rows

  -- a row is that of the user, or it stays
  row_cases : (x : UserRow) → Contains r.users x → (x ≡ old) ⊎ Contains next.users x
  row_cases x within = ⊎_elim
      (λ (e : x.user ≡ old.user). inl (one_row r is old here x within e))
      (λ (apart : x.user ≢ old.user). inr (others_put r row x within (λ e. apart (e ∙ less.user))))
      (cases_eq x.user old.user)

  -- ---- what it names still

  files : (weaver : Bool) (name : PartOf) → NamesFile weaver next name → NamesFile weaver r name
  files weaver name named = from (of_flat (row_files weaver r.armed) next.users name named)
    where
      by : (x : UserRow) → Contains (row_files weaver r.armed x) name → (Contains r.users x × (x.user ≢ row.user)) ⊎ (x ≡ row) → NamesFile weaver r name
      by x own (inl other) = in_flat (row_files weaver r.armed) r.users x name other.0 own
      by x own (inr e) = in_flat (row_files weaver r.armed) r.users old name here
          (less_files old row less weaver r.armed name (subst (λ (z : UserRow). Contains (row_files weaver r.armed z) name) e own))

      from : (x : UserRow) × Contains next.users x × Contains (row_files weaver r.armed x) name → NamesFile weaver r name
      from found = by found.0 found.2 (of_put r row found.0 found.1)

  secure_of : (weaver : Bool) (x : UserRow) → Contains next.users x → has_secure x ≡ true → NamesEnrolled weaver next x.secure
  secure_of weaver x there has =
      in_flat (row_enrolled weaver) next.users x x.secure there
      (Contains-append_left (only_if (has_secure x) (x.secure ∷ [])) (only_if (not weaver && has_credential x.kind) (x.protector ∷ [])) x.secure
      (subst (λ (b : Bool). Contains (only_if b (x.secure ∷ [])) x.secure) (sym has) (at_first x.secure [])))

  secure : (weaver : Bool) (x : UserRow) → Contains r.users x → has_secure x ≡ true → NamesEnrolled weaver next x.secure
  secure weaver x within has = by (row_cases x within)
    where
      by : (x ≡ old) ⊎ Contains next.users x → NamesEnrolled weaver next x.secure
      by (inl e) =
          let its : row.secure ≡ x.secure = less.secure ∙ ap (λ (z : UserRow). z.secure) (sym e) in
          subst (λ (n : ℕ). NamesEnrolled weaver next n) its (secure_of weaver row (row_put r row) (ap (λ (n : ℕ). not (n == 0)) its ∙ has))
      by (inr there) = secure_of weaver x there has

  abbrev own_of : UserRow → FilePart → PartOf
  own_of x part = record { user = x.user; id = 0; part = part }

  part_of : (weaver : Bool) (x : UserRow) → Contains next.users x → (part : FilePart) → Contains (user_parts r.armed x) part → NamesFile weaver next (own_of x part)
  part_of weaver x there part own =
      in_flat (row_files weaver r.armed) next.users x (own_of x part) there
      (Contains-append_left (parts_of x.user 0 (user_parts r.armed x)) (parts_of x.user x.protector (credential_parts weaver x.kind) ++ token_files weaver x) (own_of x part)
      (in_map (own_of x) (user_parts r.armed x) part own))

  module _ (after : List Action) (own : (part : FilePart) → Contains (user_parts r.armed old) part → Contains (user_parts r.armed row) part ⊎ Contains after (Remove (own_name old.user part))) where
    parts : (weaver : Bool) (x : UserRow) → Contains r.users x → (part : FilePart) → Contains (user_parts r.armed x) part
        → NamesFile weaver next (own_of x part) ⊎ Contains after (Remove (own_name x.user part))
    parts weaver x within part its = by (row_cases x within)
      where
        by : (x ≡ old) ⊎ Contains next.users x → NamesFile weaver next (own_of x part) ⊎ Contains after (Remove (own_name x.user part))
        by (inl e) = ⊎_elim
            (λ (k : Contains (user_parts r.armed row) part).
            inl (subst (λ (n : ℕ). NamesFile weaver next (record { user = n; id = 0; part = part })) (less.user ∙ ap (λ (z : UserRow). z.user) (sym e)) (part_of weaver row (row_put r row) part k)))
            (λ (k : Contains after (Remove (own_name old.user part))). inr (subst (λ (z : UserRow). Contains after (Remove (own_name z.user part))) (sym e) k))
            (own part (subst (λ (z : UserRow). Contains (user_parts r.armed z) part) e its))
        by (inr there) = inl (part_of weaver x there part its)

    -- ---- protectors

    module _ (g : Going) (of_user : g.user ≡ old.user)
        (stays : (p : Protector) → Contains (row_protectors row) p → goes g p.user p.id ≡ false)
        (rests : (p : Protector) → Contains (row_protectors old) p → goes g p.user p.id ≡ false → Contains (row_protectors row) p) where
      back : (p : Protector) → NamesProtector next p → NamesProtector r p × (goes g p.user p.id ≡ false)
      back p named = from (of_flat row_protectors next.users p named)
        where
          other_user : p.user ≢ old.user → goes g p.user p.id ≡ false
          other_user apart = ap (λ (b : Bool). b && goes_of g.which p.id) (ne_eqb p.user g.user (λ e. apart (e ∙ of_user)))

          by : (x : UserRow) → Contains (row_protectors x) p → (Contains r.users x × (x.user ≢ row.user)) ⊎ (x ≡ row) → NamesProtector r p × (goes g p.user p.id ≡ false)
          by x its (inl other) = (in_flat row_protectors r.users x p other.0 its, other_user (λ e. other.1 (sym (one_user x p its) ∙ (e ∙ sym less.user))))
          by x its (inr e) =
              let there = subst (λ (z : UserRow). Contains (row_protectors z) p) e its in
              (in_flat row_protectors r.users old p here (less_protectors old row less p there), stays p there)

          from : (x : UserRow) × Contains next.users x × Contains (row_protectors x) p → NamesProtector r p × (goes g p.user p.id ≡ false)
          from found = by found.0 found.2 (of_put r row found.0 found.1)

      stay : (p : Protector) → NamesProtector r p → goes g p.user p.id ≡ false → NamesProtector next p
      stay p named none = from (of_flat row_protectors r.users p named)
        where
          by : (x : UserRow) → Contains (row_protectors x) p → (x ≡ old) ⊎ Contains next.users x → NamesProtector next p
          by x its (inl e) = in_flat row_protectors next.users row p (row_put r row) (rests p (subst (λ (z : UserRow). Contains (row_protectors z) p) e its) none)
          by x its (inr there) = in_flat row_protectors next.users x p there its

          from : (x : UserRow) × Contains r.users x × Contains (row_protectors x) p → NamesProtector next p
          from found = by found.0 found.2 (row_cases found.0 found.1)

      -- ---- what is left out

      pub less_leaves : ((slots : ℕ) → AllSound slots after) → AllTakeAway after → ((w : World) → AllTouchOnly (unnamed w next) after) → LeavesOut r next (goes g) after
      less_leaves sound away touch = record {
        rules = next_is;
        back = back;
        stay = stay;
        files = files;
        sound = sound;
        away = away;
        unnamed = touch;
        secure = λ weaver x within has. inl (secure weaver x within has);
        parts = parts;
        armed = λ some. inl some;
      }
