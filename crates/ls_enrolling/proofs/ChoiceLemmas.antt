-- What is chosen of a new user fits the record, and the plan is made of it.
use Rattle.std.proofs.Common.{◌≡◌, ◌≢◌, ◌⊎◌, inl, inr, ◌<◌, ◌+◌, ◌*◌, ◌^◌, not, ℕ, Bool, true, false, cond, List, [], ◌∷◌, length, IsTrue, Option, None, Some, refl, sym, ap, subst, ◌∙◌, arith}
use Rattle.std.specs.Prelude.{◌==◌, find, is_some, slice_index}
use Rattle.std.specs.List.{Contains}
use Rattle.std.proofs.lemmas.Bool.{eq-eqb, ne_eqb}
use Rattle.ls_board.specs.Acts.{Sight}
use Rattle.ls_credential.specs.declared.kind.Kind.TheVariants.{Empty}
use Rattle.ls_credential.specs.Rules.{KindAndText}
use Rattle.ls_formats.specs.declared.parts.Parts.{Parts}
use Rattle.ls_placing.specs.Placing.{HasNewPlace}
use Rattle.ls_protector.specs.Drafts.{drafted, IsSignedDraft, MayBeAsked}
use Rattle.ls_protector.specs.Steps.{Drafted}
use Rattle.ls_record.specs.declared.edit.Edit.TheVariants.{PutRow}
use Rattle.ls_record.specs.declared.row.UserRow.{UserRow}
use Rattle.ls_record.specs.Edits.{changed}
use Rattle.ls_record.specs.Rows.{is_protector_id}
use Rattle.ls_sealing.specs.Building.{for_credential}
use Rattle.ls_sealing.specs.Draws.{credential_draw_size}
use Rattle.ls_secret.specs.Secrets.{SecretValue, IsSecret, new_secret}
use Rattle.ls_settings.specs.Commits.{IsCommit}
use Rattle.ls_standing.proofs.ContainsLemmas.{none_in, first_or_behind}
use Rattle.ls_turn.specs.declared.session.Session.{Session}
use Rattle.ls_turn.specs.Agreeing.{retired_files}
use Rattle.ls_turn.specs.Serving.{CanServe, FitsBoard}
use Rattle.ls_vault.specs.Drawn.{credential_len}
use Rattle.ls_enrolling.specs.declared.numbers.Numbers.{Numbers}
use Rattle.ls_enrolling.specs.declared.planned.Planned.{Planned}
use Rattle.ls_enrolling.specs.declared.planned.Besides.{Besides}
use Rattle.ls_enrolling.specs.Enrolling.{draw_len, first_half, second_half, half_files, protector_bytes, row_then}
use Rattle.ls_enrolling.specs.Planning.{IsChoice, IsPlan, MayCome, chosen_by}

-- without a row of the user each row is another user's
pub nobody_of : (rows : List UserRow) (user : ℕ) → find (λ row. row.user == user) rows ≡ None → (other : UserRow) → Contains rows other → other.user ≢ user
nobody_of [] user none other has = absurd (none_in other has)
nobody_of (x ∷ rows) user none other has = λ same. by same (x.user == user) refl none (nobody_of rows user)
  where
    some_none : ◌≡◌ {A = Option UserRow} (Some x) None → ⊥
    some_none e = cc

    by : other.user ≡ user → (b : Bool) → (x.user == user) ≡ b → cond b (Some x) (find (λ row. row.user == user) rows) ≡ None
        → (find (λ row. row.user == user) rows ≡ None → (other : UserRow) → Contains rows other → other.user ≢ user) → ⊥
    by same true is hit later = some_none hit
    by same false is miss later = first (first_or_behind x rows other has)
      where
        first : (x ≡ other) ⊎ Contains rows other → ⊥
        first (inl e) = let bad : true ≡ false = sym (eq-eqb x.user user (ap (λ (r : UserRow). r.user) e ∙ same)) ∙ is in cc
        first (inr k) = later miss other k same

-- ---- the choice

-- how many bytes are drawn for the protector and its id
size_is : (slots : ℕ) (weaver : Bool) → (slots == 0) ≡ not weaver → credential_len slots Empty ≡ 8 + credential_draw_size weaver Empty
size_is slots true is = ap (λ (b : Bool). 8 + 32 + 2 * 12 + 0 + cond b (16384 + 0) 16) is
size_is slots false is = ap (λ (b : Bool). 8 + 32 + 2 * 12 + 0 + cond b (16384 + 0) 16) is

slots_none : (slots : ℕ) (o : Option ℕ) → FitsBoard slots o → (slots == 0) ≡ not (is_some o)
slots_none slots None fits = eq-eqb slots 0 fits
slots_none slots (Some k) fits = ne_eqb slots 0 (omega (arith, fits))

module _ (b : Sight) (x : Session) (can : CanServe b x) (user : ℕ) (escrow : Bool) (drawn : List ℕ) (n : Numbers) where
  pub choice_is : MayCome x user → user < 2 ^ 32 → length drawn ≡ draw_len x.slots escrow → ((i : ℕ) → slice_index drawn i < 256)
      → HasNewPlace x.named.items (retired_files x) n.id n.slot → FitsBoard x.slots n.slot → is_protector_id n.id ≡ true → n.id < 2 ^ 64
      → (s : SecretValue) → s ≡ new_secret (first_half drawn) (second_half drawn) → IsSecret s → IsChoice x (chosen_by user escrow drawn n)
  choice_is may small long each place fits even id s made is_secret = record {
    chosen = record {
      none = nobody_of x.settings.settled.rec.users user may.none;
      room = may.few;
      small = small;
      even = even;
      id = id;
      other = λ q named e. let z = can.each q named in place.ids z.0 z.1 (ap (λ (p : Parts). p.id) z.2.2 ∙ e);
      secret = subst IsSecret made is_secret;
      drawn = record {
        long = let size = size_is x.slots (is_some n.slot) (slots_none x.slots n.slot fits) in omega (arith, long, size);
        each = each;
      };
    };
    place = place;
    fits = fits;
  }

  -- ---- the plan

  abbrev plan_of : Drafted → Besides → Planned
  plan_of draft z = record { id = n.id; slot = n.slot; draft = draft; others = z.others; commit = z.commit }

  abbrev secret_then : SecretValue
  secret_then = new_secret (first_half drawn) (second_half drawn)

  abbrev none_then : KindAndText
  none_then = record { kind = Empty; text = [] }

  -- what is so by what is at hand is so by what is chosen
  same_draft : (P : KindAndText → SecretValue → List ℕ → Type 0) (c : KindAndText) (s : SecretValue) (bytes : List ℕ) → c ≡ none_then → s ≡ secret_then → bytes ≡ protector_bytes escrow drawn
      → P c s bytes → P none_then secret_then (protector_bytes escrow drawn)
  same_draft P c s bytes is made cut has =
      subst (λ (l : List ℕ). P none_then secret_then l) cut
      (subst (λ (t : SecretValue). P none_then t bytes) made
      (subst (λ (d : KindAndText). P d s bytes) is has))

  pub plan_is : (new : Sight) → IsChoice x (chosen_by user escrow drawn n) → (c : KindAndText) (s : SecretValue) (bytes : List ℕ) → c ≡ none_then → s ≡ secret_then → bytes ≡ protector_bytes escrow drawn
      → (draft : Drafted) → IsSignedDraft user n.id n.slot c s bytes draft → MayBeAsked b.slots draft.plan
      → (IsTrue new.told → draft ≡ drafted user n.id n.slot (for_credential c s) bytes new.world.gk_key)
      → (z : Besides) → z.others ≡ half_files user escrow s drawn → IsCommit x.settings z.commit.to z.commit.actions
      → z.commit.to.settled.rec ≡ changed x.settings.settled.rec (PutRow (row_then (chosen_by user escrow drawn n)))
      → IsPlan new x user escrow drawn (plan_of draft z)
  plan_is new choice c s bytes is made cut draft signed asked written z others commit next = record {
    choice = choice;
    draft = same_draft (λ c s bytes. IsSignedDraft user n.id n.slot c s bytes draft) c s bytes is made cut signed;
    asked = subst (λ (m : ℕ). MayBeAsked m draft.plan) (sym can.slots) asked;
    written = λ told. same_draft (λ c s bytes. draft ≡ drafted user n.id n.slot (for_credential c s) bytes new.world.gk_key) c s bytes is made cut (written told);
    others = others ∙ ap (λ (t : SecretValue). half_files user escrow t drawn) made;
    commit = commit;
    next = next;
  }
