-- A new user without escrow and without a credential.
use Rattle.std.proofs.Common.{◌≡◌, ◌≢◌, ℕ, ◌||◌, Bool, true, false, cond, List, [], ◌∷◌, Option, None, Some, refl, sym, ap, subst, ◌∙◌}
use Rattle.std.specs.Prelude.{◌==◌, IfSome, IsSomeAnd}
use Rattle.std.specs.List.{AllByRecursion, Contains}
use Rattle.std.proofs.lemmas.Bool.{eqb-true, ne_eqb}
use Rattle.ls_board.specs.declared.world.World.{World}
use Rattle.ls_board.specs.Effect.{file_at}
use Rattle.ls_board.specs.Gatekeeper.{no_fails}
use Rattle.ls_formats.specs.declared.part.FilePart.TheVariants.{Resume}
use Rattle.ls_naming.specs.Named.{NamesSlot, is_armed, only_if}
use Rattle.ls_record.specs.declared.edit.Edit.TheVariants.{PutRow}
use Rattle.ls_arming.specs.declared.arming.Arming.{Arming}
use Rattle.ls_record.specs.declared.row.UserRow.{UserRow}
use Rattle.ls_record.specs.Edits.{changed as edited, MayChange}
use Rattle.ls_record.specs.Rows.{Rec, IsRecord, IsArming, has, has_row}
use Rattle.ls_sealing.specs.Protectors.{has_weaver, held, held_number, failures}
use Rattle.ls_sealing.specs.Seals.{Seals, ShowsMetrics}
use Rattle.ls_standing.specs.Named.{credential_of, held_of_row}
use Rattle.ls_sealing.specs.HeldBytes.{AllHoldBytes}
use Rattle.ls_standing.specs.Standing.{Holds, HoldsUser}
use Rattle.ls_sealing.specs.Chain.{opened_resume}
use Rattle.ls_standing.proofs.ContainsLemmas.{none_in, at_first, behind_first}
use Rattle.ls_standing.proofs.SoundLemmas.{credential_sound}
use Rattle.ls_vault.specs.declared.user.User.{User}
use Rattle.ls_vault.specs.declared.vault.Vault.{Vault}
use Rattle.ls_vault.specs.Users.{with_user}
use Rattle.ls_vault.specs.UserChanges.{new_user}
use Rattle.ls_edits.specs.Rows.{new_row}
use Rattle.ls_edits.proofs.PutLemmas.{put_in}
use Rattle.ls_edits.proofs.SoundRowLemmas.{with_credential}

no_row : (rows : List UserRow) (user : ℕ) → ((other : UserRow) → Contains rows other → other.user ≢ user) → has_row rows user ≡ false
no_row [] user none = refl
no_row (x ∷ rows) user none =
    ap (λ (b : Bool). b || has_row rows user) (ne_eqb x.user user (none x (at_first x rows))) ∙ no_row rows user (λ other h. none other (behind_first x rows other h))

has_there : (rows : List UserRow) (users : List ℕ) (user : ℕ) → AllByRecursion (λ u. has_row rows u ≡ true) users → has users user ≡ true → has_row rows user ≡ true
has_there rows [] user all e = absurd (cc)
has_there rows (u ∷ users) user all e = by (u == user) refl e (has_there rows users user all.1)
  where
    by : (b : Bool) → (u == user) ≡ b → (b || has users user) ≡ true → (has users user ≡ true → has_row rows user ≡ true) → has_row rows user ≡ true
    by true is e later = subst (λ (n : ℕ). has_row rows n ≡ true) (eqb-true u user is) all.0
    by false is e later = later e

-- a user without a row isn't armed
pub not_armed : (rows : List UserRow) (o : Option Arming) (user : ℕ) → IfSome o (IsArming rows) → ((other : UserRow) → Contains rows other → other.user ≢ user) → is_armed o user ≡ false
not_armed rows None user is none = refl
not_armed rows (Some a) user is none = by (has a.users user) refl
  where
    by : (b : Bool) → has a.users user ≡ b → b ≡ false
    by true e = let bad : true ≡ false = sym (has_there rows a.users user is.there e) ∙ no_row rows user none in absurd (cc)
    by false e = refl

module _ (w : World) (r : Rec) (v : Vault) (user id : ℕ) (drawn : List ℕ) (is : IsRecord r) (holds : Holds w r v)
    (none : (other : UserRow) → Contains r.users other → other.user ≢ user) (may : MayChange r (PutRow (new_row user id))) where
  abbrev row : UserRow
  row = new_row user id

  abbrev u : User
  u = new_user user false drawn

  closed : is_armed r.armed user ≡ false
  closed = not_armed r.users r.armed user is.armed none

  module _ (seals : Seals id (held w (credential_of row)) u.credential u.secret) (shows : ShowsMetrics (held w (credential_of row)) u.credential u.secret)
      (counted : failures (held w (credential_of row)) ≡ no_fails) (bytes : AllHoldBytes (held w (credential_of row)))
      (fresh : (slot : ℕ) → held_number w (credential_of row) ≡ Some slot → ¬ (NamesSlot (has_weaver w) r (file_at w) slot)) where
    new_held : HoldsUser row (held_of_row w r.armed row) u
    new_held = record {
      says = record { number = refl; kind = refl; rule = refl; escrow = refl; auto = refl; pin = refl; secure = refl; tokens = refl };
      seals = seals;
      counted = counted;
      metrics = shows;
      escrow = refl;
      handle = λ some. absurd (some refl);
      resume = subst (λ (b : Bool). IfSome (cond b w.cell None) (λ once. IsSomeAnd ((held_of_row w r.armed row).user.files Resume) (λ file. opened_resume (held_of_row w r.armed row).user.key once file ≡ Some u.secret.sp))) (sym closed) tt;
    }

    pub added_holds : Holds w (edited r (PutRow row)) (record v { users = with_user v.users u })
    added_holds = put_in w r row v is holds
        (with_credential w r is holds.files row may
        (λ part own. absurd (none_in part (subst (λ (b : Bool). Contains (only_if b (Resume ∷ [])) part) closed own)))
        (λ part has. credential_sound w row u.credential u.secret seals shows bytes refl may.0.protector.1 part has) fresh (λ id h. absurd (none_in id h)))
        u none new_held
