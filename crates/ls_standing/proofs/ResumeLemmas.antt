-- What the taking of the resume key leaves of what a world stands for.
use Rattle.std.proofs.Common.{◌≡◌, ◌⊎◌, inl, inr, ⊎_elim, ℕ, Bool, true, false, List, [], ◌∷◌, Option, None, refl, sym, subst}
use Rattle.std.specs.Prelude.{MatchBool}
use Rattle.std.specs.List.{AllZip}
use Rattle.ls_record.specs.declared.row.UserRow.{UserRow}
use Rattle.ls_arming.specs.declared.arming.Arming.{Arming}
use Rattle.ls_naming.specs.Named.{is_armed}
use Rattle.ls_naming.specs.Current.{Settled}
use Rattle.ls_board.specs.declared.action.Action.TheVariants.{ResumeTake}
use Rattle.ls_board.specs.declared.world.World.{World}
use Rattle.ls_board.specs.Effect.{after}
use Rattle.ls_board.specs.Images.{Within, LeavesWithin}
use Rattle.ls_vault.specs.declared.user.User.{User}
use Rattle.ls_vault.specs.declared.vault.Vault.{Vault}
use Rattle.ls_sealing.specs.Protectors.{Held, where_it_has}
use Rattle.ls_standing.specs.Named.{UserHeld, held_of_row}
use Rattle.ls_standing.specs.Standing.{HoldsEscrow, HoldsHandle, HoldsUser, HoldsResume, StandsDurably}
use Rattle.ls_standing.proofs.QuietLemmas.{durably_left}

no_key : (b : Bool) → where_it_has {X = List ℕ} b None ≡ None
no_key true = refl
no_key false = refl

without_key : (h : UserHeld) (u : User) → h.cell ≡ None → HoldsResume h u
without_key h u none = subst (λ (o : Option (List ℕ)). HoldsResume (record h { cell = o }) u) (sym none) tt

module _ (h : UserHeld) (cell : Option (List ℕ)) (u : User) where
  escrow_holds : (b : Bool) (sealings : List Held) (P : Type 0) → MatchBool b (HoldsEscrow h sealings u) P → MatchBool b (HoldsEscrow (record h { cell = cell }) sealings u) P
  escrow_holds true sealings P holds = record { p0 = holds.p0; e0 = holds.e0; whole = holds.whole; tokens = holds.tokens }
  escrow_holds false sealings P holds = holds

  handle_holds : HoldsHandle h u → HoldsHandle (record h { cell = cell }) u
  handle_holds holds = record { handle = holds.handle; counter = holds.counter }

module _ (w : World) (armed : Option Arming) where
  user_holds : (row : UserRow) (u : User) → HoldsUser row (held_of_row w armed row) u → HoldsUser row (held_of_row (after w ResumeTake 0) armed row) u
  user_holds row u holds = let h = (held_of_row w armed row).user in let none : Option (List ℕ) = where_it_has (is_armed armed row.user) None in record {
    says = holds.says;
    seals = holds.seals;
    counted = holds.counted;
    metrics = holds.metrics;
    escrow = escrow_holds h none u u.escrow (held_of_row w armed row).tokens (u.tokens ≡ []) holds.escrow;
    handle = λ some. handle_holds h none u (holds.handle some);
    resume = without_key (held_of_row (after w ResumeTake 0) armed row).user u (no_key (is_armed armed row.user));
  }

  users_hold : (rows : List UserRow) (users : List User) → AllZip (λ row u. HoldsUser row (held_of_row w armed row) u) rows users
      → AllZip (λ row u. HoldsUser row (held_of_row (after w ResumeTake 0) armed row) u) rows users
  users_hold [] [] all = tt
  users_hold [] (u ∷ users) all = absurd all
  users_hold (row ∷ rows) [] all = absurd all
  users_hold (row ∷ rows) (u ∷ users) all = (user_holds row u all.0, users_hold rows users all.1)

module _ (s : Settled) (v : Vault) where
  abbrev unarmed : Vault
  unarmed = record v { arming = None }

  pub taken : (w : World) → StandsDurably w s v → StandsDurably (after w ResumeTake 0) s unarmed
  taken w stands = record {
    stands = record {
      settings = stands.stands.settings;
      target = stands.stands.target;
      holds = record {
        users = users_hold w s.rec.armed s.rec.users v.users stands.stands.holds.users;
        files = stands.stands.holds.files;
        arming = refl;
      };
    };
    settings = stands.settings;
    named = stands.named;
  }

  pub taken_within : (w mid : World) → StandsDurably w s v → Within w ResumeTake mid → StandsDurably mid s v ⊎ StandsDurably mid s unarmed
  taken_within w mid stands within =
      ⊎_elim (λ is. inl (subst (λ (x : World). StandsDurably x s v) (sym is) stands))
      (λ is. inr (subst (λ (x : World). StandsDurably x s unarmed) (sym is) (taken w stands))) within

  pub taken_cut : (w image : World) → StandsDurably w s v → LeavesWithin w ResumeTake image → StandsDurably image s v ⊎ StandsDurably image s unarmed
  taken_cut w image stands left =
      ⊎_elim (λ one. inl (durably_left left.0 image s v one left.2)) (λ other. inr (durably_left left.0 image s unarmed other left.2))
      (taken_within w left.0 stands left.1)
