-- A first user can be added to a record without users.
use Rattle.std.proofs.Common.{◌≡◌, ◌≢◌, ◌<◌, ◌^◌, true, List, [], ◌∷◌, ◌++◌, None, refl, sym, subst, arith}
use Rattle.std.specs.Prelude.{is_some, not, ◌==◌, ◌%◌}
use Rattle.std.specs.List.{Contains}
use Rattle.std.proofs.lemmas.Bool.{and_parts, not-true, eqb-false}
use Rattle.ls_board.specs.declared.action.Action.{Action}
use Rattle.ls_board.specs.declared.action.Action.TheVariants.{Sync}
use Rattle.ls_board.specs.declared.world.World.{World}
use Rattle.ls_board.specs.Effect.{after}
use Rattle.ls_board.specs.Runs.{AllApply}
use Rattle.ls_credential.specs.declared.kind.Kind.TheVariants.{Empty}
use Rattle.ls_formats.specs.Contents.{AreBytes}
use Rattle.ls_record.specs.declared.edit.Edit.TheVariants.{PutRow}
use Rattle.ls_record.specs.Edits.{changed as edited, MayChange}
use Rattle.ls_record.specs.Rows.{Rec, rec, IsRecord, is_protector_id}
use Rattle.ls_sealing.specs.Building.{FitsSlots, writing_actions, writing_of, for_credential}
use Rattle.ls_sealing.specs.Draws.{credential_draw_size}
use Rattle.ls_sealing.proofs.ActionLemmas.{applies}
use Rattle.ls_secret.specs.Secrets.{IsSecret}
use Rattle.ls_settings.specs.Commits.{Prepared}
use Rattle.ls_settings.specs.Loaded.{Loaded, IsReady}
use Rattle.ls_standing.specs.Named.{credential_of}
use Rattle.ls_standing.specs.Quiet.{IsUnnamedProtector}
use Rattle.ls_standing.proofs.ContainsLemmas.{none_in}
use Rattle.ls_change.specs.declared.work.Work.{Work}
use Rattle.ls_adding.specs.Adding.{NewUser, row_of, user_of, written, AddsUser}

abbrev nothing : Rec
nothing = rec [] None

apply_synced : (w : World) (xs : List Action) → AllApply w xs → AllApply w (xs ++ Sync ∷ [])
apply_synced w [] all = (tt, tt)
apply_synced w (x ∷ xs) all = (all.0, apply_synced (after w x 0) xs all.1)

module _ (w : World) (s : Loaded) (c : Prepared) (n : NewUser) (ready : IsReady w s) (none : s.settled.rec ≡ nothing) (next : c.to.settled.rec ≡ edited nothing (PutRow (row_of n)))
    (small : n.user < 2 ^ 32) (even : is_protector_id n.id ≡ true) (fits_id : n.id < 2 ^ 64) (fits : FitsSlots n.slot w) (secret : IsSecret (user_of n).secret)
    (are : AreBytes (credential_draw_size (is_some n.slot) Empty) n.bytes) where
  abbrev k : Work
  k = record { before = written w n; commit = c; after = [] }

  nothing_is : IsRecord nothing
  nothing_is = record { few = omega arith; rows = tt; pairs = tt; armed = tt }

  may_first : MayChange nothing (PutRow (row_of n))
  may_first = (record { user = small; pin = refl; protector = (even, fits_id); secure = (refl, omega arith); few = refl; tokens = tt; once = tt }, refl, tt)

  other : n.id ≢ 0
  other = eqb-false n.id 0 (not-true (n.id == 0) (and_parts (n.id % 2 == 0) (not (n.id == 0)) even).1)

  some : 0 < n.id
  some = omega (arith, other)

  first_unnamed : IsUnnamedProtector w nothing (credential_of (row_of n)) n.slot
  first_unnamed = record {
    numbers = record { user = small; some = some; id = fits_id };
    key = λ named. none_in n.id named;
    its_slot = λ m e named. none_in named.name named.named;
    counter = λ e named. none_in n.id named;
  }

  pub adds_first : AddsUser w s k n
  adds_first = record {
    ready = ready;
    rules = subst IsRecord (sym none) nothing_is;
    none = λ x h. absurd (none_in x (subst (λ (r : Rec). Contains r.users x) none h));
    may = subst (λ (r : Rec). MayChange r (PutRow (row_of n))) (sym none) may_first;
    unnamed = subst (λ (r : Rec). IsUnnamedProtector w r (credential_of (row_of n)) n.slot) (sym none) first_unnamed;
    fits = fits;
    secret = secret;
    drawn = are;
    before = refl;
    applies = apply_synced w (writing_actions (credential_of (row_of n)) n.slot (writing_of n.id n.slot (for_credential (user_of n).credential (user_of n).secret) n.bytes w.gk_key))
        (applies (credential_of (row_of n)) (writing_of n.id n.slot (for_credential (user_of n).credential (user_of n).secret) n.bytes w.gk_key) w n.slot);
    next = subst (λ (r : Rec). c.to.settled.rec ≡ edited r (PutRow (row_of n))) (sym none) next;
    after = refl;
  }
