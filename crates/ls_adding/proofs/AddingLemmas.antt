-- What adds a user is quiet, and readies the next record.
use Rattle.std.proofs.Common.{List, [], ◌∷◌, ◌++◌, sym, subst}
use Rattle.ls_board.specs.declared.action.Action.{Action}
use Rattle.ls_board.specs.declared.action.Action.TheVariants.{Sync}
use Rattle.ls_board.specs.declared.world.World.{World}
use Rattle.ls_board.specs.Reach.{Reach, AllTouchOnly}
use Rattle.ls_board.specs.Runs.{after_all, AllApply}
use Rattle.ls_record.specs.Rows.{Rec}
use Rattle.ls_sealing.specs.Building.{writing_actions, writing_of, for_credential}
use Rattle.ls_settings.specs.Loaded.{Loaded}
use Rattle.ls_standing.specs.Named.{credential_of}
use Rattle.ls_standing.specs.Quiet.{unnamed}
use Rattle.ls_standing.specs.Standing.{Holds, NamedAreUntouched, StandsDurably}
use Rattle.ls_standing.proofs.TouchLemmas.{writing_touch}
use Rattle.ls_vault.specs.declared.vault.Vault.{Vault}
use Rattle.ls_change.specs.declared.work.Work.{Work}
use Rattle.ls_change.specs.Work.{IsQuietWork, Readies, staged, next_of}
use Rattle.ls_edits.proofs.ReadyLemmas.{readied, readied_untouched}
use Rattle.ls_adding.specs.Adding.{NewUser, row_of, user_of, written, with_new, AddsUser}

synced : (reach : Reach) (xs : List Action) → AllTouchOnly reach xs → AllTouchOnly reach (xs ++ Sync ∷ [])
synced reach [] all = (tt, tt)
synced reach (x ∷ xs) all = (all.0, synced reach xs all.1)

module _ (w : World) (s : Loaded) (k : Work) (n : NewUser) (adds : AddsUser w s k n) where
  pub adding_quiet : IsQuietWork w s k
  adding_quiet = record {
    ready = adds.ready;
    before = subst (λ (l : List Action). AllTouchOnly (unnamed w s.settled.rec) l) (sym adds.before)
        (synced (unnamed w s.settled.rec) (writing_actions (credential_of (row_of n)) n.slot (writing_of n.id n.slot (for_credential (user_of n).credential (user_of n).secret) n.bytes w.gk_key))
        (writing_touch w s.settled.rec (credential_of (row_of n)) n.slot adds.rules adds.unnamed (writing_of n.id n.slot (for_credential (user_of n).credential (user_of n).secret) n.bytes w.gk_key)));
    applies = adds.applies;
    after = subst (λ (l : List Action). AllTouchOnly (unnamed (staged w k) (next_of k)) l) (sym adds.after) tt;
    follows = subst (λ (l : List Action). AllApply (after_all w (k.before ++ k.commit.actions)) l) (sym adds.after) tt;
  }

  pub adding_readies : (v : Vault) → StandsDurably w s.settled v → Readies w k (with_new v n)
  adding_readies v was = record {
    holds = subst (λ (l : List Action). Holds (after_all w l) (next_of k) (with_new v n)) (sym adds.before)
        (subst (λ (r : Rec). Holds (after_all w (written w n)) r (with_new v n)) (sym adds.next)
        (readied w s.settled.rec v n.user n.id n.slot n.drawn n.bytes adds.rules was.stands.holds adds.none adds.may adds.unnamed adds.fits adds.secret adds.drawn));
    untouched = subst (λ (l : List Action). NamedAreUntouched (after_all w l) (next_of k)) (sym adds.before)
        (subst (λ (r : Rec). NamedAreUntouched (after_all w (written w n)) r) (sym adds.next)
        (readied_untouched w s.settled.rec v n.user n.id n.slot n.drawn n.bytes adds.rules was.stands.holds adds.none adds.may adds.unnamed adds.fits adds.secret adds.drawn));
  }
