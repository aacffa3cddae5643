-- What carrying out the change asks, and where it leads.
use Rattle.std.proofs.Common.{◌≡◌, ◌<◌, ◌≤◌, ℕ, Bool, true, length, zero, suc, IsTrue, refl, sym, subst, arith}
use Rattle.ls_board.specs.Acts.{Sight}
use Rattle.ls_board.specs.Reach.{AllTouchOnly}
use Rattle.ls_change.specs.Work.{IsQuietWork, next_of}
use Rattle.ls_committing.specs.Committing.{IsReadied, CommitsChange, named_then, retired_then}
use Rattle.ls_exchange.specs.Exchanges.{Exchanged, plain, AreNew, AreNamed, AreLeftOut}
use Rattle.ls_record.specs.Rows.{Rec, is_protector_id}
use Rattle.ls_sealing.specs.Protectors.{HasNumbers}
use Rattle.ls_settings.specs.Commits.{IsCommit}
use Rattle.ls_settings.specs.Loaded.{settings_reach}
use Rattle.ls_standing.specs.Named.{credential_of}
use Rattle.ls_standing.specs.Quiet.{IsUnnamedProtector}
use Rattle.ls_vault.specs.declared.state.State.{State}
use Rattle.ls_vault.specs.Script.{Stage}
use Rattle.ls_turn.specs.declared.session.Session.{Session}
use Rattle.ls_turn.specs.Agreeing.{Agrees, ArePartNames, files_of}
use Rattle.ls_turn.specs.Serving.{CanServe, Turned, stage_in}
use Rattle.ls_turn.specs.Waiting.{CanWait}
use Rattle.ls_turn.specs.Working.{IsSoundWork, KeepsNamed, LeavesKept, LeadsTo}
use Rattle.ls_turn.proofs.WaitLemmas.{wait_new}
use Rattle.ls_enrolling.specs.declared.planned.Planned.{Planned}
use Rattle.ls_enrolling.specs.Enrolling.{row_then}
use Rattle.ls_enrolling.specs.Planning.{IsPlannedFor, chosen_of, exchange_of, added_turn}
use Rattle.ls_enrolling.proofs.SessionLemmas.{sound, names, left_out, retired, named, quiet, are_new, left}
use Rattle.ls_enrolling.proofs.LeadLemmas.{leads}

some_of : (n : ℕ) → is_protector_id n ≡ true → 0 < n
some_of zero even = absurd (cc)
some_of (suc n) even = omega arith

pub readied_itself : (x : Session) → IsReadied x x
readied_itself x = record { slots = refl; boot = refl; settings = refl; retired = refl; stopped = refl }

module _ (b : Sight) (x : Session) (user : ℕ) (escrow : Bool) (k : Planned) (p : IsPlannedFor b x user escrow k) where
  -- the numbers of the new protector
  pub new_numbers : HasNumbers (credential_of (row_then (chosen_of user escrow p.drawn k)))
  new_numbers = record {
    user = p.plan.choice.chosen.small;
    some = some_of k.id p.plan.choice.chosen.even;
    id = p.plan.choice.chosen.id;
  }

  module _ (can : CanServe b x) (work : Exchanged) (same : work ≡ exchange_of k) where
    pub is_sound : IsSoundWork x.slots (plain work)
    is_sound = subst (λ (z : Exchanged). IsSoundWork x.slots (plain z)) (sym same) (sound b x can p.may.rules user escrow p.drawn k p.plan)

    pub is_prepared : IsCommit x.settings work.commit.to work.commit.actions
    is_prepared = subst (λ (z : Exchanged). IsCommit x.settings z.commit.to z.commit.actions) (sym same) p.plan.commit

    pub are_named : AreNamed work
    are_named = subst AreNamed (sym same) (names b x can p.may.rules user escrow p.drawn k p.plan)

    pub is_left_out : AreLeftOut b.world work
    is_left_out = subst (AreLeftOut b.world) (sym same) (left_out b x can p.may.rules user escrow p.drawn k p.plan)

    pub are_files : ArePartNames (files_of (retired_then x work))
    are_files = subst (λ (z : Exchanged). ArePartNames (files_of (retired_then x z))) (sym same) (retired b x can p.may.rules user escrow p.drawn k p.plan)

    pub keeps_named : KeepsNamed x.slots (plain work) (named_then x work)
    keeps_named = subst (λ (z : Exchanged). KeepsNamed x.slots (plain z) (named_then x z)) (sym same) (named b x can p.may.rules user escrow p.drawn k p.plan)

    pub is_waiting : CanWait (next_of (plain work)).users x.pending.items
    is_waiting = subst (λ (z : Exchanged). CanWait (next_of (plain z)).users x.pending.items) (sym same)
        (subst (λ (r : Rec). CanWait r.users x.pending.items) (sym p.plan.next)
        (wait_new x.settings.settled.rec x.pending.items can.waits (row_then (chosen_of user escrow p.drawn k)) p.plan.choice.chosen.none refl))

    module _ (few : b.slots ≤ 256) (lens : IsTrue b.told → b.slots ≡ length b.world.slots)
        (free : IsTrue b.told → IsUnnamedProtector b.world x.settings.settled.rec (credential_of (row_then (chosen_of user escrow p.drawn k))) k.slot) (commits : AllTouchOnly settings_reach k.commit.actions) where
      pub is_quiet : IsTrue b.told → IsQuietWork b.world x.settings (plain work)
      is_quiet told = subst (λ (z : Exchanged). IsQuietWork b.world x.settings (plain z)) (sym same)
          (quiet b x can p.may.rules user escrow p.drawn k p.plan told (lens told) few (free told) (can.ready told))

      pub is_fresh : IsTrue b.told → AreNew b.world x.settings work
      is_fresh told = subst (AreNew b.world x.settings) (sym same) (are_new b x can p.may.rules user escrow p.drawn k p.plan told (lens told) few (free told))

      pub is_left : IsTrue b.told → LeavesKept b.world (plain work) (named_then x work) (retired_then x work)
      is_left told = subst (λ (z : Exchanged). LeavesKept b.world (plain z) (named_then x z) (retired_then x z)) (sym same)
          (left b x can p.may.rules user escrow p.drawn k p.plan told (lens told) few (free told) commits)

      pub carries : (turn : Stage → Turned) → (IsTrue b.told → (s : State) → Agrees b.world x s → turn (stage_in b.world s) ≡ added_turn b.world s user escrow p.drawn) → CommitsChange b x x work turn
      carries turn is told s agrees =
          subst (λ (t : Turned). LeadsTo b.world x (named_then x work) (retired_then x work) (plain work) s t) (sym (is told s agrees))
          (subst (λ (z : Exchanged). LeadsTo b.world x (named_then x z) (retired_then x z) (plain z) s (added_turn b.world s user escrow p.drawn)) (sym same)
          (leads b x can p.may.rules user escrow p.drawn k p.plan told (lens told) few (free told) commits s agrees p.may.none p.fresh))
