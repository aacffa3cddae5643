-- What carrying out the change asks, and where it leads.
use Rattle.std.proofs.Common.{◌≡◌, ◌<◌, ◌≤◌, ℕ, true, List, [], ◌∷◌, ◌++◌, map, length, zero, suc, IsTrue, Option, refl, sym, ap, subst, ◌∙◌, arith}
use Rattle.std.specs.Prelude.{Err}
use Rattle.ls_board.specs.Acts.{Sight}
use Rattle.ls_board.specs.Reach.{AllTouchOnly}
use Rattle.ls_change.specs.Work.{IsQuietWork, next_of}
use Rattle.ls_committing.specs.Committing.{IsReadied, CommitsChange, named_then, retired_then}
use Rattle.ls_credential.specs.Counts.{KindAndCounts}
use Rattle.ls_credential.specs.Rules.{KindAndText}
use Rattle.ls_exchange.specs.Exchanges.{Exchanged, plain, AreNew, AreNamed, AreLeftOut}
use Rattle.ls_formats.specs.declared.parts.Parts.{Parts}
use Rattle.ls_record.specs.declared.row.UserRow.{UserRow}
use Rattle.ls_record.specs.Rows.{Rec, is_protector_id}
use Rattle.ls_sealing.specs.Protectors.{HasNumbers}
use Rattle.ls_settings.specs.Commits.{IsCommit}
use Rattle.ls_settings.specs.Loaded.{Loaded, settings_reach}
use Rattle.ls_standing.specs.Named.{credential_of}
use Rattle.ls_standing.specs.Quiet.{IsUnnamedProtector}
use Rattle.ls_standing.proofs.IdLemmas.{is_row}
use Rattle.ls_vault.specs.declared.state.State.{State}
use Rattle.ls_vault.specs.Revealed.{shown_metrics}
use Rattle.ls_vault.specs.Script.{Stage}
use Rattle.ls_turn.specs.declared.session.Pending.{Pending}
use Rattle.ls_turn.specs.declared.session.Session.{Session}
use Rattle.ls_turn.specs.declared.stop.Stop.{Stop}
use Rattle.ls_turn.specs.Agreeing.{Agrees, ArePartNames, files_of}
use Rattle.ls_turn.specs.Serving.{CanServe, Serves, Turned, Always, stage_in}
use Rattle.ls_turn.specs.Waiting.{CanWait}
use Rattle.ls_turn.specs.Working.{IsSoundWork, KeepsNamed, LeavesKept, LeadsTo}
use Rattle.ls_turn.proofs.WaitLemmas.{wait_alike}
use Rattle.ls_changing.specs.declared.planned.Planned.{Planned}
use Rattle.ls_changing.specs.Keeping.{with_metrics, IsReady, HasId}
use Rattle.ls_changing.specs.Planning.{IsPlannedFor, chosen_of, exchange_of, changed_turn}
use Rattle.ls_changing.specs.Replacing.{row_then}
use Rattle.ls_changing.proofs.LeavingLemmas.{gone_named}
use Rattle.ls_changing.proofs.SessionLemmas.{list, sound, names, files, named, quiet, are_new, left_out, left}
use Rattle.ls_changing.proofs.LeadLemmas.{leads}

some_of : (n : ℕ) → is_protector_id n ≡ true → 0 < n
some_of n even = by n even
  where
    by : (n : ℕ) → is_protector_id n ≡ true → 0 < n
    by zero e = absurd (cc)
    by (suc n) e = omega arith

module _ (b : Sight) (x : Session) (user : ℕ) (c : KindAndText) (k : Planned) (p : IsPlannedFor b x user c k) where
  abbrev row : UserRow
  row = p.row

  -- the numbers of the new protector
  pub new_numbers : HasNumbers (credential_of (row_then (chosen_of row c k)))
  new_numbers = record {
    user = (is_row x.settings.settled.rec p.rules row p.plan.chosen.here).user;
    some = some_of k.id p.plan.chosen.even;
    id = p.plan.chosen.id;
  }

  -- the session names the old protector
  pub gone_there : CanServe b x → HasId x.named.items k.gone
  gone_there can =
      let its = can.each (credential_of row) (gone_named x.settings.settled.rec p.rules (chosen_of row c k) p.plan.chosen) in
      (its.0, its.1, ap (λ (q : Parts). q.id) its.2.2 ∙ sym p.plan.gone)

  module _ (can : CanServe b x) (front back : List Parts) (q : Parts) (split : x.named.items ≡ front ++ q ∷ back) (of_id : q.id ≡ k.gone)
      (y : Session) (ready : IsReady x front back user (shown_metrics c) y) (work : Exchanged) (same : work ≡ exchange_of k q) where
    its_id : q.id ≡ row.protector
    its_id = of_id ∙ p.plan.gone

    pub is_readied : IsReadied x y
    is_readied = record {
      slots = ready.slots;
      boot = ready.boot;
      settings = ready.settings;
      retired = ready.retired;
      stopped = ready.stopped;
    }

    abbrev names_now : List Parts
    names_now = list b x can p.rules row c p.entry.secret p.drawn k p.plan front back q split its_id

    named_is : named_then y work ≡ names_now
    named_is = ap (λ (z : Exchanged). named_then y z) same ∙ ap (λ (l : List Parts). l ++ k.draft.parts ∷ []) ready.named

    retired_is : retired_then y work ≡ x.retired.items ++ q ∷ []
    retired_is = ap (λ (z : Exchanged). retired_then y z) same ∙ ap (λ (l : List Parts). l ++ q ∷ []) ready.retired

    pub is_waiting : CanWait (next_of (plain work)).users y.pending.items
    is_waiting = subst (λ (l : List Pending). CanWait (next_of (plain work)).users l) (sym ready.pending)
        (subst (λ (z : Exchanged). CanWait (next_of (plain z)).users x.pending.items) (sym same)
        (subst (λ (r : Rec). CanWait r.users x.pending.items) (sym p.plan.next)
        (wait_alike x.settings.settled.rec x.pending.items can.waits (row_then (chosen_of row c k)) p.rules row p.plan.chosen.here refl refl refl)))

    pub is_sound : IsSoundWork y.slots (plain work)
    is_sound = subst (λ (n : ℕ). IsSoundWork n (plain work)) (sym ready.slots)
        (subst (λ (z : Exchanged). IsSoundWork x.slots (plain z)) (sym same) (sound b x can p.rules row c p.entry.secret p.drawn k p.plan front back q split its_id))

    pub is_prepared : IsCommit y.settings work.commit.to work.commit.actions
    is_prepared = subst (λ (s : Loaded). IsCommit s work.commit.to work.commit.actions) (sym ready.settings)
        (subst (λ (z : Exchanged). IsCommit x.settings z.commit.to z.commit.actions) (sym same) p.plan.commit)

    pub are_named : AreNamed work
    are_named = subst AreNamed (sym same) (names b x can p.rules row c p.entry.secret p.drawn k p.plan front back q split its_id)

    pub are_files : ArePartNames (files_of (retired_then y work))
    are_files = subst (λ (l : List Parts). ArePartNames (files_of l)) (sym retired_is) (files b x can p.rules row c p.entry.secret p.drawn k p.plan front back q split its_id)

    pub keeps_named : KeepsNamed y.slots (plain work) (named_then y work)
    keeps_named = subst (λ (n : ℕ). KeepsNamed n (plain work) (named_then y work)) (sym ready.slots)
        (subst (KeepsNamed x.slots (plain work)) (sym named_is)
        (subst (λ (z : Exchanged). KeepsNamed x.slots (plain z) names_now) (sym same) (named b x can p.rules row c p.entry.secret p.drawn k p.plan front back q split its_id)))

    module _ (few : b.slots ≤ 256) (lens : IsTrue b.told → b.slots ≡ length b.world.slots)
        (free : IsTrue b.told → IsUnnamedProtector b.world x.settings.settled.rec (credential_of (row_then (chosen_of row c k))) k.slot) (commits : AllTouchOnly settings_reach k.commit.actions) where
      pub is_quiet : IsTrue b.told → IsQuietWork b.world y.settings (plain work)
      is_quiet told = subst (λ (s : Loaded). IsQuietWork b.world s (plain work)) (sym ready.settings)
          (subst (λ (z : Exchanged). IsQuietWork b.world x.settings (plain z)) (sym same)
          (quiet b x can p.rules row c p.entry.secret p.drawn k p.plan front back q split its_id told (lens told) few (free told) (can.ready told)))

      pub is_fresh : IsTrue b.told → AreNew b.world y.settings work
      is_fresh told = subst (λ (s : Loaded). AreNew b.world s work) (sym ready.settings)
          (subst (AreNew b.world x.settings) (sym same) (are_new b x can p.rules row c p.entry.secret p.drawn k p.plan front back q split its_id told (lens told) few (free told)))

      pub is_left_out : IsTrue b.told → AreLeftOut b.world work
      is_left_out told = subst (AreLeftOut b.world) (sym same) (left_out b x can p.rules row c p.entry.secret p.drawn k p.plan front back q split its_id told (lens told) few (free told))

      pub is_left : IsTrue b.told → LeavesKept b.world (plain work) (named_then y work) (retired_then y work)
      is_left told = subst (λ (l : List Parts). LeavesKept b.world (plain work) l (retired_then y work)) (sym named_is)
          (subst (LeavesKept b.world (plain work) names_now) (sym retired_is)
          (subst (λ (z : Exchanged). LeavesKept b.world (plain z) names_now (x.retired.items ++ q ∷ [])) (sym same)
          (left b x can p.rules row c p.entry.secret p.drawn k p.plan front back q split its_id told (lens told) few (free told) commits)))

      pub carries : (turn : Stage → Turned) → (IsTrue b.told → (s : State) → Agrees b.world x s → turn (stage_in b.world s) ≡ changed_turn b.world s user c p.drawn) → CommitsChange b x y work turn
      carries turn is told s agrees =
          subst (λ (t : Turned). LeadsTo b.world y (named_then y work) (retired_then y work) (plain work) s t) (sym (is told s agrees))
          (subst (λ (l : List Parts). LeadsTo b.world y l (retired_then y work) (plain work) s (changed_turn b.world s user c p.drawn)) (sym named_is)
          (subst (λ (l : List Parts). LeadsTo b.world y names_now l (plain work) s (changed_turn b.world s user c p.drawn)) (sym retired_is)
          (subst (λ (z : Exchanged). LeadsTo b.world y names_now (x.retired.items ++ q ∷ []) (plain z) s (changed_turn b.world s user c p.drawn)) (sym same)
          (leads b x can p.rules row c p.entry.secret p.drawn k p.plan front back q split its_id told (lens told) few (free told) commits s agrees user p.found p.entry p.opened refl y ready p.fresh))))

-- the session that carries it out
pub ready_by : (x old y : Session) → old ≡ x → y ≡ record old { named = y.named; opened = y.opened } → (front back : List Parts) (user : ℕ) (m : Option KindAndCounts)
    → y.named.items ≡ front ++ back → y.opened.items ≡ map (with_metrics user m) old.opened.items → IsReady x front back user m y
ready_by x old y same is front back user m named opened = record {
  slots = ap (λ (z : Session). z.slots) is ∙ ap (λ (z : Session). z.slots) same;
  boot = ap (λ (z : Session). z.boot) is ∙ ap (λ (z : Session). z.boot) same;
  settings = ap (λ (z : Session). z.settings) is ∙ ap (λ (z : Session). z.settings) same;
  named = named;
  retired = ap (λ (z : Session). z.retired.items) is ∙ ap (λ (z : Session). z.retired.items) same;
  opened = opened ∙ ap (λ (z : Session). map (with_metrics user m) z.opened.items) same;
  pending = ap (λ (z : Session). z.pending.items) is ∙ ap (λ (z : Session). z.pending.items) same;
  prepared = ap (λ (z : Session). z.prepared) is ∙ ap (λ (z : Session). z.prepared) same;
  captured = ap (λ (z : Session). z.captured.items) is ∙ ap (λ (z : Session). z.captured.items) same;
  stopped = ap (λ (z : Session). z.stopped) is ∙ ap (λ (z : Session). z.stopped) same;
}

-- ---- no memory

pub lacks : (b : Sight) (x y z : Session) (turn : Stage → Turned) (stop : Stop) → Serves b x turn Always (Err stop) y b → z.slots ≡ y.slots → z.boot ≡ y.boot → z.stopped ≡ y.stopped → Serves b x turn Always (Err stop) z b
lacks b x y z turn stop s slots boot stopped = record {
  keeps = s.keeps;
  slots = slots ∙ s.slots;
  boot = boot ∙ s.boot;
  cause = stopped ∙ s.cause;
  going = s.going;
  can = tt;
  few = tt;
  silent = s.silent;
  inside = s.inside;
  strange = λ told. tt;
  crash = s.crash;
  done = λ told st agrees fairly. tt;
  bare = λ told st agrees fairly. tt;
}
