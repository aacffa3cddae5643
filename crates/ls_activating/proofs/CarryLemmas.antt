-- What carrying out an activation asks, and where it leads.
use Rattle.std.proofs.Common.{◌≡◌, ◌≤◌, ℕ, List, [], ◌++◌, length, IsTrue, refl, sym, ◌∙◌, ap, subst, append-nil}
use Rattle.std.specs.List.{Contains}
use Rattle.ls_board.specs.Acts.{Sight}
use Rattle.ls_board.specs.Reach.{AllTouchOnly}
use Rattle.ls_change.specs.Work.{IsQuietWork, next_of}
use Rattle.ls_committing.specs.Committing.{CommitsChange, IsReadied, named_then, retired_then}
use Rattle.ls_exchange.specs.Exchanges.{AreLeftOut, AreNamed, AreNew, Exchanged, plain}
use Rattle.ls_formats.specs.declared.parts.Parts.{Parts}
use Rattle.ls_record.specs.Rows.{Rec}
use Rattle.ls_settings.specs.Commits.{IsCommit}
use Rattle.ls_settings.specs.Loaded.{Loaded, settings_reach}
use Rattle.ls_standing.specs.Quiet.{IsUnnamedProtector}
use Rattle.ls_turn.specs.declared.session.Pending.{Pending}
use Rattle.ls_turn.specs.declared.session.Session.{Session}
use Rattle.ls_turn.specs.Agreeing.{Agrees, ArePartNames, files_of}
use Rattle.ls_turn.specs.Serving.{CanServe, Turned, stage_in}
use Rattle.ls_turn.specs.Waiting.{CanWait}
use Rattle.ls_turn.specs.Working.{IsSoundWork, KeepsNamed, LeadsTo, LeavesKept}
use Rattle.ls_vault.specs.declared.state.State.{State}
use Rattle.ls_vault.specs.Script.{Stage}
use Rattle.ls_activating.specs.declared.planned.Planned.{Planned}
use Rattle.ls_activating.specs.Counting.{chosen_for, count_for, token_ids, without_ids}
use Rattle.ls_activating.specs.Planning.{IsPlannedFor, Made, activated_turn, exchange_of}
use Rattle.ls_activating.proofs.KeptLemmas.{leaves}
use Rattle.ls_activating.proofs.LeadLemmas.{leads}
use Rattle.ls_activating.proofs.NextLemmas.{IsReady, are_named, keeps_named, list, next_is, parts_is, waits_then}
use Rattle.ls_activating.proofs.PlaceLemmas.{its, made}
use Rattle.ls_activating.proofs.WorldLemmas.{are_left_out, are_new, is_quiet, is_sound}

-- the session without the tokens that become active
pub ready_by : (x old y : Session) (user : ℕ) → old ≡ x → y ≡ record old { pending = y.pending } → y.pending.items ≡ without_ids (token_ids (chosen_for x user)) old.pending.items → IsReady x user y
ready_by x old y user same is pending = record {
  slots = ap (λ (z : Session). z.slots) is ∙ ap (λ (z : Session). z.slots) same;
  boot = ap (λ (z : Session). z.boot) is ∙ ap (λ (z : Session). z.boot) same;
  settings = ap (λ (z : Session). z.settings) is ∙ ap (λ (z : Session). z.settings) same;
  named = ap (λ (z : Session). z.named.items) is ∙ ap (λ (z : Session). z.named.items) same;
  retired = ap (λ (z : Session). z.retired.items) is ∙ ap (λ (z : Session). z.retired.items) same;
  opened = ap (λ (z : Session). z.opened.items) is ∙ ap (λ (z : Session). z.opened.items) same;
  pending = pending ∙ ap (λ (z : Session). without_ids (token_ids (chosen_for x user)) z.pending.items) same;
  prepared = ap (λ (z : Session). z.prepared) is ∙ ap (λ (z : Session). z.prepared) same;
  captured = ap (λ (z : Session). z.captured.items) is ∙ ap (λ (z : Session). z.captured.items) same;
  stopped = ap (λ (z : Session). z.stopped) is ∙ ap (λ (z : Session). z.stopped) same;
}

module _ (b : Sight) (x : Session) (can : CanServe b x) (user : ℕ) (k : Planned) (p : IsPlannedFor b x user k) (y : Session) (ready : IsReady x user y) (work : Exchanged) (same : work ≡ exchange_of k) where
  abbrev names : List Parts
  names = list b x can user k p

  named_is : named_then y work ≡ names
  named_is = ap (λ (z : Exchanged). named_then y z) same ∙ (λ i. ready.named i ++ parts_is b x can user k p i)

  retired_is : retired_then y work ≡ x.retired.items
  retired_is = ap (λ (z : Exchanged). retired_then y z) same ∙ (append-nil y.retired.items ∙ ready.retired)

  pub carry_readied : IsReadied x y
  carry_readied = record {
    slots = ready.slots;
    boot = ready.boot;
    settings = ready.settings;
    retired = ready.retired;
    stopped = ready.stopped;
  }

  pub carry_waiting : CanWait (next_of (plain work)).users y.pending.items
  carry_waiting = subst (λ (l : List Pending). CanWait (next_of (plain work)).users l) (sym ready.pending)
      (subst (λ (z : Exchanged). CanWait (next_of (plain z)).users (without_ids (token_ids (chosen_for x user)) x.pending.items)) (sym same)
      (subst (λ (r : Rec). CanWait r.users (without_ids (token_ids (chosen_for x user)) x.pending.items)) (sym (next_is b x can user k p)) (waits_then b x can user k p)))

  pub carry_sound : IsSoundWork y.slots (plain work)
  carry_sound = subst (λ (n : ℕ). IsSoundWork n (plain work)) (sym ready.slots) (subst (λ (z : Exchanged). IsSoundWork x.slots (plain z)) (sym same) (is_sound b x can user k p))

  pub carry_prepared : IsCommit y.settings work.commit.to work.commit.actions
  carry_prepared = subst (λ (s : Loaded). IsCommit s work.commit.to work.commit.actions) (sym ready.settings)
      (subst (λ (z : Exchanged). IsCommit x.settings z.commit.to z.commit.actions) (sym same) p.by.plan.commit)

  pub carry_names : AreNamed work
  carry_names = subst AreNamed (sym same) (are_named b x can user k p)

  pub carry_files : ArePartNames (files_of (retired_then y work))
  carry_files = subst (λ (l : List Parts). ArePartNames (files_of l)) (sym retired_is) can.names

  pub carry_named : KeepsNamed y.slots (plain work) (named_then y work)
  carry_named = subst (λ (n : ℕ). KeepsNamed n (plain work) (named_then y work)) (sym ready.slots)
      (subst (KeepsNamed x.slots (plain work)) (sym named_is)
      (subst (λ (z : Exchanged). KeepsNamed x.slots (plain z) names) (sym same) (keeps_named b x can user k p)))

  pub carry_left_out : IsTrue b.told → AreLeftOut b.world work
  carry_left_out told = subst (AreLeftOut b.world) (sym same) (are_left_out b x can user k p)

  module _ (few : b.slots ≤ 256) (lens : IsTrue b.told → b.slots ≡ length b.world.slots)
      (free : IsTrue b.told → (m : Made) → Contains (made b x can user k p) m → IsUnnamedProtector b.world x.settings.settled.rec (its b x can user k p m) m.slot) (commits : AllTouchOnly settings_reach k.commit.actions) where
    pub carry_quiet : IsTrue b.told → IsQuietWork b.world y.settings (plain work)
    carry_quiet told = subst (λ (s : Loaded). IsQuietWork b.world s (plain work)) (sym ready.settings)
        (subst (λ (z : Exchanged). IsQuietWork b.world x.settings (plain z)) (sym same) (is_quiet b x can user k p told (lens told) few (free told)))

    pub carry_new : IsTrue b.told → AreNew b.world y.settings work
    carry_new told = subst (λ (s : Loaded). AreNew b.world s work) (sym ready.settings)
        (subst (AreNew b.world x.settings) (sym same) (are_new b x can user k p told (lens told) few (free told)))

    pub carry_left : IsTrue b.told → LeavesKept b.world (plain work) (named_then y work) (retired_then y work)
    carry_left told = subst (λ (l : List Parts). LeavesKept b.world (plain work) l (retired_then y work)) (sym named_is)
        (subst (LeavesKept b.world (plain work) names) (sym retired_is)
        (subst (λ (z : Exchanged). LeavesKept b.world (plain z) names x.retired.items) (sym same) (leaves b x can user k p told (lens told) few (free told) commits)))

    pub carries : (turn : Stage → Turned) → (IsTrue b.told → (s : State) → Agrees b.world x s → turn (stage_in b.world s) ≡ activated_turn b.world s user (count_for x user)) → CommitsChange b x y work turn
    carries turn is told s agrees =
        subst (λ (t : Turned). LeadsTo b.world y (named_then y work) (retired_then y work) (plain work) s t) (sym (is told s agrees))
        (subst (λ (l : List Parts). LeadsTo b.world y l (retired_then y work) (plain work) s (activated_turn b.world s user (count_for x user))) (sym named_is)
        (subst (λ (l : List Parts). LeadsTo b.world y names l (plain work) s (activated_turn b.world s user (count_for x user))) (sym retired_is)
        (subst (λ (z : Exchanged). LeadsTo b.world y names x.retired.items (plain z) s (activated_turn b.world s user (count_for x user))) (sym same)
        (leads b x can user k p told (lens told) few (free told) commits s agrees y ready))))
