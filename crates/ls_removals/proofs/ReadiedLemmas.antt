-- The session that commits a change that lets protectors go.
use Rattle.std.proofs.Common.{◌≡◌, ◌++◌, ℕ, List, IsTrue, sym, ap, subst, ◌∙◌, append-nil}
use Rattle.std.specs.Prelude.{length}
use Rattle.ls_board.specs.declared.action.Action.{Action}
use Rattle.ls_board.specs.declared.world.World.{World}
use Rattle.ls_board.specs.Acts.{Sight}
use Rattle.ls_board.specs.Reach.{AllTouchOnly}
use Rattle.ls_change.specs.Work.{IsQuietWork, next_of}
use Rattle.ls_committing.specs.Committing.{IsReadied, CommitsChange, named_then, retired_then}
use Rattle.ls_exchange.specs.Exchanges.{Exchanged, plain, AreNew, AreNamed, AreLeftOut}
use Rattle.ls_formats.specs.declared.parts.Parts.{Parts}
use Rattle.ls_record.specs.Rows.{Rec, IsRecord}
use Rattle.ls_settings.specs.Commits.{Prepared, IsCommit}
use Rattle.ls_settings.specs.Loaded.{Loaded, settings_reach}
use Rattle.ls_standing.proofs.ContainsLemmas.{none_in}
use Rattle.ls_vault.specs.declared.state.State.{State}
use Rattle.ls_vault.specs.Script.{Stage}
use Rattle.ls_turn.specs.declared.session.Session.{Session}
use Rattle.ls_turn.specs.declared.session.Pending.{Pending}
use Rattle.ls_turn.specs.Agreeing.{ArePartNames, files_of}
use Rattle.ls_turn.specs.Serving.{CanServe, Turned, stage_in}
use Rattle.ls_turn.specs.Waiting.{CanWait}
use Rattle.ls_turn.specs.Working.{IsSoundWork, KeepsNamed, LeadsTo, LeavesKept}
use Rattle.ls_removals.specs.declared.going.Going.{Going}
use Rattle.ls_removals.specs.Going.{goes, leaving}
use Rattle.ls_removals.specs.Letting.{AllLeaveTo, LeavesOut, LeavesTo}
use Rattle.ls_removals.proofs.LettingLemmas.{rest, retired, work, sound, files, named, quiet, left_out, left}
use Rattle.ls_removals.proofs.LeavingLemmas.{leads_on}

module _ (b : Sight) (x : Session) (can : CanServe b x) (is : IsRecord x.settings.settled.rec) (g : Going) (commit : Prepared) (after : List Action)
    (l : LeavesOut x.settings.settled.rec commit.to.settled.rec (goes g) after)
    (y : Session) (ready : IsReadied x y) (its_named : y.named.items ≡ rest b x can is g commit after l) (k : Exchanged) (same : k ≡ work b x can is g commit after l)
    (prepared : IsCommit x.settings commit.to commit.actions) where
  abbrev rests : List Parts
  rests = rest b x can is g commit after l

  abbrev goners : List Parts
  goners = retired b x can is g commit after l

  abbrev w : World
  w = b.world

  named_is : named_then y k ≡ rests
  named_is = ap (λ (z : Exchanged). named_then y z) same ∙ (append-nil y.named.items ∙ its_named)

  retired_is : retired_then y k ≡ goners
  retired_is = ap (λ (z : Exchanged). retired_then y z) same ∙ ap (λ (z : List Parts). z ++ leaving g x.named.items) ready.retired

  -- ---- on every board

  pub is_sound : IsSoundWork y.slots (plain k)
  is_sound = subst (λ (m : ℕ). IsSoundWork m (plain k)) (sym ready.slots) (subst (λ (z : Exchanged). IsSoundWork x.slots (plain z)) (sym same) (sound b x can is g commit after l))

  pub is_prepared : IsCommit y.settings k.commit.to k.commit.actions
  is_prepared = subst (λ (z : Loaded). IsCommit z k.commit.to k.commit.actions) (sym ready.settings) (subst (λ (z : Exchanged). IsCommit x.settings z.commit.to z.commit.actions) (sym same) prepared)

  none_new : AreNamed (work b x can is g commit after l)
  none_new p has = absurd (none_in p has)

  pub are_named : AreNamed k
  are_named = subst AreNamed (sym same) none_new

  pub are_files : ArePartNames (files_of (retired_then y k))
  are_files = subst (λ (z : List Parts). ArePartNames (files_of z)) (sym retired_is) (files b x can is g commit after l)

  pub keeps_named : KeepsNamed y.slots (plain k) (named_then y k)
  keeps_named = subst (λ (m : ℕ). KeepsNamed m (plain k) (named_then y k)) (sym ready.slots)
      (subst (KeepsNamed x.slots (plain k)) (sym named_is)
      (subst (λ (z : Exchanged). KeepsNamed x.slots (plain z) rests) (sym same) (named b x can is g commit after l)))

  pub can_wait : (pending : List Pending) → CanWait commit.to.settled.rec.users pending → CanWait (next_of (plain k)).users pending
  can_wait pending waits = subst (λ (z : Exchanged). CanWait (next_of (plain z)).users pending) (sym same) waits

  -- ---- where the world is told

  module _ (told : IsTrue b.told) where
    pub is_quiet : IsQuietWork w y.settings (plain k)
    is_quiet = subst (λ (z : Loaded). IsQuietWork w z (plain k)) (sym ready.settings)
        (subst (λ (z : Exchanged). IsQuietWork w x.settings (plain z)) (sym same) (quiet b x can is g commit after l told))

    none_fresh : AreNew w y.settings (work b x can is g commit after l)
    none_fresh p has = absurd (none_in p has)

    pub is_fresh : AreNew w y.settings k
    is_fresh = subst (AreNew w y.settings) (sym same) none_fresh

    pub is_left_out : AreLeftOut w k
    is_left_out = subst (AreLeftOut w) (sym same) (left_out b x can is g commit after l told)

    pub is_left : AllTouchOnly settings_reach commit.actions → LeavesKept w (plain k) (named_then y k) (retired_then y k)
    is_left commits = subst (λ (z : List Parts). LeavesKept w (plain k) z (retired_then y k)) (sym named_is)
        (subst (LeavesKept w (plain k) rests) (sym retired_is)
        (subst (λ (z : Exchanged). LeavesKept w (plain z) rests goners) (sym same) (left b x can is g commit after l told commits)))

  pub lets : AllTouchOnly settings_reach commit.actions → (IsTrue b.told → b.slots ≡ length w.slots) → (turn : Stage → Turned) → AllLeaveTo b x y commit.to.settled.rec turn → CommitsChange b x y k turn
  lets commits lens turn all told s a =
      let t = turn (stage_in w s) in
      subst (λ (z : List Parts). LeadsTo w y z (retired_then y k) (plain k) s t) (sym named_is)
      (subst (λ (z : List Parts). LeadsTo w y rests z (plain k) s t) (sym retired_is)
      (subst (λ (z : Exchanged). LeadsTo w y rests goners (plain z) s t) (sym same)
      (leads_on b x can is g commit after l told commits (lens told) y ready prepared s a t (all told s a))))

-- what is known of users doesn't hang on the protectors that are named
pub behind_still : (x y : Session) → y ≡ record x { named = y.named } → (w : World) (next : Rec) (s : State) (t : Turned) → LeavesTo w x next s t → LeavesTo w y next s t
behind_still x y is w next s t l = subst (λ (z : Session). LeavesTo w z next s t) (sym is) (record {
  left = l.left;
  turn = l.turn;
  holds = l.holds;
  kept = l.kept;
  dead = l.dead;
  session = l.session;
  opened = l.opened;
  metrics = l.metrics;
  captured = l.captured;
  prepared = l.prepared;
})
