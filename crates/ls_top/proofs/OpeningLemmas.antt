-- The opening of a directory, and the first state of a run.
use Rattle.std.proofs.Common.{◌≡◌, ◌++◌, ℕ, Bool, IsTrue, List, [], ◌∷◌, refl, sym, ◌∙◌, ap, subst, arith, inl, inr}
use Rattle.std.specs.Prelude.{Result, Ok, Err, Option, Some, None, MatchOption, IfOk, IsSomeAnd}
use Rattle.std.specs.FinMap.Entries.{where_key}
use Rattle.ls_board.specs.Order.{byte_cmp}
use Rattle.std.proofs.lemmas.List.{append-nil}
use Rattle.ls_board.specs.declared.action.Action.{Action}
use Rattle.ls_board.specs.declared.action.Action.TheVariants.{Read, Sync}
use Rattle.ls_board.specs.declared.action.Answer.{Answer}
use Rattle.ls_board.specs.declared.action.Answer.TheVariants.{Absent, Bytes}
use Rattle.ls_board.specs.declared.action.BoardFault.{BoardFault}
use Rattle.ls_board.specs.declared.action.BoardFault.TheVariants.{Failed, Memory}
use Rattle.ls_board.specs.declared.world.World.{World}
use Rattle.ls_board.specs.Acts.{Sight, Acts, Moves, Readies}
use Rattle.ls_board.specs.Effect.{file_at, Answers}
use Rattle.ls_top.specs.declared.opening.Opening.{Opening}
use Rattle.ls_top.specs.declared.opening.Opening.TheVariants.{Found, Foreign}
use Rattle.ls_top.specs.FoundUsers.{IsFound}
use Rattle.ls_top.specs.Opening.{ReadsSettings, IsOpening}
use Rattle.ls_top.specs.RunEnds.{Leaves}
use Rattle.ls_top.specs.Runs.{StandsFor, HasForeignFile, SameButTouched, CallsInTurn}
use Rattle.ls_lines.specs.Lines.{lines_of}
use Rattle.ls_top.specs.Script.{replies}
use Rattle.ls_top.specs.Serving.{Serving, CutShort, KeepsOthers}
use Rattle.ls_top.specs.UsersFile.{settings_0, file_of, IsForeign}
use Rattle.ls_top.specs.Vault.{IsVault}
use Rattle.ls_top.proofs.ServingLemmas.{ready_told, ready_world, ready_past}

-- ---- a world of which only the touched files changed

same_touched : (w v : World) (touched : List (List ℕ × _)) → v ≡ record w { touched = touched } → SameButTouched w v
same_touched w v touched is = record { same = is ∙ ap (λ t. record w { touched = t }) (sym (ap (λ (u : World). u.touched) is)) }

pub same_stands : (w v : World) (users : List ℕ) → SameButTouched w v → StandsFor w users → StandsFor v users
same_stands w v users same stands = subst (λ (u : World). StandsFor u users) (sym same.same) (record { vault = stands.vault; file = stands.file })

pub same_others : (w v : World) → SameButTouched w v → KeepsOthers w v
same_others w v same = λ name other. ap (λ (u : World). file_at u name) same.same

pub same_input : (w v : World) → SameButTouched w v → v.input ≡ w.input
same_input w v same = ap (λ (u : World). u.input) same.same

-- ---- the sync and the reading

module _ (old ready new : Sight) (actions bytes : ℕ) {E : Type 0} (made : Result Unit E) (readies : Readies old actions bytes made ready)
    (told : IsTrue old.told) (sync : Action) (syncs : sync ≡ Sync) (result : Result Answer BoardFault) (out : List ℕ)
    (acts : Acts ready sync result out new) where
  sync_moves : Moves ready Sync result out new
  sync_moves = (subst (λ (a : Action). Acts ready a result out new) syncs acts).moves (ready_told old ready actions bytes made readies told)

  ready_is : ready.world ≡ old.world
  ready_is = ready_world old ready actions bytes made readies

  sync_past : new.past ≡ (ready.world, Some Sync) ∷ old.past
  sync_past = sync_moves.past ∙ ap (λ l. (ready.world, Some Sync) ∷ l) (ready_past old ready actions bytes made readies)

  sync_calls : (users : List ℕ) → CallsInTurn old new users
  sync_calls users = record { calls = (ready.world, Some Sync) ∷ []; since = sync_past; each = (tt, tt) }

  pub sync_failed : (fault : BoardFault) (read : List ℕ) → result ≡ Err fault → ReadsSettings old (Err fault) read new
  sync_failed (Failed part) read is =
      let within = sync_moves.failed part is in
      let touched = where_key byte_cmp within.still ready.world.touched in
      record {
        same = same_touched old.world new.world touched (within.is ∙ ap (λ (w : World). record w { touched = touched }) ready_is);
        calls = sync_calls;
        synced = tt;
        found = tt;
      }
  sync_failed Memory read is = absurd ((subst (λ (a : Action). Acts ready a result out new) syncs acts).memory is).0

  -- the sync was done, and the reading comes next
  module _ (answer : Answer) (done : result ≡ Ok answer) (last : Sight) (read : Action) (reads : read ≡ Read settings_0)
      (second : Result Answer BoardFault) (more : List ℕ) (acts_2 : Acts new read second more last) where
    synced_world : new.world ≡ record old.world { touched = [] }
    synced_world = (subst (λ (r : Result Answer BoardFault). IfOk r (λ a. Answers ready.world Sync a out × (new.world ≡ record ready.world { touched = [] }))) done sync_moves.done).1
        ∙ ap (λ (w : World). record w { touched = [] }) ready_is

    read_moves : Moves new (Read settings_0) second more last
    read_moves = (subst (λ (a : Action). Acts new a second more last) reads acts_2).moves
        (subst (λ (b : Bool). IsTrue b) (sym acts.told) (ready_told old ready actions bytes made readies told))

    pub read_last : ReadsSettings old second more last
    read_last = record {
      same = same_touched old.world last.world [] (unmoved second refl ∙ synced_world);
      calls = λ users. record {
        calls = (new.world, None) ∷ (ready.world, Some Sync) ∷ [];
        since = read_moves.past ∙ ap (λ l. (new.world, None) ∷ l) sync_past;
        each = (tt, (tt, tt));
      };
      synced = settled second refl;
      found = found second refl;
    }
      where
        unmoved : (r : Result Answer BoardFault) → second ≡ r → last.world ≡ new.world
        unmoved (Ok a) is = (subst (λ (r : Result Answer BoardFault). IfOk r (λ a. Answers new.world (Read settings_0) a more × (last.world ≡ new.world))) is read_moves.done).1
        unmoved (Err (Failed part)) is = read_moves.failed part is
        unmoved (Err Memory) is = read_moves.lacking is

        settled : (r : Result Answer BoardFault) → second ≡ r → IfOk second (λ a. last.world.touched ≡ [])
        settled r is = all_ok second (ap (λ (w : World). w.touched) (unmoved second refl ∙ synced_world))
          where
            all_ok : (r : Result Answer BoardFault) → last.world.touched ≡ [] → IfOk r (λ a. last.world.touched ≡ [])
            all_ok (Ok a) empty = empty
            all_ok (Err e) empty = tt

        found : (r : Result Answer BoardFault) → second ≡ r
            → IfOk second (λ a. MatchOption (file_at old.world settings_0) (a ≡ Absent) (λ b. (a ≡ Bytes) × (more ≡ b)))
        found (Ok a) is = rw is (weaker (file_at old.world settings_0) (subst (λ (w : World). MatchOption (file_at w settings_0) ((a ≡ Absent) × (more ≡ [])) (λ b. (a ≡ Bytes) × (more ≡ b))) synced_world
            (subst (λ (r : Result Answer BoardFault). IfOk r (λ a. Answers new.world (Read settings_0) a more × (last.world ≡ new.world))) is read_moves.done).0))
          where
            weaker : (o : Option (List ℕ)) → MatchOption o ((a ≡ Absent) × (more ≡ [])) (λ b. (a ≡ Bytes) × (more ≡ b)) → MatchOption o (a ≡ Absent) (λ b. (a ≡ Bytes) × (more ≡ b))
            weaker None both = both.0
            weaker (Some b) both = both
        found (Err e) is = rw is tt

-- ---- what was read

no_vault : IsVault []
no_vault = record { ascending = λ k lt. absurd (omega arith); few = omega arith; numbers = λ k d lt. absurd (omega arith) }

stands_by : (w : World) (o : Option (List ℕ)) (users : List ℕ) → file_at w settings_0 ≡ o → IsVault users
    → MatchOption o (users ≡ []) (λ bytes. bytes ≡ file_of users) → StandsFor w users
stands_by w o users is vault file = record {
  vault = vault;
  file = subst (λ (f : Option (List ℕ)). MatchOption f (users ≡ []) (λ bytes. bytes ≡ file_of users)) (sym is) file;
}

stands_at : (w : World) (o : Option (List ℕ)) (users : List ℕ) → file_at w settings_0 ≡ o → StandsFor w users
    → MatchOption o (users ≡ []) (λ bytes. bytes ≡ file_of users)
stands_at w o users is stands = subst (λ (f : Option (List ℕ)). MatchOption f (users ≡ []) (λ bytes. bytes ≡ file_of users)) is stands.file

opening_by : (w : World) (answer : Answer) (out : List ℕ) (opening : Opening) (o : Option (List ℕ)) → file_at w settings_0 ≡ o
    → MatchOption o (answer ≡ Absent) (λ b. (answer ≡ Bytes) × (out ≡ b)) → IsFound answer out opening → IsOpening w opening
opening_by w answer out (Found users) None is absent (inl none) =
    (stands_by w None users is (subst IsVault (sym none.1) no_vault) none.1, λ others stands. stands_at w None others is stands ∙ sym none.1)
opening_by w answer out (Found users) None is absent (inr file) = absurd (file.0 absent)
opening_by w answer out (Found users) (Some b) is read (inl none) = absurd (cc (read.0, none.0))
opening_by w answer out (Found users) (Some b) is read (inr file) = (
  stands_by w (Some b) users is file.1.vault (sym read.1 ∙ file.1.file),
  λ others stands. file.1.only others stands.vault (read.1 ∙ stands_at w (Some b) others is stands),
)
opening_by w answer out (Foreign name) None is absent found = absurd (found.0 absent)
opening_by w answer out (Foreign name) (Some b) is read found =
    (found.1, subst (λ (f : Option (List ℕ)). IsSomeAnd f IsForeign) (sym is) (subst IsForeign read.1 found.2))

pub opening_is : (w : World) (answer : Answer) (out : List ℕ) (opening : Opening)
    → MatchOption (file_at w settings_0) (answer ≡ Absent) (λ b. (answer ≡ Bytes) × (out ≡ b)) → IsFound answer out opening → IsOpening w opening
opening_is w answer out opening read found = opening_by w answer out opening (file_at w settings_0) refl read found

-- a file of some users is none of the others
pub not_foreign : (w : World) (users : List ℕ) → StandsFor w users → HasForeignFile w → ⊥
not_foreign w users stands foreign = by_file (file_at w settings_0) refl
  where
    by_file : (o : Option (List ℕ)) → file_at w settings_0 ≡ o → ⊥
    by_file None is = subst (λ (f : Option (List ℕ)). IsSomeAnd f IsForeign) is foreign
    by_file (Some b) is = subst (λ (f : Option (List ℕ)). IsSomeAnd f IsForeign) is foreign users stands.vault (stands_at w (Some b) users is stands)

-- ---- nothing was served

module _ (start now : Sight) (same : SameButTouched start.world now.world) (calls : (users : List ℕ) → CallsInTurn start now users) (users : List ℕ) (stands : StandsFor start.world users) where
  idle_said : now.world.said ≡ start.world.said ++ []
  idle_said = ap (λ (w : World). w.said) same.same ∙ sym (append-nil start.world.said)

  pub idle_leaves : Leaves start now users
  idle_leaves = record {
    said = record { said = []; more = replies users (lines_of start.world.input); is = idle_said; front = refl };
    held = record {
      said = [];
      is = idle_said;
      done = 0;
      enough = omega arith;
      few = omega arith;
      stands = same_stands start.world now.world users same stands;
    };
    calls = calls users;
  }

  pub idle_cut : (fault : BoardFault) → CutShort start now users fault
  idle_cut fault = record {
    said = idle_leaves.said;
    held = inr idle_leaves.held;
    others = same_others start.world now.world same;
    calls = calls users;
  }

  -- the serving begins
  pub first_serving : now.world.touched ≡ [] → Serving start now users [] users
  first_serving synced = record {
    more = lines_of start.world.input;
    front = refl;
    said = idle_said;
    reached = refl;
    stands = same_stands start.world now.world users same stands;
    synced = synced;
    others = same_others start.world now.world same;
    calls = calls users;
  }
