-- Reading the settings files: nothing changes.
use Rattle.std.proofs.Common.{◌≡◌, ◌≢◌, ℕ, IsTrue, List, [], Option, Some, None, Result, Ok, Err, MatchOption, IfOk, refl, sym, ◌∙◌, ap, subst}
use Rattle.ls_formats.specs.declared.side.Side.TheVariants.{First, Second}
use Rattle.ls_formats.specs.PartNames.{settings_text}
use Rattle.ls_board.specs.declared.action.Action.{Action}
use Rattle.ls_board.specs.declared.action.Action.TheVariants.{Read}
use Rattle.ls_board.specs.declared.action.Answer.{Answer}
use Rattle.ls_board.specs.declared.action.Answer.TheVariants.{Absent, Bytes}
use Rattle.ls_board.specs.declared.action.BoardFault.{BoardFault}
use Rattle.ls_board.specs.declared.action.BoardFault.TheVariants.{Failed, Memory}
use Rattle.ls_board.specs.declared.world.World.{World}
use Rattle.ls_board.specs.Acts.{Sight, Acts, Moves, Readies}
use Rattle.ls_board.specs.Effect.{file_at, Answers}
use Rattle.ls_board.specs.Images.{Leaves}
use Rattle.ls_board.specs.Runs.{LeavesOnly}
use Rattle.ls_board.proofs.RunLemmas.{started, readied, goes_on, joins}
use Rattle.ls_settings.specs.Loading.{ReadsFile, ReadsFiles}

absent_or_there : (file : Option (List ℕ)) (answer : Answer) (out : List ℕ) → MatchOption file ((answer ≡ Absent) × (out ≡ [])) (λ bytes. (answer ≡ Bytes) × (out ≡ bytes))
    → (found : Option (List ℕ)) → (answer ≡ Absent → found ≡ None) → (answer ≢ Absent → found ≡ Some out) → found ≡ file
absent_or_there None answer out answers found absent there = absent answers.0
absent_or_there (Some bytes) answer out answers found absent there =
    there (λ is. absurd (let no : Bytes ≡ Absent = sym answers.0 ∙ is in cc)) ∙ ap (λ (l : List ℕ). Some l) answers.1

module _ (old ready new : Sight) {E : Type 0} (actions bytes : ℕ) (made : Result Unit E) (readies : Readies old actions bytes made ready) (told : IsTrue old.told) (n : List ℕ)
    (read : Action) (reads : read ≡ Read n) (result : Result Answer BoardFault) (out : List ℕ) (acts : Acts ready read result out new) where
  still_told : IsTrue ready.told
  still_told = subst (λ (s : Sight). IsTrue s.told) (sym readies.same) told

  ready_world : ready.world ≡ old.world
  ready_world = ap (λ (s : Sight). s.world) readies.same

  moves : Moves ready (Read n) result out new
  moves = (subst (λ (a : Action). Acts ready a result out new) reads acts).moves still_told

  by_result : (r : Result Answer BoardFault) → result ≡ r → new.world ≡ ready.world
  by_result (Ok a) is = (subst (λ (r : Result Answer BoardFault). IfOk r (λ a. Answers ready.world (Read n) a out × (new.world ≡ ready.world))) is moves.done).1
  by_result (Err (Failed p)) is = moves.failed p is
  by_result (Err Memory) is = moves.lacking is

  unmoved : new.world ≡ old.world
  unmoved = by_result result refl ∙ ready_world

  crash : LeavesOnly old new (Leaves old.world)
  crash = goes_on old ready new (Read n) result out (Leaves old.world)
      (readied old old ready (Leaves old.world) actions bytes made (started old (Leaves old.world) (λ image left. left)) readies) moves
      (λ image within. subst (λ (w : World). Leaves w image) (within.1 ∙ ready_world) within.2)

  pub read_failed : (fault : BoardFault) → ReadsFile old n (Err fault) new
  read_failed fault = record { file = tt; same = unmoved; crash = crash }

  pub read_done : (answer : Answer) → result ≡ Ok answer → (found : Option (List ℕ)) → (answer ≡ Absent → found ≡ None) → (answer ≢ Absent → found ≡ Some out) → ReadsFile old n (Ok found) new
  read_done answer is found absent there = record {
    file = absent_or_there (file_at ready.world n) answer out
        (subst (λ (r : Result Answer BoardFault). IfOk r (λ a. Answers ready.world (Read n) a out × (new.world ≡ ready.world))) is moves.done).0 found absent there
        ∙ ap (λ (w : World). file_at w n) ready_world;
    same = unmoved;
    crash = crash;
  }

-- ---- both files

module _ (old mid new : Sight) (first : Option (List ℕ)) (one : ReadsFile old (settings_text First) (Ok first) mid) where
  pub second_failed : (fault : BoardFault) → ReadsFile mid (settings_text Second) (Err fault) new → ReadsFiles old (Err fault) new
  second_failed fault two = record {
    first = tt;
    second = tt;
    same = two.same ∙ one.same;
    crash = joins old mid new (Leaves old.world) one.crash (subst (λ (w : World). LeavesOnly mid new (Leaves w)) one.same two.crash);
  }

  pub both_read : (second : Option (List ℕ)) → ReadsFile mid (settings_text Second) (Ok second) new → ReadsFiles old (Ok (record { first = first; second = second })) new
  both_read second two = record {
    first = one.file;
    second = two.file ∙ ap (λ (w : World). file_at w (settings_text Second)) one.same;
    same = two.same ∙ one.same;
    crash = joins old mid new (Leaves old.world) one.crash (subst (λ (w : World). LeavesOnly mid new (Leaves w)) one.same two.crash);
  }
