-- A call whose first reading met the world.
use Rattle.std.proofs.Common.{◌≡◌, ◌++◌, ◌∷◌, ℕ, Bool, IsTrue, List, Option, None, Result, Ok, Err, sym, ap, subst}
use Rattle.ls_board.specs.declared.action.Action.{Action}
use Rattle.ls_board.specs.declared.action.Answer.{Answer}
use Rattle.ls_board.specs.declared.action.BoardFault.{BoardFault}
use Rattle.ls_board.specs.declared.action.BoardFault.TheVariants.{Failed as BoardFailed, Memory as BoardMemory}
use Rattle.ls_board.specs.declared.world.World.{World}
use Rattle.ls_board.specs.Acts.{Sight, Acts, Readies}
use Rattle.ls_board.specs.Images.{changing}
use Rattle.ls_chain.specs.declared.fault.ChainFault.{ChainFault}
use Rattle.ls_chain.specs.declared.fault.ChainFault.TheVariants.{Corrupt, Failed, Memory}
use Rattle.ls_chain.specs.Calling.{BeginsByReading, CallsAtMost}
use Rattle.ls_chain.specs.Looking.{fault_of}
use Rattle.ls_chain.specs.Trying.{OnAnswer}
use Rattle.ls_chain.proofs.CallingLemmas.{begins, begins_still, on_answer, on_fault}

-- a fault of the board is no answer
pub no_answer : (T : Type 0) (e : BoardFault) (P : Type 0) → OnAnswer {T = T} (Err (fault_of e)) P
no_answer T (BoardFailed part) P = tt
no_answer T BoardMemory P = tt

-- one reading behind some room
pub met_reading : (old ready new : Sight) {E : Type 0} (actions bytes : ℕ) (made : Result Unit E) → Readies old actions bytes made ready → (a : Action) (result : Result Answer BoardFault) (out : List ℕ)
    → changing a ≡ None → Acts ready a result out new → IsTrue old.told → BeginsByReading old new
met_reading old ready new actions bytes made readies a result out none acts told =
    begins old ready new actions bytes made readies a result out none (acts.moves (subst (λ (s : Sight). IsTrue s.told) (sym readies.same) told))

-- what comes behind an answer
module _ {A B : Type 0} (old mid new : Sight) (t : A) (r : Result B ChainFault) (a : Option Action) where
  pub met_behind : (IsTrue old.told → OnAnswer {T = A} (Ok t) (BeginsByReading old mid)) → (IsTrue old.told → CallsAtMost a mid new) → IsTrue old.told → OnAnswer r (BeginsByReading old new)
  met_behind first calls told = on_answer r (BeginsByReading old new) (begins_still a old mid new (first told) (calls told))

-- it ends with its fault
pub met_fault : (A B : Type 0) (old mid : Sight) (e : ChainFault) → (IsTrue old.told → OnAnswer {T = A} (Err e) (BeginsByReading old mid)) → IsTrue old.told → OnAnswer {T = B} (Err e) (BeginsByReading old mid)
met_fault A B old mid e first told = on_fault A B e (BeginsByReading old mid) (first told)
