-- An attempt answers what it finds, in every world.
use Rattle.std.proofs.Common.{◌≡◌, inl, inr, ℕ, Bool, IsTrue, Option, Result, Ok, Err, refl, sym, ◌∙◌, ap, subst}
use Rattle.std.specs.Prelude.{IfOk}
use Rattle.ls_board.specs.declared.action.Action.{Action}
use Rattle.ls_board.specs.declared.action.BoardFault.{BoardFault}
use Rattle.ls_board.specs.declared.action.BoardFault.TheVariants as board
use Rattle.ls_board.specs.declared.world.World.{World}
use Rattle.ls_board.specs.Acts.{Sight}
use Rattle.ls_chain.specs.declared.fault.Spot.{Spot}
use Rattle.ls_chain.specs.declared.fault.ChainFault.{ChainFault}
use Rattle.ls_chain.specs.declared.fault.ChainFault.TheVariants.{Corrupt, Failed, Memory}
use Rattle.ls_chain.specs.Links.{next_of}
use Rattle.ls_chain.specs.Looking.{Finds}
use Rattle.ls_chain.specs.Trying.{MayTry, after_asked}
use Rattle.ls_record.specs.declared.row.UserRow.{UserRow}
use Rattle.ls_revealing.specs.Revealing.{secure_asked, reveal_end}
use Rattle.ls_script.specs.declared.reply.Reply.{Reply}
use Rattle.ls_script.specs.declared.reply.Revealed.{Revealed}
use Rattle.ls_secret.specs.Secrets.{SecretValue}
use Rattle.ls_turn.specs.declared.session.Session.{Session}
use Rattle.ls_turn.specs.declared.stop.Stop.{Stop}
use Rattle.ls_unlocking.specs.declared.ending.Tried.{Tried}
use Rattle.ls_unlocking.specs.declared.ending.Tried.TheVariants as tried
use Rattle.ls_unlocking.specs.declared.ending.Ending.{Ending}
use Rattle.ls_unlocking.specs.declared.ending.Ending.TheVariants as ending
use Rattle.ls_unlocking.specs.Finishing.{Finishes, StopsBy}
use Rattle.ls_unlocking.specs.Found.{told_in, unlocked_in, reply_of}
use Rattle.ls_unlocking.specs.Trying.{IsBehind, Unlocks, ending_of}

module _ (row : UserRow) (ask : World → Option Action) (look : World → Result Tried Spot) (old mid new : Sight) (told : IsTrue old.told) where
  abbrev found : Result Ending Spot
  found = unlocked_in row old.world (ask old.world) (look old.world)

  abbrev behind : World
  behind = after_asked old.world (ask old.world)

  module _ (s : SecretValue) (m : MayTry ask look old (Ok (tried.Opened s)) mid) where
    still : IsTrue mid.told
    still = subst (λ (b : Bool). IsTrue b) (sym m.keeps.told) told

    tells : found ≡ next_of (reveal_end row s mid.world) (λ revealed. Ok (ending.Opened s revealed))
    tells =
        ap (λ (x : Result Tried Spot). next_of x (told_in row behind)) (m.finds told)
        ∙ ap (λ (w : World). next_of (reveal_end row s w) (λ revealed. Ok (ending.Opened s revealed))) (sym (m.asked told))

    by_reveal : (r : Result Revealed ChainFault) → MayTry (secure_asked row s) (reveal_end row s) mid r new → Finds found (ending_of s r)
    by_reveal (Ok revealed) b = tells ∙ ap (λ (x : Result Revealed Spot). next_of x (λ revealed. Ok (ending.Opened s revealed))) (b.finds still)
    by_reveal (Err (Corrupt spot)) b = tells ∙ ap (λ (x : Result Revealed Spot). next_of x (λ revealed. Ok (ending.Opened s revealed))) (b.finds still)
    by_reveal (Err (Failed part)) b = tt
    by_reveal (Err Memory) b = tt

  finds_by : (end : Result Ending ChainFault) (t : Result Tried ChainFault) → MayTry ask look old t mid → IsBehind row mid t end new → Finds found end
  finds_by end (Ok (tried.Opened s)) m b = subst (Finds found) (sym b.2) (by_reveal s m b.0 b.1)
  finds_by end (Ok (tried.Refused why)) m b =
      subst (Finds found) (sym b.0) (ap (λ (x : Result Tried Spot). next_of x (told_in row behind)) (m.finds told))
  finds_by end (Err (Corrupt spot)) m b =
      subst (Finds found) (sym b.0) (ap (λ (x : Result Tried Spot). next_of x (told_in row behind)) (m.finds told))
  finds_by end (Err (Failed part)) m b = subst (Finds found) (sym b.0) tt
  finds_by end (Err Memory) m b = subst (Finds found) (sym b.0) tt

pub unlock_finds : (row : UserRow) (ask : World → Option Action) (look : World → Result Tried Spot) (old : Sight) (end : Result Ending ChainFault) (new : Sight) → Unlocks row ask look old end new
    → IsTrue old.told → Finds (unlocked_in row old.world (ask old.world) (look old.world)) end
unlock_finds row ask look old end new u told = finds_by row ask look old u.mid new told end u.tried u.trying u.behind

-- the session tells it so
module _ (user credential id : ℕ) (x y : Session) (found : Result Ending Spot) (result : Result Reply Stop) where
  abbrev Told : Result Reply Stop → Type 0
  Told r = IfOk r (λ r. r ≡ reply_of user credential id found)

  replied : (r : Reply) → result ≡ Ok r → (e : Result Ending Spot) → found ≡ e → r ≡ reply_of user credential id e → Told result
  replied r is e same its = subst Told (sym is) (its ∙ ap (reply_of user credential id) (sym same))

  stopped : (fault : BoardFault) → StopsBy x fault result y → Told result
  stopped fault s = subst Told (sym s.answer) tt

  pub finish_found : (end : Result Ending ChainFault) → Finds found end → Finishes user credential id x end result y → Told result
  finish_found (Ok (ending.Opened s revealed)) e (inl f) = replied _ f.0 _ e refl
  finish_found (Ok (ending.Opened s revealed)) e (inr f) = stopped board.Memory f
  finish_found (Ok (ending.Refused why)) e f = replied _ f.0 _ e refl
  finish_found (Err (Corrupt spot)) e (inl f) = replied _ f.0 _ e refl
  finish_found (Err (Corrupt spot)) e (inr f) = stopped board.Memory f
  finish_found (Err (Failed part)) e f = stopped (board.Failed part) f
  finish_found (Err Memory) e f = stopped board.Memory f
