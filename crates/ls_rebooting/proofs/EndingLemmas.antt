-- An arming ends.
use Rattle.std.proofs.Common.{◌≡◌, ◌≢◌, ◌≤◌, ◌+◌, ℕ, Bool, IsTrue, [], ◌∷◌, None, refl, sym, subst, arith}
use Rattle.std.specs.Prelude.{IsSome, length, sum_by, Result, Ok}
use Rattle.ls_board.specs.declared.action.Action.TheVariants.{ResumeTake}
use Rattle.ls_board.specs.Acts.{Sight}
use Rattle.ls_board.specs.Effect.{weight_of}
use Rattle.ls_board.specs.Reach.{AllTouchOnly}
use Rattle.ls_board.specs.Runs.{Did}
use Rattle.ls_change.specs.declared.work.Work.{Work}
use Rattle.ls_change.specs.Work.{HasRoom, IsQuietWork, actions_of}
use Rattle.ls_naming.specs.Current.{last_sequence}
use Rattle.ls_protector.specs.Steps.{Steps}
use Rattle.ls_script.specs.declared.reply.Reply.{Reply}
use Rattle.ls_script.specs.declared.reply.Reply.TheVariants.{Fine}
use Rattle.ls_settings.specs.Loaded.{settings_reach}
use Rattle.ls_turn.specs.declared.session.Session.{Session}
use Rattle.ls_turn.specs.declared.stop.Stop.{Stop}
use Rattle.ls_turn.specs.Serving.{Always, CanServe, Serves}
use Rattle.ls_turn.specs.Working.{LeavesKept}
use Rattle.ls_turn.proofs.StillLemmas.{answered}
use Rattle.ls_rebooting.specs.Clearing.{EndsArming}
use Rattle.ls_rebooting.proofs.ArmedLemmas.{some_armed, some_users}
use Rattle.ls_rebooting.specs.Ending.{HasRoomBehind, clears, unarming, without_key}
use Rattle.ls_rebooting.proofs.CarryLemmas.{clears_left, clears_quiet, clears_sound}
use Rattle.ls_rebooting.proofs.GoingLemmas.{going_on}
use Rattle.ls_rebooting.proofs.TakingLemmas.{taken_can, taking_goes}
use Rattle.ls_rebooting.proofs.TurnLemmas.{stays, unarming_clears, unarming_none, unarming_stays}

-- ---- nothing was armed

pub none_serves : (old : Sight) (x : Session) → CanServe old x → x.settings.settled.rec.armed ≡ None → Serves old x unarming Always (Ok Fine) x old
none_serves old x can none = answered old x unarming Always Fine can (omega arith) (λ s agrees. unarming_none old.world x s agrees none)

-- ---- the cell is emptied, and nothing can be kept

pub alone_serves : {T : Type 0} (old mid : Sight) (x : Session) (t : T) → CanServe old x → IsSome x.settings.settled.rec.armed → x.settings.settled.sequence ≡ last_sequence
    → Steps {T = T} old (ResumeTake ∷ []) (Ok t) mid → Serves old x unarming Always (Ok Fine) x mid
alone_serves old mid x t can some last steps =
    going_on old mid mid x x (without_key x.settings.settled.rec.armed) unarming stays (Ok Fine) (taking_goes old mid x steps.did steps.crash)
    (λ told s agrees.
    let a = some_armed x.settings.settled.rec.armed some in
    unarming_stays old.world x s agrees mid.world (steps.did.world told) a.0 a.1 (some_users x.settings.settled.rec a.0 agrees.keeps a.1) last)
    (λ s. refl) (answered mid x stays Always Fine (taken_can old mid x steps.did can) (omega arith) (λ s agrees. refl))

-- ---- the cell is emptied, and the record without the arming is committed

-- what room is left is that of the change
pub room_behind : (mid new : Sight) (x : Session) (k : Work) → EndsArming x.settings k → HasRoomBehind mid k → Did mid (ResumeTake ∷ []) new → HasRoom new k
room_behind mid new x k ends room did = record {
  actions = by (length (actions_of k)) room.actions did.actions;
  bytes = subst (λ (n : ℕ). sum_by weight_of (actions_of k) ≤ n) (sym (same new.bytes did.bytes)) room.bytes;
  before = (clears_sound x k ends new.slots).0;
  after = (clears_sound x k ends new.slots).1;
}
  where
    by : (n : ℕ) → n + 1 ≤ mid.actions → new.actions + 1 ≡ mid.actions → n ≤ new.actions
    by n fits is = omega arith

    same : (n : ℕ) → n + 0 ≡ mid.bytes → n ≡ mid.bytes
    same n is = omega arith

pub told_before : (mid new : Sight) → Did mid (ResumeTake ∷ []) new → IsTrue new.told → IsTrue mid.told
told_before mid new did now = subst (λ (b : Bool). IsTrue b) did.told now

-- what is asked of the change, once the cell is empty
module _ (s : Sight) (x : Session) (k : Work) (can : CanServe s x) (ends : EndsArming x.settings k) (commits : AllTouchOnly settings_reach k.commit.actions) where
  pub quiet_behind : IsTrue s.told → IsQuietWork s.world x.settings k
  quiet_behind told = clears_quiet x k ends commits s.world (can.ready told)

  pub left_behind : IsTrue s.told → LeavesKept s.world k x.named.items x.retired.items
  left_behind told = clears_left x k ends commits s.world (can.numbers told) (can.apart told) (can.retired told)

pub clearing_serves : {T : Type 0} (old mid new : Sight) (x y : Session) (t : T) (k : Work) (result : Result Reply Stop) → EndsArming x.settings k → x.settings.settled.sequence ≢ last_sequence
    → Steps {T = T} old (ResumeTake ∷ []) (Ok t) mid → Serves mid x clears Always result y new → Serves old x unarming Always result y new
clearing_serves old mid new x y t k result ends fresh steps serves =
    going_on old mid new x y (without_key x.settings.settled.rec.armed) unarming clears result (taking_goes old mid x steps.did steps.crash)
    (λ told s agrees. unarming_clears old.world x s agrees mid.world (steps.did.world told) ends.armed ends.named (some_users x.settings.settled.rec ends.armed ends.rules ends.named) fresh)
    (λ s. refl) serves
