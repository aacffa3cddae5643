-- What is told of a user, over a board.
use Rattle.std.proofs.Common.{◌≡◌, ◌≢◌, inr, not, ℕ, Bool, true, false, cond, List, Option, None, Some, Result, Ok, Err, refl, sym, ◌∙◌, ap, subst}
use Rattle.std.proofs.lemmas.Bool.{ne_eqb}
use Rattle.ls_board.specs.declared.action.Action.{Action}
use Rattle.ls_board.specs.declared.action.Action.TheVariants.{GkVerify}
use Rattle.ls_board.specs.declared.world.World.{World}
use Rattle.ls_board.specs.Acts.{Sight}
use Rattle.ls_board.specs.Effect.{after}
use Rattle.ls_board.specs.Images.{Leaves}
use Rattle.ls_chain.specs.declared.fault.Spot.{Spot}
use Rattle.ls_chain.specs.declared.fault.ChainFault.{ChainFault}
use Rattle.ls_chain.specs.HandleFile.{handle_password, confirm_action, handle_checked, check_asked, check_end}
use Rattle.ls_chain.specs.Links.{links_at}
use Rattle.ls_chain.specs.Looking.{Looks}
use Rattle.ls_chain.specs.Trying.{MayTry, after_asked, LeavesAsked, asked_of}
use Rattle.ls_naming.specs.Named.{has_secure}
use Rattle.ls_record.specs.declared.row.UserRow.{UserRow}
use Rattle.ls_script.specs.declared.reply.Revealed.{Revealed}
use Rattle.ls_secret.specs.Secrets.{SecretValue}
use Rattle.ls_revealing.specs.Revealing.{secure_asked, secure_end, counts_told, reveal_end}
use Rattle.ls_revealing.proofs.BehindLemmas.{LeavesBehind, tried_err, tried_look}

module _ (row : UserRow) (s : SecretValue) where
  -- the asking, by its two tests
  abbrev asking : Bool → Result (List ℕ) Spot → Option Action
  asking b file = cond b (asked_of file (confirm_action s)) None

  leaves : (b : Bool) (file : Result (List ℕ) Spot) (w image : World) → Leaves (after_asked w (asking b file)) image → LeavesAsked w (asking b file) image
  leaves true (Ok file) w image left = (after w (GkVerify file (handle_password s) 0) 0, inr refl, left)
  leaves true (Err e) w image left = left
  leaves false file w image left = left

  asked_leaves : LeavesBehind (secure_asked row s)
  asked_leaves w image left = leaves (has_secure row) (handle_checked (links_at w row.user 0)) w image left

  stays : (b : Bool) (file : Result (List ℕ) Spot) (w : World) → counts_told row s (after_asked w (asking b file)) ≡ counts_told row s w
  stays true (Ok file) w = refl
  stays true (Err e) w = refl
  stays false file w = refl

  counts_stay : (w : World) → counts_told row s (after_asked w (secure_asked row s w)) ≡ counts_told row s w
  counts_stay w = stays (has_secure row) (handle_checked (links_at w row.user 0)) w

  module _ (old mid : Sight) where
    pub secure_some : (r : Result ℕ ChainFault) → row.secure ≢ 0 → MayTry (check_asked row.user s) (check_end row.user row.secure s) old r mid → MayTry (secure_asked row s) (secure_end row s) old r mid
    secure_some r some tries =
        subst (λ (b : Bool). MayTry (λ w. cond (not b) (check_asked row.user s w) None) (λ w. cond (not b) (check_end row.user row.secure s w) (Ok row.secure)) old r mid)
        (sym (ne_eqb row.secure 0 some)) tries

    pub secure_fails : (e : ChainFault) → MayTry (secure_asked row s) (secure_end row s) old (Err e) mid → MayTry (secure_asked row s) (reveal_end row s) old (Err e) mid
    secure_fails e first = tried_err (secure_asked row s) (secure_end row s) (λ secure w. counts_told row s w) old mid e first

    pub secure_holds : (new : Sight) (secure : ℕ) (r : Result Revealed ChainFault) → MayTry (secure_asked row s) (secure_end row s) old (Ok secure) mid
        → Looks (counts_told row s) mid r new → MayTry (secure_asked row s) (reveal_end row s) old r new
    secure_holds new secure r first second = tried_look (secure_asked row s) (secure_end row s) (λ sid w. counts_told row s w) old mid asked_leaves (λ sid w. counts_stay w) new secure r first second
