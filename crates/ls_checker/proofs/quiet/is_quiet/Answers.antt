use Rattle.std.proofs.Common.{List, ℕ, subst}
use Rattle.ls_board.specs.declared.action.Action.TheVariants.{GkVerify}
use Rattle.ls_checker.proofs.QuietLemmas.{Decides, decides_as}
use Rattle.ls_checker.proofs.quiet.is_quiet.Goals as goal

pub returns-in-WeaverWrite : goal.returns-in-WeaverWrite
returns-in-WeaverWrite c = record {
  decided = decides_as c.args.world.now c.args.holder.now c.is_unnamed_slot.result _ _ c.in-WeaverWrite.is c.is_unnamed_slot.ensures.decided;
}

pub returns-in-WeaverRead : goal.returns-in-WeaverRead
returns-in-WeaverRead c = record {
  decided = decides_as c.args.world.now c.args.holder.now c.is_quiet_reading.result _ _ c.in-WeaverRead.is c.is_quiet_reading.ensures.decided;
}

pub returns-in-GkVerify : goal.returns-in-GkVerify
returns-in-GkVerify c = record {
  decided = decides_as c.args.world.now c.args.holder.now c.is_quiet_check.result _ _ c.in-GkVerify.is
      (subst (λ (password : List ℕ). Decides c.args.world.now c.args.holder.now c.is_quiet_check.result (GkVerify c.in-GkVerify.handle password c.in-GkVerify.moment))
      c.as_slice.ensures.same c.is_quiet_check.ensures.decided);
}
