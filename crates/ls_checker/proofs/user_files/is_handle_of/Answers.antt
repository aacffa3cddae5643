use Rattle.ls_checker.proofs.HandleLemmas.{is_handle, no_handle}
use Rattle.ls_checker.proofs.user_files.is_handle_of.Goals as goal

pub returns-then-handle-ne49 : goal.returns-then-handle-ne49
returns-then-handle-ne49 c = record {
  decided = no_handle c.args.handle.now c.args.device.now c.args.id c.args.password.now c.if-handle-ne49.true;
}

pub returns : goal.returns
returns c = record {
  decided = is_handle c.args.handle.now c.args.device.now c.args.id c.args.password.now c.salt_of.result c.signed-signed.result c.same_bytes.result
      c.salt_of.ensures.same c.signed-signed.ensures.same c.same_bytes.ensures.same;
}
