use Rattle.std.proofs.Common.{rules, ◌≡◌, ◌∙◌, ap, sym, Bool, true, false, []}
use Rattle.ls_memboard.specs.declared.call.Kind.TheVariants as kind
use Rattle.ls_memboard.specs.Beside.{bare, beside}
use Rattle.ls_memboard.specs.Calls.{call_from, call_of}
use Rattle.ls_memboard.specs.Replay.{after_call}
use Rattle.ls_memboard.proofs.BesideLemmas.{idle_beside, verify_beside}
use Rattle.ls_memboard.proofs.devices.Devices.redo.Goals as goal

pub returns-then-not-e-clause-done : goal.returns-then-not-e-clause-done
returns-then-not-e-clause-done c =
    let d = c.args.self.now in
    let e = c.args.e.now in
    let idle : e.whole ≡ false = search rules in
    let call = call_of c.args.pool.now e.kept in
    idle_beside d call e.count ∙ ap (λ (b : Bool). bare (after_call (beside d) call b e.count)) (sym idle)

pub returns-in-GkVerify-clause-done : goal.returns-in-GkVerify-clause-done
returns-in-GkVerify-clause-done c =
    let d = c.args.self.now in
    let e = c.args.e.now in
    let whole : e.whole ≡ true = search rules in
    let is : call_of c.args.pool.now e.kept ≡ call_from (kind.GkVerify c.in-GkVerify.handle c.in-GkVerify.moment) [] c.part-bytes.result.now = search rules in
    verify_beside d c.verify.new.self c.in-GkVerify.handle c.part-bytes.result.now c.in-GkVerify.moment e.count c.verify.ensures.key c.verify.ensures.records
    ∙ (λ i. bare (after_call (beside d) (sym is i) (sym whole i) e.count))
