use Rattle.std.proofs.Common.{◌≡◌, Some}
use Rattle.ls_record.specs.Edits.{edit_bytes}
use Rattle.ls_record.proofs.LeadingLemmas.{read_back, only_found}
use Rattle.ls_record.proofs.record.Record.if_may.Goals as goal

pub returns-in-Ok-clause-only : goal.returns-in-Ok-clause-only
returns-in-Ok-clause-only c = λ may.
    let is : c.as_slice.result.now ≡ edit_bytes 2 c.args.edit.now = cc (c.in_ok-text.ensures.spelled) in
    let same = read_back c.args.self.now c.read_change.ensures.kept c.args.edit.now c.as_slice.result.now is c.in-Ok.read c.in-Ok.ensures.exact may in
    λ i. Some (same i)

pub returns-clause-only : goal.returns-clause-only
returns-clause-only c = λ may.
    let is : c.as_slice.result.now ≡ edit_bytes 2 c.args.edit.now = cc (c.in_ok-text.ensures.spelled) in
    only_found c.args.self.now c.read_change.ensures.kept c.args.edit.now c.as_slice.result.now is c.in-Err.fault c.in-Err.ensures.exact c.refused.result c.refused.ensures.refused may
