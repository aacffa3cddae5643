use Rattle.std.proofs.Common.{◌≡◌, ◌∙◌}
use Rattle.std.specs.Cmp.Lexicographic.{pointwise}
use Rattle.std.proofs.Math.Dec.{eqb}
use Rattle.ls_record.specs.Spelling.{record_bytes}
use Rattle.ls_record.proofs.LeadingLemmas.{same_records}
use Rattle.ls_record.proofs.record.Record.same.Goals as goal

pub returns-clause-same : goal.returns-clause-same
returns-clause-same c =
    let one : c.as_slice.result.now ≡ record_bytes 2 c.args.self.now = cc (c.in_ok-text.ensures.spelled) in
    let two : c.as_slice-2.result.now ≡ record_bytes 2 c.args.other.now = cc (c.in_ok-other_text.ensures.spelled) in
    same_records c.args.self.now c.args.other.now c.print.ensures.kept c.print-2.ensures.kept c.eq.result (c.eq.ensures ∙ (λ i. pointwise eqb (one i) (two i)))
