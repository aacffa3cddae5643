use Rattle.std.proofs.Common.{◌≡◌, ◌∙◌, sym, ap, true, false, not, arith}
use Rattle.std.proofs.lemmas.Result.{err_from_is_err_and}
use Rattle.sha2.specs.Sha256.{sha256}
use Rattle.ls_secure.specs.Held.{image_of}
use Rattle.ls_secure.specs.Secure.{front, spelling}
use Rattle.ls_secure.proofs.ReadingLemmas.{given, lacked, closed_is}
use Rattle.ls_secure.proofs.reading.parse.Goals as goal

pub returns-in_err-sequence-clause-foreign : goal.returns-in_err-sequence-clause-foreign
returns-in_err-sequence-clause-foreign c = λ i is foreign.
    let file = c.begun.ensures.gives i (sha256 (front i)) is.sequence is.kept (is.is ∙ closed_is (front i)) in
    let lacks = lacked (λ r. image_of r.0 r.1 ≡ i) c.begun.result c.in_err-sequence.field-0.0 c.in_err-sequence.was file in
    let p = err_from_is_err_and c.from_residual.result c.from_residual.ensures.1 in
    absurd (cc (p.1, p.2, lacks, foreign))

pub returns-then-not-branch-clause-foreign : goal.returns-then-not-branch-clause-foreign
returns-then-not-branch-clause-foreign c = λ i is foreign.
    let file = c.begun.ensures.gives i (sha256 (front i)) is.sequence is.kept (is.is ∙ closed_is (front i)) in
    let same = given (λ r. image_of r.0 r.1 ≡ i) c.begun.result (c.in_ok-sequence.sequence, c.in_ok-sequence.devices) c.in_ok-sequence.was file in
    let yes = c.in_ok-is_file_of.ensures.same.1 (is.is ∙ ap spelling (sym same)) in
    absurd (let no = c.if-not-branch.true in cc)

pub returns-clause-only : goal.returns-clause-only
returns-clause-only c = λ i is.
    let file = c.begun.ensures.gives i (sha256 (front i)) is.sequence is.kept (is.is ∙ closed_is (front i)) in
    given (λ r. image_of r.0 r.1 ≡ i) c.begun.result (c.in_ok-sequence.sequence, c.in_ok-sequence.devices) c.in_ok-sequence.was file
