use Rattle.std.proofs.Common.{◌≡◌, ◌⊎◌, ℕ, refl, sym, subst}
use Rattle.std.proofs.lemmas.Result.{err_from_is_err_and}
use Rattle.ls_settings.proofs.FrontLemmas.{body_format, too_long, bad_body, plain, bad_entry, with_journal}
use Rattle.ls_settings.proofs.content.read_front.Goals as goal

pub returns-then-length-gt4083 : goal.returns-then-length-gt4083
returns-then-length-gt4083 c = record {
  exact = too_long c.args.file.now c.length_word-word.result c.base_in-sequence.result c.length_word-word.ensures.word c.base_in-sequence.ensures.same c.if-length-gt4083.true;
}

pub returns-in_err-record : goal.returns-in_err-record
returns-in_err-record c =
    let p = err_from_is_err_and c.from_residual.result c.from_residual.ensures.1 in
    rw (p.1, p.2) (record {
      exact = bad_body c.args.file.now c.length_word-word.result c.base_in-sequence.result c.length_word-word.ensures.word c.base_in-sequence.ensures.same c.if-length-gt4083.false
          c.body_in.result.now c.body_in.ensures.body c.in_err-record.field-0.0 c.in_err-record.ensures.exact;
    })

pub returns-then-word : goal.returns-then-word
returns-then-word c = record {
  exact = plain c.args.file.now c.length_word-word.result c.base_in-sequence.result c.length_word-word.ensures.word c.base_in-sequence.ensures.same c.if-length-gt4083.false
      c.body_in.result.now c.body_in.ensures.body c.in_ok-record.record c.in_ok-record.ensures.exact.0 c.if-word.true _ refl refl refl c.byte_at-format.ensures.same;
}

pub read_entries-requires-clause-format : goal.read_entries-requires-clause-format
read_entries-requires-clause-format c =
    subst (λ (n : ℕ). (n ≡ 1) ⊎ (n ≡ 2)) (sym c.byte_at-format.ensures.same)
    (body_format c.args.file.now c.body_in.result.now _ c.in_ok-record.record c.body_in.ensures.body c.in_ok-record.ensures.exact.1)

pub returns-in_err-walk : goal.returns-in_err-walk
returns-in_err-walk c =
    let p = err_from_is_err_and c.from_residual-in_err-walk.result c.from_residual-in_err-walk.ensures.1 in
    rw (p.1, p.2) (record {
      exact = bad_entry c.args.file.now c.length_word-word.result c.base_in-sequence.result c.length_word-word.ensures.word c.base_in-sequence.ensures.same c.if-length-gt4083.false
          c.body_in.result.now c.body_in.ensures.body c.in_ok-record.record c.in_ok-record.ensures.exact.0 c.if-word.false c.in_err-walk.field-0.0 c.in_err-walk.ensures.exact;
    })

pub returns : goal.returns
returns c =
    let walked = c.in_ok-walk.ensures.exact in
    record {
      exact = with_journal c.args.file.now c.length_word-word.result c.base_in-sequence.result c.length_word-word.ensures.word c.base_in-sequence.ensures.same c.if-length-gt4083.false
          c.body_in.result.now c.body_in.ensures.body c.in_ok-record.record c.in_ok-record.ensures.exact.0 c.if-word.false _ c.in_ok-walk.walk.at walked.says walked.count walked.ends refl c.byte_at-format.ensures.same;
    }
