use Rattle.std.proofs.Common.{◌≡◌, List, Ok, Err, true, false, refl, sym, ap, subst, ◌∙◌, arith}
use Rattle.std.proofs.lemmas.Result.{err_from_is_err_and}
use Rattle.ls_record.specs.declared.row.UserRow.{UserRow}
use Rattle.ls_record.specs.declared.fault.RecordFault.TheVariants.{Extra}
use Rattle.ls_record.specs.Rows.{rec}
use Rattle.ls_record.specs.Reading.{arming_at}
use Rattle.ls_record.specs.Gives.{Tells}
use Rattle.ls_record.proofs.RecordReaders.{record_takes, format_fails, count_fails, rows_fail, arming_fails, body_read, more_stands}
use Rattle.ls_record.proofs.record.Record.read.Goals as goal

pub returns-in_err-format : goal.returns-in_err-format
returns-in_err-format c =
    let p = err_from_is_err_and c.from_residual-in_err-format.result c.from_residual-in_err-format.ensures.1 in
    record { exact = rw (p.1, p.2) (format_fails c.args.bytes.now c.in_ok-reader.reader c.in_ok-reader.ensures.first c.in_err-format.field-0.0 c.in_err-format.ensures.gives) }

pub returns-in_err-n : goal.returns-in_err-n
returns-in_err-n c =
    let p = err_from_is_err_and c.from_residual-in_err-n.result c.from_residual-in_err-n.ensures.1 in
    record {
      exact = rw (p.1, p.2)
          (count_fails c.args.bytes.now c.in_ok-reader.reader c.in_ok-reader.ensures.first c.in_ok-format.format c.count.new.self c.in_ok-format.ensures.gives
          c.in_err-n.field-0.0 c.in_err-n.ensures.gives);
    }

pub returns-in_err-users : goal.returns-in_err-users
returns-in_err-users c =
    let p = err_from_is_err_and c.from_residual-in_err-users.result c.from_residual-in_err-users.ensures.1 in
    record {
      exact = rw (p.1, p.2)
          (rows_fail c.args.bytes.now c.in_ok-reader.reader c.in_ok-reader.ensures.first c.in_ok-format.format c.count.new.self c.in_ok-format.ensures.gives
          c.in_ok-n.n c.count-2.new.self c.in_ok-n.ensures.gives c.in_err-users.field-0.0 c.in_err-users.ensures.gives);
    }

pub returns-in_err-armed : goal.returns-in_err-armed
returns-in_err-armed c =
    let p = err_from_is_err_and c.from_residual-in_err-armed.result c.from_residual-in_err-armed.ensures.1 in
    let told = subst (λ (l : List UserRow). Tells (arming_at l c.rows.new.self) c.in_err-armed.field-0.0) c.as_slice.ensures.same c.in_err-armed.ensures.gives in
    record {
      exact = rw (p.1, p.2)
          (arming_fails c.args.bytes.now c.in_ok-reader.reader c.in_ok-reader.ensures.first c.in_ok-format.format c.count.new.self c.in_ok-format.ensures.gives
          c.in_ok-n.n c.count-2.new.self c.in_ok-n.ensures.gives c.in_ok-users.users c.rows.new.self c.in_ok-users.ensures.gives c.in_err-armed.field-0.0 told);
    }

pub returns-then-not-ended : goal.returns-then-not-ended
returns-then-not-ended c =
    let read = subst (λ (l : List UserRow). arming_at l c.rows.new.self ≡ Ok (c.in_ok-armed.armed, c.arming.new.self)) c.as_slice.ensures.same c.in_ok-armed.ensures.gives in
    record {
      exact =
          more_stands c.args.bytes.now c.in_ok-reader.reader c.in_ok-reader.ensures.first c.in_ok-format.format c.count.new.self c.in_ok-format.ensures.gives
          c.in_ok-n.n c.count-2.new.self c.in_ok-n.ensures.gives c.in_ok-users.users c.rows.new.self c.in_ok-users.ensures.gives
          c.in_ok-armed.armed c.arming.new.self read (λ none. let bad : false ≡ true = c.if-not-ended.ensures.none_left.1 none in cc)
          ∙ ap (λ n. Err (Extra n)) (sym c.at.ensures.place);
    }

pub returns : goal.returns
returns c =
    let read = subst (λ (l : List UserRow). arming_at l c.rows.new.self ≡ Ok (c.in_ok-armed.armed, c.arming.new.self)) c.as_slice.ensures.same c.in_ok-armed.ensures.gives in
    record {
      exact =
          body_read c.args.bytes.now c.in_ok-reader.reader c.in_ok-reader.ensures.first c.in_ok-format.format c.count.new.self c.in_ok-format.ensures.gives
          c.in_ok-n.n c.count-2.new.self c.in_ok-n.ensures.gives c.in_ok-users.users c.rows.new.self c.in_ok-users.ensures.gives
          c.in_ok-armed.armed c.arming.new.self read (c.if-not-ended.ensures.none_left.0 refl);
    }

pub invariant_of-result : goal.invariant_of-result
invariant_of-result c =
    let read = subst (λ (l : List UserRow). arming_at l c.rows.new.self ≡ Ok (c.in_ok-armed.armed, c.arming.new.self)) c.as_slice.ensures.same c.in_ok-armed.ensures.gives in
    let body =
    body_read c.args.bytes.now c.in_ok-reader.reader c.in_ok-reader.ensures.first c.in_ok-format.format c.count.new.self c.in_ok-format.ensures.gives
    c.in_ok-n.n c.count-2.new.self c.in_ok-n.ensures.gives c.in_ok-users.users c.rows.new.self c.in_ok-users.ensures.gives
    c.in_ok-armed.armed c.arming.new.self read (c.if-not-ended.ensures.none_left.0 refl) in
    (record_takes c.args.bytes.now (rec c.in_ok-users.users c.in_ok-armed.armed) (λ i. omega (arith, c.type_inv.bytes i)) body).0
