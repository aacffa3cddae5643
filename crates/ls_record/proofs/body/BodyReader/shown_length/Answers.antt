use Rattle.std.proofs.Common.{true, refl}
use Rattle.ls_record.specs.Reading.{any}
use Rattle.ls_record.specs.Rows.{is_shown_length}
use Rattle.ls_record.proofs.NumberLemmas.{number_short, number_judged}
use Rattle.ls_record.proofs.body.BodyReader.shown_length.Goals as goal

pub returns-in-Ok : goal.returns-in-Ok
returns-in-Ok c = record {
  gives = number_judged 1 (is_shown_length c.args.kind c.args.auto) any c.args.self.now c.byte.new.self c.in-Ok.n c.in-Ok.ensures.read
      c.at-at.result c.is_shown_length.result true c.judged.result c.at-at.ensures.place c.is_shown_length.ensures.same refl c.judged.ensures.value;
}

pub returns-in-Err : goal.returns-in-Err
returns-in-Err c = record { gives = number_short 1 (is_shown_length c.args.kind c.args.auto) any c.args.self.now c.in-Err.e c.in-Err.ensures.short.0 c.in-Err.ensures.short.1 }
