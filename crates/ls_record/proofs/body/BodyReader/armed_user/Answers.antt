use Rattle.std.proofs.Common.{true, refl}
use Rattle.ls_record.specs.Reading.{any}
use Rattle.ls_record.specs.Rows.{is_next_armed}
use Rattle.ls_record.proofs.NumberLemmas.{number_short, number_judged}
use Rattle.ls_record.proofs.body.BodyReader.armed_user.Goals as goal

pub returns-in-Ok : goal.returns-in-Ok
returns-in-Ok c = record {
  gives = number_judged 4 any (is_next_armed c.args.rows.now c.args.before.now) c.args.self.now c.number_32.new.self c.in-Ok.n c.in-Ok.ensures.read
      c.at-at.result true c.is_next_armed.result c.judged.result c.at-at.ensures.place refl c.is_next_armed.ensures.same c.judged.ensures.value;
}

pub returns-in-Err : goal.returns-in-Err
returns-in-Err c = record { gives = number_short 4 any (is_next_armed c.args.rows.now c.args.before.now) c.args.self.now c.in-Err.e c.in-Err.ensures.short.0 c.in-Err.ensures.short.1 }
