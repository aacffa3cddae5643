use Rattle.std.proofs.Common.{true, refl}
use Rattle.ls_record.specs.Reading.{any}
use Rattle.ls_record.specs.Edits.{has_room}
use Rattle.ls_record.proofs.NumberLemmas.{number_short, number_judged}
use Rattle.ls_record.proofs.body.BodyReader.put_user.Goals as goal

pub returns-in-Ok : goal.returns-in-Ok
returns-in-Ok c = record {
  gives = number_judged 4 (has_room c.args.rows.now) any c.args.self.now c.number_32.new.self c.in-Ok.n c.in-Ok.ensures.read
      c.at-at.result c.has_room.result true c.judged.result c.at-at.ensures.place c.has_room.ensures.same refl c.judged.ensures.value;
}

pub returns-in-Err : goal.returns-in-Err
returns-in-Err c = record { gives = number_short 4 (has_room c.args.rows.now) any c.args.self.now c.in-Err.e c.in-Err.ensures.short.0 c.in-Err.ensures.short.1 }
