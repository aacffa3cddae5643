use Rattle.ls_record.specs.Rows.{is_secure_id, is_new_secure}
use Rattle.ls_record.proofs.NumberLemmas.{number_short, number_judged}
use Rattle.ls_record.proofs.body.BodyReader.secure.Goals as goal

pub returns-in-Ok : goal.returns-in-Ok
returns-in-Ok c = record {
  gives = number_judged 8 (is_secure_id c.args.kind) (is_new_secure c.args.rows.now c.args.user) c.args.self.now c.number_64.new.self c.in-Ok.id c.in-Ok.ensures.read
      c.at-at.result c.is_secure_id.result c.is_new_secure.result c.judged.result c.at-at.ensures.place c.is_secure_id.ensures.same c.is_new_secure.ensures.same c.judged.ensures.value;
}

pub returns-in-Err : goal.returns-in-Err
returns-in-Err c = record { gives = number_short 8 (is_secure_id c.args.kind) (is_new_secure c.args.rows.now c.args.user) c.args.self.now c.in-Err.e c.in-Err.ensures.short.0 c.in-Err.ensures.short.1 }
