use Rattle.ls_record.specs.Rows.{is_odd, is_new_token}
use Rattle.ls_record.proofs.NumberLemmas.{number_short, number_judged}
use Rattle.ls_record.proofs.body.BodyReader.token.Goals as goal

pub returns-in-Ok : goal.returns-in-Ok
returns-in-Ok c = record {
  gives = number_judged 8 is_odd (is_new_token c.args.rows.now c.args.user c.args.before.now) c.args.self.now c.number_64.new.self c.in-Ok.id c.in-Ok.ensures.read
      c.at-at.result c.is_odd.result c.is_new_token.result c.judged.result c.at-at.ensures.place c.is_odd.ensures.same c.is_new_token.ensures.same c.judged.ensures.value;
}

pub returns-in-Err : goal.returns-in-Err
returns-in-Err c = record { gives = number_short 8 is_odd (is_new_token c.args.rows.now c.args.user c.args.before.now) c.args.self.now c.in-Err.e c.in-Err.ensures.short.0 c.in-Err.ensures.short.1 }
