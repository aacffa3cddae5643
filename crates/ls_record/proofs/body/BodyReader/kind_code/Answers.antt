use Rattle.std.proofs.Common.{true, refl}
use Rattle.std.specs.Prelude.{is_some}
use Rattle.ls_record.specs.Reading.{any}
use Rattle.ls_credential.specs.Codes.{kind_of}
use Rattle.ls_record.proofs.NumberLemmas.{number_short, number_judged}
use Rattle.ls_record.proofs.body.BodyReader.kind_code.Goals as goal

pub returns-in-Ok : goal.returns-in-Ok
returns-in-Ok c = record {
  gives = number_judged 1 (λ b. is_some (kind_of b)) any c.args.self.now c.byte.new.self c.in-Ok.n c.in-Ok.ensures.read
      c.at-at.result c.is_kind.result true c.judged.result c.at-at.ensures.place c.is_kind.ensures.same refl c.judged.ensures.value;
}

pub returns-in-Err : goal.returns-in-Err
returns-in-Err c = record { gives = number_short 1 (λ b. is_some (kind_of b)) any c.args.self.now c.in-Err.e c.in-Err.ensures.short.0 c.in-Err.ensures.short.1 }
