use Rattle.std.proofs.Common.{arith}
use Rattle.ls_top.proofs.FileLemmas.{fields_read}
use Rattle.ls_top.proofs.users_file.numbers_in.Goals as goal

pub returns : goal.returns
returns c = record { numbers = λ users each is. fields_read users c.loop-at.numbers.items c.args.fields.now each is (omega arith) (λ k lt. c.loop-at.invariant.read k (omega arith)) }
