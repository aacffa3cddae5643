use Rattle.std.proofs.Common.{refl}
use Rattle.ls_sweep.proofs.ListLemmas.{whole_fields}
use Rattle.ls_sweep.proofs.lists.numbers_of.Goals as goal

pub loop-rest-init : goal.loop-rest-init
loop-rest-init c = record {
  read = rw c.new-numbers.ensures.none refl;
  whole = whole_fields c.args.bytes.now c.requires.fields;
  each = rw c.new-numbers.ensures.none tt;
}
