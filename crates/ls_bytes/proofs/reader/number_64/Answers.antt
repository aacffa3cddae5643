use Rattle.std.proofs.Common.{◌≡◌, arith}
use Rattle.byteorder.specs.Endian.{big_number}
use Rattle.ls_bytes.proofs.FieldLemmas.{be64-big_number}
use Rattle.ls_bytes.proofs.reader.number_64.Goals as goal

pub returns-clause-field : goal.returns-clause-field
returns-clause-field c =
    let value : c.read_u64.result ≡ big_number 8 c.args.field.now = c.read_u64.ensures in
    rw value (be64-big_number c.args.field.now c.requires (λ i. omega (arith, c.type_inv.field i)))
