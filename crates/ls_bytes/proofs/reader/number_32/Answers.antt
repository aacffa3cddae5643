use Rattle.std.proofs.Common.{◌≡◌, arith}
use Rattle.byteorder.specs.Endian.{big_number}
use Rattle.ls_bytes.proofs.FieldLemmas.{be32-big_number}
use Rattle.ls_bytes.proofs.reader.number_32.Goals as goal

pub returns-clause-field : goal.returns-clause-field
returns-clause-field c =
    let value : c.read_u32.result ≡ big_number 4 c.args.field.now = c.read_u32.ensures in
    rw value (be32-big_number c.args.field.now c.requires (λ i. omega (arith, c.type_inv.field i)))
