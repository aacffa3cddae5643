use Rattle.std.proofs.Common.{◌≡◌, sym, ap, ◌∙◌, List, ℕ, Ok}
use Rattle.std.specs.Int.{w32, from_be_bytes}
use Rattle.std.proofs.lemmas.Nat.{from_be_bytes-to_be_bytes_4}
use Rattle.hex.specs.Hex.{decode_sized}
use Rattle.hex.proofs.HexLemmas.{decode_sized-encode_lower}
use Rattle.ls_bytes.specs.Fields.{be32}
use Rattle.ls_formats.proofs.ContentLemmas.{big_are_bytes}
use Rattle.ls_formats.proofs.hex_number.hex_u32.Goals as goal

pub returns : goal.returns
returns c = record {
  value = λ n small e.
      let are = big_are_bytes 4 n in
      let decoded : decode_sized c.args.digits.now 4 ≡ Ok (be32 n) = ap (λ (t : List ℕ). decode_sized t 4) (sym e) ∙ decode_sized-encode_lower (be32 n) 4 are.long are.each in
      let written = rw decoded at c.decode_to_slice.ensures.value in
      c.from_be_bytes.ensures ∙ ap (from_be_bytes w32) written.1 ∙ from_be_bytes-to_be_bytes_4 n small;
}
