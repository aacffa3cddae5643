use Rattle.std.proofs.Common.{◌≡◌, sym, ap, ◌∙◌, List, ℕ, Ok}
use Rattle.std.specs.Int.{w64, from_be_bytes}
use Rattle.std.proofs.lemmas.Nat.{from_be_bytes-to_be_bytes_8}
use Rattle.hex.specs.Hex.{decode_sized}
use Rattle.hex.proofs.HexLemmas.{decode_sized-encode_lower}
use Rattle.ls_bytes.specs.Fields.{be64}
use Rattle.ls_formats.proofs.ContentLemmas.{big_are_bytes}
use Rattle.ls_formats.proofs.hex_number.hex_u64.Goals as goal

pub returns : goal.returns
returns c = record {
  value = λ n small e.
      let are = big_are_bytes 8 n in
      let decoded : decode_sized c.args.digits.now 8 ≡ Ok (be64 n) = ap (λ (t : List ℕ). decode_sized t 8) (sym e) ∙ decode_sized-encode_lower (be64 n) 8 are.long are.each in
      let written = rw decoded at c.decode_to_slice.ensures.value in
      c.from_be_bytes.ensures ∙ ap (from_be_bytes w64) written.1 ∙ from_be_bytes-to_be_bytes_8 n small;
}
