use Rattle.std.proofs.Common.{bit_xor, ℕ, rules}
use Rattle.std.proofs.lemmas.List.Edits.{map_over_more}
use Rattle.ls_hash.proofs.mac.xor_each.Goals as goal

pub loop-x-preserved : goal.loop-x-preserved
loop-x-preserved c = search (rules, map_over_more (λ (b : ℕ). bit_xor b c.args.pad))
