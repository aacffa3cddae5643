use Rattle.std.proofs.Common.{◌≤◌, length, arith}
use Rattle.ls_credential.proofs.ClassLemmas.{counts_of_all}
use Rattle.ls_credential.proofs.RuleLemmas.{at_most_16}
use Rattle.ls_credential.proofs.credential.Credential.metrics.Goals as goal

pub invariant_of-result : goal.invariant_of-result
invariant_of-result c =
    let all = counts_of_all c.as_slice-text.result.now in
    let u = c.count-upper.ensures.same in
    let l = c.count-lower.ensures.same in
    let d = c.count-numeric.ensures.same in
    let s = c.count-symbols.ensures.same in
    let most : length c.as_slice-text.result.now ≤ 16 =
    rw c.as_slice-text.ensures.same (at_most_16 c.self.inside.kind c.self.inside.text c.self.invariant) in
    record {
      length = most;
      letters = omega arith;
      upper = omega arith;
      lower = omega arith;
      numeric = omega arith;
      symbols = omega arith;
      non_letter = omega arith;
      non_numeric = omega arith;
      run = omega arith;
    }
