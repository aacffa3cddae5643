use Rattle.std.proofs.Common.{◌≤◌, ◌*◌, ◌%◌, ◌^◌, ℕ, arith}
use Rattle.std.proofs.Math.Pow.{pow_mono}
use Rattle.ls_weaver.proofs.throttle.doubled.Goals as goal

small : (x : ℕ) → x ≤ 1024 → (1 * x) % 18446744073709551616 ≤ 1024
small x most = omega arith

pub returns-clause-most : goal.returns-clause-most
returns-clause-most c =
    let few : c.args.times ≤ 10 = omega arith in
    small (2 ^ c.args.times) (pow_mono few)
