use Rattle.std.proofs.Common.{◌≡◌, ℕ, suc, ◌≤◌, ◌-◌, ◌%◌, ◌^◌, arith, ap, pow_pos, ◌∙◌}
use Rattle.std.proofs.Math.Nat.{pow-le-pow_right, pow-suc}
use Rattle.ls_scrypt.proofs.scrypt.stretch.Goals as goal

bounds : (x k m : ℕ) → x ≡ 2 ^ k → k ≤ m → (1 ≤ x) × (x ≤ 2 ^ m)
bounds x k m e le = rw e (pow_pos k, pow-le-pow_right (omega arith) le)

even : (x k : ℕ) → x ≡ 2 ^ k → 1 ≤ k → x % 2 ≡ 0
even x k e le =
    let above : suc (k - 1) ≡ k = omega arith in
    let twice : x ≡ 2 ^ suc (k - 1) = e ∙ ap (λ (j : ℕ). 2 ^ j) (omega arith) in
    let half = pow-suc 2 (k - 1) in
    omega arith

pub derive-requires-clause-n : goal.derive-requires-clause-n
derive-requires-clause-n c = bounds _ _ 14 c.power-n.ensures (omega arith)

pub derive-requires-clause-even : goal.derive-requires-clause-even
derive-requires-clause-even c = even c.power-n.result c.args.cost.log_n c.power-n.ensures (omega arith)

pub derive-requires-clause-r : goal.derive-requires-clause-r
derive-requires-clause-r c = bounds _ _ 4 c.power-r.ensures (omega arith)

pub derive-requires-clause-p : goal.derive-requires-clause-p
derive-requires-clause-p c = bounds _ _ 3 c.power-p.ensures (omega arith)
