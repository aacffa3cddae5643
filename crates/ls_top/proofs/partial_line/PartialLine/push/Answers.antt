use Rattle.std.proofs.Common.{arith, ◌≡◌, ◌+◌, length, sym, ◌∙◌, ap, ◌++◌, ◌∷◌, [], List, ℕ}
use Rattle.std.proofs.lemmas.List.{take_all, take_at, length_push}
use Rattle.ls_top.proofs.partial_line.PartialLine.push.Goals as goal

pub returns-in-Ok : goal.returns-in-Ok
returns-in-Ok c =
    let same = c.self.view_is in
    let long : length (c.args.self.now ++ c.args.b ∷ []) ≡ length c.args.self.now + 1 = length_push c.args.self.now c.args.b in
    let few : length c.args.self.now ≡ length c.self.inside.items.items = ap length (sym same) in
    record { pushed = c.in-Ok.ensures.items ∙ ap (λ (l : List ℕ). l ++ c.args.b ∷ []) same ∙ sym (take_all 4097 (c.args.self.now ++ c.args.b ∷ []) (omega arith)) }

pub returns-else-len-lt-KEPT : goal.returns-else-len-lt-KEPT
returns-else-len-lt-KEPT c =
    let few : length c.args.self.now ≡ length c.self.inside.items.items = ap length (sym c.self.view_is) in
    record { pushed = sym (take_at c.args.self.now (c.args.b ∷ []) 4097 (omega arith)) }
