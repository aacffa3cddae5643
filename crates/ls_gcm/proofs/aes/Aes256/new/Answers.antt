use Rattle.std.proofs.Common.{◌≡◌, take, ap, sym, ◌∙◌, arith}
use Rattle.ls_gcm.specs.Aes.{expanded}
use Rattle.ls_gcm.proofs.ExpansionLemmas.{expanded_front}
use Rattle.ls_gcm.proofs.aes.Aes256.new.Goals as goal

pub invariant_of-result : goal.invariant_of-result
invariant_of-result c =
    let front : take 32 c.expanded.result ≡ c.args.key.now =
    ap (take 32) c.expanded.ensures ∙ (expanded_front c.args.key.now 52 (omega arith)).1 in
    c.expanded.ensures ∙ ap (λ k. expanded k 52) (sym front)

pub returns : goal.returns
returns c = record { same = ap (take 32) c.expanded.ensures ∙ (expanded_front c.args.key.now 52 (omega arith)).1 }
