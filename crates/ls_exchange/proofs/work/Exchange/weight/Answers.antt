use Rattle.std.proofs.Common.{◌≡◌, ◌+◌, ◌<◌, ◌^◌, ℕ, true, false, List, length, sum_by, arith, sym, ap, subst}
use Rattle.std.specs.Prelude.{IfSome}
use Rattle.ls_board.specs.Effect.{weight_of}
use Rattle.ls_change.specs.Work.{actions_of}
use Rattle.ls_formats.specs.declared.parts.Parts.{Parts}
use Rattle.ls_protector.specs.Steps.{Drafted}
use Rattle.ls_exchange.specs.Exchanges.{plain, staging_of, retiring_of}
use Rattle.ls_exchange.proofs.WeightLemmas.{all_count, all_bytes, drafts_few, drafts_light, retire_few}
use Rattle.ls_exchange.proofs.work.Exchange.weight.Goals as goal

pub returns-in_err-drafts-clause-fits : goal.returns-in_err-drafts-clause-fits
returns-in_err-drafts-clause-fits c few light =
    let here = sym c.deref.ensures.value in
    let no : false ≡ true =
    c.in_err-drafts.ensures.fits (subst (λ (l : List Drafted). length (staging_of l) + length l < 2 ^ 32) here (drafts_few _ c.args.self.now c.self.view_is few))
    (subst (λ (l : List Drafted). sum_by weight_of (staging_of l) < 2 ^ 64) here (drafts_light _ c.args.self.now c.self.view_is light)) in
    absurd (cc)

pub returns-in_err-retire-clause-fits : goal.returns-in_err-retire-clause-fits
returns-in_err-retire-clause-fits c few light =
    let no : false ≡ true =
    c.in_err-retire.ensures.fits (subst (λ (l : List Parts). length (retiring_of l) < 2 ^ 32) (sym c.deref-2.ensures.value) (retire_few _ c.args.self.now c.self.view_is few)) in
    absurd (cc)

pub returns-clause-actions : goal.returns-clause-actions
returns-clause-actions c =
    let drafts = c.in_ok-drafts.ensures.actions in
    let others = c.weight-others.ensures.actions in
    let commit = c.weight-commit.ensures.actions in
    let retire = c.in_ok-retire.ensures.actions in
    let after = c.weight-after.ensures.actions in
    let all = all_count _ c.args.self.now c.self.view_is in
    let its = ap (λ (l : List Drafted). length (staging_of l) + length l) c.deref.ensures.value in
    let gone = ap (λ (l : List Parts). length (retiring_of l)) c.deref-2.ensures.value in
    let sum : c.in_ok-drafts.drafts.0 + c.weight-others.result.0 + c.weight-commit.result.0 + c.in_ok-retire.retire + c.weight-after.result.0 ≡ length (actions_of (plain c.args.self.now)) = omega (arith, drafts, others, commit, retire, after, all, its, gone) in
    subst (λ (n : ℕ). IfSome c.total.result (λ room. room.0 ≡ n)) sum c.total.ensures.actions

pub returns-clause-bytes : goal.returns-clause-bytes
returns-clause-bytes c =
    let drafts = c.in_ok-drafts.ensures.bytes in
    let others = c.weight-others.ensures.bytes in
    let commit = c.weight-commit.ensures.bytes in
    let retire = c.retire_weight.ensures.bytes in
    let after = c.weight-after.ensures.bytes in
    let all = all_bytes _ c.args.self.now c.self.view_is in
    let its = ap (λ (l : List Drafted). sum_by weight_of (staging_of l)) c.deref.ensures.value in
    let gone = ap (λ (l : List Parts). sum_by weight_of (retiring_of l)) c.deref-2.ensures.value in
    let sum : c.in_ok-drafts.drafts.1 + c.weight-others.result.1 + c.weight-commit.result.1 + c.weight-after.result.1 ≡ sum_by weight_of (actions_of (plain c.args.self.now)) = omega (arith, drafts, others, commit, retire, after, all, its, gone) in
    subst (λ (n : ℕ). IfSome c.total.result (λ room. room.1 ≡ n)) sum c.total.ensures.bytes

pub returns-clause-fits : goal.returns-clause-fits
returns-clause-fits c few light =
    c.total.ensures.fits
    (
    let drafts = c.in_ok-drafts.ensures.actions in
    let others = c.weight-others.ensures.actions in
    let commit = c.weight-commit.ensures.actions in
    let retire = c.in_ok-retire.ensures.actions in
    let after = c.weight-after.ensures.actions in
    let all = all_count _ c.args.self.now c.self.view_is in
    let its = ap (λ (l : List Drafted). length (staging_of l) + length l) c.deref.ensures.value in
    let gone = ap (λ (l : List Parts). length (retiring_of l)) c.deref-2.ensures.value in
    omega (arith, drafts, others, commit, retire, after, all, its, gone, few))
    (
    let drafts = c.in_ok-drafts.ensures.bytes in
    let others = c.weight-others.ensures.bytes in
    let commit = c.weight-commit.ensures.bytes in
    let retire = c.retire_weight.ensures.bytes in
    let after = c.weight-after.ensures.bytes in
    let all = all_bytes _ c.args.self.now c.self.view_is in
    let its = ap (λ (l : List Drafted). sum_by weight_of (staging_of l)) c.deref.ensures.value in
    let gone = ap (λ (l : List Parts). sum_by weight_of (retiring_of l)) c.deref-2.ensures.value in
    omega (arith, drafts, others, commit, retire, after, all, its, gone, light))
