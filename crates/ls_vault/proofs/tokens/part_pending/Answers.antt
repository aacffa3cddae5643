use Rattle.std.proofs.Common.{◌≡◌, ◌++◌, List, [], ◌∷◌, ◌⊎◌, inl, inr, ◌≢◌, ℕ, eqb, eq-eqb, false, sym, ◌∙◌, ap, append-nil, arith}
use Rattle.std.proofs.lemmas.Bool.Decides.{nat_tests}
use Rattle.std.proofs.lemmas.List.{drop_all}
use Rattle.ls_vault.proofs.PendingLemmas.{without_first-nil, active_more, others_same, active_same, others_more}
use Rattle.ls_vault.specs.Tokens.{without_first}
use Rattle.ls_vault.specs.declared.token.PendingToken.{PendingToken}
use Rattle.ls_vault.specs.declared.token.Token.{Token}
use Rattle.ls_vault.proofs.tokens.part_pending.Goals as goal
use Rattle.ls_vault.proofs.tokens.part_pending.Goals.{then-p-user+then-left-gt0+in_ok-push, else-p-user+in_ok-push-2, else-p-user-via-then-p-user+else-left-gt0, else-p-user-via-else-p-user}

not_eqb : (a b : ℕ) → a ≢ b → eqb a b ≡ false
not_eqb a b differ = grind (arith, nat_tests)

abbrev token : ℕ → List ℕ → Token
token id bytes = record { id = id; bytes = bytes }

abbrev waiting : ℕ → ℕ → List ℕ → PendingToken
waiting user id bytes = record { user = user; id = id; bytes = bytes }

pub loop-p-preserved : goal.loop-p-preserved
loop-p-preserved c =
    let xs = c.args.pending.now in
    let i = c.loop-p.p-index in
    let p = c.p-item.result in
    let left = c.loop-p.left in
    let now = c.if-p-user in
    let copied : c.in_ok-bytes.bytes ≡ p.bytes = c.in_ok-bytes.ensures.same ∙ c.as_slice.ensures.same in
    elim now.branch [
      | then-p-user+then-left-gt0+in_ok-push w ↦
          (let is = eq-eqb p.user c.args.user w.if-p-user.true in
          record {
            active = active_more xs i p c.p-item.is (omega arith) c.args.user left is w.if-left-gt0.true now.left w.left-is c.loop-p.active now.active _
                (w.active-is ∙ (w.in_ok-push.ensures.put ∙ ap (λ b. c.loop-p.active ++ token p.id b ∷ []) copied)) c.loop-p.invariant.active;
            pending = others_same xs i p c.p-item.is (omega arith) c.args.user left is w.if-left-gt0.true now.left w.left-is c.loop-p.others now.others _ w.others-is c.loop-p.invariant.pending;
          })
      | else-p-user+in_ok-push-2 w ↦
          (let why : (eqb p.user c.args.user ≡ false) ⊎ (left ≡ 0) = elim w.else-p-user.branch [
            | else-p-user-via-then-p-user+else-left-gt0 v ↦ inr (omega (arith, v.if-left-gt0.false))
            | else-p-user-via-else-p-user v ↦ inl (not_eqb p.user c.args.user v.if-p-user.false)
          ] in
          record {
            active = active_same xs i p c.p-item.is (omega arith) c.args.user left why now.left w.left-is c.loop-p.active now.active _ w.active-is c.loop-p.invariant.active;
            pending = others_more xs i p c.p-item.is (omega arith) c.args.user left why now.left w.left-is c.loop-p.others now.others _
                (w.others-is ∙ (w.in_ok-push-2.ensures.put ∙ ap (λ b. c.loop-p.others ++ waiting p.user p.id b ∷ []) copied)) c.loop-p.invariant.pending;
          })
    ]

pub returns-clause-pending : goal.returns-clause-pending
returns-clause-pending c =
    sym (append-nil c.loop-p.others)
    ∙ (ap (λ (ps : List PendingToken). c.loop-p.others ++ ps) (sym (ap (λ (ps : List PendingToken). without_first c.loop-p.left ps c.args.user) (drop_all c.loop-p.p-index c.args.pending.now (omega arith)) ∙ without_first-nil c.loop-p.left c.args.user))
    ∙ c.loop-p.invariant.pending)
