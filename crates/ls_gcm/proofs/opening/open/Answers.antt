use Rattle.std.proofs.Common.{◌≡◌, Some, inl, inr, refl, ap, sym, ◌∙◌, rules, arith}
use Rattle.std.proofs.lemmas.Grind.{common_steps}
use Rattle.ls_gcm.specs.Gcm.{gcm_tag, iv_of, body_of, tag_of, HasWrongTag}
use Rattle.ls_gcm.proofs.SealingLemmas.{gcm_open_short, gcm_open_right, gcm_open_wrong, gcm_open-gcm_seal}
use Rattle.ls_gcm.proofs.opening.open.Goals as goal

pub returns-then-sealed-lt28-clause-refused : goal.returns-then-sealed-lt28-clause-refused
returns-then-sealed-lt28-clause-refused c =
    (λ _. inl refl, λ _. gcm_open_short c.args.key.now c.args.sealed.now (omega arith))

pub returns-then-sealed-lt28-clause-back : goal.returns-then-sealed-lt28-clause-back
returns-then-sealed-lt28-clause-back c = λ iv plain long is.
    gcm_open-gcm_seal c.args.key.now iv plain c.args.sealed.now (omega arith) long is

pub returns-then-not-has_right_tag-clause-refused : goal.returns-then-not-has_right_tag-clause-refused
returns-then-not-has_right_tag-clause-refused c =
    let wrong : HasWrongTag c.args.key.now c.args.sealed.now = search rules in
    (λ _. inr refl, λ _. gcm_open_wrong c.args.key.now c.args.sealed.now wrong)

pub returns-then-not-has_right_tag-clause-back : goal.returns-then-not-has_right_tag-clause-back
returns-then-not-has_right_tag-clause-back c = λ iv plain long is.
    gcm_open-gcm_seal c.args.key.now iv plain c.args.sealed.now (omega arith) long is

pub returns-in_err-decrypted-clause-refused : goal.returns-in_err-decrypted-clause-refused
returns-in_err-decrypted-clause-refused c =
    let right : gcm_tag c.args.key.now (iv_of c.args.sealed.now) (body_of c.args.sealed.now) ≡ tag_of c.args.sealed.now =
    search rules in
    let opened = gcm_open_right c.args.key.now c.args.sealed.now (omega arith) right in (
      λ none. absurd (cc),
      λ e. elim e [
        | inl short ↦ absurd (grind (arith, common_steps))
        | inr tag ↦ absurd (grind (arith, common_steps))
      ],
    )

pub returns-in_err-decrypted-clause-back : goal.returns-in_err-decrypted-clause-back
returns-in_err-decrypted-clause-back c = λ iv plain long is.
    gcm_open-gcm_seal c.args.key.now iv plain c.args.sealed.now (omega arith) long is

pub returns-clause-opened : goal.returns-clause-opened
returns-clause-opened c =
    let right : gcm_tag c.args.key.now (iv_of c.args.sealed.now) (body_of c.args.sealed.now) ≡ tag_of c.args.sealed.now =
    search rules in
    gcm_open_right c.args.key.now c.args.sealed.now (omega arith) right
    ∙ ap Some (sym (c.in_ok-decrypted.ensures.same ∙ rw c.new-cipher.ensures.same refl))

pub returns-clause-refused : goal.returns-clause-refused
returns-clause-refused c =
    let right : gcm_tag c.args.key.now (iv_of c.args.sealed.now) (body_of c.args.sealed.now) ≡ tag_of c.args.sealed.now =
    search rules in
    let opened = gcm_open_right c.args.key.now c.args.sealed.now (omega arith) right in
    (λ none. absurd (cc), λ e. elim e [ inl short ↦ cc | inr tag ↦ cc ])

pub returns-clause-back : goal.returns-clause-back
returns-clause-back c = λ iv plain long is.
    gcm_open-gcm_seal c.args.key.now iv plain c.args.sealed.now (omega arith) long is
