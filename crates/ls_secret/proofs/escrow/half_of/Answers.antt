use Rattle.std.proofs.Common.{inl, inr, arith}
use Rattle.ls_secret.proofs.escrow.half_of.Goals as goal

pub returns-in-Ok-clause-tag : goal.returns-in-Ok-clause-tag
returns-in-Ok-clause-tag c = (λ e. cc, λ wrong. let e = c.in-Ok.ensures.tag.1 wrong in cc)

pub returns-in-Ok-clause-refused : goal.returns-in-Ok-clause-refused
returns-in-Ok-clause-refused c =
    (λ none. elim (c.in-Ok.ensures.refused.0 none) [ inl e ↦ cc | inr e ↦ cc ], λ e. cc)

pub returns-in-Ok-clause-back : goal.returns-in-Ok-clause-back
returns-in-Ok-clause-back c = λ p0 iv long is. c.in-Ok.ensures.back iv p0 long is

pub returns-in-Err-clause-refused : goal.returns-in-Err-clause-refused
returns-in-Err-clause-refused c = (
  λ none. elim (c.in-Err.ensures.refused.0 none) [
    | inl e ↦ let short = c.in-Err.ensures.short.0 e in absurd (omega arith)
    | inr e ↦ cc
  ],
  λ e. c.in-Err.ensures.refused.1 (inr cc),
)

pub returns-in-Err-clause-back : goal.returns-in-Err-clause-back
returns-in-Err-clause-back c = λ p0 iv long is. c.in-Err.ensures.back iv p0 long is
