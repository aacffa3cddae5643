use Rattle.std.proofs.Common.{◌≡◌, ◌≤◌, ◌+◌, false, List, sym, ◌∙◌, ap, subst}
use Rattle.std.specs.Prelude.{min, map, count_by, Some}
use Rattle.std.specs.List.{list_any}
use Rattle.ls_promises.specs.Answers.{arms, resumes, drops, forgives, misses}
use Rattle.ls_promises.specs.Counters.{fails_of}
use Rattle.ls_promises.specs.Secrets.{derived_at}
use Rattle.ls_lives.specs.Lives.{story, state_at_end}
use Rattle.ls_lives.proofs.HistoryLemmas.{stretches, stretch_end, removed_by}
use Rattle.ls_vault.specs.Histories.{Event, Happening, history, passes}
use Rattle.ls_vault.specs.Limits.{last_of_32}
use Rattle.ls_vault.specs.declared.state.State.{State}
use Rattle.ls_lives.proofs.laws.laws_hold_over_lives.Goals as goal

pub returns-clause-secrets : goal.returns-clause-secrets
returns-clause-secrets c = λ slots s lives before stretch more user keys is was none.
    let events : List Event = map (λ h. h.event) stretch in
    let same : stretch ≡ history slots (state_at_end s before) events = stretches slots s (story lives) before stretch more is in
    subst (λ (t : State). derived_at t user ≡ Some keys) (sym (stretch_end slots s (story lives) before stretch more is))
    (c.secrets_stay.ensures.derived slots (state_at_end s before) events user keys was
    (subst (λ (l : List Happening). list_any (passes (drops user)) l ≡ false) same none))

pub returns-clause-armings : goal.returns-clause-armings
returns-clause-armings c = λ slots s lives before stretch more is none.
    let events : List Event = map (λ h. h.event) stretch in
    let same : stretch ≡ history slots (state_at_end s before) events = stretches slots s (story lives) before stretch more is in
    subst (λ (l : List Happening). count_by (passes resumes) l ≤ 1) (sym same)
    (c.armings_open_once.ensures.once slots (state_at_end s before) events (subst (λ (l : List Happening). list_any (passes arms) l ≡ false) same none))

pub returns-clause-tokens : goal.returns-clause-tokens
returns-clause-tokens c = λ slots s lives before h stretch more user id bytes is ends none.
    removed_by slots s (story lives) before h stretch more user id bytes
    (λ t k m d events. c.removed_tokens_stay_removed.ensures.removed slots t k m d events user id bytes) is ends none

pub returns-clause-wrong : goal.returns-clause-wrong
returns-clause-wrong c = λ slots s lives before stretch more user fails is was few none.
    let events : List Event = map (λ h. h.event) stretch in
    let same : stretch ≡ history slots (state_at_end s before) events = stretches slots s (story lives) before stretch more is in
    subst (λ (t : State). fails_of t user ≡ Some (min (fails + count_by (passes (misses user)) stretch) last_of_32)) (sym (stretch_end slots s (story lives) before stretch more is))
    (c.wrong_texts_stay_counted.ensures.counted slots (state_at_end s before) events user fails was few
    (subst (λ (l : List Happening). list_any (passes (forgives user)) l ≡ false) same none)
    ∙ ap (λ (l : List Happening). Some (min (fails + count_by (passes (misses user)) l) last_of_32)) (sym same))
