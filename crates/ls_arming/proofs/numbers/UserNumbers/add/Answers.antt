use Rattle.std.proofs.Common.{◌≡◌, ◌<◌, length, get_or, refl, sym, ◌∙◌, ap, subst}
use Rattle.ls_arming.proofs.InsertLemmas.{smaller, number_inserted, number_there}
use Rattle.ls_arming.proofs.numbers.UserNumbers.add.Goals as goal

pub returns-then-is_at : goal.returns-then-is_at
returns-then-is_at c =
    let seen : c.deref.result.now ≡ c.args.self.now = c.deref.ensures.value ∙ c.self.view_is in
    let there = c.if-is_at.ensures.there refl in
    let again : c.deref-2.result.now ≡ c.args.self.now = c.deref-2.ensures.value ∙ c.self.view_is in
    record {
      same = number_there c.args.self.now c.args.n c.smaller_front-at.result
          (c.smaller_front-at.ensures.count ∙ ap (λ ns. smaller ns c.args.n) seen)
          (subst (λ ns. c.smaller_front-at.result < length ns) again there.0)
          (subst (λ ns. get_or ns c.smaller_front-at.result 0 ≡ c.args.n) again there.1);
    }

pub returns : goal.returns
returns c =
    let seen : c.deref.result.now ≡ c.args.self.now = c.deref.ensures.value ∙ c.self.view_is in
    let again : c.deref-2.result.now ≡ c.args.self.now = c.deref-2.ensures.value ∙ c.self.view_is in
    record {
      same = c.in_ok-insert.ensures.put
          ∙ number_inserted c.args.self.now c.args.n c.smaller_front-at.result
          (c.smaller_front-at.ensures.count ∙ ap (λ ns. smaller ns c.args.n) seen)
          (λ here is. c.if-is_at.ensures.missing refl
          (subst (λ ns. c.smaller_front-at.result < length ns) (sym again) here)
          (subst (λ ns. get_or ns c.smaller_front-at.result 0 ≡ c.args.n) (sym again) is));
    }
