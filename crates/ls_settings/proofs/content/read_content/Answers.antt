use Rattle.std.proofs.Common.{length, length-take, sym, ◌∙◌, subst, ap, List, ℕ, Err, arith}
use Rattle.std.proofs.lemmas.Result.{err_from_is_err_and}
use Rattle.ls_naming.specs.Current.{front_says}
use Rattle.ls_settings.specs.FileReading.{TellsPlace, IsContent}
use Rattle.ls_settings.proofs.ContentLemmas.{front_err, front_long, front_whole}
use Rattle.ls_settings.proofs.content.read_content.Goals as goal

pub read_front-requires-clause-head : goal.read_front-requires-clause-head
read_front-requires-clause-head c = omega (arith, ap length c.front_of-front.ensures.front, length-take 4096 c.args.file.now, c.if-length-lt13.false)

pub read_front-requires-clause-few : goal.read_front-requires-clause-few
read_front-requires-clause-few c = omega (arith, ap length c.front_of-front.ensures.front, length-take 4096 c.args.file.now)

pub returns-in_err-content : goal.returns-in_err-content
returns-in_err-content c =
    let p = err_from_is_err_and c.from_residual.result c.from_residual.ensures.1 in
    rw (p.1, p.2) (record {
      exact = front_err c.args.file.now c.if-length-lt13.false c.in_err-content.field-0.0
          (subst (λ (l : List ℕ). TellsPlace (front_says l) c.in_err-content.field-0.0) c.front_of-front.ensures.front c.in_err-content.ensures.exact);
    })

pub returns-then-length-ne4096 : goal.returns-then-length-ne4096
returns-then-length-ne4096 c = record {
  exact = front_long c.args.file.now c.if-length-lt13.false c.in_ok-content.content
      (subst (λ (l : List ℕ). IsContent l (front_says l) c.in_ok-content.content) c.front_of-front.ensures.front c.in_ok-content.ensures.exact) c.if-length-ne4096.true
      ∙ (λ i. Err (sym c.smaller.ensures.smaller i));
}

pub returns : goal.returns
returns c = record {
  exact = front_whole c.args.file.now c.if-length-lt13.false c.in_ok-content.content
      (subst (λ (l : List ℕ). IsContent l (front_says l) c.in_ok-content.content) c.front_of-front.ensures.front c.in_ok-content.ensures.exact) c.if-length-ne4096.false;
}
