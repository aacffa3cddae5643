use Rattle.std.proofs.Common.{◌<◌, ℕ, List, length, sym, ap, subst}
use Rattle.ls_credential.specs.Rules.{KindAndText}
use Rattle.std.specs.List.{Contains}
use Rattle.ls_turn.specs.Agreeing.{retired_files}
use Rattle.ls_changing.proofs.ChoiceLemmas.{choice_is}
use Rattle.ls_changing.proofs.planning.chosen.Goals as goal

pub choose-requires-clause-room : goal.choose-requires-clause-room
choose-requires-clause-room c = λ some.
    subst (λ (l : List ℕ). length l < c.args.x.now.slots) (sym c.in_ok-taken.ensures.slots) (c.requires.room some)

pub returns : goal.returns
returns c = record {
  choice = choice_is c.args.x.now c.requires.each c.requires.rules c.args.row.now c.requires.here c.args.new.now c.args.drawn.now c.in_ok-taken.taken c.choose.result
      c.keeps_rule.ensures.rule c.counts_are_small.ensures.small
      (c.new_places_are_free.ensures c.args.x.now.named.items (retired_files c.args.x.now) c.in_ok-taken.taken.ids c.in_ok-taken.taken.slots c.args.x.now.slots c.choose.result.id c.choose.result.slot
      c.in_ok-taken.ensures.ids c.choose.ensures.other (λ m has. subst (λ (l : List ℕ). Contains l m) (sym c.in_ok-taken.ensures.slots) has) c.choose.ensures.slot)
      c.choose.ensures.id c.choose.ensures.sizes c.choose.ensures.slot
      (c.choose.ensures.secure c.args.x.now.settings.settled.rec.users c.args.new.now (sym (ap (λ (v : KindAndText). v.kind) c.new.view_is)) c.in_ok-taken.ensures.secures);
}
