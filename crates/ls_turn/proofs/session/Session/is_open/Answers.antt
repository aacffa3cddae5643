use Rattle.std.proofs.Common.{List, ◌∙◌, ap}
use Rattle.std.specs.Prelude.{◌==◌}
use Rattle.std.specs.List.{list_any}
use Rattle.ls_turn.specs.declared.session.Opened.{Opened}
use Rattle.ls_turn.proofs.KnownLemmas.{open_is}
use Rattle.ls_turn.proofs.session.Session.is_open.Goals as goal

pub returns : goal.returns
returns c = record {
  same = c.has_entry.ensures.same
      ∙ (ap (λ (l : List Opened). list_any (λ o. o.user == c.args.user) l) c.deref.ensures.value
      ∙ open_is c.args.self.now.opened.items c.args.user);
}
