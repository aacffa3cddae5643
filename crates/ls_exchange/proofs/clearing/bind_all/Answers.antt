use Rattle.std.proofs.Common.{◌∷◌, [], ◌++◌, List, sym, ◌∙◌, ap, subst, vec_len, vec_capacity}
use Rattle.std.specs.List.{Contains}
use Rattle.ls_formats.specs.declared.parts.Parts.{Parts}
use Rattle.ls_standing.proofs.ContainsLemmas.{behind_first}
use Rattle.ls_exchange.proofs.ListLemmas.{moved, room_left}
use Rattle.ls_exchange.proofs.clearing.bind_all.Goals as goal

pub loop-one-preserved : goal.loop-one-preserved
loop-one-preserved c =
    let left = c.loop-one.durable.items in
    let rest = c.take_first.new.list.items in
    let one = c.in-Some.one in
    record {
      names = λ p has. c.loop-one.invariant.names p (subst (λ (l : List Parts). Contains l p) (sym c.in-Some.ensures.taken) (behind_first one rest p has));
      put =
          moved c.loop-one.named.items c.push_reserved.new.self.items left rest one c.in-Some.ensures.taken
          (c.push_reserved.ensures.items ∙ ap (λ (p : Parts). c.loop-one.named.items ++ p ∷ []) c.bind_named.ensures.same)
          ∙ c.loop-one.invariant.put;
      room =
          room_left left rest one (vec_len c.loop-one.named) (vec_len c.push_reserved.new.self) (vec_capacity c.loop-one.named) (vec_capacity c.push_reserved.new.self)
          c.in-Some.ensures.taken c.push_reserved.ensures.len c.push_reserved.ensures.capacity c.loop-one.invariant.room;
    }
