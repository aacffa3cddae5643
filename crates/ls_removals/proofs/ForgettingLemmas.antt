-- The session forgets tokens that aren't active yet, or all that it knows of a user.
use Rattle.std.proofs.Common.{◌≡◌, ℕ, ◌∙◌, ap, subst}
use Rattle.ls_turn.specs.declared.session.Session.{Session}
use Rattle.ls_removals.specs.declared.going.Going.{Going}
use Rattle.ls_removals.specs.Ending.{HasLost, all_of, others_of}
use Rattle.ls_removals.specs.Letting.{HasForgotten, IsBehind, waiting_still}

module _ (before x y : Session) (same : x ≡ before) (is : y ≡ record x { pending = y.pending }) where
  of_before : y ≡ record before { pending = y.pending }
  of_before = subst (λ (z : Session). y ≡ record z { pending = y.pending }) same is

  pub behind_forgotten : IsBehind before y
  behind_forgotten = record {
    slots = ap (λ (z : Session). z.slots) of_before;
    boot = ap (λ (z : Session). z.boot) of_before;
    settings = ap (λ (z : Session). z.settings) of_before;
    named = ap (λ (z : Session). z.named.items) of_before;
    retired = ap (λ (z : Session). z.retired.items) of_before;
    stopped = ap (λ (z : Session). z.stopped) of_before;
  }

  module _ (g : Going) (pending : y.pending.items ≡ waiting_still g x.pending.items) where
    pub pending_then : y.pending.items ≡ waiting_still g before.pending.items
    pending_then = pending ∙ ap (λ (z : Session). waiting_still g z.pending.items) same

    pub has_forgotten : HasForgotten g before y
    has_forgotten = record { is = of_before; pending = pending_then }

module _ (before x y : Session) (same : x ≡ before) (is : y ≡ record x { opened = y.opened; pending = y.pending; captured = y.captured }) where
  lost_of : y ≡ record before { opened = y.opened; pending = y.pending; captured = y.captured }
  lost_of = subst (λ (z : Session). y ≡ record z { opened = y.opened; pending = y.pending; captured = y.captured }) same is

  pub behind_lost : IsBehind before y
  behind_lost = record {
    slots = ap (λ (z : Session). z.slots) lost_of;
    boot = ap (λ (z : Session). z.boot) lost_of;
    settings = ap (λ (z : Session). z.settings) lost_of;
    named = ap (λ (z : Session). z.named.items) lost_of;
    retired = ap (λ (z : Session). z.retired.items) lost_of;
    stopped = ap (λ (z : Session). z.stopped) lost_of;
  }

  pub has_lost : (user : ℕ) → y.opened.items ≡ others_of user x.opened.items → y.pending.items ≡ waiting_still (all_of user) x.pending.items
      → y.captured.items ≡ others_of user x.captured.items → HasLost user before y
  has_lost user opened pending captured = record {
    is = lost_of;
    opened = opened ∙ ap (λ (z : Session). others_of user z.opened.items) same;
    pending = pending ∙ ap (λ (z : Session). waiting_still (all_of user) z.pending.items) same;
    captured = captured ∙ ap (λ (z : Session). others_of user z.captured.items) same;
  }
