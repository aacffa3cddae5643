-- What the asking of a device leaves, in any world.
use Rattle.std.proofs.Common.{◌≡◌, ⊎_elim, IsTrue, List, [], ◌∷◌, Option, None, Some, Result, Ok, Err, refl, sym, ◌∙◌, ap, subst}
use Rattle.std.specs.List.{AllByRecursion}
use Rattle.ls_board.specs.declared.action.Action.{Action}
use Rattle.ls_board.specs.declared.action.Action.TheVariants.{WeaverRead, GkVerify}
use Rattle.ls_board.specs.declared.world.World.{World}
use Rattle.ls_board.specs.Acts.{Sight}
use Rattle.ls_board.specs.Effect.{after}
use Rattle.ls_board.specs.Images.{Leaves, DeviceWithin}
use Rattle.ls_board.specs.Worlds.{InOrder}
use Rattle.ls_board.proofs.CountLemmas.{after_count}
use Rattle.ls_board.proofs.ImageLemmas.{left_as_read}
use Rattle.ls_chain.specs.declared.fault.Spot.{Spot}
use Rattle.ls_chain.specs.declared.fault.ChainFault.{ChainFault}
use Rattle.ls_chain.specs.declared.fault.ChainFault.TheVariants.{Corrupt, Failed, Memory}
use Rattle.ls_chain.specs.Calling.{ReadsOrAsks}
use Rattle.ls_chain.specs.Trying.{MayTry, OnAnswer, LeavesAsked, after_asked}
use Rattle.ls_serving.specs.Calls.{IsSilent}
use Rattle.ls_turn.proofs.BehindLemmas.{silent-trans}
use Rattle.ls_serving.specs.Turns.{IsInside, StaysInside}
use Rattle.ls_standing.specs.Asking.{IsAsking}
use Rattle.ls_unlocking.proofs.AlikeLemmas.{Alike, alike_refl, alike_trans, alike_silent}

-- a device is asked, or none
abbrev pub MayAsk : Option Action → Type 0
MayAsk None = Unit {0}
MayAsk (Some a) = IsAsking a

-- what devices alone may have changed
pub record IsAsked (w mid : World) : Type 0 where
  pub alike : Alike w mid
  pub moments : mid.moments ≡ w.moments

pub asked_trans : (u v w : World) → IsAsked u v → IsAsked v w → IsAsked u w
asked_trans u v w first second = record { alike = alike_trans u v w first.alike second.alike; moments = second.moments ∙ first.moments }

-- ---- one asking

asked_alike : (w : World) (a : Action) → IsAsking a → Alike w (after w a 0)
asked_alike w (WeaverRead slot key moment) asks = record { is = refl; count = after_count w (WeaverRead slot key moment) 0 }
asked_alike w (GkVerify handle password moment) asks = record { is = refl; count = refl }
asked_alike w a asks = absurd asks

asked_moments : (w : World) (a : Action) → IsAsking a → (after w a 0).moments ≡ w.moments
asked_moments w (WeaverRead slot key moment) asks = refl
asked_moments w (GkVerify handle password moment) asks = refl
asked_moments w a asks = absurd asks

behind_asked : (w : World) (a : Option Action) → MayAsk a → IsAsked w (after_asked w a)
behind_asked w None may = record { alike = alike_refl w; moments = refl }
behind_asked w (Some a) may = record { alike = asked_alike w a may; moments = asked_moments w a may }

left_silent : (w image : World) → Leaves w image → IsSilent w image
left_silent w image left = record { said = ap (λ (u : World). u.said) left.rest; input = ap (λ (u : World). u.input) left.rest }

device_silent : (w mid : World) (a : Action) → IsAsking a → DeviceWithin w a mid → IsSilent w mid
device_silent w mid a asks within = ⊎_elim
    (λ (e : mid ≡ w). subst (λ (u : World). IsSilent w u) (sym e) (alike_silent w w (alike_refl w)))
    (λ (e : mid ≡ after w a 0). subst (λ (u : World). IsSilent w u) (sym e) (alike_silent w (after w a 0) (asked_alike w a asks))) within

pub asked_silent : (w image : World) (a : Option Action) → MayAsk a → LeavesAsked w a image → IsSilent w image
asked_silent w image None may left = left_silent w image left
asked_silent w image (Some (WeaverRead slot key moment)) may left =
    silent-trans w left.0 image (device_silent w left.0 (WeaverRead slot key moment) may left.1) (left_silent left.0 image left.2)
asked_silent w image (Some (GkVerify handle password moment)) may left =
    silent-trans w left.0 image (device_silent w left.0 (GkVerify handle password moment) may left.1) (left_silent left.0 image left.2)
asked_silent w image (Some a) may left = absurd may

-- ---- calls

none_inside : (w : World) → IsInside (w, None)
none_inside w = record { no_hear = λ max is. cc; no_say = λ bytes is. cc }

one_inside : (w : World) (a : Action) → IsAsking a → IsInside (w, Some a)
one_inside w (WeaverRead slot key moment) asks = record { no_hear = λ max is. cc; no_say = λ bytes is. cc }
one_inside w (GkVerify handle password moment) asks = record { no_hear = λ max is. cc; no_say = λ bytes is. cc }
one_inside w a asks = absurd asks

call_inside : (w : World) (a : Option Action) → MayAsk a → IsInside (w, a)
call_inside w None may = none_inside w
call_inside w (Some a) may = one_inside w a may

all_inside : (a : Option Action) → MayAsk a → (calls : List (World × Option Action)) → AllByRecursion (ReadsOrAsks a) calls → AllByRecursion IsInside calls
all_inside a may [] each = tt
all_inside a may (call ∷ calls) each = (
  ⊎_elim (λ (e : call.1 ≡ None). subst (λ (b : Option Action). IsInside (call.0, b)) (sym e) (none_inside call.0))
      (λ (e : call.1 ≡ a). subst (λ (b : Option Action). IsInside (call.0, b)) (sym e) (call_inside call.0 a may)) each.0,
  all_inside a may calls each.1,
)

-- ---- a call that may ask

pub answer_weaker : {T : Type 0} (r : Result T ChainFault) (P Q : Type 0) → (P → Q) → OnAnswer r P → OnAnswer r Q
answer_weaker (Ok t) P Q f p = f p
answer_weaker (Err (Corrupt spot)) P Q f p = f p
answer_weaker (Err (Failed part)) P Q f p = tt
answer_weaker (Err Memory) P Q f p = tt

module _ {T : Type 0} (ask : World → Option Action) (look : World → Result T Spot) (old : Sight) (r : Result T ChainFault) (new : Sight) (may : (w : World) → MayAsk (ask w)) (t : MayTry ask look old r new) where
  pub tried_inside : IsTrue old.told → StaysInside old new
  tried_inside told = let c = t.calls told in
      record { calls = c.calls; since = c.since; each = all_inside (ask old.world) (may old.world) c.calls c.each }

  pub tried_asked : IsTrue old.told → OnAnswer r (IsAsked old.world new.world)
  tried_asked told = answer_weaker r (new.world ≡ after_asked old.world (ask old.world)) (IsAsked old.world new.world)
      (λ (e : new.world ≡ after_asked old.world (ask old.world)). subst (λ (u : World). IsAsked old.world u) (sym e) (behind_asked old.world (ask old.world) (may old.world))) (t.asked told)

  -- whatever it answers
  pub tried_silent : IsTrue old.told → InOrder new.world → IsSilent old.world new.world
  tried_silent told order =
      let image : World = record new.world { touched = [] } in
      let is : IsSilent old.world image = asked_silent old.world image (ask old.world) (may old.world) ((t.crash told).now image (left_as_read new.world order)) in
      record { said = is.said; input = is.input }
