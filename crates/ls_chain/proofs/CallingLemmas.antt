-- Calls that only read or are of one action.
use Rattle.std.proofs.Common.{◌≡◌, ◌⊎◌, ◌++◌, ◌∷◌, [], ℕ, zero, suc, List, Option, None, Some, Result, Ok, Err, inl, inr, refl, sym, ◌∙◌, ap, subst, append_assoc}
use Rattle.std.specs.Prelude.{replicate}
use Rattle.std.specs.List.{AllByRecursion}
use Rattle.ls_board.specs.declared.action.Action.{Action}
use Rattle.ls_board.specs.declared.action.Action.TheVariants.{List as ListNames, Read, GkSign, GkList, KeyOpen, KeyList}
use Rattle.ls_board.specs.declared.action.Answer.{Answer}
use Rattle.ls_board.specs.declared.action.BoardFault.{BoardFault}
use Rattle.ls_board.specs.declared.world.World.{World}
use Rattle.ls_board.specs.Acts.{Sight, Acts, Moves, Readies}
use Rattle.ls_board.specs.Images.{changing}
use Rattle.ls_chain.specs.declared.fault.ChainFault.{ChainFault}
use Rattle.ls_chain.specs.declared.fault.ChainFault.TheVariants.{Corrupt, Failed, Memory}
use Rattle.ls_chain.specs.Calling.{ReadsOrAsks, CallsAtMost, BeginsByReading}
use Rattle.ls_chain.specs.Trying.{OnAnswer}

abbrev Calls : Type 0
Calls = List (World × Option Action)

-- ---- in a row

pub calls_none : (a : Option Action) (s : Sight) → CallsAtMost a s s
calls_none a s = record { calls = []; since = refl; each = tt }

all_append : (a : Option Action) (xs ys : Calls) → AllByRecursion (ReadsOrAsks a) xs → AllByRecursion (ReadsOrAsks a) ys → AllByRecursion (ReadsOrAsks a) (xs ++ ys)
all_append a [] ys first second = second
all_append a (call ∷ xs) ys first second = (first.0, all_append a xs ys first.1 second)

pub calls_both : (a : Option Action) (old mid new : Sight) → CallsAtMost a old mid → CallsAtMost a mid new → CallsAtMost a old new
calls_both a old mid new first second = record {
  calls = second.calls ++ first.calls;
  since = second.since ∙ ap (λ (past : Calls). second.calls ++ past) first.since ∙ sym (append_assoc second.calls first.calls old.past);
  each = all_append a second.calls first.calls second.each first.each;
}

-- ---- what only reads

reads_call : (a : Option Action) (call : World × Option Action) → ReadsOrAsks None call → ReadsOrAsks a call
reads_call a call (inl is) = inl is
reads_call a call (inr is) = inl is

all_reads : (a : Option Action) (calls : Calls) → AllByRecursion (ReadsOrAsks None) calls → AllByRecursion (ReadsOrAsks a) calls
all_reads a [] each = tt
all_reads a (call ∷ calls) each = (reads_call a call each.0, all_reads a calls each.1)

-- it is at most anything
pub reads_at_most : (a : Option Action) (old new : Sight) → CallsAtMost None old new → CallsAtMost a old new
reads_at_most a old new c = record { calls = c.calls; since = c.since; each = all_reads a c.calls c.each }

all_same : (a : Option Action) (w : World) (n : ℕ) → AllByRecursion (ReadsOrAsks a) (replicate n (w, None))
all_same a w zero = tt
all_same a w (suc n) = (inl refl, all_same a w n)

-- some readings of one world
pub readings_at_most : (a : Option Action) (w : World) (n : ℕ) (old new : Sight) → new.past ≡ replicate n (w, None) ++ old.past → CallsAtMost a old new
readings_at_most a w n old new is = record { calls = replicate n (w, None); since = is; each = all_same a w n }

-- ---- room

pub calls_ready : (a : Option Action) (old new : Sight) {E : Type 0} (actions bytes : ℕ) (made : Result Unit E) → Readies old actions bytes made new → CallsAtMost a old new
calls_ready a old new actions bytes made readies = record { calls = []; since = ap (λ (s : Sight). s.past) readies.same; each = tt }

-- made before the calls
pub calls_readied : (a : Option Action) (old mid new : Sight) {E : Type 0} (actions bytes : ℕ) (made : Result Unit E) → Readies old actions bytes made mid → CallsAtMost a mid new → CallsAtMost a old new
calls_readied a old mid new actions bytes made readies c = calls_both a old mid new (calls_ready a old mid actions bytes made readies) c

-- ---- one action

module _ (old new : Sight) (a : Action) (result : Result Answer BoardFault) (out : List ℕ) (m : Moves old a result out new) where
  pub reading_moved : (x : Option Action) → changing a ≡ None → CallsAtMost x old new
  reading_moved x none = record { calls = (old.world, changing a) ∷ []; since = m.past; each = (inl none, tt) }

  pub calls_moved : CallsAtMost (Some a) old new
  calls_moved = record { calls = (old.world, changing a) ∷ []; since = m.past; each = (by a, tt) }
    where
      by : (b : Action) → ReadsOrAsks (Some b) (old.world, changing b)
      by ListNames = inl refl
      by (Read n) = inl refl
      by (GkSign sid salt password) = inl refl
      by GkList = inl refl
      by (KeyOpen alias bytes) = inl refl
      by KeyList = inl refl
      by b = inr refl

-- ---- the first call

-- a reading behind some room
pub begins : (old ready new : Sight) {E : Type 0} (actions bytes : ℕ) (made : Result Unit E) → Readies old actions bytes made ready → (a : Action) (result : Result Answer BoardFault) (out : List ℕ)
    → changing a ≡ None → Moves ready a result out new → BeginsByReading old new
begins old ready new actions bytes made readies a result out none m =
    ([], m.past ∙ (λ i. ((readies.same i).world, none i) ∷ (readies.same i).past))

-- other calls behind it
pub begins_still : (a : Option Action) (old mid new : Sight) → BeginsByReading old mid → CallsAtMost a mid new → BeginsByReading old new
begins_still a old mid new first c = (c.calls ++ first.0, c.since ∙ ap (λ (past : Calls). c.calls ++ past) first.1 ∙ sym (append_assoc c.calls first.0 ((old.world, None) ∷ old.past)))

-- ---- on an answer

pub on_answer : {T : Type 0} (r : Result T ChainFault) (P : Type 0) → P → OnAnswer r P
on_answer (Ok t) P p = p
on_answer (Err (Corrupt spot)) P p = p
on_answer (Err (Failed part)) P p = tt
on_answer (Err Memory) P p = tt

-- a fault of another answer type
pub on_fault : (A B : Type 0) (e : ChainFault) (P : Type 0) → OnAnswer {T = A} (Err e) P → OnAnswer {T = B} (Err e) P
on_fault A B (Corrupt spot) P p = p
on_fault A B (Failed part) P p = tt
on_fault A B Memory P p = tt
