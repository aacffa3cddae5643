-- What hearings make of the input.
use Rattle.std.proofs.Common.{◌≡◌, ◌≤◌, ◌+◌, ◌-◌, ◌++◌, ℕ, List, [], ◌∷◌, length, drop, refl, sym, ◌∙◌, ap, arith, inl, inr, append_assoc, length-append}
use Rattle.std.specs.Prelude.{Some}
use Rattle.std.proofs.lemmas.List.{append-nil, nil_from_length, drop_at}
use Rattle.ls_board.specs.declared.action.Action.TheVariants.{Hear}
use Rattle.ls_board.specs.declared.world.World.{World}
use Rattle.ls_board.specs.Acts.{Sight}
use Rattle.ls_serving.specs.Calls.{IsOuterMove, Calls}
use Rattle.ls_serving.specs.Hearing.{OnlyHears, IsHeard}
use Rattle.ls_serving.specs.declared.script.Heard.TheVariants.{All, TooLong}
use Rattle.ls_serving.proofs.ServingLemmas.{calls_move}

-- ---- calls

-- nothing but the input is another
abbrev SameButInput : World → World → Type 0
SameButInput w mid = mid ≡ record w { input = mid.input }

with_input : (w mid : World) (input : List ℕ) → mid ≡ record w { input = input } → SameButInput w mid
with_input w mid input is = is ∙ ap (λ (l : List ℕ). record w { input = l }) (sym (ap (λ (v : World). v.input) is))

moved : (w mid : World) (max : ℕ) → IsOuterMove w (Hear max) mid → SameButInput w mid
moved w mid max (inl same) = with_input w mid w.input same
moved w mid max (inr (inl within)) = with_input w mid _ within.is
moved w mid max (inr (inr whole)) = with_input w mid _ whole.1

pub hears_none : (s : Sight) → OnlyHears s s
hears_none s = record { calls = []; since = refl; each = tt; same = refl }

module _ (old mid new : Sight) (was : OnlyHears old mid) (max : ℕ) (some : 1 ≤ max) (most : max ≤ 4096) where
  pub hears_more : Calls mid (Hear max) new → OnlyHears old new
  hears_more called = by called
    where
      same : SameButInput old.world new.world
      same = moved mid.world new.world max (calls_move mid new (Hear max) called)
          ∙ ap (λ (v : World). record v { input = new.world.input }) was.same

      by : Calls mid (Hear max) new → OnlyHears old new
      by (inl none) = record { calls = was.calls; since = none.0 ∙ was.since; each = was.each; same = same }
      by (inr one) = record {
        calls = (mid.world, Some (Hear max)) ∷ was.calls;
        since = one.0 ∙ ap (λ l. (mid.world, Some (Hear max)) ∷ l) was.since;
        each = (record { max = max; is = refl; some = some; most = most }, was.each);
        same = same;
      }

-- ---- bytes

-- these bytes were heard, of a script that may have so many more
pub record TextSoFar (old now : Sight) (text : List ℕ) (left longest : ℕ) : Type 0 where
  pub hears : OnlyHears old now
  pub input : old.world.input ≡ text ++ now.world.input
  pub long : length text + left ≡ longest

pub text_none : (s : Sight) (text : List ℕ) (longest : ℕ) → text ≡ [] → TextSoFar s s text longest longest
text_none s text longest none = record {
  hears = hears_none s;
  input = ap (λ (l : List ℕ). l ++ s.world.input) (sym none);
  long = ap (λ (l : List ℕ). length l + longest) none ∙ omega arith;
}

module _ (old mid new : Sight) (text : List ℕ) (left longest : ℕ) (so_far : TextSoFar old mid text left longest) (piece : List ℕ)
    (heard : (mid.world.input ≡ piece ++ new.world.input) × (piece ≡ [] → mid.world.input ≡ [])) where
  whole : old.world.input ≡ (text ++ piece) ++ new.world.input
  whole = so_far.input ∙ ap (λ (l : List ℕ). text ++ l) heard.0 ∙ sym (append_assoc text piece new.world.input)

  pub text_end : length piece ≡ 0 → IsHeard longest old.world new.world (All text)
  text_end none =
      let empty : piece ≡ [] = nil_from_length piece none in
      let over : mid.world.input ≡ [] = heard.1 empty in (
        so_far.input ∙ ap (λ (l : List ℕ). text ++ l) over ∙ append-nil text,
        omega (arith, so_far.long),
        sym (ap (λ (l : List ℕ). l ++ new.world.input) empty) ∙ sym heard.0 ∙ over,
      )

  pub text_limit : left ≡ 0 → length piece ≡ 1 → IsHeard longest old.world new.world TooLong
  text_limit none one =
      let longer : length (text ++ piece) ≡ longest + 1 = omega (arith, length-append text piece, so_far.long, none, one) in (
        omega (arith, ap length whole, length-append (text ++ piece) new.world.input, longer),
        sym (ap (drop (longest + 1)) whole ∙ drop_at (text ++ piece) new.world.input (longest + 1) longer),
      )

  pub text_more : (max : ℕ) → 1 ≤ max → max ≤ 4096 → Calls mid (Hear max) new → length piece ≤ left
      → TextSoFar old new (text ++ piece) (left - length piece) longest
  text_more max some most called few = record {
    hears = hears_more old mid new so_far.hears max some most called;
    input = whole;
    long = omega (arith, length-append text piece, so_far.long, few);
  }
