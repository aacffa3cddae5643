-- How a run ends, from what its parts leave.
use Rattle.std.proofs.Common.{◌≡◌, ◌≤◌, ◌<◌, ◌⊎◌, ◌^◌, ℕ, List, [], length, take, refl, sym, ◌∙◌, ap, subst, arith, inl, inr}
use Rattle.ls_board.specs.declared.action.BoardFault.{BoardFault}
use Rattle.ls_board.specs.Acts.{Sight}
use Rattle.ls_top.specs.declared.hearing.Ending.TheVariants.{AtEnd, AtLimit}
use Rattle.ls_top.specs.declared.status.Status.{Status}
use Rattle.ls_top.specs.declared.status.Status.TheVariants.{Done, Usage, Foreign, Fault, Memory, TooLong}
use Rattle.ls_top.specs.Ending.{IsOutcome}
use Rattle.ls_top.specs.RunEnds.{IsServeStatus, Leaves, EndsAs, StopsAs}
use Rattle.ls_top.specs.Runs.{StandsFor, HasForeignFile, SameButTouched, Gives, HoldsFront, IsServed, CallsInTurn}
use Rattle.ls_lines.specs.Lines.{parted, lines_of}
use Rattle.ls_top.specs.Serving.{Serving, CutShort}
use Rattle.ls_top.specs.UsersFile.{settings_0}
use Rattle.ls_top.proofs.OpeningLemmas.{idle_leaves, idle_cut, same_others, not_foreign}
use Rattle.ls_top.proofs.ServingLemmas.{says_between, holds_between}

-- the opening was cut short
pub stops_idle : (start now : Sight) (fault : BoardFault) → SameButTouched start.world now.world → ((users : List ℕ) → CallsInTurn start now users)
    → StopsAs start now fault
stops_idle start now fault same calls = record {
  cut = λ users stands. idle_cut start now same calls users stands fault;
  foreign = λ foreign. same;
  others = same_others start.world now.world same;
}

-- the world stood for these users, and for no others
module _ (start now : Sight) (users : List ℕ) (stands : StandsFor start.world users)
    (only : (others : List ℕ) → StandsFor start.world others → others ≡ users) where
  pub stops_serving : (fault : BoardFault) → CutShort start now users fault → StopsAs start now fault
  stops_serving fault cut = record {
    cut = λ others s. subst (λ (u : List ℕ). CutShort start now u fault) (sym (only others s)) cut;
    foreign = λ foreign. absurd (not_foreign start.world users stands foreign);
    others = cut.others;
  }

  leaves : (lines : List (List ℕ)) (after : List ℕ) → Serving start now users lines after → (others : List ℕ) → StandsFor start.world others → Leaves start now others
  leaves lines after serving others s = subst (λ (u : List ℕ). Leaves start now u) (sym (only others s)) (record {
    said = says_between start now users lines after serving;
    held = holds_between start now users lines after serving;
    calls = serving.calls;
  })

  pub ends_done : IsOutcome start now users AtEnd → EndsAs start now Done
  ends_done outcome =
      let serving = outcome.2.1 in
      record {
        end = (
          outcome.0,
          outcome.1,
          (users, stands),
          λ others s. subst (λ (u : List ℕ). IsServed start.world now.world u (lines_of start.world.input)) (sym (only others s))
              (record { said = serving.said; stands = subst (λ (u : List ℕ). StandsFor now.world u) serving.reached serving.stands }),
        );
        leaves = leaves (lines_of start.world.input) outcome.2.0 serving;
        others = serving.others;
      }

  pub ends_too_long : IsOutcome start now users AtLimit → EndsAs start now TooLong
  ends_too_long outcome =
      let serving = outcome.2.1 in
      record {
        end = (
          outcome.0,
          outcome.1,
          (users, stands),
          λ others s. subst (λ (u : List ℕ). IsServed start.world now.world u (parted (take (2 ^ 30) start.world.input)).whole) (sym (only others s))
              (record { said = serving.said; stands = subst (λ (u : List ℕ). StandsFor now.world u) serving.reached serving.stands }),
        );
        leaves = leaves (parted (take (2 ^ 30) start.world.input)).whole outcome.2.0 serving;
        others = serving.others;
      }

-- ---- nothing was done

pub idle_held : (start : Sight) (users : List ℕ) → StandsFor start.world users → HoldsFront start.world start.world users
idle_held start users stands =
    (idle_leaves start start (record { same = refl }) (λ u. record { calls = []; since = refl; each = tt }) users stands).held

-- ---- which status it is

module _ (start now : Sight) where
  pub foreign_status : (status : Status) → IsServeStatus status → EndsAs start now status → HasForeignFile start.world
      → Gives (Foreign settings_0 0) status × SameButTouched start.world now.world
  foreign_status Done is ends foreign = absurd (not_foreign start.world ends.end.2.0 ends.end.2.1 foreign)
  foreign_status (Foreign name at) is ends foreign =
      (inl (ap (λ (n : List ℕ). Foreign n at) is.0 ∙ ap (λ (k : ℕ). Foreign settings_0 k) is.1), ends.end.1)
  foreign_status TooLong is ends foreign = absurd (not_foreign start.world ends.end.2.0 ends.end.2.1 foreign)
  foreign_status Usage is ends foreign = absurd is
  foreign_status (Fault part) is ends foreign = absurd is
  foreign_status Memory is ends foreign = absurd is

  pub too_long_status : (status : Status) → IsServeStatus status → EndsAs start now status → (users : List ℕ) → StandsFor start.world users
      → 2 ^ 30 < length start.world.input → Gives TooLong status
  too_long_status Done is ends users stands long = absurd (omega (arith, ends.end.0))
  too_long_status (Foreign name at) is ends users stands long = absurd (not_foreign start.world users stands ends.end.0)
  too_long_status TooLong is ends users stands long = inl refl
  too_long_status Usage is ends users stands long = absurd is
  too_long_status (Fault part) is ends users stands long = absurd is
  too_long_status Memory is ends users stands long = absurd is

  pub done_status : (status : Status) → IsServeStatus status → EndsAs start now status → (users : List ℕ) → StandsFor start.world users
      → length start.world.input ≤ 2 ^ 30 → status ≡ Done
  done_status Done is ends users stands short = refl
  done_status (Foreign name at) is ends users stands short = absurd (not_foreign start.world users stands ends.end.0)
  done_status TooLong is ends users stands short = absurd (omega (arith, ends.end.0))
  done_status Usage is ends users stands short = absurd is
  done_status (Fault part) is ends users stands short = absurd is
  done_status Memory is ends users stands short = absurd is

  pub opened_status : (status : Status) → EndsAs start now status → (status ≡ Done) ⊎ (status ≡ TooLong)
      → (users : List ℕ) × StandsFor start.world users
  opened_status status ends (inl is) = (subst (λ (s : Status). EndsAs start now s) is ends).end.2
  opened_status status ends (inr is) = (subst (λ (s : Status). EndsAs start now s) is ends).end.2
