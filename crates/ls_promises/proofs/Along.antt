-- What is kept along a history.
use Rattle.std.proofs.Common.{◌≡◌, ℕ, Bool, true, false, List, [], ◌∷◌, refl}
use Rattle.std.specs.Prelude.{◌||◌}
use Rattle.std.specs.List.{list_any}
use Rattle.ls_script.specs.declared.command.Command.{Command}
use Rattle.ls_script.specs.declared.reply.Reply.{Reply}
use Rattle.ls_vault.specs.Histories.{Event, command, restarted, happening, history, state_after, passes}
use Rattle.ls_vault.specs.Step.{step, restart}
use Rattle.ls_vault.specs.declared.state.State.{State}
use Rattle.ls_vault.specs.declared.vault.Books.{Books}

pub or_left : (a b : Bool) → (a || b) ≡ false → a ≡ false
or_left true b is = is
or_left false b is = refl

pub or_right : (a b : Bool) → (a || b) ≡ false → b ≡ false
or_right true b is = absurd (cc)
or_right false b is = is

module _ (slots : ℕ) (Kept : State → Type 0) (test : Command → Reply → Bool)
    (served : (s : State) (c : Command) (moment : ℕ) (drawn : List ℕ) → Kept s → test c (step slots s c moment drawn).reply ≡ false → Kept (step slots s c moment drawn).state)
    (begun : (s : State) (boot : ℕ) (books : Books) → Kept s → Kept (restart s boot books)) where
  pub one_more : (s : State) (event : Event) → Kept s → passes test (happening slots s event) ≡ false → Kept (happening slots s event).state
  one_more s (command c moment drawn) was not = served s c moment drawn was not
  one_more s (restarted boot books) was not = begun s boot books was

  -- where no command passes the test, it is kept
  pub along : (s : State) (events : List Event) → Kept s → list_any (passes test) (history slots s events) ≡ false → Kept (state_after slots s events)
  along s [] was none = was
  along s (event ∷ events) was none =
      along (happening slots s event).state events
      (one_more s event was (or_left (passes test (happening slots s event)) _ none))
      (or_right (passes test (happening slots s event)) _ none)

  -- and no command passes another test
  module _ (other : Command → Reply → Bool)
      (never : (s : State) (c : Command) (moment : ℕ) (drawn : List ℕ) → Kept s → other c (step slots s c moment drawn).reply ≡ false) where
    not_now : (s : State) (event : Event) → Kept s → passes other (happening slots s event) ≡ false
    not_now s (command c moment drawn) was = never s c moment drawn was
    not_now s (restarted boot books) was = refl

    pub none_along : (s : State) (events : List Event) → Kept s → list_any (passes test) (history slots s events) ≡ false → list_any (passes other) (history slots s events) ≡ false
    none_along s [] was none = refl
    none_along s (event ∷ events) was none =
        both (passes other (happening slots s event)) (list_any (passes other) (history slots (happening slots s event).state events))
        (not_now s event was)
        (none_along (happening slots s event).state events
        (one_more s event was (or_left (passes test (happening slots s event)) _ none))
        (or_right (passes test (happening slots s event)) _ none))
      where
        both : (a b : Bool) → a ≡ false → b ≡ false → (a || b) ≡ false
        both true b p q = p
        both false b p q = q
