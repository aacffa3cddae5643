-- Histories in a row, and stretches of one.
use Rattle.std.proofs.Common.{◌≡◌, ◌≤◌, ◌++◌, ℕ, zero, suc, Bool, true, false, List, [], ◌∷◌, take, refl, sym, ◌∙◌, ap, subst, arith}
use Rattle.std.specs.Prelude.{map}
use Rattle.ls_lives.specs.Lives.{state_at_end}
use Rattle.ls_script.specs.declared.reply.Reply.{Reply}
use Rattle.ls_vault.specs.Histories.{Event, command, restarted, Happening, happening, history, state_after, passes}
use Rattle.ls_vault.specs.Step.{step}
use Rattle.std.specs.List.{list_any}
use Rattle.ls_promises.specs.Answers.{ends_token, adds_token, opens_by_token}
use Rattle.ls_script.specs.declared.command.Command.{Command}
use Rattle.ls_vault.specs.declared.state.State.{State}

-- ---- lists

pub cons_head : {A : Type 0} (x y : A) (xs ys : List A) → x ∷ xs ≡ y ∷ ys → x ≡ y
cons_head x y xs ys is = cc

pub cons_tail : {A : Type 0} (x y : A) (xs ys : List A) → x ∷ xs ≡ y ∷ ys → xs ≡ ys
cons_tail x y xs ys is = cc

pub no_nil : {A : Type 0} (x : A) (xs : List A) → [] ≡ x ∷ xs → ⊥
no_nil x xs is = cc

pub map-append : {A B : Type 0} (f : A → B) (xs ys : List A) → map f (xs ++ ys) ≡ map f xs ++ map f ys
map-append f [] ys = refl
map-append f (x ∷ xs) ys = ap (λ l. f x ∷ l) (map-append f xs ys)

pub map-take : {A B : Type 0} (f : A → B) (k : ℕ) (xs : List A) → map f (take k xs) ≡ take k (map f xs)
map-take f zero xs = refl
map-take f (suc k) [] = refl
map-take f (suc k) (x ∷ xs) = ap (λ l. f x ∷ l) (map-take f k xs)

pub take_less : {A : Type 0} (n k : ℕ) (xs : List A) → n ≤ k → take n (take k xs) ≡ take n xs
take_less zero k xs le = refl
take_less (suc n) zero xs le = absurd (omega arith)
take_less (suc n) (suc k) [] le = refl
take_less (suc n) (suc k) (x ∷ xs) le = ap (λ l. x ∷ l) (take_less n k xs (omega arith))

-- ---- histories

module _ (slots : ℕ) where
  pub history-append : (s : State) (xs ys : List Event) → history slots s (xs ++ ys) ≡ history slots s xs ++ history slots (state_after slots s xs) ys
  history-append s [] ys = refl
  history-append s (x ∷ xs) ys = ap (λ l. happening slots s x ∷ l) (history-append (happening slots s x).state xs ys)

  pub state-append : (s : State) (xs ys : List Event) → state_after slots s (xs ++ ys) ≡ state_after slots (state_after slots s xs) ys
  state-append s [] ys = refl
  state-append s (x ∷ xs) ys = state-append (happening slots s x).state xs ys

  pub history-take : (s : State) (k : ℕ) (xs : List Event) → history slots s (take k xs) ≡ take k (history slots s xs)
  history-take s zero xs = refl
  history-take s (suc k) [] = refl
  history-take s (suc k) (x ∷ xs) = ap (λ l. happening slots s x ∷ l) (history-take (happening slots s x).state k xs)

  happening_event : (s : State) (x : Event) → (happening slots s x).event ≡ x
  happening_event s (command c moment drawn) = refl
  happening_event s (restarted boot books) = refl

  -- what happened is known by its events
  pub by_events : (s : State) (events : List Event) → map (λ h. h.event) (history slots s events) ≡ events
  by_events s [] = refl
  by_events s (x ∷ xs) = ap (λ (e : Event). e ∷ map (λ h. h.event) (history slots (happening slots s x).state xs)) (happening_event s x)
      ∙ ap (λ (l : List Event). x ∷ l) (by_events (happening slots s x).state xs)

  pub ends_in : (s : State) (events : List Event) → state_at_end s (history slots s events) ≡ state_after slots s events
  ends_in s [] = refl
  ends_in s (x ∷ xs) = ends_in (happening slots s x).state xs

  -- the front of a history is one
  fronts : (s : State) (events : List Event) (front more : List Happening) → history slots s events ≡ front ++ more → front ≡ history slots s (map (λ h. h.event) front)
  fronts s events [] more is = refl
  fronts s [] (h ∷ front) more is = absurd (no_nil h (front ++ more) is)
  fronts s (x ∷ xs) (h ∷ front) more is =
      let same : happening slots s x ≡ h = cons_head (happening slots s x) h (history slots (happening slots s x).state xs) (front ++ more) is in
      let rest = fronts (happening slots s x).state xs front more (cons_tail (happening slots s x) h (history slots (happening slots s x).state xs) (front ++ more) is) in
      let event : h.event ≡ x = ap (λ (k : Happening). k.event) (sym same) ∙ happening_event s x in
      ap (λ (k : Happening). k ∷ front) (sym same)
      ∙ ap (λ (l : List Happening). happening slots s x ∷ l) rest
      ∙ ap (λ (e : Event). happening slots s e ∷ history slots (happening slots s e).state (map (λ k. k.event) front)) (sym event)

  pub stretches : (s : State) (events : List Event) (before stretch more : List Happening) → history slots s events ≡ before ++ (stretch ++ more)
      → stretch ≡ history slots (state_at_end s before) (map (λ h. h.event) stretch)
  stretches s events [] stretch more is = fronts s events stretch more is
  stretches s [] (h ∷ before) stretch more is = absurd (no_nil h (before ++ (stretch ++ more)) is)
  stretches s (x ∷ xs) (h ∷ before) stretch more is =
      let same : happening slots s x ≡ h = cons_head (happening slots s x) h (history slots (happening slots s x).state xs) (before ++ (stretch ++ more)) is in
      subst (λ (k : Happening). stretch ≡ history slots (state_at_end k.state before) (map (λ h. h.event) stretch)) same
      (stretches (happening slots s x).state xs before stretch more
      (cons_tail (happening slots s x) h (history slots (happening slots s x).state xs) (before ++ (stretch ++ more)) is))

  pub end-append : (s : State) (xs ys : List Happening) → state_at_end s (xs ++ ys) ≡ state_at_end (state_at_end s xs) ys
  end-append s [] ys = refl
  end-append s (x ∷ xs) ys = end-append x.state xs ys

  -- the state at the end of a stretch
  pub stretch_end : (s : State) (events : List Event) (before stretch more : List Happening) → history slots s events ≡ before ++ (stretch ++ more)
      → state_at_end s (before ++ stretch) ≡ state_after slots (state_at_end s before) (map (λ h. h.event) stretch)
  stretch_end s events before stretch more is = end-append s before stretch
      ∙ ap (λ (l : List Happening). state_at_end (state_at_end s before) l) (stretches s events before stretch more is)
      ∙ ends_in (state_at_end s before) (map (λ h. h.event) stretch)

-- ---- a token that was removed

passes_command : (slots : ℕ) (s : State) (e : Event) (test : Command → Reply → Bool) → passes test (happening slots s e) ≡ true
    → (c : Command) × (moment : ℕ) × (drawn : List ℕ) × (e ≡ command c moment drawn) × (test c (step slots s c moment drawn).reply ≡ true)
passes_command slots s (command c moment drawn) test is = (c, moment, drawn, refl, is)
passes_command slots s (restarted boot books) test is = absurd (cc)

module _ (slots : ℕ) (s : State) (events : List Event) (before : List Happening) (h : Happening) (stretch more : List Happening) (user id : ℕ) (bytes : List ℕ)
    (removed : (t : State) (c : Command) (moment : ℕ) (drawn : List ℕ) (events : List Event)
    → ends_token user id c (step slots t c moment drawn).reply ≡ true
    → list_any (passes (adds_token user id bytes)) (history slots (step slots t c moment drawn).state events) ≡ false
    → list_any (passes (opens_by_token user id bytes)) (history slots (step slots t c moment drawn).state events) ≡ false) where
  pub removed_by : history slots s events ≡ before ++ (h ∷ (stretch ++ more)) → passes (ends_token user id) h ≡ true
      → list_any (passes (adds_token user id bytes)) stretch ≡ false → list_any (passes (opens_by_token user id bytes)) stretch ≡ false
  removed_by is ends none =
      let t = state_at_end s before in
      let es = map (λ k. k.event) stretch in
      let whole : h ∷ stretch ≡ happening slots t h.event ∷ history slots (happening slots t h.event).state es = stretches slots s events before (h ∷ stretch) more is in
      let first : h ≡ happening slots t h.event = cons_head h (happening slots t h.event) stretch (history slots (happening slots t h.event).state es) whole in
      let rest : stretch ≡ history slots (happening slots t h.event).state es = cons_tail h (happening slots t h.event) stretch (history slots (happening slots t h.event).state es) whole in
      let by = passes_command slots t h.event (ends_token user id) (subst (λ (k : Happening). passes (ends_token user id) k ≡ true) first ends) in
      let here : stretch ≡ history slots (step slots t by.0 by.1 by.2).state es = rest ∙ ap (λ (e : Event). history slots (happening slots t e).state es) by.3 in
      subst (λ (l : List Happening). list_any (passes (opens_by_token user id bytes)) l ≡ false) (sym here)
      (removed t by.0 by.1 by.2 es by.4 (subst (λ (l : List Happening). list_any (passes (adds_token user id bytes)) l ≡ false) here none))
