-- What the machine does where a user is to be unlocked.
use Rattle.std.proofs.Common.{◌≡◌, ◌-◌, ℕ, Bool, true, false, cond, not, List, [], ◌∷◌, Option, None, Some, refl, sym, ◌∙◌, ap, subst, length, drop}
use Rattle.std.specs.Prelude.{◌==◌, nat_lt, bytes_eq}
use Rattle.ls_board.specs.Gatekeeper.{no_fails, counter_after}
use Rattle.ls_chain.specs.declared.trying.AttemptEnd.TheVariants as chain
use Rattle.ls_chain.specs.SealedEnds.{sealed_end, sealed_token_end}
use Rattle.ls_credential.specs.Rules.{KindAndText}
use Rattle.ls_script.specs.declared.command.Command.TheVariants as command
use Rattle.ls_script.specs.declared.reply.Reply.TheVariants.{Opened, No}
use Rattle.ls_script.specs.declared.reply.Refusal.{Refusal}
use Rattle.ls_script.specs.declared.reply.Refusal.TheVariants.{NoUser, WrongKind, Throttled, Wrong, NoToken, WrongToken}
use Rattle.ls_standing.specs.Asking.{counted, with_failures}
use Rattle.ls_tape.specs.Tape.{drawn, next_moment, later_moments}
use Rattle.ls_vault.specs.declared.state.Outcome.{Outcome}
use Rattle.ls_vault.specs.declared.state.State.{State}
use Rattle.ls_vault.specs.declared.token.Token.{Token}
use Rattle.ls_vault.specs.declared.user.User.{User}
use Rattle.ls_vault.specs.Drawn.{len_unless}
use Rattle.ls_vault.specs.Kinds.{same_kind}
use Rattle.ls_vault.specs.Refusals.{of_user, attempt_refusal, bytes_refusal}
use Rattle.ls_vault.specs.Revealed.{revealed}
use Rattle.ls_vault.specs.Script.{Stage, has_kind}
use Rattle.ls_vault.specs.States.{on_user, with_users}
use Rattle.ls_vault.specs.Step.{unless}
use Rattle.ls_vault.specs.Tokens.{token_of}
use Rattle.ls_vault.specs.Unlocking.{opened, cleared, failed, attempted, token_attempted}
use Rattle.ls_vault.specs.Users.{user_of, changed}
use Rattle.ls_turn.specs.Serving.{Turned, turned}
use Rattle.ls_weaver.specs.Throttle.{timeout, more_fails, rest_until}
use Rattle.ls_users.proofs.UserLemmas.{same_changed}
use Rattle.ls_attempts.specs.StandingRows.{failures_of}
use Rattle.ls_unlocking.specs.declared.ending.Tried.{Tried}
use Rattle.ls_unlocking.specs.declared.ending.Tried.TheVariants as tried
use Rattle.ls_unlocking.specs.Trying.{credential_tried, token_tried}

-- the turn of an outcome that isn't reached where it is refused, with these moments
abbrev turn_of : Stage → List ℕ → Option Refusal → Outcome → Turned
turn_of at moments why out = record {
  reply = (unless why at.state out).reply;
  stage = record {
    state = (unless why at.state out).state;
    moments = moments;
    noise = drop (length (drawn at.noise (len_unless why 0))) at.noise;
  };
}

-- two changes that are one for the user of the number
changed_alike : (users : List User) (number : ℕ) (u : User) (f g : User → User) → user_of users number ≡ Some u → f u ≡ g u → changed users number f ≡ changed users number g
changed_alike [] number u f g found is = refl
changed_alike (x ∷ users) number u f g found is = by (x.number == number) found (λ miss. changed_alike users number u f g miss is)
  where
    same : ◌≡◌ {A = Option User} (Some x) (Some u) → u ≡ x
    same e = cc

    by : (b : Bool) → cond b (Some x) (user_of users number) ≡ Some u → (user_of users number ≡ Some u → changed users number f ≡ changed users number g)
        → cond b (f x ∷ users) (x ∷ changed users number f) ≡ cond b (g x ∷ users) (x ∷ changed users number g)
    by true hit later = ap (λ (y : User). y ∷ users) (subst (λ (y : User). f y ≡ g y) (same hit) is)
    by false miss later = ap (λ (l : List User). x ∷ l) (later miss)

-- the user of the number then
pub changed_there : (users : List User) (number : ℕ) (u : User) (f : User → User) → user_of users number ≡ Some u → (f u).number ≡ u.number → user_of (changed users number f) number ≡ Some (f u)
changed_there [] number u f found keeps = absurd (cc)
changed_there (x ∷ users) number u f found keeps = by (x.number == number) refl found (λ miss. changed_there users number u f miss keeps)
  where
    same : ◌≡◌ {A = Option User} (Some x) (Some u) → x ≡ u
    same e = cc

    by : (b : Bool) → (x.number == number) ≡ b → cond b (Some x) (user_of users number) ≡ Some u → (user_of users number ≡ Some u → user_of (changed users number f) number ≡ Some (f u))
        → user_of (cond b (f x ∷ users) (x ∷ changed users number f)) number ≡ Some (f u)
    by true is hit later =
        ap (λ (y : User). cond ((f y).number == number) (Some (f y)) (user_of users number)) (same hit)
        ∙ ap (λ (n : ℕ). cond (n == number) (Some (f u)) (user_of users number)) (keeps ∙ sym (ap (λ (y : User). y.number) (same hit)))
        ∙ ap (λ (b : Bool). cond b (Some (f u)) (user_of users number)) is
    by false is miss later = ap (λ (b : Bool). cond b (Some x) (user_of (changed users number f) number)) is ∙ later miss

-- ---- what it comes to

-- A refusal leaves all but the vault; where it opens, the user has this secret and gets this.
abbrev pub Outcomes : ℕ → State → Turned → Tried → Type 0
Outcomes user s t (tried.Refused why) = (t.reply ≡ No why) × (t.stage.state ≡ record s { vault = t.stage.state.vault })
Outcomes user s t (tried.Opened secret) =
    (u : User) × (user_of t.stage.state.vault.users user ≡ Some u) × (secret ≡ u.secret)
    × (t.reply ≡ Opened (revealed u)) × (t.stage.state ≡ opened (record s { vault = t.stage.state.vault }) user)

-- ---- a credential

module _ (n : ℕ) (at : Stage) (user : ℕ) (d : KindAndText) where
  abbrev users : List User
  users = at.state.vault.users

  abbrev turn_by : Option User → Turned
  turn_by o =
      let moment = cond (has_kind o d.kind) (next_moment at.moments) 0 in
      turn_of at (cond (has_kind o d.kind) (later_moments at.moments) at.moments)
      (of_user o (attempt_refusal d moment)) (on_user o at.state (attempted at.state user d moment))

  pub attempt_nobody : user_of users user ≡ None → turned n (command.Attempt user d) at ≡ record { reply = No NoUser; stage = at }
  attempt_nobody none = ap turn_by none

  module _ (u : User) (found : user_of users user ≡ Some u) where
    abbrev moment : ℕ
    moment = next_moment at.moments

    -- by whether the kinds are one
    abbrev turn_kind : Bool → Turned
    turn_kind k =
        let moment = cond k (next_moment at.moments) 0 in
        turn_of at (cond k (later_moments at.moments) at.moments)
        (cond (not k) (Some (WrongKind u.credential.kind)) (cond (nat_lt moment u.until) (Some (Throttled (u.until - moment))) None)) (attempted at.state user d moment u)

    pub attempt_kind : same_kind d.kind u.credential.kind ≡ false → turned n (command.Attempt user d) at ≡ record { reply = No (WrongKind u.credential.kind); stage = at }
    attempt_kind other = ap turn_by found ∙ ap turn_kind other

    -- by whether the device rests, and the text is the user's
    abbrev pub turn_text : Bool → Bool → Turned
    turn_text rests right =
        turn_of at (later_moments at.moments) (cond rests (Some (Throttled (u.until - moment))) None)
        (cond right (record { reply = Opened (revealed u); state = opened (with_users at.state (changed users user cleared)) user })
        (record { reply = No (Wrong (timeout (more_fails u.fails))); state = with_users at.state (changed users user (failed moment)) }))

    pub attempt_turn : same_kind d.kind u.credential.kind ≡ true → turned n (command.Attempt user d) at ≡ turn_text (nat_lt moment u.until) (bytes_eq d.text u.credential.text)
    attempt_turn same = ap turn_by found ∙ ap turn_kind same

    text_counts : (rests right : Bool)
        → (turn_text rests right).stage.state.vault
        ≡ counted at.state.vault user (cond rests (failures_of u) (cond right no_fails (record { fails = more_fails u.fails; until = rest_until moment (more_fails u.fails) })))
    text_counts true right = ap (λ (l : List User). record at.state.vault { users = l }) (sym (same_changed users user u (with_failures (failures_of u)) found refl))
    text_counts false true = refl
    text_counts false false = ap (λ (l : List User). record at.state.vault { users = l })
        (changed_alike users user u (failed moment) (with_failures (record { fails = more_fails u.fails; until = rest_until moment (more_fails u.fails) })) found refl)

    text_ends : (rests right : Bool) → Outcomes user at.state (turn_text rests right)
        (credential_tried (cond rests (chain.Throttled (u.until - moment)) (cond right (chain.Opened u.secret) (chain.Wrong (timeout (more_fails u.fails))))))
    text_ends true right = (refl, refl)
    text_ends false true = (cleared u, changed_there users user u cleared found refl, refl, refl, refl)
    text_ends false false = (refl, refl)

    module _ (same : same_kind d.kind u.credential.kind ≡ true) where
      abbrev right : Bool
      right = bytes_eq d.text u.credential.text

      -- the vault counts for the user
      pub attempt_counts : (turned n (command.Attempt user d) at).stage.state.vault ≡ counted at.state.vault user (counter_after (failures_of u) right moment)
      attempt_counts = ap (λ (t : Turned). t.stage.state.vault) (attempt_turn same) ∙ text_counts (nat_lt moment u.until) right

      pub attempt_outcome : Outcomes user at.state (turned n (command.Attempt user d) at) (credential_tried (sealed_end (failures_of u) u.secret right moment))
      attempt_outcome = subst (λ (t : Turned). Outcomes user at.state t (credential_tried (sealed_end (failures_of u) u.secret right moment))) (sym (attempt_turn same)) (text_ends (nat_lt moment u.until) right)

      pub attempt_moments : (turned n (command.Attempt user d) at).stage.moments ≡ later_moments at.moments
      attempt_moments = ap (λ (t : Turned). t.stage.moments) (attempt_turn same)

      noise_by : (rests hit : Bool) → (turn_text rests hit).stage.noise ≡ at.noise
      noise_by true hit = refl
      noise_by false hit = refl

      pub attempt_noise : (turned n (command.Attempt user d) at).stage.noise ≡ at.noise
      attempt_noise = ap (λ (t : Turned). t.stage.noise) (attempt_turn same) ∙ noise_by (nat_lt moment u.until) right

-- ---- the bytes of a token

module _ (n : ℕ) (at : Stage) (user id : ℕ) (bytes : List ℕ) where
  abbrev token_turn_by : Option User → Turned
  token_turn_by o = turn_of at at.moments (of_user o (λ u. bytes_refusal bytes (token_of u.tokens id))) (on_user o at.state (token_attempted at.state user))

  pub token_nobody : user_of at.state.vault.users user ≡ None → turned n (command.TokenAttempt user id bytes) at ≡ record { reply = No NoUser; stage = at }
  token_nobody none = ap token_turn_by none

  module _ (u : User) (found : user_of at.state.vault.users user ≡ Some u) where
    abbrev turn_token : Option Token → Turned
    turn_token o = turn_of at at.moments (bytes_refusal bytes o) (token_attempted at.state user u)

    pub token_none : token_of u.tokens id ≡ None → turned n (command.TokenAttempt user id bytes) at ≡ record { reply = No NoToken; stage = at }
    token_none none = ap token_turn_by found ∙ ap turn_token none

    module _ (t : Token) (there : token_of u.tokens id ≡ Some t) where
      abbrev right_bytes : Bool
      right_bytes = bytes_eq bytes t.bytes

      abbrev turn_bytes : Bool → Turned
      turn_bytes right = turn_of at at.moments (cond right None (Some WrongToken)) (token_attempted at.state user u)

      token_turn : turned n (command.TokenAttempt user id bytes) at ≡ turn_bytes right_bytes
      token_turn = ap token_turn_by found ∙ ap turn_token there

      bytes_vault : (right : Bool) → (turn_bytes right).stage.state.vault ≡ at.state.vault
      bytes_vault true = refl
      bytes_vault false = refl

      bytes_end : (right : Bool) → Outcomes user at.state (turn_bytes right) (token_tried (sealed_token_end u.secret right))
      bytes_end true = (u, found, refl, refl, refl)
      bytes_end false = (refl, refl)

      bytes_tape : (right : Bool) → ((turn_bytes right).stage.moments ≡ at.moments) × ((turn_bytes right).stage.noise ≡ at.noise)
      bytes_tape true = (refl, refl)
      bytes_tape false = (refl, refl)

      -- the vault stays
      pub token_vault : (turned n (command.TokenAttempt user id bytes) at).stage.state.vault ≡ at.state.vault
      token_vault = ap (λ (t : Turned). t.stage.state.vault) token_turn ∙ bytes_vault right_bytes

      pub token_outcome : Outcomes user at.state (turned n (command.TokenAttempt user id bytes) at) (token_tried (sealed_token_end u.secret right_bytes))
      token_outcome = subst (λ (t : Turned). Outcomes user at.state t (token_tried (sealed_token_end u.secret right_bytes))) (sym token_turn) (bytes_end right_bytes)

      pub token_tape : ((turned n (command.TokenAttempt user id bytes) at).stage.moments ≡ at.moments) × ((turned n (command.TokenAttempt user id bytes) at).stage.noise ≡ at.noise)
      token_tape = subst (λ (t : Turned). (t.stage.moments ≡ at.moments) × (t.stage.noise ≡ at.noise)) (sym token_turn) (bytes_tape right_bytes)
