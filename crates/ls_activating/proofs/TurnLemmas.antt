-- The machine's turn, by why it refuses and by how many tokens become active.
use Rattle.std.proofs.Common.{◌≡◌, ◌≢◌, ◌+◌, ◌*◌, ◌-◌, not, ℕ, zero, suc, Bool, true, false, cond, List, [], ◌∷◌, ◌++◌, map, take, drop, replicate, length, append-nil, Option, None, Some, refl, sym, ◌∙◌, ap, subst, arith}
use Rattle.std.proofs.Math.Nat.{zero-mul}
use Rattle.std.specs.Prelude.{◌==◌, min, nat_lt, Ok}
use Rattle.std.proofs.lemmas.List.{length-take, length-append, length-replicate}
use Rattle.ls_board.specs.declared.world.World.{World}
use Rattle.ls_board.specs.Acts.{Sight}
use Rattle.ls_naming.specs.Current.{last_sequence}
use Rattle.ls_placing.proofs.RoomLemmas.{used_is, worn_is}
use Rattle.ls_record.specs.declared.row.UserRow.{UserRow}
use Rattle.ls_script.specs.declared.command.Command.TheVariants as command
use Rattle.ls_script.specs.declared.reply.Refusal.{Refusal}
use Rattle.ls_script.specs.declared.reply.Refusal.TheVariants.{Locked, NoUser}
use Rattle.ls_script.specs.declared.reply.Reply.TheVariants.{Fine, No}
use Rattle.ls_tape.specs.Tape.{drawn}
use Rattle.ls_vault.specs.declared.state.State.{State}
use Rattle.ls_vault.specs.declared.user.User.{User}
use Rattle.ls_vault.specs.declared.token.Token.{Token}
use Rattle.ls_vault.specs.Drawn.{effect_len, len_unless, token_len}
use Rattle.ls_vault.specs.Limits.{activated_count}
use Rattle.ls_vault.specs.Refusals.{locked_refusal, of_user}
use Rattle.ls_vault.specs.Script.{Stage}
use Rattle.ls_vault.specs.States.{fine}
use Rattle.ls_vault.specs.Step.{unless}
use Rattle.ls_vault.specs.TokenChanges.{tokens_activated, with_tokens}
use Rattle.ls_vault.specs.Users.{changed, user_of}
use Rattle.ls_turn.specs.declared.session.Session.{Session}
use Rattle.ls_turn.specs.Agreeing.{Agrees}
use Rattle.ls_turn.specs.Refusing.{is_open, own_refusal, row_of, used_by}
use Rattle.ls_turn.specs.Serving.{Always, CanServe, Serves, Turned, stage_in, turned}
use Rattle.ls_turn.proofs.KnownLemmas.{opened_is, pending_count_is}
use Rattle.ls_turn.proofs.RowLemmas.{nobody_there, user_there}
use Rattle.ls_turn.proofs.StillLemmas.{answered}
use Rattle.ls_activating.specs.Counting.{count_for}
use Rattle.ls_activating.specs.Planning.{TakesNoise, activated_turn}
use Rattle.ls_activating.proofs.RefusalLemmas.{own_by}

module _ (n : ℕ) (at : Stage) (user : ℕ) where
  -- how many tokens become active
  abbrev many : ℕ
  many = activated_count n at.state user

  abbrev bytes_for : Option Refusal → ℕ → List ℕ
  bytes_for why m = drawn at.noise (len_unless why (m * token_len n))

  abbrev pub turn_of : Option Refusal → ℕ → Turned
  turn_of why m = record {
    reply = (unless why at.state (fine (tokens_activated m at.state user))).reply;
    stage = record {
      state = (unless why at.state (fine (tokens_activated m at.state user))).state;
      moments = at.moments;
      noise = drop (length (bytes_for why m)) at.noise;
    };
  }

  -- why the machine refuses
  abbrev pub machine_refusal : Option Refusal
  machine_refusal = of_user (user_of at.state.vault.users user) (λ u. locked_refusal at.state user)

  pub turned_is : turned n (command.Activate user) at ≡ turn_of machine_refusal many
  turned_is = refl

-- ---- no token

none_more : (users : List User) (number : ℕ) → changed users number (with_tokens []) ≡ users
none_more [] number = refl
none_more (u ∷ users) number = by (u.number == number) (none_more users number)
  where
    by : (c : Bool) → changed users number (with_tokens []) ≡ users → cond c (with_tokens [] u ∷ users) (u ∷ changed users number (with_tokens [])) ≡ u ∷ users
    by true rest = ap (λ (l : List Token). record u { tokens = l } ∷ users) (append-nil u.tokens)
    by false rest = ap (λ (l : List User). u ∷ l) rest

none_activated : (s : State) (user : ℕ) → tokens_activated 0 s user ≡ s
none_activated s user = ap (λ (l : List User). record s { vault = record s.vault { users = l } }) (none_more s.vault.users user)

drawn_long : (noise : List ℕ) (len : ℕ) → length (drawn noise len) ≡ len
drawn_long noise len = omega (arith, length-take len (noise ++ replicate len 0), length-append noise (replicate len 0), length-replicate {A = ℕ} len 0)

-- ---- by the session

module _ (w : World) (x : Session) (s : State) (a : Agrees w x s) (user : ℕ) where
  abbrev by_machine : Option User → Bool → Option Refusal
  by_machine u o = of_user u (λ u. cond o None (Some Locked))

  pub refused_alike : of_user (user_of s.vault.users user) (λ u. locked_refusal s user) ≡ own_refusal x (command.Activate user)
  refused_alike = (λ i. by_machine (user_of s.vault.users user) (opened_is w x s a user i)) ∙ by (row_of x.settings.settled.rec user) refl
    where
      by : (row : Option UserRow) → row_of x.settings.settled.rec user ≡ row → by_machine (user_of s.vault.users user) (is_open x user) ≡ own_by row (is_open x user)
      by None none = ap (λ (u : Option User). by_machine u (is_open x user)) (nobody_there w x s a user none)
      by (Some row) found = ap (λ (u : Option User). by_machine u (is_open x user)) (user_there w x s a user row found).1

  pub count_alike : activated_count x.slots s user ≡ count_for x user
  count_alike = λ i. cond (worn_is w x s a i) 0 (cond (x.slots == 0) (pending_count_is w x s a user i) (min (pending_count_is w x s a user i) (x.slots - used_is w x s a i)))

module _ (x : Session) (user : ℕ) where
  abbrev turn : Stage → Turned
  turn = turned x.slots (command.Activate user)

  abbrev own : Option Refusal
  own = own_refusal x (command.Activate user)

  turn_is : (w : World) (s : State) (at : Stage) → at.state ≡ s → Agrees w x s → turn at ≡ turn_of x.slots at user own (count_for x user)
  turn_is w s at same agrees =
      turned_is x.slots at user
      ∙ (λ i. turn_of x.slots at user
      ((ap (λ (t : State). of_user (user_of t.vault.users user) (λ u. locked_refusal t user)) same ∙ refused_alike w x s agrees user) i)
      ((ap (λ (t : State). activated_count x.slots t user) same ∙ count_alike w x s agrees user) i))

  -- it is refused
  pub activate_refused : (old : Sight) → CanServe old x → (why : Refusal) → own ≡ Some why → Serves old x turn Always (Ok (No why)) x old
  activate_refused old can why is = answered old x turn Always (No why) can (omega arith)
      (λ s agrees. turn_is old.world s (stage_in old.world s) refl agrees ∙ ap (λ (o : Option Refusal). turn_of x.slots (stage_in old.world s) user o (count_for x user)) is)

  -- it isn't refused
  module _ (goes : own ≡ None) where
    -- none becomes active
    pub none_active : count_for x user ≡ 0 → (old : Sight) → CanServe old x → Serves old x turn Always (Ok Fine) x old
    none_active none old can = answered old x turn Always Fine can (omega arith)
        (λ s agrees. turn_is old.world s (stage_in old.world s) refl agrees
        ∙ ((λ i. turn_of x.slots (stage_in old.world s) user (goes i) (none i))
        ∙ (λ i. record {
          reply = Fine;
          stage = record {
            state = none_activated s user i;
            moments = old.world.moments;
            noise = drop ((drawn_long old.world.noise (0 * token_len x.slots) ∙ zero-mul (token_len x.slots)) i) old.world.noise;
          };
        })))

    -- from before the calls of the plan
    pub turn_kept : (old new : World) → TakesNoise (count_for x user * token_len x.slots) old new → (s : State) → Agrees new x s → turn (stage_in old s) ≡ activated_turn new s user (count_for x user)
    turn_kept old new took s agrees =
        turn_is new s (stage_in old s) refl agrees
        ∙ (ap (λ (o : Option Refusal). turn_of x.slots (stage_in old s) user o (count_for x user)) goes
        ∙ (λ i. record {
          reply = Fine;
          stage = record {
            state = tokens_activated (count_for x user) s user;
            moments = ap (λ (v : World). v.moments) (sym took) i;
            noise = (ap (λ (m : ℕ). drop m old.noise) (drawn_long old.noise (count_for x user * token_len x.slots)) ∙ ap (λ (v : World). v.noise) (sym took)) i;
          };
        }))
