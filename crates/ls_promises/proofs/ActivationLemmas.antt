-- Tokens get active.
use Rattle.std.proofs.Common.{◌≡◌, ◌≢◌, ◌≤◌, ◌+◌, ℕ, zero, suc, Bool, true, false, cond, eqb, List, [], ◌∷◌, ◌++◌, Option, None, Some, length, length-append, refl, sym, ◌∙◌, ap, arith}
use Rattle.std.proofs.lemmas.List.{append_assoc}
use Rattle.std.specs.Prelude.{◌-◌, ◌==◌, min, nat_lt, take, map}
use Rattle.ls_promises.proofs.LimitLemmas.{waiting, moving}
use Rattle.ls_promises.proofs.Lookups.{eqb_is, not_eqb}
use Rattle.ls_promises.proofs.SoundParts.{tokens_here, tokens_found, tokens_other, at_number}
use Rattle.ls_promises.proofs.Steps.{at_committed_if}
use Rattle.ls_promises.specs.Tokens.{all_tokens}
use Rattle.ls_script.specs.declared.command.Command.TheVariants as command
use Rattle.ls_script.specs.declared.reply.Refusal.{Refusal}
use Rattle.ls_script.specs.declared.reply.Reply.TheVariants.{Fine}
use Rattle.ls_vault.specs.Limits.{is_worn, used, activated_count}
use Rattle.ls_vault.specs.Refusals.{of_user, locked_refusal}
use Rattle.ls_vault.specs.States.{fine}
use Rattle.ls_vault.specs.Step.{unless, step}
use Rattle.ls_vault.specs.TokenChanges.{with_tokens, first_activated, tokens_activated}
use Rattle.ls_vault.specs.Tokens.{pending_of, without_first, activated}
use Rattle.ls_vault.specs.Users.{user_of, tokens_of}
use Rattle.ls_vault.specs.declared.state.Outcome.{Outcome}
use Rattle.ls_vault.specs.declared.state.State.{State}
use Rattle.ls_vault.specs.declared.token.PendingToken.{PendingToken}
use Rattle.ls_vault.specs.declared.token.Token.{Token}
use Rattle.ls_vault.specs.declared.user.User.{User}

-- ---- pending tokens

-- those that move and those that stay are all
moving_all : (k : ℕ) (ps : List PendingToken) (m : ℕ) → moving k ps m ++ map activated (pending_of (without_first k ps m) m) ≡ map activated (pending_of ps m)
moving_all zero ps m = refl
moving_all (suc k) [] m = refl
moving_all (suc k) (p ∷ ps) m = by_test (eqb p.user m) refl (moving_all k ps m) (moving_all (suc k) ps m)
  where
    by_test : (b : Bool) → eqb p.user m ≡ b → moving k ps m ++ map activated (pending_of (without_first k ps m) m) ≡ map activated (pending_of ps m)
        → moving (suc k) ps m ++ map activated (pending_of (without_first (suc k) ps m) m) ≡ map activated (pending_of ps m)
        → map activated (take (suc k) (cond b (p ∷ pending_of ps m) (pending_of ps m))) ++ map activated (pending_of (cond b (without_first k ps m) (p ∷ without_first (suc k) ps m)) m)
        ≡ map activated (cond b (p ∷ pending_of ps m) (pending_of ps m))
    by_test true is one all = ap (λ (ts : List Token). activated p ∷ ts) one
    by_test false is one all =
        ap (λ b. moving (suc k) ps m ++ map activated (cond b (p ∷ pending_of (without_first (suc k) ps m) m) (pending_of (without_first (suc k) ps m) m))) is ∙ all

-- another user's stay
others_stay : (k : ℕ) (ps : List PendingToken) (m n : ℕ) → m ≢ n → pending_of (without_first k ps m) n ≡ pending_of ps n
others_stay zero ps m n differ = refl
others_stay (suc k) [] m n differ = refl
others_stay (suc k) (p ∷ ps) m n differ = by_test (eqb p.user m) refl (others_stay k ps m n differ) (others_stay (suc k) ps m n differ)
  where
    by_test : (b : Bool) → eqb p.user m ≡ b → pending_of (without_first k ps m) n ≡ pending_of ps n → pending_of (without_first (suc k) ps m) n ≡ pending_of ps n
        → pending_of (cond b (without_first k ps m) (p ∷ without_first (suc k) ps m)) n ≡ cond (eqb p.user n) (p ∷ pending_of ps n) (pending_of ps n)
    by_test true is one all =
        one ∙ sym (ap (λ b. cond b (p ∷ pending_of ps n) (pending_of ps n)) (not_eqb p.user n (λ same. differ (sym (eqb_is p.user m is) ∙ same))))
    by_test false is one all = ap (λ (rest : List PendingToken). cond (eqb p.user n) (p ∷ rest) rest) all

-- as many move as there are
moving_count : (k : ℕ) (ps : List PendingToken) (m : ℕ) → k ≤ waiting ps m → length (moving k ps m) ≡ k
moving_count k ps m le = at_list k (pending_of ps m) le
  where
    at_list : (k : ℕ) (xs : List PendingToken) → k ≤ length xs → length (map activated (take k xs)) ≡ k
    at_list zero xs le = refl
    at_list (suc k) [] le = absurd (omega (arith, le))
    at_list (suc k) (x ∷ xs) le = let h = at_list k xs (omega (arith, le)) in omega (arith, h)

module _ (slots : ℕ) (s : State) (user moment : ℕ) (drawn : List ℕ) where
  abbrev k : ℕ
  k = activated_count slots s user

  abbrev answer : Option Refusal → Outcome
  answer r = unless r s (fine (tokens_activated k s user))

  few : k ≤ waiting s.session.pending user
  few = by_tests (is_worn s) (slots == 0)
    where
      by_tests : (b d : Bool) → cond b 0 (cond d (waiting s.session.pending user) (min (waiting s.session.pending user) (slots - used s.vault.users))) ≤ waiting s.session.pending user
      by_tests true d = omega arith
      by_tests false true = omega arith
      by_tests false false = omega arith

  module _ (v : User) (there : user_of s.vault.users user ≡ Some v) where
    abbrev f : User → User
    f = with_tokens (moving k s.session.pending user)

    here : tokens_of (first_activated k s user).vault.users user ≡ tokens_of s.vault.users user ++ moving k s.session.pending user
    here =
        tokens_here s.vault.users user f (λ u. refl) v there
        ∙ sym (ap (λ (ts : List Token). ts ++ moving k s.session.pending user) (tokens_found s.vault.users user v there))

    all_here : all_tokens (first_activated k s user) user ≡ all_tokens s user
    all_here =
        ap (λ (ts : List Token). ts ++ map activated (pending_of (without_first k s.session.pending user) user)) here
        ∙ (append_assoc (tokens_of s.vault.users user) (moving k s.session.pending user) _
        ∙ ap (λ (ts : List Token). tokens_of s.vault.users user ++ ts) (moving_all k s.session.pending user))

    all_other : (owner : ℕ) → user ≢ owner → all_tokens (first_activated k s user) owner ≡ all_tokens s owner
    all_other owner differ =
        ap (λ (ts : List Token). ts ++ map activated (pending_of (without_first k s.session.pending user) owner)) (tokens_other s.vault.users user f (λ u. refl) owner differ)
        ∙ ap (λ (ps : List PendingToken). tokens_of s.vault.users owner ++ map activated ps) (others_stay k s.session.pending user owner differ)

    all_same : (owner : ℕ) → all_tokens (first_activated k s user) owner ≡ all_tokens s owner
    all_same = at_number (λ owner. all_tokens (first_activated k s user) owner ≡ all_tokens s owner) user all_here all_other

    counted : length (tokens_of (first_activated k s user).vault.users user) ≡ length (tokens_of s.vault.users user) + k
    counted =
        ap (λ (ts : List Token). length ts) here
        ∙ (length-append (tokens_of s.vault.users user) (moving k s.session.pending user)
        ∙ ap (λ n. length (tokens_of s.vault.users user) + n) (moving_count k s.session.pending user few))

  kept : (owner : ℕ) (o : Option User) → user_of s.vault.users user ≡ o → (r : Option Refusal)
      → all_tokens (answer (of_user o (λ u. r))).state owner ≡ all_tokens s owner
  kept owner None there r = refl
  kept owner (Some v) there None =
      at_committed_if (λ (t : State). all_tokens t owner ≡ all_tokens s owner) (nat_lt 0 k) (first_activated k s user) (all_same v there owner) (all_same v there owner)
  kept owner (Some v) there (Some why) = refl

  pub tokens_kept : (owner : ℕ) → all_tokens (step slots s (command.Activate user) moment drawn).state owner ≡ all_tokens s owner
  tokens_kept owner = kept owner (user_of s.vault.users user) refl (locked_refusal s user)

  more : (o : Option User) → user_of s.vault.users user ≡ o → (r : Option Refusal) → (answer (of_user o (λ u. r))).reply ≡ Fine
      → length (tokens_of (answer (of_user o (λ u. r))).state.vault.users user) ≡ length (tokens_of s.vault.users user) + k
  more None there r is = absurd (cc)
  more (Some v) there None is =
      at_committed_if (λ (t : State). length (tokens_of t.vault.users user) ≡ length (tokens_of s.vault.users user) + k) (nat_lt 0 k) (first_activated k s user)
      (counted v there) (counted v there)
  more (Some v) there (Some why) is = absurd (cc)

  pub tokens_more : (step slots s (command.Activate user) moment drawn).reply ≡ Fine
      → length (tokens_of (step slots s (command.Activate user) moment drawn).state.vault.users user) ≡ length (tokens_of s.vault.users user) + k
  tokens_more is = more (user_of s.vault.users user) refl (locked_refusal s user) is
