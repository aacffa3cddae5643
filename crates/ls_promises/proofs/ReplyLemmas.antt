-- How many users a reply tells of.
use Rattle.std.proofs.Common.{◌≡◌, ◌≤◌, ◌<◌, ℕ, Bool, true, false, cond, eqb, eq-eqb, List, [], ◌∷◌, Option, None, Some, length, refl, ◌∙◌, subst, arith}
use Rattle.std.proofs.lemmas.List.{length-map}
use Rattle.std.specs.Prelude.{◌||◌, option_map, is_some, bytes_eq}
use Rattle.std.specs.List.{AllByRecursion, cons_option}
use Rattle.ls_promises.proofs.FreshLemmas.{other_contained, one_less}
use Rattle.ls_promises.proofs.LimitLemmas.{numbers, or_true_left, or_true_right}
use Rattle.ls_promises.proofs.Lookups.{eqb_is}
use Rattle.ls_promises.proofs.Steps.{cond_both}
use Rattle.ls_promises.specs.Soundness.{IsAscending, AreUsers, IsSound, IsOrdered, armed_numbers}
use Rattle.ls_script.specs.ReplyText.{user_count}
use Rattle.ls_script.specs.declared.command.Command.{Command}
use Rattle.ls_script.specs.declared.command.Command.TheVariants as command
use Rattle.ls_script.specs.declared.reply.Refusal.{Refusal}
use Rattle.ls_script.specs.declared.reply.Refusal.TheVariants.{NoUser}
use Rattle.ls_script.specs.declared.reply.Reply.{Reply}
use Rattle.ls_script.specs.declared.reply.Reply.TheVariants.{No}
use Rattle.ls_vault.specs.Arming.{resumed, is_good}
use Rattle.ls_vault.specs.Effects.{effect}
use Rattle.ls_vault.specs.Refusals.{refusal}
use Rattle.ls_vault.specs.Revealed.{revealed, all_revealed}
use Rattle.ls_vault.specs.States.{on_user}
use Rattle.ls_vault.specs.Step.{unless, step}
use Rattle.ls_vault.specs.Users.{user_of, is_user}
use Rattle.ls_arming.specs.Numbers.{contains, without_number}
use Rattle.ls_vault.specs.declared.state.Outcome.{Outcome}
use Rattle.ls_vault.specs.declared.state.State.{State}
use Rattle.ls_vault.specs.declared.user.User.{User}
use Rattle.ls_arming.specs.declared.arming.Arming.{Arming}

-- ---- ascending numbers that are among others are no more than these

greater : (n m : ℕ) (ns : List ℕ) → AllByRecursion (λ k. n < k) ns → contains ns m ≡ true → n < m
greater n m [] all is = absurd (cc)
greater n m (k ∷ ns) all is = by_test (eqb k m) refl is (λ rest. greater n m ns all.1 rest)
  where
    by_test : (b : Bool) → eqb k m ≡ b → (b || contains ns m) ≡ true → (contains ns m ≡ true → n < m) → n < m
    by_test true same is rest = subst (λ x. n < x) (eqb_is k m same) all.0
    by_test false other is rest = rest is

no_more : (ns xs : List ℕ) → IsAscending ns → ((m : ℕ) → contains ns m ≡ true → contains xs m ≡ true) → length ns ≤ length xs
no_more [] xs ascending among = omega arith
no_more (n ∷ ns) xs ascending among =
    let h = no_more ns (without_number xs n) ascending.1 left in
    let k = one_less xs n (among n (or_true_left (eqb n n) (contains ns n) (eq-eqb n n refl))) in
    omega (arith, h, k)
  where
    left : (m : ℕ) → contains ns m ≡ true → contains (without_number xs n) m ≡ true
    left m is =
        let less = greater n m ns ascending.0 is in
        other_contained xs n m (λ same. omega (arith, less, same)) ∙ among m (or_true_right (eqb n m) (contains ns m) is)

contained : (users : List User) (m : ℕ) → is_user users m ≡ true → contains (numbers users) m ≡ true
contained [] m is = absurd (cc)
contained (u ∷ users) m is = by_test (eqb u.number m) is (λ rest. contained users m rest)
  where
    by_test : (b : Bool) → is_some (cond b (Some u) (user_of users m)) ≡ true → (is_user users m ≡ true → contains (numbers users) m ≡ true) → (b || contains (numbers users) m) ≡ true
    by_test true is rest = refl
    by_test false is rest = rest is

rows_fewer : (users : List User) (ns : List ℕ) → length (all_revealed users ns) ≤ length ns
rows_fewer users [] = omega arith
rows_fewer users (n ∷ ns) = by_user (user_of users n) (rows_fewer users ns)
  where
    by_user : (o : Option User) → length (all_revealed users ns) ≤ length ns → length (cons_option (option_map revealed o) (all_revealed users ns)) ≤ length (n ∷ ns)
    by_user None rest = omega (arith, rest)
    by_user (Some u) rest = omega (arith, rest)

-- ---- each command

module _ (P : Reply → Type 0) where
  reply_unless : (r : Option Refusal) (s : State) (o : Outcome) → ((why : Refusal) → r ≡ Some why → P (No why)) → P o.reply → P (unless r s o).reply
  reply_unless None s o q p = p
  reply_unless (Some why) s o q p = q why refl

  pub reply_user : (o : Option User) (s : State) (act : User → Outcome) → P (No NoUser) → ((u : User) → P (act u).reply) → P (on_user o s act).reply
  reply_user None s act q p = q
  reply_user (Some u) s act q p = p u

module _ (slots : ℕ) (s : State) (moment : ℕ) (drawn : List ℕ) (sound : IsSound slots s) (ordered : IsOrdered s) where
  abbrev Few : Reply → Type 0
  Few r = user_count r ≤ 16

  -- the armed users are users, and each is one
  few_armed : (a : Arming) → s.vault.arming ≡ Some a → length a.users ≤ 16
  few_armed a there =
      let ascending = subst (λ (o : Option Arming). IsAscending (armed_numbers o)) there ordered.armed in
      let users = subst (λ (o : Option Arming). AreUsers s.vault.users (armed_numbers o)) there sound.armed in
      let h = no_more a.users (numbers s.vault.users) ascending (λ m is. contained s.vault.users m (users m is)) in
      let k = length-map s.vault.users (λ (u : User). u.number) in
      let f = sound.few in
      omega (arith, h, k, f)

  few_resumed : (o : Option Arming) → s.vault.arming ≡ o → Few (resumed o s).reply
  few_resumed None there = omega arith
  few_resumed (Some a) there =
      cond_both (λ (o : Outcome). Few o.reply) (is_good a.boot s.session.boot) _ _
      (let h = rows_fewer s.vault.users a.users in let k = few_armed a there in omega (arith, h, k)) (omega arith)

  few_effect : (c : Command) → Few (effect slots s c moment drawn).reply
  few_effect (command.Add user escrow) = omega arith
  few_effect (command.Drop user) = omega arith
  few_effect (command.Attempt user offered) =
      reply_user Few (user_of s.vault.users user) s _ (omega arith)
      (λ u. cond_both (λ (o : Outcome). Few o.reply) (bytes_eq offered.text u.credential.text) _ _ (omega arith) (omega arith))
  few_effect (command.Change user new) = omega arith
  few_effect (command.Lock user) = omega arith
  few_effect (command.Status user) = reply_user Few (user_of s.vault.users user) s _ (omega arith) (λ u. omega arith)
  few_effect command.Users = let k = length-map s.vault.users (λ (u : User). u.number) in let f = sound.few in omega (arith, k, f)
  few_effect (command.TokenAdd user bytes) = omega arith
  few_effect (command.Activate user) = omega arith
  few_effect (command.TokenDrop user id) = omega arith
  few_effect (command.TokenState user id) = omega arith
  few_effect (command.TokenAttempt user id offered) = reply_user Few (user_of s.vault.users user) s _ (omega arith) (λ u. omega arith)
  few_effect (command.EscrowOff user) = omega arith
  few_effect command.Prepare = omega arith
  few_effect command.Arm = omega arith
  few_effect command.Resume = few_resumed s.vault.arming refl
  few_effect (command.AutoPin user on) = reply_user Few (user_of s.vault.users user) s _ (omega arith) (λ u. omega arith)
  few_effect (command.PinLength user) = reply_user Few (user_of s.vault.users user) s _ (omega arith) (λ u. omega arith)

  pub few_step : (c : Command) → Few (step slots s c moment drawn).reply
  few_step c = reply_unless Few (refusal slots s c moment) s (effect slots s c moment drawn) (λ why is. omega arith) (few_effect c)
