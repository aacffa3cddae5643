-- An arming's end.
use Rattle.std.proofs.Common.{◌≡◌, ◌≢◌, ◌≤◌, ◌<◌, ◌+◌, ℕ, Bool, true, false, not, cond, eq-eqb, List, [], ◌∷◌, Option, None, Some, length, min, refl, ◌∙◌, ap, arith}
use Rattle.std.proofs.lemmas.Bool.Decides.{nat_tests}
use Rattle.std.specs.Prelude.{◌==◌, ◌||◌, nat_lt}
use Rattle.ls_promises.proofs.Lookups.{not_eqb}
use Rattle.ls_promises.proofs.Steps.{cond_both}
use Rattle.ls_script.specs.declared.command.Command.TheVariants as command
use Rattle.ls_script.specs.declared.reply.Refusal.TheVariants.{Expired}
use Rattle.ls_script.specs.declared.reply.Reply.TheVariants.{No, Resumed}
use Rattle.ls_vault.specs.Arming.{unarmed, resumed, is_good, taken, all_opened}
use Rattle.ls_vault.specs.Limits.{last_of_32, last_of_64, is_worn}
use Rattle.ls_vault.specs.Refusals.{resume_refusal}
use Rattle.ls_vault.specs.Revealed.{all_revealed}
use Rattle.ls_vault.specs.States.{with_arming, with_dead, committed, refused}
use Rattle.ls_vault.specs.Step.{unless, step}
use Rattle.ls_vault.specs.declared.state.Outcome.{Outcome}
use Rattle.ls_vault.specs.declared.state.State.{State}
use Rattle.ls_arming.specs.declared.arming.Arming.{Arming}
use Rattle.ls_vault.specs.declared.vault.Books.{Books}

-- ---- boots

below : (a b : ℕ) → a < b → nat_lt a b ≡ true
below a b less = grind (arith, nat_tests)

not_below : (a b : ℕ) → b ≤ a → nat_lt a b ≡ false
not_below a b le = grind (arith, nat_tests)

or_true : (b : Bool) → not (b || true) ≡ false
or_true true = refl
or_true false = refl

too_early : (armed boot : ℕ) → boot < armed → is_good armed boot ≡ false
too_early armed boot less = ap (λ b. not (b || nat_lt (min (armed + 5) last_of_32) boot)) (below boot armed less)

too_late : (armed boot : ℕ) → min (armed + 5) last_of_32 < boot → is_good armed boot ≡ false
too_late armed boot less = ap (λ b. not (nat_lt boot armed || b)) (below (min (armed + 5) last_of_32) boot less) ∙ or_true (nat_lt boot armed)

in_time : (armed boot : ℕ) → armed ≤ boot → boot ≤ min (armed + 5) last_of_32 → is_good armed boot ≡ true
in_time armed boot first last =
    ap (λ b. not (b || nat_lt (min (armed + 5) last_of_32) boot)) (not_below boot armed first)
    ∙ ap not (not_below (min (armed + 5) last_of_32) boot last)

some_length : (ns : List ℕ) → ns ≢ [] → (length ns == 0) ≡ false
some_length [] some = absurd (some refl)
some_length (n ∷ ns) some = not_eqb (length (n ∷ ns)) 0 (λ e. omega (arith, e))

module _ (s : State) where
  -- ---- preparing

  pub none_unarmed : (o : Option Arming) → s.vault.arming ≡ o → (unarmed o s).vault.arming ≡ None
  none_unarmed None is = cond_both (λ (t : State). t.vault.arming ≡ None) (length s.books.dead == 0) _ _ is (cond_both (λ (t : State). t.vault.arming ≡ None) (is_worn s) _ _ is is)
  none_unarmed (Some arming) is = cond_both (λ (t : State). t.vault.arming ≡ None) (is_worn s) _ _ refl refl

  pub same_unarmed : {A : Type 0} (g : State → A) → ((t : State) → t.vault.users ≡ s.vault.users → t.session ≡ s.session → g t ≡ g s) → (o : Option Arming) → g (unarmed o s) ≡ g s
  same_unarmed g same None =
      cond_both (λ (t : State). g t ≡ g s) (length s.books.dead == 0) _ _ refl (cond_both (λ (t : State). g t ≡ g s) (is_worn s) _ _ refl (same _ refl refl))
  same_unarmed g same (Some arming) = cond_both (λ (t : State). g t ≡ g s) (is_worn s) _ _ (same _ refl refl) (same _ refl refl)

  -- ---- resuming

  pub none_taken : (users : List ℕ) → (taken s users).vault.arming ≡ None
  none_taken users = cond_both (λ (t : State). t.vault.arming ≡ None) (is_worn s) _ _ refl refl

  users_taken : (users : List ℕ) → (taken s users).vault.users ≡ s.vault.users
  users_taken users = cond_both (λ (t : State). t.vault.users ≡ s.vault.users) (is_worn s) _ _ refl refl

  pub session_taken : (users : List ℕ) → (taken s users).session ≡ s.session
  session_taken users = cond_both (λ (t : State). t.session ≡ s.session) (is_worn s) _ _ refl refl

  abbrev pub answer : Option Arming → Outcome
  answer o = unless (resume_refusal o) s (resumed o s)

  none_resumed : (o : Option Arming) → s.vault.arming ≡ o → (answer o).state.vault.arming ≡ None
  none_resumed None is = is
  none_resumed (Some a) is =
      cond_both (λ (o : Outcome). o.state.vault.arming ≡ None) (is_good a.boot s.session.boot) _ _ (none_taken a.users) (none_taken a.users)

  users_resumed : (o : Option Arming) → (answer o).state.vault.users ≡ s.vault.users
  users_resumed None = refl
  users_resumed (Some a) =
      cond_both (λ (o : Outcome). o.state.vault.users ≡ s.vault.users) (is_good a.boot s.session.boot) _ _ (users_taken a.users) (users_taken a.users)

  session_resumed : (armed boot : ℕ) (o : Option Arming) → (answer o).reply ≡ No (Expired armed boot) → (answer o).state.session ≡ s.session
  session_resumed armed boot None is = refl
  session_resumed armed boot (Some a) is =
      cond_both (λ (o : Outcome). o.reply ≡ No (Expired armed boot) → o.state.session ≡ s.session) (is_good a.boot s.session.boot) _ _
      (λ is. absurd (cc)) (λ is. session_taken a.users) is

  -- an arming that is or isn't good
  abbrev pub opening : Arming → Bool → Outcome
  opening a good =
      cond good (record { reply = Resumed (all_revealed s.vault.users a.users); state = all_opened (taken s a.users) a.users })
      (refused (taken s a.users) (Expired a.boot s.session.boot))

  pub at_arming : (a : Arming) → s.vault.arming ≡ Some a → (b : Bool) → is_good a.boot s.session.boot ≡ b → answer s.vault.arming ≡ opening a b
  at_arming a there b is = ap answer there ∙ ap (opening a) is

  books_opening : (a : Arming) (b : Bool) → (opening a b).state.books ≡ (taken s a.users).books
  books_opening a true = refl
  books_opening a false = refl

  -- ---- the books

  worn_is : s.books.kept ≡ last_of_64 → is_worn s ≡ true
  worn_is is = eq-eqb s.books.kept last_of_64 is

  not_worn : s.books.kept ≢ last_of_64 → is_worn s ≡ false
  not_worn other = not_eqb s.books.kept last_of_64 other

  pub taken_kept : (users : List ℕ) → s.books.kept ≢ last_of_64 → (taken s users).books ≡ record s.books { kept = s.books.kept + 1 }
  taken_kept users other = ap (λ b. (cond b (with_arming (with_dead s users) None) (committed (with_arming s None))).books) (not_worn other)

  pub taken_worn : (users : List ℕ) → s.books.kept ≡ last_of_64 → (taken s users).books ≡ record s.books { dead = users }
  taken_worn users is = ap (λ b. (cond b (with_arming (with_dead s users) None) (committed (with_arming s None))).books) (worn_is is)

  -- the books after a Prepare
  abbrev books : Option Arming → Books
  books o = (unarmed o s).books

  pub ended_books : (a : Arming) → s.vault.arming ≡ Some a → s.books.kept ≢ last_of_64 → books s.vault.arming ≡ record { kept = s.books.kept + 1; dead = [] }
  ended_books a there other =
      ap books there ∙ ap (λ b. (cond b (with_arming (with_dead s a.users) None) (committed (with_arming (with_dead s []) None))).books) (not_worn other)

  pub lost_books : (a : Arming) → s.vault.arming ≡ Some a → s.books.kept ≡ last_of_64 → books s.vault.arming ≡ record s.books { dead = a.users }
  lost_books a there is =
      ap books there ∙ ap (λ b. (cond b (with_arming (with_dead s a.users) None) (committed (with_arming (with_dead s []) None))).books) (worn_is is)

  pub forgotten_books : s.vault.arming ≡ None → s.books.dead ≢ [] → s.books.kept ≢ last_of_64 → books s.vault.arming ≡ record { kept = s.books.kept + 1; dead = [] }
  forgotten_books there some other =
      ap books there
      ∙ (ap (λ b. (cond b s (cond (is_worn s) s (committed (with_dead s [])))).books) (some_length s.books.dead some)
      ∙ ap (λ b. (cond b s (committed (with_dead s []))).books) (not_worn other))

  pub worn_books : s.vault.arming ≡ None → s.books.kept ≡ last_of_64 → books s.vault.arming ≡ s.books
  worn_books there is =
      ap books there
      ∙ cond_both (λ (t : State). t.books ≡ s.books) (length s.books.dead == 0) _ _ refl (ap (λ b. (cond b s (committed (with_dead s []))).books) (worn_is is))

  pub quiet_books : s.vault.arming ≡ None → s.books.dead ≡ [] → books s.vault.arming ≡ s.books
  quiet_books there none =
      ap books there ∙ ap (λ b. (cond b s (cond (is_worn s) s (committed (with_dead s [])))).books) (ap (λ (ns : List ℕ). length ns == 0) none)

  module _ (slots moment : ℕ) (drawn : List ℕ) where
    pub resume_none : (step slots s command.Resume moment drawn).state.vault.arming ≡ None
    resume_none = none_resumed s.vault.arming refl

    pub resume_users : (step slots s command.Resume moment drawn).state.vault.users ≡ s.vault.users
    resume_users = users_resumed s.vault.arming

    pub resume_session : (armed boot : ℕ) → (step slots s command.Resume moment drawn).reply ≡ No (Expired armed boot) → (step slots s command.Resume moment drawn).state.session ≡ s.session
    resume_session armed boot is = session_resumed armed boot s.vault.arming is

    pub resume_early : (a : Arming) → s.vault.arming ≡ Some a → s.session.boot < a.boot → (step slots s command.Resume moment drawn).reply ≡ No (Expired a.boot s.session.boot)
    resume_early a there less = ap (λ (o : Outcome). o.reply) (at_arming a there false (too_early a.boot s.session.boot less))

    pub resume_late : (a : Arming) → s.vault.arming ≡ Some a → min (a.boot + 5) last_of_32 < s.session.boot
        → (step slots s command.Resume moment drawn).reply ≡ No (Expired a.boot s.session.boot)
    resume_late a there less = ap (λ (o : Outcome). o.reply) (at_arming a there false (too_late a.boot s.session.boot less))

    pub resume_good : (a : Arming) → s.vault.arming ≡ Some a → a.boot ≤ s.session.boot → s.session.boot ≤ min (a.boot + 5) last_of_32
        → (step slots s command.Resume moment drawn).reply ≡ Resumed (all_revealed s.vault.users a.users)
    resume_good a there first last = ap (λ (o : Outcome). o.reply) (at_arming a there true (in_time a.boot s.session.boot first last))

    pub resume_books : (a : Arming) → s.vault.arming ≡ Some a → (step slots s command.Resume moment drawn).state.books ≡ (taken s a.users).books
    resume_books a there =
        ap (λ (o : Outcome). o.state.books) (at_arming a there (is_good a.boot s.session.boot) refl) ∙ books_opening a (is_good a.boot s.session.boot)
