-- The counters of a user after a step.
use Rattle.std.proofs.Common.{◌≡◌, ◌≤◌, ◌<◌, ◌+◌, ℕ, Bool, true, false, not, cond, eqb, eq-eqb, ltb, List, [], ◌∷◌, Option, None, Some, min, refl, sym, ◌∙◌, ap, subst, arith}
use Rattle.std.proofs.lemmas.Bool.Decides.{nat_tests}
use Rattle.std.proofs.lemmas.List.Recursion.{is_count_by}
use Rattle.std.specs.Prelude.{◌-◌, ◌&&◌, nat_lt, nat_le, length, is_some, option_map, bytes_eq, count_by}
use Rattle.std.specs.List.{list_any}
use Rattle.ls_credential.specs.Rules.{KindAndText}
use Rattle.ls_promises.proofs.Along.{or_left, or_right}
use Rattle.ls_promises.proofs.Lookups.{eqb_is, eqb_differs, seen, seen_kept, seen_other, user_of-changed, user_of-with_other, user_of-without_other}
use Rattle.ls_promises.proofs.Steps.{with_auto, Moved, at_step}
use Rattle.ls_promises.specs.Answers.{attempts, forgives, misses, is_opened, is_wrong, is_fine}
use Rattle.ls_promises.specs.Counters.{fails_of, until_of}
use Rattle.ls_script.specs.declared.command.Command.{Command}
use Rattle.ls_script.specs.declared.command.Command.TheVariants as command
use Rattle.ls_script.specs.declared.reply.Refusal.{Refusal}
use Rattle.ls_script.specs.declared.reply.Refusal.TheVariants.{UserExists, UserLimit, NoSlot, WrongKind, Throttled, Wrong}
use Rattle.ls_script.specs.declared.reply.Reply.TheVariants as reply
use Rattle.ls_vault.specs.Credentials.{given}
use Rattle.ls_vault.specs.Effects.{effect}
use Rattle.ls_vault.specs.Histories.{Event, command as served, restarted, Happening, happening, history, state_after, passes}
use Rattle.ls_vault.specs.Kinds.{same_kind}
use Rattle.ls_vault.specs.Limits.{most_users, is_full, last_of_32, last_of_64}
use Rattle.ls_vault.specs.Refusals.{worn_refusal, attempt_refusal, of_user, refusal}
use Rattle.ls_vault.specs.Revealed.{revealed}
use Rattle.ls_vault.specs.States.{with_users, on_user, refused}
use Rattle.ls_vault.specs.Step.{unless, step}
use Rattle.ls_vault.specs.TokenChanges.{with_tokens, without_its, plain}
use Rattle.ls_vault.specs.Unlocking.{opened, cleared, failed, attempted}
use Rattle.ls_vault.specs.UserChanges.{new_user}
use Rattle.ls_vault.specs.Users.{user_of, is_user, changed}
use Rattle.ls_vault.specs.declared.state.Outcome.{Outcome}
use Rattle.ls_vault.specs.declared.state.State.{State}
use Rattle.ls_vault.specs.declared.token.Token.{Token}
use Rattle.ls_vault.specs.declared.user.User.{User}
use Rattle.ls_weaver.specs.Throttle.{timeout, more_fails}

-- a number of a user that only an attempt, a change, an adding and a drop move
pub record IsCounter (g : User → ℕ) : Type 0 where
  pub tokens : (more : List Token) (u : User) → g (with_tokens more u) ≡ g u
  pub its : (id : ℕ) (u : User) → g (without_its id u) ≡ g u
  pub plain : (u : User) → g (plain u) ≡ g u
  pub auto : (on : Bool) (u : User) → g (with_auto on u) ≡ g u

-- the command may move the counters of this user
abbrev pub may_move : ℕ → Command → Bool
may_move n (command.Add u escrow) = eqb u n
may_move n (command.Drop u) = eqb u n
may_move n (command.Attempt u offered) = eqb u n
may_move n (command.Change u new) = eqb u n
may_move n _ = false

module _ (g : User → ℕ) (counter : IsCounter g) (slots : ℕ) (s : State) (moment : ℕ) (drawn : List ℕ) (n : ℕ) where
  abbrev Same : List User → Type 0
  Same users = seen g users n ≡ seen g s.vault.users n

  other : (f : User → User) → ((u : User) → (f u).number ≡ u.number) → (user : ℕ) → eqb user n ≡ false → seen g (changed s.vault.users user f) n ≡ seen g s.vault.users n
  other f number user differ = seen_other g f number user n (eqb_differs user n differ) s.vault.users

  kept : (f : User → User) → ((u : User) → (f u).number ≡ u.number) → ((u : User) → g (f u) ≡ g u) → (user : ℕ) → seen g (changed s.vault.users user f) n ≡ seen g s.vault.users n
  kept f number same user = seen_kept g f number user n same s.vault.users

  moved : (c : Command) → may_move n c ≡ false → Moved Same slots s moment drawn c
  moved (command.Add user escrow) differ =
      ap (λ (o : Option User). option_map g o) (user_of-with_other s.vault.users (new_user user escrow drawn) n (eqb_differs user n differ))
  moved (command.Drop user) differ =
      ap (λ (o : Option User). option_map g o) (user_of-without_other s.vault.users user n (eqb_differs user n differ))
  moved (command.Attempt user offered) differ = (other cleared (λ u. refl) user differ, other (failed moment) (λ u. refl) user differ)
  moved (command.Change user new) differ = other (given s.vault.users new drawn) (λ u. refl) user differ
  moved (command.Lock user) differ = tt
  moved (command.Status user) differ = tt
  moved command.Users differ = tt
  moved (command.TokenAdd user bytes) differ = tt
  moved (command.Activate user) differ = kept (with_tokens _) (λ u. refl) (counter.tokens _) user
  moved (command.TokenDrop user id) differ = kept (without_its id) (λ u. refl) (counter.its id) user
  moved (command.TokenState user id) differ = tt
  moved (command.TokenAttempt user id offered) differ = tt
  moved (command.EscrowOff user) differ = kept plain (λ u. refl) counter.plain user
  moved command.Prepare differ = tt
  moved command.Arm differ = tt
  moved command.Resume differ = tt
  moved (command.AutoPin user on) differ = kept (with_auto on) (λ u. refl) (counter.auto on) user
  moved (command.PinLength user) differ = tt

  pub counter_kept : (c : Command) → may_move n c ≡ false → seen g (step slots s c moment drawn).state.vault.users n ≡ seen g s.vault.users n
  counter_kept c differ = at_step Same slots s moment drawn c refl (moved c differ)

is_there : {A : Type 0} (g : User → A) (o : Option User) (x : A) → option_map g o ≡ Some x → is_some o ≡ true
is_there g None x has = absurd (cc)
is_there g (Some u) x has = refl

and_true : (a b : Bool) → a ≡ true → (a && b) ≡ b
and_true true b is = refl
and_true false b is = absurd (cc)

and_false : (a b : Bool) → a ≡ false → (a && b) ≡ false
and_false true b is = absurd (cc)
and_false false b is = refl

-- where it is no attempt on this user, and forgives nothing, the counter stays
module _ (g : User → ℕ) (counter : IsCounter g) (slots : ℕ) (s : State) (moment : ℕ) (drawn : List ℕ) (n x : ℕ) where
  abbrev Has : State → Type 0
  Has t = seen g t.vault.users n ≡ Some x

  abbrev done : Command → Outcome
  done c = step slots s c moment drawn

  by_kept : (c : Command) → may_move n c ≡ false → Has s → Has (done c).state
  by_kept c not has = counter_kept g counter slots s moment drawn n c not ∙ has

  add_there : (u : ℕ) (escrow : Bool) → eqb u n ≡ true → Has s → Has (done (command.Add u escrow)).state
  add_there u escrow this has =
      subst Has (sym (ap (λ (r : Option Refusal). (unless r s (effect slots s (command.Add u escrow) moment drawn)).state)
      (ap (λ b. cond b (Some UserExists) (cond (nat_le most_users (length s.vault.users)) (Some UserLimit) (cond (is_full slots s) (Some NoSlot) (worn_refusal s))))
      (ap (λ k. is_user s.vault.users k) (eqb_is u n this) ∙ is_there g (user_of s.vault.users n) x has)))) has

  -- an answer that isn't Fine is a refusal
  fine_only : (t : State) (r : Option Refusal) → is_fine (unless r s (record { reply = reply.Fine; state = t })).reply ≡ false → Has s → Has (unless r s (record { reply = reply.Fine; state = t })).state
  fine_only t None not has = absurd (cc)
  fine_only t (Some why) not has = has

  add_cases : (u : ℕ) (escrow b : Bool) → eqb u n ≡ b → Has s → Has (done (command.Add u escrow)).state
  add_cases u escrow true this has = add_there u escrow this has
  add_cases u escrow false this has = by_kept (command.Add u escrow) this has

  drop_cases : (u : ℕ) (b : Bool) → eqb u n ≡ b → Has s → (b && is_fine (done (command.Drop u)).reply) ≡ false → Has (done (command.Drop u)).state
  drop_cases u true this has not = fine_only _ (refusal slots s (command.Drop u) moment) not has
  drop_cases u false this has not = by_kept (command.Drop u) this has

  change_cases : (u : ℕ) (new : KindAndText) (b : Bool) → eqb u n ≡ b → Has s → (b && is_fine (done (command.Change u new)).reply) ≡ false → Has (done (command.Change u new)).state
  change_cases u new true this has not = fine_only _ (refusal slots s (command.Change u new) moment) not has
  change_cases u new false this has not = by_kept (command.Change u new) this has

  pub settled : (c : Command) → attempts n c ≡ false → Has s → forgives n c (done c).reply ≡ false → Has (done c).state
  settled (command.Add u escrow) other has not = add_cases u escrow (eqb u n) refl has
  settled (command.Drop u) other has not = drop_cases u (eqb u n) refl has not
  settled (command.Attempt u offered) other has not = by_kept (command.Attempt u offered) other has
  settled (command.Change u new) other has not = change_cases u new (eqb u n) refl has not
  settled c other has not = by_kept c refl has

-- an attempt on a user who is there, by its three tests
module _ (s : State) (n : ℕ) (offered : KindAndText) (moment : ℕ) (v : User) where
  abbrev pub right : Outcome
  right = record { reply = reply.Opened (revealed v); state = opened (with_users s (changed s.vault.users n cleared)) n }

  abbrev pub wrong : Outcome
  wrong = record { reply = reply.No (Wrong (timeout (more_fails v.fails))); state = with_users s (changed s.vault.users n (failed moment)) }

  abbrev pub tried : Bool → Bool → Bool → Outcome
  tried kind early same =
      unless (cond (not kind) (Some (WrongKind v.credential.kind)) (cond early (Some (Throttled (v.until - moment))) None)) s (cond same right wrong)

  pub tried_is : (slots : ℕ) (drawn : List ℕ) → user_of s.vault.users n ≡ Some v
      → step slots s (command.Attempt n offered) moment drawn ≡ tried (same_kind offered.kind v.credential.kind) (nat_lt moment v.until) (bytes_eq offered.text v.credential.text)
  tried_is slots drawn there = ap (λ (o : Option User). unless (of_user o (attempt_refusal offered moment)) s (on_user o s (attempted s n offered moment))) there

  module _ (there : user_of s.vault.users n ≡ Some v) where
    after_wrong : {A : Type 0} (g : User → A) → seen g wrong.state.vault.users n ≡ Some (g (failed moment v))
    after_wrong g = ap (λ (o : Option User). option_map g o) (user_of-changed (failed moment) (λ u. refl) n s.vault.users ∙ ap (λ (o : Option User). option_map (failed moment) o) there)

    before : {A : Type 0} (g : User → A) → seen g s.vault.users n ≡ Some (g v)
    before g = ap (λ (o : Option User). option_map g o) there

    fails_after : (kind early same : Bool) → is_opened (tried kind early same).reply ≡ false
        → fails_of (tried kind early same).state n ≡ Some (cond (is_wrong (tried kind early same).reply) (min (v.fails + 1) last_of_32) v.fails)
    fails_after false early same not = before (λ u. u.fails)
    fails_after true true same not = before (λ u. u.fails)
    fails_after true false true not = absurd (cc)
    fails_after true false false not = after_wrong (λ u. u.fails)

    until_after : (kind early same : Bool) → is_opened (tried kind early same).reply ≡ false → is_wrong (tried kind early same).reply ≡ false
        → until_of (tried kind early same).state n ≡ Some v.until
    until_after false early same not answered = before (λ u. u.until)
    until_after true true same not answered = before (λ u. u.until)
    until_after true false true not answered = absurd (cc)
    until_after true false false not answered = absurd (cc)

    missed_after : (kind early same : Bool) (rest : ℕ) → (tried kind early same).reply ≡ reply.No (Wrong rest)
        → (rest ≡ timeout (more_fails v.fails)) × (until_of (tried kind early same).state n ≡ Some (min (moment + rest) last_of_64))
    missed_after false early same rest is = absurd (cc)
    missed_after true true same rest is = absurd (cc)
    missed_after true false true rest is = absurd (cc)
    missed_after true false false rest is =
        let e : rest ≡ timeout (more_fails v.fails) = cc in
        (e, after_wrong (λ u. u.until) ∙ ap (λ k. Some (min (moment + k) last_of_64)) (sym e))

    throttled_at : (kind early same : Bool) → kind ≡ true → early ≡ true → tried kind early same ≡ refused s (Throttled (v.until - moment))
    throttled_at true true same a b = refl
    throttled_at true false same a b = absurd (cc)
    throttled_at false early same a b = absurd (cc)

-- an attempt on this user is one that names it
at_attempt : (n : ℕ) (P : Command → Type 0) → ((offered : KindAndText) → P (command.Attempt n offered)) → (c : Command) → attempts n c ≡ true → P c
at_attempt n P p (command.Attempt u offered) is = subst (λ k. P (command.Attempt k offered)) (sym (eqb_is u n is)) (p offered)
at_attempt n P p c is = absurd (cc)

fails_counter : IsCounter (λ u. u.fails)
fails_counter = record { tokens = λ more u. refl; its = λ id u. refl; plain = λ u. refl; auto = λ on u. refl }

until_counter : IsCounter (λ u. u.until)
until_counter = record { tokens = λ more u. refl; its = λ id u. refl; plain = λ u. refl; auto = λ on u. refl }

module _ (slots : ℕ) (s : State) (moment : ℕ) (drawn : List ℕ) (n : ℕ) where
  abbrev made : Command → Outcome
  made c = step slots s c moment drawn

  -- an attempt that doesn't open
  at_attempt_on : (offered : KindAndText) (P : Outcome → Type 0) → forgives n (command.Attempt n offered) (made (command.Attempt n offered)).reply ≡ false
      → ((v : User) → user_of s.vault.users n ≡ Some v → (kind early same : Bool) → is_opened (tried s n offered moment v kind early same).reply ≡ false → P (tried s n offered moment v kind early same))
      → (o : Option User) → user_of s.vault.users n ≡ o → is_some o ≡ true → P (made (command.Attempt n offered))
  at_attempt_on offered P not each None there is = absurd (cc)
  at_attempt_on offered P not each (Some v) there is =
      let e = tried_is s n offered moment v slots drawn there in
      subst P (sym e) (each v there (same_kind offered.kind v.credential.kind) (nat_lt moment v.until) (bytes_eq offered.text v.credential.text)
      (ap (λ (o : Outcome). is_opened o.reply) (sym e) ∙ (sym (and_true (eqb n n) (is_opened (made (command.Attempt n offered)).reply) (eq-eqb n n refl)) ∙ not)))

  abbrev Counts : ℕ → Command → Outcome → Type 0
  Counts f c o = fails_of o.state n ≡ Some (cond (misses n c o.reply) (min (f + 1) last_of_32) f)

  counts_cases : (f : ℕ) (c : Command) (b : Bool) → attempts n c ≡ b → fails_of s n ≡ Some f → forgives n c (made c).reply ≡ false → Counts f c (made c)
  counts_cases f c false other has not =
      settled (λ u. u.fails) fails_counter slots s moment drawn n f c other has not
      ∙ sym (ap (λ b. Some (cond b (min (f + 1) last_of_32) f)) (and_false (attempts n c) (is_wrong (made c).reply) other))
  counts_cases f c true this has not =
      at_attempt n (λ (c : Command). forgives n c (made c).reply ≡ false → Counts f c (made c))
      (λ offered not. at_attempt_on offered (Counts f (command.Attempt n offered)) not
      (λ v there kind early same closed.
      let e : v.fails ≡ f = same_number v.fails f (sym (ap (λ (o : Option User). option_map (λ u. u.fails) o) there) ∙ has) in
      fails_after s n offered moment v there kind early same closed
      ∙ (ap (λ k. Some (cond (is_wrong (tried s n offered moment v kind early same).reply) (min (k + 1) last_of_32) k)) e
      ∙ sym (ap (λ b. Some (cond b (min (f + 1) last_of_32) f)) (and_true (eqb n n) (is_wrong (tried s n offered moment v kind early same).reply) (eq-eqb n n refl)))))
      (user_of s.vault.users n) refl (is_there (λ u. u.fails) (user_of s.vault.users n) f has))
      c this not
    where
      same_number : (a b : ℕ) → Some a ≡ Some b → a ≡ b
      same_number a b e = cc

  pub counts : (f : ℕ) (c : Command) → fails_of s n ≡ Some f → forgives n c (made c).reply ≡ false → Counts f c (made c)
  counts f c has not = counts_cases f c (attempts n c) refl has not

  abbrev Waits : ℕ → Outcome → Type 0
  Waits x o = until_of o.state n ≡ Some x

  waits_cases : (x : ℕ) (c : Command) (b : Bool) → attempts n c ≡ b → until_of s n ≡ Some x → forgives n c (made c).reply ≡ false → (b && is_wrong (made c).reply) ≡ false → Waits x (made c)
  waits_cases x c false other has not answered = settled (λ u. u.until) until_counter slots s moment drawn n x c other has not
  waits_cases x c true this has not answered =
      at_attempt n (λ (c : Command). forgives n c (made c).reply ≡ false → is_wrong (made c).reply ≡ false → Waits x (made c))
      (λ offered not answered. at_attempt_on offered (λ (o : Outcome). is_wrong o.reply ≡ false → Waits x o) not
      (λ v there kind early same closed answered. until_after s n offered moment v there kind early same closed answered ∙ (sym (ap (λ (o : Option User). option_map (λ u. u.until) o) there) ∙ has))
      (user_of s.vault.users n) refl (is_there (λ u. u.until) (user_of s.vault.users n) x has) answered)
      c this not answered

  pub waits : (x : ℕ) (c : Command) → until_of s n ≡ Some x → forgives n c (made c).reply ≡ false → misses n c (made c).reply ≡ false → Waits x (made c)
  waits x c has not answered = waits_cases x c (attempts n c) refl has not answered

-- along a history
module _ (slots n : ℕ) where
  abbrev times : List Happening → ℕ
  times [] = 0
  times (h ∷ hs) = cond (passes (misses n) h) (1 + times hs) (times hs)

  times_is : (hs : List Happening) → times hs ≡ count_by (passes (misses n)) hs
  times_is hs = is_count_by times (passes (misses n)) refl (λ _ _. refl) hs

  one_more : (s : State) (event : Event) (f : ℕ) → fails_of s n ≡ Some f → passes (forgives n) (happening slots s event) ≡ false
      → fails_of (happening slots s event).state n ≡ Some (cond (passes (misses n) (happening slots s event)) (min (f + 1) last_of_32) f)
  one_more s (served c moment drawn) f has not = counts slots s moment drawn n f c has not
  one_more s (restarted boot books) f has not = has

  small : (b : Bool) (f k : ℕ) → f ≤ last_of_32 → min (cond b (min (f + 1) last_of_32) f + k) last_of_32 ≡ min (f + cond b (1 + k) k) last_of_32
  small true f k le = omega (arith, le)
  small false f k le = refl

  bounded : (b : Bool) (f : ℕ) → f ≤ last_of_32 → cond b (min (f + 1) last_of_32) f ≤ last_of_32
  bounded true f le = omega arith
  bounded false f le = le

  counted_so : (s : State) (events : List Event) (f : ℕ) → fails_of s n ≡ Some f → f ≤ last_of_32 → list_any (passes (forgives n)) (history slots s events) ≡ false
      → fails_of (state_after slots s events) n ≡ Some (min (f + times (history slots s events)) last_of_32)
  counted_so s [] f has le none = let e : f ≡ min (f + 0) last_of_32 = omega (arith, le) in has ∙ ap Some e
  counted_so s (event ∷ events) f has le none =
      let b = passes (misses n) (happening slots s event) in
      let t = (happening slots s event).state in
      counted_so t events (cond b (min (f + 1) last_of_32) f)
      (one_more s event f has (or_left (passes (forgives n) (happening slots s event)) _ none)) (bounded b f le)
      (or_right (passes (forgives n) (happening slots s event)) _ none)
      ∙ ap Some (small b f (times (history slots t events)) le)

  pub counted_along : (s : State) (events : List Event) (f : ℕ) → fails_of s n ≡ Some f → f ≤ last_of_32 → list_any (passes (forgives n)) (history slots s events) ≡ false
      → fails_of (state_after slots s events) n ≡ Some (min (f + count_by (passes (misses n)) (history slots s events)) last_of_32)
  counted_along s events f has le none = counted_so s events f has le none ∙ ap (λ k. Some (min (f + k) last_of_32)) (times_is (history slots s events))

  waits_now : (s : State) (event : Event) (x : ℕ) → until_of s n ≡ Some x → passes (forgives n) (happening slots s event) ≡ false → passes (misses n) (happening slots s event) ≡ false
      → until_of (happening slots s event).state n ≡ Some x
  waits_now s (served c moment drawn) x has not answered = waits slots s moment drawn n x c has not answered
  waits_now s (restarted boot books) x has not answered = has

  pub waits_along : (s : State) (events : List Event) (x : ℕ) → until_of s n ≡ Some x → list_any (passes (forgives n)) (history slots s events) ≡ false
      → list_any (passes (misses n)) (history slots s events) ≡ false → until_of (state_after slots s events) n ≡ Some x
  waits_along s [] x has none answered = has
  waits_along s (event ∷ events) x has none answered =
      waits_along (happening slots s event).state events x
      (waits_now s event x has (or_left (passes (forgives n) (happening slots s event)) _ none) (or_left (passes (misses n) (happening slots s event)) _ answered))
      (or_right (passes (forgives n) (happening slots s event)) _ none) (or_right (passes (misses n) (happening slots s event)) _ answered)

-- a wrong text
pub missed : (slots : ℕ) (s : State) (user : ℕ) (offered : KindAndText) (moment : ℕ) (drawn : List ℕ) (rest fails : ℕ)
    → (step slots s (command.Attempt user offered) moment drawn).reply ≡ reply.No (Wrong rest) → (o : Option User) → user_of s.vault.users user ≡ o → option_map (λ u. u.fails) o ≡ Some fails
    → (rest ≡ timeout (min (fails + 1) last_of_32)) × (until_of (step slots s (command.Attempt user offered) moment drawn).state user ≡ Some (min (moment + rest) last_of_64))
missed slots s user offered moment drawn rest fails is None there has = absurd (cc)
missed slots s user offered moment drawn rest fails is (Some v) there has =
    let e = tried_is s user offered moment v slots drawn there in
    let f : v.fails ≡ fails = cc in
    let h = missed_after s user offered moment v there (same_kind offered.kind v.credential.kind) (nat_lt moment v.until) (bytes_eq offered.text v.credential.text) rest
    (ap (λ (o : Outcome). o.reply) (sym e) ∙ is) in
    (h.0 ∙ ap (λ k. timeout (min (k + 1) last_of_32)) f, ap (λ (o : Outcome). until_of o.state user) e ∙ h.1)

pub throttled : (slots : ℕ) (s : State) (user : ℕ) (offered : KindAndText) (moment : ℕ) (drawn : List ℕ) (v : User) → user_of s.vault.users user ≡ Some v
    → same_kind offered.kind v.credential.kind ≡ true → moment < v.until → step slots s (command.Attempt user offered) moment drawn ≡ refused s (Throttled (v.until - moment))
throttled slots s user offered moment drawn v there kind early =
    tried_is s user offered moment v slots drawn there
    ∙ throttled_at s user offered moment v there (same_kind offered.kind v.credential.kind) (nat_lt moment v.until) (bytes_eq offered.text v.credential.text) kind (soon moment v.until early)
  where
    soon : (a b : ℕ) → a < b → ltb a b ≡ true
    soon a b h = grind (arith, nat_tests)
