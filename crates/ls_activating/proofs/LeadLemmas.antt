-- The change leads to what the machine answers.
use Rattle.std.proofs.Common.{◌≡◌, ◌≢◌, ◌≤◌, ◌<◌, ◌+◌, not, ℕ, zero, suc, Bool, true, false, cond, List, [], ◌∷◌, ◌++◌, map, take, length, IsTrue, Option, None, Some, refl, sym, ◌∙◌, ap, subst, arith}
use Rattle.std.specs.Prelude.{◌==◌, nat_lt, filter, IsSomeAnd}
use Rattle.std.specs.List.{Contains}
use Rattle.std.proofs.lemmas.Bool.{lt-ltb}
use Rattle.ls_arming.specs.declared.arming.Arming.{Arming}
use Rattle.ls_board.specs.declared.world.World.{World}
use Rattle.ls_board.specs.Acts.{Sight}
use Rattle.ls_board.specs.Effect.{touch_at}
use Rattle.ls_board.specs.Reach.{AllTouchOnly}
use Rattle.ls_board.specs.Runs.{after_all}
use Rattle.ls_change.specs.Work.{actions_of, staged}
use Rattle.ls_exchange.specs.Exchanges.{plain}
use Rattle.ls_formats.specs.declared.parts.Parts.{Parts}
use Rattle.ls_formats.specs.PartNames.{part_name_text}
use Rattle.ls_record.specs.Rows.{IsRecord, Rec}
use Rattle.ls_script.specs.declared.reply.Reply.TheVariants.{Fine}
use Rattle.ls_settings.specs.Loaded.{Loaded, settings_reach}
use Rattle.ls_standing.specs.Bare.{IsBare}
use Rattle.ls_standing.specs.Books.{dead_users}
use Rattle.ls_standing.specs.Quiet.{IsUnnamedProtector}
use Rattle.ls_standing.specs.Standing.{Holds, NamedAreUntouched}
use Rattle.ls_turn.specs.declared.session.Opened.{Opened}
use Rattle.ls_turn.specs.declared.session.Pending.{Pending}
use Rattle.ls_turn.specs.declared.session.Session.{Session}
use Rattle.ls_turn.specs.Agreeing.{Agrees, AreNamed, HaveMetrics, HaveSecrets, files_of, pending_token, retired_files, session_of, users_in}
use Rattle.ls_turn.specs.Serving.{CanServe, Turned}
use Rattle.ls_turn.specs.Waiting.{those_of}
use Rattle.ls_turn.specs.Working.{LeadsTo}
use Rattle.ls_users.proofs.UserLemmas.{user_changed}
use Rattle.ls_vault.specs.declared.session.SessionState.{SessionState}
use Rattle.ls_vault.specs.declared.state.State.{State}
use Rattle.ls_vault.specs.declared.token.PendingToken.{PendingToken}
use Rattle.ls_vault.specs.declared.token.Token.{Token}
use Rattle.ls_vault.specs.declared.user.User.{User}
use Rattle.ls_vault.specs.declared.vault.Books.{Books}
use Rattle.ls_vault.specs.declared.vault.Vault.{Vault}
use Rattle.ls_vault.specs.Revealed.{shown_metrics}
use Rattle.ls_vault.specs.States.{committed, committed_if}
use Rattle.ls_vault.specs.TokenChanges.{first_activated, tokens_activated, with_tokens}
use Rattle.ls_vault.specs.Tokens.{activated, pending_of, without_first}
use Rattle.ls_vault.specs.Users.{changed, user_of}
use Rattle.ls_activating.specs.declared.planned.Planned.{Planned}
use Rattle.ls_activating.specs.Counting.{chosen_for, count_for, token_ids, without_ids}
use Rattle.ls_activating.specs.Planning.{IsPlannedFor, Made, activated_turn, exchange_of}
use Rattle.ls_activating.proofs.KeptLemmas.{bare_then, named_now, retired_unnamed}
use Rattle.ls_activating.proofs.LeftLemmas.{as_machine, by_ids, left_of}
use Rattle.ls_activating.proofs.NextLemmas.{IsReady, list, next, next_is, next_rules, work}
use Rattle.ls_activating.proofs.PlaceLemmas.{its, made, tokens}
use Rattle.ls_activating.proofs.RoomLemmas.{not_worn}
use Rattle.ls_activating.proofs.SealLemmas.{active, holds_then, more, vault}
use Rattle.ls_activating.proofs.WorldLemmas.{end, fin, fin_is, same, same_fin, staged_is}

-- ---- the machine's tokens

-- those that become active are the same
pub active_alike : (n user : ℕ) (ps : List Pending) → map activated (take n (pending_of (map pending_token ps) user)) ≡ map active (take n (those_of user ps))
active_alike zero user ps = refl
active_alike (suc n) user [] = refl
active_alike (suc n) user (q ∷ ps) = by (q.user == user) (active_alike n user ps) (active_alike (suc n) user ps)
  where
    by : (c : Bool) → map activated (take n (pending_of (map pending_token ps) user)) ≡ map active (take n (those_of user ps))
        → map activated (take (suc n) (pending_of (map pending_token ps) user)) ≡ map active (take (suc n) (those_of user ps))
        → map activated (take (suc n) (cond c (pending_token q ∷ pending_of (map pending_token ps) user) (pending_of (map pending_token ps) user))) ≡ map active (take (suc n) (cond c (q ∷ those_of user ps) (those_of user ps)))
    by true one rest = ap (λ (l : List Token). active q ∷ l) one
    by false one rest = rest

module _ (b : Sight) (x : Session) (can : CanServe b x) (user : ℕ) (k : Planned) (p : IsPlannedFor b x user k)
    (told : IsTrue b.told) (lens : b.slots ≡ length b.world.slots) (few : b.slots ≤ 256)
    (free : (m : Made) → Contains (made b x can user k p) m → IsUnnamedProtector b.world x.settings.settled.rec (its b x can user k p m) m.slot)
    (commits : AllTouchOnly settings_reach k.commit.actions) (st : State) (a : Agrees b.world x st) (y : Session) (ready : IsReady x user y) where
  abbrev w : World
  w = b.world

  abbrev count : ℕ
  count = count_for x user

  abbrev last : World
  last = end b x can user k p told lens few free

  abbrev final : World
  final = fin b x can user k p told lens few free commits

  abbrev names : List Parts
  names = list b x can user k p

  abbrev seen : World
  seen = after_all w (actions_of (plain (exchange_of k)))

  seen_is : seen ≡ final
  seen_is = fin_is b x can user k p told lens few free commits

  abbrev then_vault : Vault
  then_vault = vault b x can user k p told lens few free st a

  -- ---- what the session knows

  secrets_then : (items : List Opened) → HaveSecrets st.vault.users items → HaveSecrets then_vault.users items
  secrets_then items all one has = user_changed (λ u. u.secret ≡ one.secret) st.vault.users user (with_tokens (more b x can user k p told lens few free st a)) (λ u. (refl, λ e. e)) one.user (all one has)

  metrics_then : (items : List Opened) → HaveMetrics st.vault.users items → HaveMetrics then_vault.users items
  metrics_then items all one has = user_changed (λ u. one.metrics ≡ shown_metrics u.credential) st.vault.users user (with_tokens (more b x can user k p told lens few free st a)) (λ u. (refl, λ e. e)) one.user (all one has)

  -- ---- the books

  dead_same : dead_users x.settings.settled.rec.armed final.cell ≡ dead_users x.settings.settled.rec.armed w.cell
  dead_same = by x.settings.settled.rec.armed refl
    where
      by : (armed : Option Arming) → x.settings.settled.rec.armed ≡ armed → dead_users armed final.cell ≡ dead_users armed w.cell
      by None none = refl
      by (Some z) some = ap (dead_users (Some z)) ((same_fin b x can user k p told lens few free commits).cell z some ∙ (same b x can user k p told lens few free).cell z some)

  kept_now : st.books.kept + 1 ≡ k.commit.to.settled.sequence
  kept_now = ap (λ (z : Books). z.kept + 1) a.books_are ∙ sym p.by.plan.commit.below

  dead_now : st.books.dead ≡ dead_users k.commit.to.settled.rec.armed seen.cell
  dead_now = ap (λ (z : Books). z.dead) a.books_are ∙ (sym dead_same ∙ sym (λ i. dead_users (p.by.plan.next i).armed (seen_is i).cell))

  -- ---- the machine's state

  pending_is : map pending_token y.pending.items ≡ without_first count st.session.pending user
  pending_is =
      ap (λ (l : List Pending). map pending_token l) (ready.pending ∙ by_ids count user x.pending.items can.waits.once)
      ∙ (as_machine count user x.pending.items
      ∙ ap (λ (z : SessionState). without_first count z.pending user) a.session)

  session_now : session_of y ≡ record st.session { pending = without_first count st.session.pending user }
  session_now = λ i. record {
    boot = (ready.boot ∙ ap (λ (z : SessionState). z.boot) a.session) i;
    opened = (ap users_in ready.opened ∙ ap (λ (z : SessionState). z.opened) a.session) i;
    pending = pending_is i;
    prepared = (ready.prepared ∙ ap (λ (z : SessionState). z.prepared) a.session) i;
    captured = (ap users_in ready.captured ∙ ap (λ (z : SessionState). z.captured) a.session) i;
  }

  users_are : changed st.vault.users user (with_tokens (map activated (take count (pending_of st.session.pending user)))) ≡ then_vault.users
  users_are =
      ap (λ (l : List Token). changed st.vault.users user (with_tokens l))
      (ap (λ (z : SessionState). map activated (take count (pending_of z.pending user))) (sym a.session) ∙ active_alike count user x.pending.items)

  abbrev reached : State
  reached = committed (record st { vault = then_vault; session = record st.session { pending = without_first count st.session.pending user } })

  state_is : tokens_activated count st user ≡ reached
  state_is =
      ap (λ (c : Bool). committed_if c (first_activated count st user)) (lt-ltb 0 count (some_count p.some))
      ∙ ap (λ (l : List User). committed (record st { vault = record st.vault { users = l }; session = record st.session { pending = without_first count st.session.pending user } })) users_are
    where
      some_count : count ≢ 0 → 0 < count
      some_count some = omega (arith, some)

  untouched : (z : Rec) → NamedAreUntouched last z
  untouched z name named = refl

  -- ---- where it leads

  abbrev target : Turned
  target = record { reply = Fine; stage = record { state = reached; moments = w.moments; noise = w.noise } }

  leads_there : LeadsTo w y names x.retired.items (plain (exchange_of k)) st target
  leads_there = record {
    reply = refl;
    keeps = subst IsRecord (sym p.by.plan.next) (next_rules b x can user k p);
    readies = record {
      holds = subst (λ (v : World). Holds v k.commit.to.settled.rec then_vault) (sym (staged_is b x can user k p told lens few free))
          (subst (λ (z : Rec). Holds last z then_vault) (sym p.by.plan.next) (holds_then b x can user k p told lens few free st a));
      untouched = subst (λ (v : World). NamedAreUntouched v k.commit.to.settled.rec) (sym (staged_is b x can user k p told lens few free)) (untouched k.commit.to.settled.rec);
    };
    session = session_now;
    books_are = λ i. record { kept = kept_now i; dead = dead_now i };
    moments = refl;
    noise = refl;
    opened = subst (HaveSecrets then_vault.users) (sym ready.opened) (secrets_then x.opened.items a.opened);
    metrics = subst (HaveMetrics then_vault.users) (sym ready.opened) (metrics_then x.opened.items a.metrics);
    captured = subst (HaveSecrets then_vault.users) (sym ready.captured) (secrets_then x.captured.items a.captured);
    are_named = subst (λ (v : World). AreNamed v k.commit.to.settled.rec names) (sym seen_is) (subst (λ (z : Rec). AreNamed final z names) (sym p.by.plan.next) (named_now b x can user k p told lens few free commits st a));
    are_retired = retired_unnamed b x can user k p told lens few free commits;
    prepared = λ flag not_last. ap (λ (z : Rec). z.armed) p.by.plan.next ∙ a.prepared (sym ready.prepared ∙ flag) (not_worn x user p.some);
    bare = λ start bare. subst (λ (v : World). IsBare start v k.commit.to.settled.rec (retired_files x)) (sym seen_is)
        (subst (λ (z : Rec). IsBare start final z (retired_files x)) (sym p.by.plan.next)
        (bare_then b x can user k p told lens few free commits start
        (subst (λ (l : Loaded). IsBare start w l.settled.rec (retired_files x)) ready.settings
        (subst (λ (l : List Parts). IsBare start w y.settings.settled.rec (files_of l)) ready.retired bare))));
  }

  pub leads : LeadsTo w y names x.retired.items (plain (exchange_of k)) st (activated_turn w st user count)
  leads = subst (λ (t : State). LeadsTo w y names x.retired.items (plain (exchange_of k)) st (record { reply = Fine; stage = record { state = t; moments = w.moments; noise = w.noise } })) (sym state_is) leads_there
