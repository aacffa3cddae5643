-- The change leads to what the machine answers.
use Rattle.std.proofs.Common.{◌≡◌, ◌≢◌, ◌⊎◌, inl, inr, ◌≤◌, ◌+◌, ℕ, Bool, true, false, List, [], ◌∷◌, ◌++◌, length, IsTrue, Option, None, Some, refl, sym, ap, subst, ◌∙◌}
use Rattle.std.specs.Prelude.{◌==◌, IsSomeAnd}
use Rattle.std.specs.List.{Contains}
use Rattle.std.proofs.lemmas.Bool.{eqb-true, eqb-false}
use Rattle.std.proofs.lemmas.List.Elements.{Contains-append_left, Contains-append_right, Contains-append_cases}
use Rattle.ls_arming.specs.declared.arming.Arming.{Arming}
use Rattle.ls_board.specs.declared.world.World.{World}
use Rattle.ls_board.specs.Acts.{Sight}
use Rattle.ls_board.specs.Reach.{AllTouchOnly}
use Rattle.ls_board.specs.Runs.{after_all}
use Rattle.ls_change.specs.Work.{actions_of}
use Rattle.ls_exchange.specs.Exchanges.{plain}
use Rattle.ls_formats.specs.declared.parts.Parts.{Parts}
use Rattle.ls_naming.specs.Current.{last_sequence}
use Rattle.ls_placing.proofs.StayLemmas.{weaver_by}
use Rattle.ls_promises.proofs.Lookups.{user_of-with_other}
use Rattle.ls_protector.specs.Parts.{parts_of}
use Rattle.ls_record.specs.Rows.{Rec, IsRecord}
use Rattle.ls_sealing.specs.Building.{FitsSlots}
use Rattle.ls_sealing.specs.Protectors.{Protector}
use Rattle.ls_settings.specs.Loaded.{settings_reach}
use Rattle.ls_standing.specs.Bare.{IsBare}
use Rattle.ls_standing.specs.Books.{dead_users}
use Rattle.ls_standing.specs.Named.{credential_of}
use Rattle.ls_standing.specs.NamedProtectors.{NamesProtector}
use Rattle.ls_standing.specs.Quiet.{IsUnnamedProtector}
use Rattle.ls_standing.specs.Standing.{Holds, NamedAreUntouched}
use Rattle.ls_standing.proofs.ContainsLemmas.{at_first}
use Rattle.ls_vault.specs.declared.state.State.{State}
use Rattle.ls_vault.specs.declared.user.User.{User}
use Rattle.ls_vault.specs.declared.vault.Books.{Books}
use Rattle.ls_vault.specs.declared.vault.Vault.{Vault}
use Rattle.ls_vault.specs.Revealed.{shown_metrics}
use Rattle.ls_vault.specs.Users.{user_of, with_user}
use Rattle.ls_turn.specs.declared.session.Session.{Session}
use Rattle.ls_turn.specs.Agreeing.{Agrees, AreNamed, files_of, parts_in, retired_files}
use Rattle.ls_turn.specs.Refusing.{row_of}
use Rattle.ls_turn.specs.Serving.{CanServe}
use Rattle.ls_turn.specs.Working.{LeadsTo}
use Rattle.ls_turn.proofs.RowLemmas.{nobody_there}
use Rattle.ls_enrolling.specs.declared.planned.Planned.{Planned}
use Rattle.ls_enrolling.specs.Enrolling.{Chosen, row_then, user_then}
use Rattle.ls_enrolling.specs.Planning.{IsPlan, added_turn, chosen_of, exchange_of}
use Rattle.ls_enrolling.proofs.RowLemmas.{next_is, new_named, was_named, named_cases}
use Rattle.ls_enrolling.proofs.StagedLemmas.{last_untouched}
use Rattle.ls_enrolling.proofs.ReadyLemmas.{readied}
use Rattle.ls_enrolling.proofs.BareLemmas.{added_bare}
use Rattle.ls_enrolling.proofs.SessionLemmas.{then, new, list, one_in, parts_are, retired_is, slot, end, same, staged_is, fin, fin_is, settings, fin_weaver, fin_cell, number_old, number_new, retired_unnamed}

-- ---- a user more

-- what is so of a user is so of it beside a new one
pub known_with : (users : List User) (u : User) → user_of users u.number ≡ None → (P : User → Type 0) (m : ℕ) → IsSomeAnd (user_of users m) P → IsSomeAnd (user_of (with_user users u) m) P
known_with users u none P m has = by (u.number == m) refl
  where
    by : (b : Bool) → (u.number == m) ≡ b → IsSomeAnd (user_of (with_user users u) m) P
    by true is = absurd (subst (λ (o : Option User). IsSomeAnd o P) (ap (user_of users) (sym (eqb-true u.number m is)) ∙ none) has)
    by false is = subst (λ (o : Option User). IsSomeAnd o P) (sym (user_of-with_other users u m (eqb-false u.number m is))) has

module _ (b : Sight) (x : Session) (can : CanServe b x) (is : IsRecord x.settings.settled.rec) (user : ℕ) (escrow : Bool) (drawn : List ℕ) (k : Planned) (plan : IsPlan b x user escrow drawn k)
    (told : IsTrue b.told) (lens : b.slots ≡ length b.world.slots) (few : b.slots ≤ 256)
    (free : IsUnnamedProtector b.world x.settings.settled.rec (credential_of (row_then (chosen_of user escrow drawn k))) k.slot) (commits : AllTouchOnly settings_reach k.commit.actions)
    (st : State) (a : Agrees b.world x st) (none : row_of x.settings.settled.rec user ≡ None) (fresh : x.settings.settled.sequence ≢ last_sequence) where
  abbrev w : World
  w = b.world

  abbrev rec : Rec
  rec = x.settings.settled.rec

  abbrev its : Chosen
  its = chosen_of user escrow drawn k

  abbrev after : Rec
  after = then b x can is user escrow drawn k plan

  abbrev its_new : Protector
  its_new = new b x can is user escrow drawn k plan

  abbrev final : World
  final = fin b x can is user escrow drawn k plan told lens few free commits

  abbrev names : List Parts
  names = list b x can is user escrow drawn k plan

  abbrev seen : World
  seen = after_all w (actions_of (plain (exchange_of k)))

  seen_is : seen ≡ final
  seen_is = fin_is b x can is user escrow drawn k plan told lens few free commits

  its_slot : FitsSlots k.slot w
  its_slot = slot b x can is user escrow drawn k plan told lens few free

  -- ---- the vault

  abbrev u : User
  u = user_then its

  abbrev vault : Vault
  vault = record st.vault { users = with_user st.vault.users u }

  holds_then : Holds (end b x can is user escrow drawn k plan told lens few free) after vault
  holds_then = readied rec is its plan.choice.chosen w its_slot free st.vault a.stands.stands.holds

  known : (P : User → Type 0) (m : ℕ) → IsSomeAnd (user_of st.vault.users m) P → IsSomeAnd (user_of vault.users m) P
  known P m has = known_with st.vault.users u (nobody_there w x st a user none) P m has

  -- ---- the protectors

  parts_old : (p : Protector) → NamesProtector rec p → parts_in final p ≡ parts_in w p
  parts_old p was =
      let weaver = fin_weaver b x can is user escrow drawn k plan told lens few free commits in
      let number = number_old b x can is user escrow drawn k plan told lens few free commits p was in
      λ i. parts_of (weaver i) p (number i)

  parts_new : parts_in final its_new ≡ k.draft.parts
  parts_new =
      let weaver = fin_weaver b x can is user escrow drawn k plan told lens few free commits ∙ weaver_by k.slot w its_slot in
      let number = number_new b x can is user escrow drawn k plan told lens few free commits in
      (λ i. parts_of (weaver i) its_new (number i)) ∙ sym (parts_are b x can is user escrow drawn k plan)

  named_then : AreNamed final after names
  named_then = record {
    each = λ p has. each p (named_cases rec is its plan.choice.chosen p has);
    only = λ z has. only z (Contains-append_cases x.named.items (k.draft.parts ∷ []) z has);
  }
    where
      each : (p : Protector) → NamesProtector rec p ⊎ (p ≡ its_new) → Contains names (parts_in final p)
      each p (inl old) = Contains-append_left x.named.items (k.draft.parts ∷ []) (parts_in final p) (subst (Contains x.named.items) (sym (parts_old p old)) (a.named.each p old))
      each p (inr e) = subst (Contains names) (sym (ap (parts_in final) e ∙ parts_new)) (Contains-append_right x.named.items (k.draft.parts ∷ []) k.draft.parts (at_first k.draft.parts []))

      only : (z : Parts) → Contains x.named.items z ⊎ Contains (k.draft.parts ∷ []) z → (p : Protector) × NamesProtector after p × (z ≡ parts_in final p)
      only z (inl h) = let found = a.named.only z h in (found.0, was_named rec is its plan.choice.chosen found.0 found.1, found.2 ∙ sym (parts_old found.0 found.1))
      only z (inr h) = (its_new, new_named rec is its plan.choice.chosen, one_in k.draft.parts z h ∙ sym parts_new)

  bare_then : (start : World) → IsBare start w rec (retired_files x) → IsBare start final after (retired_files x)
  bare_then start bare = added_bare rec is its plan.choice.chosen w its_slot free final (settings b x can is user escrow drawn k plan told lens few free commits) (retired_files x) start bare

  -- ---- the books

  dead_same : dead_users rec.armed final.cell ≡ dead_users rec.armed w.cell
  dead_same = by rec.armed refl
    where
      by : (armed : Option Arming) → rec.armed ≡ armed → dead_users armed final.cell ≡ dead_users armed w.cell
      by None none = refl
      by (Some z) some = ap (dead_users (Some z))
          (fin_cell b x can is user escrow drawn k plan told lens few free commits
          ∙ (same b x can is user escrow drawn k plan told lens few free).cell z some)

  kept_now : st.books.kept + 1 ≡ k.commit.to.settled.sequence
  kept_now = ap (λ (z : Books). z.kept + 1) a.books_are ∙ sym plan.commit.below

  dead_now : st.books.dead ≡ dead_users k.commit.to.settled.rec.armed seen.cell
  dead_now = ap (λ (z : Books). z.dead) a.books_are ∙ (sym dead_same ∙ sym (λ i. dead_users (plan.next i).armed (seen_is i).cell))

  -- ---- where it leads

  pub leads : LeadsTo w x names (x.retired.items ++ []) (plain (exchange_of k)) st (added_turn w st user escrow drawn)
  leads = record {
    reply = refl;
    keeps = subst IsRecord (sym plan.next) (next_is rec is its plan.choice.chosen);
    readies = record {
      holds = subst (λ (v : World). Holds v k.commit.to.settled.rec vault) (sym (staged_is b x can is user escrow drawn k plan told lens few free))
          (subst (λ (z : Rec). Holds (end b x can is user escrow drawn k plan told lens few free) z vault) (sym plan.next) holds_then);
      untouched = subst (λ (v : World). NamedAreUntouched v k.commit.to.settled.rec) (sym (staged_is b x can is user escrow drawn k plan told lens few free))
          (last_untouched rec is its plan.choice.chosen w its_slot free k.commit.to.settled.rec);
    };
    session = a.session;
    books_are = λ i. record { kept = kept_now i; dead = dead_now i };
    moments = refl;
    noise = refl;
    opened = λ o has. known (λ u. u.secret ≡ o.secret) o.user (a.opened o has);
    metrics = λ o has. known (λ u. o.metrics ≡ shown_metrics u.credential) o.user (a.metrics o has);
    captured = λ o has. known (λ u. u.secret ≡ o.secret) o.user (a.captured o has);
    are_named = subst (λ (v : World). AreNamed v k.commit.to.settled.rec names) (sym seen_is) (subst (λ (z : Rec). AreNamed final z names) (sym plan.next) named_then);
    are_retired = retired_unnamed b x can is user escrow drawn k plan told lens few free commits;
    prepared = λ flag not_last. ap (λ (z : Rec). z.armed) plan.next ∙ a.prepared flag fresh;
    bare = λ start bare. subst (λ (l : List Parts). IsBare start seen k.commit.to.settled.rec (files_of l)) (sym (retired_is b x can is user escrow drawn k plan))
        (subst (λ (v : World). IsBare start v k.commit.to.settled.rec (retired_files x)) (sym seen_is)
        (subst (λ (z : Rec). IsBare start final z (retired_files x)) (sym plan.next) (bare_then start bare)));
  }
