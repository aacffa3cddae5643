-- The change leads to what the machine answers.
use Rattle.std.proofs.Common.{◌≡◌, ◌≢◌, ◌⊎◌, inl, inr, ⊎_elim, ◌≤◌, ◌+◌, not, ℕ, Bool, true, false, cond, List, [], ◌∷◌, ◌++◌, map, length, IsTrue, Option, None, Some, refl, sym, ap, subst, ◌∙◌, append-nil, append_assoc}
use Rattle.std.specs.Prelude.{◌==◌, ◌&&◌, is_some, IsSomeAnd}
use Rattle.std.specs.List.{AllZip, Contains}
use Rattle.std.proofs.lemmas.Bool.{ne_eqb, eqb-true, eqb-false}
use Rattle.std.proofs.lemmas.List.Elements.{Contains-append_left, Contains-append_right, Contains-append_cases}
use Rattle.ls_arming.specs.declared.arming.Arming.{Arming}
use Rattle.ls_board.specs.declared.world.World.{World}
use Rattle.ls_board.specs.Acts.{Sight}
use Rattle.ls_board.specs.Reach.{AllTouchOnly}
use Rattle.ls_board.specs.Runs.{after_all}
use Rattle.ls_change.specs.Work.{actions_of}
use Rattle.ls_credential.specs.Rules.{KindAndText}
use Rattle.ls_exchange.specs.Exchanges.{plain}
use Rattle.ls_formats.specs.declared.parts.Parts.{Parts}
use Rattle.ls_naming.specs.Current.{last_sequence}
use Rattle.ls_protector.specs.Parts.{parts_of}
use Rattle.ls_record.specs.declared.row.UserRow.{UserRow}
use Rattle.ls_record.specs.Rows.{Rec, IsRecord}
use Rattle.ls_script.specs.declared.reply.Reply.TheVariants.{Fine}
use Rattle.ls_secret.specs.Secrets.{SecretValue}
use Rattle.ls_sealing.specs.Protectors.{Protector, has_weaver, held_number}
use Rattle.ls_settings.specs.Loaded.{Loaded, settings_reach}
use Rattle.ls_standing.specs.Bare.{IsBare}
use Rattle.ls_standing.specs.Books.{dead_users}
use Rattle.ls_standing.specs.Named.{credential_of, held_of_row}
use Rattle.ls_standing.specs.NamedProtectors.{NamesProtector}
use Rattle.ls_standing.specs.Quiet.{IsUnnamedProtector}
use Rattle.ls_standing.specs.Standing.{Holds, HoldsUser, NamedAreUntouched}
use Rattle.ls_standing.proofs.ContainsLemmas.{at_first, of_map}
use Rattle.ls_standing.proofs.FrameLemmas.{weaver_same}
use Rattle.ls_standing.proofs.IdLemmas.{one_protector}
use Rattle.ls_vault.specs.declared.state.State.{State}
use Rattle.ls_vault.specs.declared.user.User.{User}
use Rattle.ls_vault.specs.declared.vault.Books.{Books}
use Rattle.ls_vault.specs.declared.vault.Vault.{Vault}
use Rattle.ls_vault.specs.Credentials.{credential_changed, given, secure_ids, secure_after}
use Rattle.ls_vault.specs.Fresh.{fresh, drawn_number}
use Rattle.ls_vault.specs.Kinds.{is_empty}
use Rattle.ls_vault.specs.Revealed.{shown_metrics}
use Rattle.ls_vault.specs.States.{committed, with_users}
use Rattle.ls_vault.specs.Users.{changed, user_of}
use Rattle.ls_turn.specs.declared.session.Session.{Session}
use Rattle.ls_turn.specs.declared.session.Opened.{Opened}
use Rattle.ls_turn.specs.declared.session.Pending.{Pending}
use Rattle.ls_turn.specs.Agreeing.{Agrees, AreNamed, HaveMetrics, HaveSecrets, files_of, pending_token, parts_in, retired_files, session_of, users_in}
use Rattle.ls_turn.specs.Refusing.{row_of}
use Rattle.ls_turn.specs.Serving.{CanServe, Turned}
use Rattle.ls_turn.specs.Working.{LeadsTo}
use Rattle.ls_turn.proofs.RowLemmas.{row_found, user_there}
use Rattle.ls_users.proofs.FoundLemmas.{entry_of, entry_found}
use Rattle.ls_users.proofs.UserLemmas.{user_changed}
use Rattle.ls_changing.specs.declared.planned.Planned.{Planned}
use Rattle.ls_changing.specs.Replacing.{Chosen, row_then, with_its_credential}
use Rattle.ls_changing.specs.Planning.{IsPlan, chosen_of, exchange_of}
use Rattle.ls_changing.specs.Keeping.{with_metrics, IsReady}
use Rattle.ls_changing.proofs.ListLemmas.{one_in}
use Rattle.ls_changing.proofs.RowLemmas.{next, next_is}
use Rattle.ls_changing.proofs.ReadyLemmas.{readied, end_untouched}
use Rattle.ls_changing.proofs.LeavingLemmas.{gone, gone_named, next_cases}
use Rattle.ls_changing.proofs.BareLemmas.{new_named, was_cases, changed_bare, weaver_by}
use Rattle.ls_changing.proofs.SessionLemmas.{then, list, o, q_is, q_in, parts_are, rest_in, rest_id, named_cases, not_lost, slot, slot_was, end, same, staged_is, mid, fin, fin_is, settings, touch_mid, same_fin, fin_weaver, number_old, number_new, retired_unnamed}

-- ---- a user that changed

-- two changes that do the same to the user are one
pub changed_alike : (users : List User) (number : ℕ) (f g : User → User) → ((u : User) → user_of users number ≡ Some u → f u ≡ g u) → changed users number f ≡ changed users number g
changed_alike [] number f g alike = refl
changed_alike (x ∷ users) number f g alike = by (x.number == number) alike (changed_alike users number f g)
  where
    by : (b : Bool) → ((u : User) → cond b (Some x) (user_of users number) ≡ Some u → f u ≡ g u)
        → (((u : User) → user_of users number ≡ Some u → f u ≡ g u) → changed users number f ≡ changed users number g)
        → cond b (f x ∷ users) (x ∷ changed users number f) ≡ cond b (g x ∷ users) (x ∷ changed users number g)
    by true same later = ap (λ (y : User). y ∷ users) (same x refl)
    by false same later = ap (λ (l : List User). x ∷ l) (later same)

-- the user is then as it was changed
pub changed_itself : (users : List User) (number : ℕ) (f : User → User) → ((u : User) → (f u).number ≡ u.number) → (P : User → Type 0) → IsSomeAnd (user_of users number) (λ u. P (f u)) → IsSomeAnd (user_of (changed users number f) number) P
changed_itself [] number f keeps P has = has
changed_itself (x ∷ users) number f keeps P has = by (x.number == number) refl has (changed_itself users number f keeps P)
  where
    by : (b : Bool) → (x.number == number) ≡ b → IsSomeAnd (cond b (Some x) (user_of users number)) (λ u. P (f u)) → (IsSomeAnd (user_of users number) (λ u. P (f u)) → IsSomeAnd (user_of (changed users number f) number) P)
        → IsSomeAnd (user_of (cond b (f x ∷ users) (x ∷ changed users number f)) number) P
    by true at has later = subst (λ (c : Bool). IsSomeAnd (cond c (Some (f x)) (user_of users number)) P) (sym (ap (λ (m : ℕ). m == number) (keeps x) ∙ at)) has
    by false at has later = subst (λ (c : Bool). IsSomeAnd (cond c (Some x) (user_of (changed users number f) number)) P) (sym at) (later has)

-- and another user as it was
pub changed_other : (users : List User) (number : ℕ) (f : User → User) → ((u : User) → (f u).number ≡ u.number) → (m : ℕ) → m ≢ number → user_of (changed users number f) m ≡ user_of users m
changed_other [] number f keeps m apart = refl
changed_other (x ∷ users) number f keeps m apart = by (x.number == number) refl (changed_other users number f keeps m apart)
  where
    by : (b : Bool) → (x.number == number) ≡ b → user_of (changed users number f) m ≡ user_of users m
        → user_of (cond b (f x ∷ users) (x ∷ changed users number f)) m ≡ cond (x.number == m) (Some x) (user_of users m)
    by true at later =
        let miss : (x.number == m) ≡ false = ne_eqb x.number m (λ e. apart (sym e ∙ eqb-true x.number number at)) in
        ap (λ (c : Bool). cond c (Some (f x)) (user_of users m)) (ap (λ (k : ℕ). k == m) (keeps x) ∙ miss)
        ∙ ap (λ (c : Bool). cond c (Some x) (user_of users m)) (sym miss)
    by false at later = ap (λ (t : Option User). cond (x.number == m) (Some x) t) later

-- ---- what the session knows of users

abbrev renewed : ℕ → KindAndText → List Opened → List Opened
renewed user c opened = map (with_metrics user (shown_metrics c)) opened

same_user : (user : ℕ) (c : KindAndText) (z : Opened) → (with_metrics user (shown_metrics c) z).user ≡ z.user
same_user user c z = by (z.user == user)
  where
    by : (b : Bool) → (cond b (record z { metrics = shown_metrics c }) z).user ≡ z.user
    by true = refl
    by false = refl

same_secret : (user : ℕ) (c : KindAndText) (z : Opened) → (with_metrics user (shown_metrics c) z).secret ≡ z.secret
same_secret user c z = by (z.user == user)
  where
    by : (b : Bool) → (cond b (record z { metrics = shown_metrics c }) z).secret ≡ z.secret
    by true = refl
    by false = refl

users_renewed : (user : ℕ) (c : KindAndText) (opened : List Opened) → users_in (renewed user c opened) ≡ users_in opened
users_renewed user c [] = refl
users_renewed user c (z ∷ opened) = (λ i. same_user user c z i ∷ users_renewed user c opened i)

-- ---- the secure id

-- the secure ids of rows are those of the users
secures_same : (R : UserRow → User → Type 0) → ((row : UserRow) (u : User) → R row u → row.secure ≡ u.secure) → (rows : List UserRow) (users : List User) → AllZip R rows users
    → map (λ row. row.secure) rows ≡ secure_ids users
secures_same R says [] [] all = refl
secures_same R says [] (u ∷ users) all = absurd all
secures_same R says (x ∷ rows) [] all = absurd all
secures_same R says (x ∷ rows) (u ∷ users) all = (λ i. says x u all.0 i ∷ secures_same R says rows users all.1 i)

module _ (b : Sight) (x : Session) (can : CanServe b x) (is : IsRecord x.settings.settled.rec) (row : UserRow) (c : KindAndText) (s : SecretValue) (drawn : List ℕ)
    (k : Planned) (plan : IsPlan b x row c s drawn k) (front back : List Parts) (q : Parts) (split : x.named.items ≡ front ++ q ∷ back) (its_id : q.id ≡ row.protector)
    (told : IsTrue b.told) (lens : b.slots ≡ length b.world.slots) (few : b.slots ≤ 256) (free : IsUnnamedProtector b.world x.settings.settled.rec (credential_of (row_then (chosen_of row c k))) k.slot)
    (commits : AllTouchOnly settings_reach k.commit.actions)
    (st : State) (a : Agrees b.world x st) (user : ℕ) (found : row_of x.settings.settled.rec user ≡ Some row) (e : Opened) (opened : entry_of x.opened.items user ≡ Some e) (its_secret : e.secret ≡ s)
    (y : Session) (ready : IsReady x front back user (shown_metrics c) y) (fresh_sequence : x.settings.settled.sequence ≢ last_sequence) where
  abbrev w : World
  w = b.world

  abbrev rec : Rec
  rec = x.settings.settled.rec

  abbrev its : Chosen
  its = chosen_of row c k

  abbrev after : Rec
  after = next rec is its plan.chosen

  abbrev lost : Protector
  lost = gone rec is its plan.chosen

  abbrev new : Protector
  new = credential_of (row_then its)

  abbrev last : World
  last = end b x can is row c s drawn k plan front back q split its_id told lens few free

  abbrev final : World
  final = fin b x can is row c s drawn k plan front back q split its_id told lens few free commits

  abbrev names : List Parts
  names = list b x can is row c s drawn k plan front back q split its_id

  abbrev seen : World
  seen = after_all w (actions_of (plain (exchange_of k q)))

  seen_is : seen ≡ final
  seen_is = fin_is b x can is row c s drawn k plan front back q split its_id told lens few free commits

  of_user : row.user ≡ user
  of_user = (row_found user rec.users row found).1

  there : (u : User) × (user_of st.vault.users user ≡ Some u) × HoldsUser row (held_of_row w rec.armed row) u
  there = user_there w x st a user row found

  secrets : (u : User) → user_of st.vault.users row.user ≡ Some u → u.secret ≡ s
  secrets u at =
      let found_e = entry_found user x.opened.items e opened in
      let here : user_of st.vault.users e.user ≡ Some u = ap (user_of st.vault.users) (found_e.1 ∙ sym of_user) ∙ at in
      subst (λ (t : Option User). IsSomeAnd t (λ u. u.secret ≡ e.secret)) here (a.opened e found_e.0) ∙ its_secret

  -- ---- the vault

  abbrev change : User → User
  change = with_its_credential c k.secure

  abbrev vault : Vault
  vault = record st.vault { users = changed st.vault.users user change }

  holds_then : Holds last after vault
  holds_then =
      subst (λ (m : ℕ). Holds last after (record st.vault { users = changed st.vault.users m change })) of_user
      (readied rec is its plan.chosen w (slot b x can is row c s drawn k plan front back q split its_id told lens few free) free s plan.bytes plan.handle plan.are plan.salt plan.small (plan.signs told)
      st.vault a.stands.stands.holds there.0 there.2 (secrets there.0 (ap (user_of st.vault.users) of_user ∙ there.1)) secrets)

  secure_is : (u : User) → user_of st.vault.users user ≡ Some u → secure_after st.vault.users c drawn u ≡ k.secure
  secure_is u at =
      let held = there.2 in
      let same_u : there.0 ≡ u = some_is (sym there.1 ∙ at) in
      (λ i. cond (is_empty c.kind) 0 (cond (is_empty (kind_is same_u i) && not (is_empty c.kind)) (fresh (drawn_number drawn) (sym ids_are i)) (old_is same_u i))) ∙ sym plan.secure
    where
      some_is : {u v : User} → ◌≡◌ {A = Option User} (Some u) (Some v) → u ≡ v
      some_is e = cc

      ids_are : map (λ z. z.secure) rec.users ≡ secure_ids st.vault.users
      ids_are = secures_same (λ z u. HoldsUser z (held_of_row w rec.armed z) u) (λ z u h. h.says.secure) rec.users st.vault.users a.stands.stands.holds.users

      kind_is : there.0 ≡ u → u.credential.kind ≡ row.kind
      kind_is e = ap (λ (v : User). v.credential.kind) (sym e) ∙ sym there.2.says.kind

      old_is : there.0 ≡ u → u.secure ≡ row.secure
      old_is e = ap (λ (v : User). v.secure) (sym e) ∙ sym there.2.says.secure

  users_are : changed st.vault.users user (given st.vault.users c drawn) ≡ changed st.vault.users user change
  users_are = changed_alike st.vault.users user (given st.vault.users c drawn) change
      (λ u at. ap (λ (m : ℕ). record u { credential = c; fails = 0; until = 0; secure = m }) (secure_is u at))

  -- ---- what the session knows

  known_user : (P : User → Type 0) → ((u : User) → P u → P (change u)) → (m : ℕ) → IsSomeAnd (user_of st.vault.users m) P → IsSomeAnd (user_of vault.users m) P
  known_user P keeps m has = user_changed P st.vault.users user change (λ u. (refl, keeps u)) m has

  secrets_then : (items : List Opened) → HaveSecrets st.vault.users items → HaveSecrets vault.users items
  secrets_then items all one has = known_user (λ u. u.secret ≡ one.secret) (λ u e. e) one.user (all one has)

  opened_then : HaveSecrets vault.users (renewed user c x.opened.items)
  opened_then one has =
      let z = of_map (with_metrics user (shown_metrics c)) x.opened.items one has in
      subst (λ (y : Opened). IsSomeAnd (user_of vault.users y.user) (λ u. u.secret ≡ y.secret)) z.2
      ((λ (was : IsSomeAnd (user_of vault.users z.0.user) (λ u. u.secret ≡ z.0.secret)).
      subst (λ (m : ℕ). IsSomeAnd (user_of vault.users m) (λ u. u.secret ≡ (with_metrics user (shown_metrics c) z.0).secret)) (sym (same_user user c z.0))
      (subst (λ (t : SecretValue). IsSomeAnd (user_of vault.users z.0.user) (λ u. u.secret ≡ t)) (sym (same_secret user c z.0)) was))
      (secrets_then x.opened.items a.opened z.0 z.1))

  metrics_one : (z : Opened) → Contains x.opened.items z → (d : Bool) → (z.user == user) ≡ d
      → let one = cond d (record z { metrics = shown_metrics c }) z in IsSomeAnd (user_of vault.users one.user) (λ u. one.metrics ≡ shown_metrics u.credential)
  metrics_one z has true at =
      subst (λ (m : ℕ). IsSomeAnd (user_of vault.users m) (λ u. shown_metrics c ≡ shown_metrics u.credential)) (sym (eqb-true z.user user at))
      (changed_itself st.vault.users user change (λ u. refl) (λ u. shown_metrics c ≡ shown_metrics u.credential) (subst (λ (t : Option User). IsSomeAnd t (λ u. shown_metrics c ≡ shown_metrics c)) (sym there.1) refl))
  metrics_one z has false at =
      subst (λ (t : Option User). IsSomeAnd t (λ u. z.metrics ≡ shown_metrics u.credential)) (sym (changed_other st.vault.users user change (λ u. refl) z.user (eqb-false z.user user at))) (a.metrics z has)

  metrics_then : HaveMetrics vault.users (renewed user c x.opened.items)
  metrics_then one has =
      let z = of_map (with_metrics user (shown_metrics c)) x.opened.items one has in
      subst (λ (y : Opened). IsSomeAnd (user_of vault.users y.user) (λ u. y.metrics ≡ shown_metrics u.credential)) z.2 (metrics_one z.0 z.1 (z.0.user == user) refl)

  session_same : session_of y ≡ session_of x
  session_same = λ i. record {
    boot = ready.boot i;
    opened = ((ap users_in ready.opened ∙ users_renewed user c x.opened.items) i);
    pending = ap (λ (l : List Pending). map pending_token l) ready.pending i;
    prepared = ready.prepared i;
    captured = ap users_in ready.captured i;
  }

  -- ---- the protectors

  parts_old : (p : Protector) → NamesProtector rec p → NamesProtector after p → parts_in final p ≡ parts_in w p
  parts_old p was now =
      let weaver = fin_weaver b x can is row c s drawn k plan front back q split its_id told lens few free commits ∙ weaver_same rec w last (same b x can is row c s drawn k plan front back q split its_id told lens few free) in
      let number = number_old b x can is row c s drawn k plan front back q split its_id told lens few free commits p was now in
      λ i. parts_of (weaver i) p (number i)

  final_weaver : has_weaver final ≡ is_some k.slot
  final_weaver =
      fin_weaver b x can is row c s drawn k plan front back q split its_id told lens few free commits
      ∙ (weaver_same rec w last (same b x can is row c s drawn k plan front back q split its_id told lens few free)
      ∙ weaver_by k.slot w (slot b x can is row c s drawn k plan front back q split its_id told lens few free))

  parts_new : parts_in final new ≡ k.draft.parts
  parts_new = (λ i. parts_of (final_weaver i) new (number_new b x can is row c s drawn k plan front back q split its_id told lens few free commits i)) ∙ sym (parts_are b x can is row c s drawn k plan front back q split its_id)

  named_then : AreNamed final after names
  named_then = record {
    each = λ p has. each p (next_cases rec is its plan.chosen p has) has;
    only = λ z has. only z (Contains-append_cases (front ++ back) (k.draft.parts ∷ []) z has);
  }
    where
      each : (p : Protector) → (NamesProtector rec p × (p ≢ lost)) ⊎ (p ≡ new) → NamesProtector after p → Contains names (parts_in final p)
      each p (inl old) now =
          let same_p = parts_old p old.0 now in
          subst (Contains names) (sym same_p)
          (⊎_elim
          (λ (e : parts_in w p ≡ q). absurd (old.1 (not_lost b x can is row c s drawn k plan front back q split its_id p old.0 (parts_in w p) e refl)))
          (λ (stays : Contains (front ++ back) (parts_in w p)). Contains-append_left (front ++ back) (k.draft.parts ∷ []) (parts_in w p) stays)
          (named_cases b x can is row c s drawn k plan front back q split its_id (parts_in w p) (a.named.each p old.0)))
      each p (inr e) now =
          subst (Contains names) (sym (ap (parts_in final) e ∙ parts_new)) (Contains-append_right (front ++ back) (k.draft.parts ∷ []) k.draft.parts (at_first k.draft.parts []))

      only : (z : Parts) → Contains (front ++ back) z ⊎ Contains (k.draft.parts ∷ []) z → (p : Protector) × NamesProtector after p × (z ≡ parts_in final p)
      only z (inl h) =
          let found_p = a.named.only z (rest_in b x can is row c s drawn k plan front back q split its_id z h) in
          ⊎_elim
          (λ (stays : NamesProtector after found_p.0). (found_p.0, stays, found_p.2 ∙ sym (parts_old found_p.0 found_p.1 stays)))
          (λ (e : found_p.0 ≡ lost). absurd (rest_id b x can is row c s drawn k plan front back q split its_id z h (ap (λ (m : Parts). m.id) found_p.2 ∙ (ap (λ (p : Protector). p.id) e ∙ sym its_id))))
          (was_cases rec is its plan.chosen found_p.0 found_p.1)
      only z (inr h) = (new, new_named rec is its plan.chosen, one_in k.draft.parts z h ∙ sym parts_new)

  -- ---- nothing else is kept

  abbrev its_slot : Option ℕ
  its_slot = o b x can is row c s drawn k plan front back q split its_id

  kept_slot : its_slot ≡ held_number w lost
  kept_slot =
      let found_p = a.named.only q (q_in b x can is row c s drawn k plan front back q split its_id) in
      let e : found_p.0 ≡ lost = one_protector rec is found_p.0 lost found_p.1 (gone_named rec is its plan.chosen) (ap (λ (z : Parts). z.id) (sym found_p.2) ∙ its_id) in
      ap (λ (z : Parts). z.slot) (sym (q_is b x can is row c s drawn k plan front back q split its_id) ∙ found_p.2) ∙ ap (held_number w) e

  flat_last : (all : List Parts) → files_of (all ++ q ∷ []) ≡ files_of all ++ q.names
  flat_last [] = append-nil q.names
  flat_last (p ∷ all) = ap (λ (l : List (List ℕ)). p.names ++ l) (flat_last all) ∙ sym (append_assoc p.names (files_of all) q.names)

  bare_then : (start : World) → IsBare start w rec (retired_files x) → IsBare start final after (files_of (x.retired.items ++ q ∷ []))
  bare_then start bare =
      subst (λ (l : List (List ℕ)). IsBare start final after l) (sym (flat_last x.retired.items ∙ ap (λ (z : Parts). retired_files x ++ z.names) (q_is b x can is row c s drawn k plan front back q split its_id)))
      (changed_bare rec is its plan.chosen w (slot b x can is row c s drawn k plan front back q split its_id told lens few free) free s plan.bytes plan.handle its_slot kept_slot (retired_files x)
      (mid b x can is row c s drawn k plan front back q split its_id told lens few free commits) (settings b x can is row c s drawn k plan front back q split its_id told lens few free commits)
      (sym (weaver_by its_slot w (slot_was b x can is row c s drawn k plan front back q split its_id told lens few free)))
      (touch_mid b x can is row c s drawn k plan front back q split its_id told lens few free commits) start bare)

  -- ---- the books

  dead_same : dead_users rec.armed final.cell ≡ dead_users rec.armed w.cell
  dead_same = by rec.armed refl
    where
      by : (armed : Option Arming) → rec.armed ≡ armed → dead_users armed final.cell ≡ dead_users armed w.cell
      by None none = refl
      by (Some z) some = ap (dead_users (Some z))
          ((same_fin b x can is row c s drawn k plan front back q split its_id told lens few free commits).cell z some
          ∙ (same b x can is row c s drawn k plan front back q split its_id told lens few free).cell z some)

  kept_now : st.books.kept + 1 ≡ k.commit.to.settled.sequence
  kept_now = ap (λ (z : Books). z.kept + 1) a.books_are ∙ sym plan.commit.below

  dead_now : st.books.dead ≡ dead_users k.commit.to.settled.rec.armed seen.cell
  dead_now = ap (λ (z : Books). z.dead) a.books_are ∙ (sym dead_same ∙ sym (λ i. dead_users (plan.next i).armed (seen_is i).cell))

  -- ---- where it leads

  abbrev pub target : Turned
  target = record { reply = Fine; stage = record { state = credential_changed st user c drawn; moments = w.moments; noise = w.noise } }

  abbrev target' : Turned
  target' = record { reply = Fine; stage = record { state = committed (with_users st (changed st.vault.users user change)); moments = w.moments; noise = w.noise } }

  target_is : target' ≡ target
  target_is = ap (λ (l : List User). record { reply = Fine; stage = record { state = committed (with_users st l); moments = w.moments; noise = w.noise } }) (sym users_are)

  leads_there : LeadsTo w y names (x.retired.items ++ q ∷ []) (plain (exchange_of k q)) st target'
  leads_there = record {
    reply = refl;
    keeps = subst IsRecord (sym plan.next) (next_is rec is its plan.chosen);
    readies = record {
      holds = subst (λ (v : World). Holds v k.commit.to.settled.rec vault) (sym (staged_is b x can is row c s drawn k plan front back q split its_id told lens few free))
          (subst (λ (z : Rec). Holds last z vault) (sym plan.next) holds_then);
      untouched = subst (λ (v : World). NamedAreUntouched v k.commit.to.settled.rec) (sym (staged_is b x can is row c s drawn k plan front back q split its_id told lens few free))
          (end_untouched rec is its plan.chosen w (slot b x can is row c s drawn k plan front back q split its_id told lens few free) free s plan.bytes plan.handle k.commit.to.settled.rec);
    };
    session = session_same ∙ a.session;
    books_are = λ i. record { kept = kept_now i; dead = dead_now i };
    moments = refl;
    noise = refl;
    opened = subst (HaveSecrets vault.users) (sym ready.opened) opened_then;
    metrics = subst (HaveMetrics vault.users) (sym ready.opened) metrics_then;
    captured = subst (HaveSecrets vault.users) (sym ready.captured) (secrets_then x.captured.items a.captured);
    are_named = subst (λ (v : World). AreNamed v k.commit.to.settled.rec names) (sym seen_is) (subst (λ (z : Rec). AreNamed final z names) (sym plan.next) named_then);
    are_retired = retired_unnamed b x can is row c s drawn k plan front back q split its_id told lens few free commits;
    prepared = λ flag not_last. ap (λ (z : Rec). z.armed) plan.next ∙ a.prepared (sym ready.prepared ∙ flag) fresh_sequence;
    bare = λ start bare. subst (λ (v : World). IsBare start v k.commit.to.settled.rec (files_of (x.retired.items ++ q ∷ []))) (sym seen_is)
        (subst (λ (z : Rec). IsBare start final z (files_of (x.retired.items ++ q ∷ []))) (sym plan.next)
        (bare_then start
        (subst (λ (l : Loaded). IsBare start w l.settled.rec (retired_files x)) ready.settings
        (subst (λ (l : List Parts). IsBare start w y.settings.settled.rec (files_of l)) ready.retired bare))));
  }

  pub leads : LeadsTo w y names (x.retired.items ++ q ∷ []) (plain (exchange_of k q)) st target
  leads = subst (λ (t : Turned). LeadsTo w y names (x.retired.items ++ q ∷ []) (plain (exchange_of k q)) st t) target_is leads_there
