-- What the asking of a user's devices leaves of what a world stands for.
use Rattle.std.proofs.Common.{◌≡◌, ◌≢◌, ◌≤◌, ◌⊎◌, inl, inr, ⊎_elim, ℕ, not, Bool, true, false, cond, List, [], ◌∷◌, length, map, None, Some, refl, sym, ap, subst, ◌∙◌, arith}
use Rattle.std.specs.Prelude.{MatchBool, nat_lt, slice_get, ◌==◌}
use Rattle.std.specs.List.{AllZip, Contains}
use Rattle.std.specs.Option.{option_and_then}
use Rattle.std.proofs.Math.Dec.{eqb}
use Rattle.std.proofs.lemmas.Bool.{and_parts, not-true, ltb-false}
use Rattle.std.proofs.lemmas.Option.{slice_get_past}
use Rattle.ls_credential.specs.declared.kind.Kind.{Kind}
use Rattle.ls_credential.specs.declared.kind.Kind.TheVariants.{Empty, Pattern, Pin, Password}
use Rattle.ls_record.specs.declared.row.UserRow.{UserRow}
use Rattle.ls_record.specs.Rows.{Rec, IsRecord, IsBefore, Pairs, is_secure_id, is_odd}
use Rattle.ls_formats.specs.PartNames.{part_name_text, settings_text}
use Rattle.ls_naming.specs.Named.{has_credential, has_secure, NamesFile}
use Rattle.ls_naming.specs.Current.{Settled}
use Rattle.ls_naming.proofs.MembershipLemmas.{numbers_decide}
use Rattle.ls_board.specs.declared.action.Action.{Action}
use Rattle.ls_board.specs.declared.action.Action.TheVariants.{WeaverRead, GkVerify}
use Rattle.ls_board.specs.declared.devices.Counter.{Counter}
use Rattle.ls_board.specs.declared.world.World.{World}
use Rattle.ls_board.specs.Effect.{file_at, touch_at, after}
use Rattle.ls_board.specs.Gatekeeper.{version_of, sid_of, is_signed, record_at, counter_after}
use Rattle.ls_board.specs.Images.{Leaves, DeviceWithin, LeavesWithin}
use Rattle.ls_board.specs.Reach.{SameBut}
use Rattle.ls_board.proofs.FrameLemmas.{same_within}
use Rattle.ls_weaver.specs.declared.slot.Slot.{Slot}
use Rattle.ls_weaver.specs.Slots.{slot_after}
use Rattle.ls_vault.specs.declared.user.User.{User}
use Rattle.ls_vault.specs.declared.vault.Vault.{Vault}
use Rattle.ls_vault.specs.Users.{changed}
use Rattle.ls_sealing.specs.Protectors.{Protector, credential, token, Held, held, held_number, has_weaver, is_enrolled, failures}
use Rattle.ls_sealing.specs.Readings.{after_reading, with_record}
use Rattle.ls_sealing.specs.Seals.{Seals, ShowsMetrics}
use Rattle.ls_sealing.specs.Sparing.{reach_of}
use Rattle.ls_sealing.proofs.HeldLemmas.{held_but}
use Rattle.ls_sealing.proofs.ReadingLemmas.{held_after_reading, held_after_check, reading_kept, record_kept}
use Rattle.ls_standing.specs.Asking.{with_failures, counted, IsAsking}
use Rattle.ls_standing.specs.Named.{credential_of, token_of, UserHeld, RowHeld, held_of_user, held_of_row}
use Rattle.ls_standing.specs.NamedProtectors.{row_protectors, NamesProtector}
use Rattle.ls_standing.specs.Opening.{first_foreign}
use Rattle.ls_standing.specs.Same.{SameSettings}
use Rattle.ls_standing.specs.Standing.{HoldsEscrow, HoldsUser, kept_arming, StandsDurably}
use Rattle.ls_standing.proofs.ContainsLemmas.{at_first, behind_first, in_map, in_flat}
use Rattle.ls_standing.proofs.FrameLemmas.{where_same, map_same, foreign_by, current_same, target_same}
use Rattle.ls_standing.proofs.IdLemmas.{even_not_odd, is_row}
use Rattle.ls_standing.proofs.PairLemmas.{each_in, pair_cases}
use Rattle.ls_standing.proofs.ProtectorLemmas.{spared}
use Rattle.ls_standing.proofs.QuietLemmas.{durably_left}

-- ---- one user

escrow_counted : (h : UserHeld) (sealings : List Held) (u : User) (c : Counter) (b : Bool) (P : Type 0) → MatchBool b (HoldsEscrow h sealings u) P → MatchBool b (HoldsEscrow h sealings (with_failures c u)) P
escrow_counted h sealings u c true P holds = record { p0 = holds.p0; e0 = holds.e0; whole = holds.whole; tokens = holds.tokens }
escrow_counted h sealings u c false P holds = holds

-- the user's failures are those of the protector as it is held now
user_counted : (row : UserRow) (h : RowHeld) (u : User) (now : Held) (c : Counter) → HoldsUser row h u → Seals row.protector now u.credential u.secret
    → failures now ≡ c → ShowsMetrics now u.credential u.secret → HoldsUser row (record h { credential = now }) (with_failures c u)
user_counted row h u now c holds seals counts metrics = record {
  says = record {
    number = holds.says.number;
    kind = holds.says.kind;
    rule = holds.says.rule;
    escrow = holds.says.escrow;
    auto = holds.says.auto;
    pin = holds.says.pin;
    secure = holds.says.secure;
    tokens = holds.says.tokens;
  };
  seals = seals;
  counted = counts;
  metrics = metrics;
  escrow = escrow_counted h.user h.tokens u c u.escrow (u.tokens ≡ []) holds.escrow;
  handle = λ some. let was = holds.handle some in record { handle = was.handle; counter = was.counter };
  resume = holds.resume;
}

-- ---- all users

module _ (r : Rec) (is : IsRecord r) (row : UserRow) (here : Contains r.users row) where
  same_row : (other : UserRow) → Contains r.users other → other.user ≡ row.user → other ≡ row
  same_row other there same = by (pair_cases IsBefore r.users is.pairs other row there here)
    where
      by : (other ≡ row) ⊎ (IsBefore other row ⊎ IsBefore row other) → other ≡ row
      by (inl e) = e
      by (inr (inl before)) = let less = before.user in let none : ⊥ = omega (arith, less, same) in absurd none
      by (inr (inr before)) = let less = before.user in let none : ⊥ = omega (arith, less, same) in absurd none

  module _ (w new : World) (c : Counter)
      (others : (other : UserRow) → Contains r.users other → other.user ≢ row.user → held_of_row new r.armed other ≡ held_of_row w r.armed other)
      (own : (u : User) → HoldsUser row (held_of_row w r.armed row) u → HoldsUser row (held_of_row new r.armed row) (with_failures c u)) where
    abbrev Was : UserRow → User → Type 0
    Was other u = HoldsUser other (held_of_row w r.armed other) u

    abbrev Is : UserRow → User → Type 0
    Is other u = HoldsUser other (held_of_row new r.armed other) u

    other_is : (other : UserRow) (u : User) → Contains r.users other → other.user ≢ row.user → Was other u → Is other u
    other_is other u there apart was = subst (λ h. HoldsUser other h u) (sym (others other there apart)) was

    rest_is : (rows : List UserRow) (users : List User) → ((other : UserRow) → Contains rows other → Contains r.users other × (other.user ≢ row.user))
        → AllZip Was rows users → AllZip Is rows users
    rest_is [] [] there all = tt
    rest_is [] (u ∷ users) there all = absurd all
    rest_is (other ∷ rows) [] there all = absurd all
    rest_is (other ∷ rows) (u ∷ users) there all =
        let at = there other (at_first other rows) in
        (other_is other u at.0 at.1 all.0, rest_is rows users (λ x within. there x (behind_first other rows x within)) all.1)

    first_is : (b : Bool) (other : UserRow) (rows : List UserRow) (u : User) (users : List User) → MatchBool b (u.number ≡ row.user) (u.number ≢ row.user)
        → Contains r.users other → ((x : UserRow) → Contains rows x → Contains r.users x × IsBefore other x) → Was other u → AllZip Was rows users
        → AllZip Is rows (changed users row.user (with_failures c))
        → AllZip Is (other ∷ rows) (cond b (with_failures c u ∷ users) (u ∷ changed users row.user (with_failures c)))
    first_is true other rows u users same there later was all rest =
        let user : other.user ≡ row.user = was.says.number ∙ same in
        let one = same_row other there user in
        let changed_now : Is row (with_failures c u) = own u (subst (λ x. Was x u) one was) in (
          subst (λ x. Is x (with_failures c u)) (sym one) changed_now,
          rest_is rows users (λ x within. let at = later x within in let less = at.1.user in (at.0, λ e. omega (arith, less, e, user))) all,
        )
    first_is false other rows u users apart there later was all rest = (other_is other u there (λ e. apart (sym was.says.number ∙ e)) was, rest)

    users_are : (rows : List UserRow) (users : List User) → ((x : UserRow) → Contains rows x → Contains r.users x) → Pairs IsBefore rows
        → AllZip Was rows users → AllZip Is rows (changed users row.user (with_failures c))
    users_are [] [] there pairs all = tt
    users_are [] (u ∷ users) there pairs all = absurd all
    users_are (other ∷ rows) [] there pairs all = absurd all
    users_are (other ∷ rows) (u ∷ users) there pairs all =
        first_is (eqb u.number row.user) other rows u users (numbers_decide u.number row.user) (there other (at_first other rows))
        (λ x within. (there x (behind_first other rows x within), each_in (IsBefore other) rows x pairs.0 within)) all.0 all.1
        (users_are rows users (λ x within. there x (behind_first other rows x within)) pairs.1 all.1)

-- ---- what the device's call leaves of the others

no_token : (kind : Kind) → credential kind ≡ token → ⊥
no_token kind e = absurd (cc)

module _ (r : Rec) (is : IsRecord r) (row : UserRow) (here : Contains r.users row) (w new : World) (fine : first_foreign w r ≡ None)
    (same : SameBut (reach_of (credential_of row) (held_number w (credential_of row))) w new)
    (users : (other : UserRow) → Contains r.users other → held_of_user new r.armed other ≡ held_of_user w r.armed other) where
  credential_named : (other : UserRow) → Contains r.users other → NamesProtector r (credential_of other)
  credential_named other there =
      in_flat row_protectors r.users other (credential_of other) there (at_first (credential_of other) (map (token_of other) other.tokens))

  token_named : (other : UserRow) → Contains r.users other → (id : ℕ) → Contains other.tokens id → NamesProtector r (token_of other id)
  token_named other there id within =
      in_flat row_protectors r.users other (token_of other id) there
      (behind_first (credential_of other) (map (token_of other) other.tokens) (token_of other id) (in_map (token_of other) other.tokens id within))

  held_other : (q : Protector) → NamesProtector r q → credential_of row ≢ q → held new q ≡ held w q
  held_other q named apart =
      let p = credential_of row in
      held_but q (reach_of p (held_number w p)) w new (spared w r fine is p q (credential_named row here) named apart) same

  tokens_same : (other : UserRow) → Contains r.users other → map (λ id. held new (token_of other id)) other.tokens ≡ map (λ id. held w (token_of other id)) other.tokens
  tokens_same other there =
      map_same (λ id. held new (token_of other id)) (λ id. held w (token_of other id)) other.tokens
      (λ id within. held_other (token_of other id) (token_named other there id within)
      (λ e. no_token row.kind (ap (λ (p : Protector). p.purpose) e)))

  others_same : (other : UserRow) → Contains r.users other → other.user ≢ row.user → held_of_row new r.armed other ≡ held_of_row w r.armed other
  others_same other there apart =
      let user = users other there in
      let own = held_other (credential_of other) (credential_named other there) (λ e. apart (ap (λ (p : Protector). p.user) (sym e))) in
      let tokens = tokens_same other there in
      λ i. record { user = user i; credential = own i; tokens = tokens i }

  own_is : (now : Held) → held new (credential_of row) ≡ now → held_of_row new r.armed row ≡ record (held_of_row w r.armed row) { credential = now }
  own_is now held_now =
      let user = users row here in
      let tokens = tokens_same row here in
      λ i. record { user = user i; credential = held_now i; tokens = tokens i }

  pub asked_users : (now : Held) (c : Counter) (us : List User) → held new (credential_of row) ≡ now → failures now ≡ c
      → ((u : User) → HoldsUser row (held_of_row w r.armed row) u → Seals row.protector now u.credential u.secret)
      → ((u : User) → HoldsUser row (held_of_row w r.armed row) u → ShowsMetrics now u.credential u.secret)
      → AllZip (λ other u. HoldsUser other (held_of_row w r.armed other) u) r.users us
      → AllZip (λ other u. HoldsUser other (held_of_row new r.armed other) u) r.users (changed us row.user (with_failures c))
  asked_users now c us held_now counts seals metrics all =
      users_are r is row here w new c others_same
      (λ u was. subst (λ h. HoldsUser row h (with_failures c u)) (sym (own_is now held_now))
      (user_counted row (held_of_row w r.armed row) u now c was (seals u was) counts (metrics u was)))
      r.users us (λ x within. within) is.pairs all

-- ---- the world

module _ (w new : World) (s : Settled) (v : Vault) (stands : StandsDurably w s v) (count : length new.slots ≡ length w.slots)
    (file : (n : List ℕ) → file_at new n ≡ file_at w n) (touch : (n : List ℕ) → touch_at new n ≡ touch_at w n) (cell : new.cell ≡ w.cell) where
  settings_same : SameSettings w new
  settings_same = record { file = λ side. file (settings_text side); touch = λ side none. touch (settings_text side) ∙ none }

  asked_stands : (us : List User) → AllZip (λ other u. HoldsUser other (held_of_row new s.rec.armed other) u) s.rec.users us → StandsDurably new s (record v { users = us })
  asked_stands us all = record {
    stands = record {
      settings = current_same w new settings_same ∙ stands.stands.settings;
      target = target_same w new settings_same s.side stands.stands.target;
      holds = record {
        users = all;
        files = foreign_by s.rec w new count (λ name named. file (part_name_text name)) ∙ stands.stands.holds.files;
        arming = stands.stands.holds.arming ∙ ap (kept_arming s.rec.armed) (sym cell);
      };
    };
    settings = λ side. touch (settings_text side) ∙ stands.settings side;
    named = λ name named. touch (part_name_text name) ∙ stands.named name (subst (λ (b : Bool). NamesFile b s.rec name) (ap (nat_lt 0) count) named);
  }

-- ---- a user's secure id is no id of a protector

secure_is_odd : (kind : Kind) (id : ℕ) → is_secure_id kind id ≡ true → not (id == 0) ≡ true → is_odd id ≡ true
secure_is_odd Empty id zero some = let bad : true ≡ false = sym zero ∙ not-true (id == 0) some in absurd (cc)
secure_is_odd Pattern id odd some = odd
secure_is_odd Pin id odd some = odd
secure_is_odd Password id odd some = odd

-- ---- a reading of the slot

weaver_there : (slots : List Slot) (n : ℕ) (slot : Slot) → slice_get slots n ≡ Some slot → nat_lt 0 (length slots) ≡ true
weaver_there slots n slot is = by (nat_lt 0 (length slots)) refl
  where
    by : (b : Bool) → nat_lt 0 (length slots) ≡ b → b ≡ true
    by true e = refl
    by false e =
        let none : length slots ≤ 0 = ltb-false 0 (length slots) e in
        let past : slice_get slots n ≡ None = slice_get_past slots n (omega (arith, none)) in
        let bad : None ≡ Some slot = sym past ∙ is in
        absurd (cc)

reading_counts : (h : Held) (slot : Slot) (key : List ℕ) (moment : ℕ) → h.weaver ≡ true
    → failures (after_reading h slot key moment) ≡ record { fails = (slot_after slot key moment).fails; until = (slot_after slot key moment).until }
reading_counts h slot key moment weaver =
    let then = slot_after slot key moment in
    ap (λ (b : Bool). failures (record h { weaver = b; slot = Some then })) weaver

module _ (w : World) (s : Settled) (v : Vault) (row : UserRow) (is : IsRecord s.rec) (stands : StandsDurably w s v) (here : Contains s.rec.users row) where
  pub reading_stands : (n : ℕ) (slot : Slot) (key : List ℕ) (moment : ℕ) → held_number w (credential_of row) ≡ Some n → slice_get w.slots n ≡ Some slot
      → StandsDurably (after w (WeaverRead n key moment) 0) s
      (counted v row.user (record { fails = (slot_after slot key moment).fails; until = (slot_after slot key moment).until }))
  reading_stands n slot key moment number there =
      let p = credential_of row in
      let then = slot_after slot key moment in
      let c : Counter = record { fails = then.fails; until = then.until } in
      let new = after w (WeaverRead n key moment) 0 in
      let now = after_reading (held w p) slot key moment in
      let same = same_within (reach_of p (held_number w p)) w new (WeaverRead n key moment) number (inr refl) in
      let its_slot : (held w p).slot ≡ Some slot = ap (option_and_then (slice_get w.slots)) number ∙ there in
      asked_stands w new s v stands same.count (λ name. refl) (λ name. refl) refl (changed v.users row.user (with_failures c))
      (asked_users s.rec is row here w new stands.stands.holds.files same (λ other within. refl) now c v.users
      (held_after_reading w p n slot key moment number there)
      (reading_counts (held w p) slot key moment (weaver_there w.slots n slot there))
      (λ u was. reading_kept row.protector (held w p) u.credential u.secret slot key moment was.seals its_slot)
      (λ u was. was.metrics) stands.stands.holds.users)

  -- ---- a check of the handle

  secure_apart : (other : UserRow) → Contains s.rec.users other → has_secure other ≡ true → other.secure ≢ row.protector
  secure_apart other within has same =
      even_not_odd row.protector other.secure (is_row s.rec is row here).protector.0
      (secure_is_odd other.kind other.secure (is_row s.rec is other within).secure.0 has) (sym same)

  module _ (handle password : List ℕ) (moment : ℕ) where
    abbrev checked : World
    checked = after w (GkVerify handle password moment) 0

    users_same : SameBut (reach_of (credential_of row) (held_number w (credential_of row))) w checked → (other : UserRow) → Contains s.rec.users other
        → held_of_user checked s.rec.armed other ≡ held_of_user w s.rec.armed other
    users_same same other within =
        let counter = where_same (has_secure other) (record_at checked.gk other.secure) (record_at w.gk other.secure)
        (λ has. same.counter other.secure (secure_apart other within has)) in
        λ i. record (held_of_user w s.rec.armed other) { counter = counter i }

  pub check_stands : (handle password : List ℕ) (moment : ℕ) (counter : Counter) → is_enrolled (has_weaver w) (credential_of row).purpose ≡ true
      → version_of handle ≡ 1 → sid_of handle ≡ row.protector → record_at w.gk row.protector ≡ Some counter
      → StandsDurably (after w (GkVerify handle password moment) 0) s (counted v row.user (counter_after counter (is_signed w.gk_key handle password) moment))
  check_stands handle password moment counter enrolled version sid there =
      let p = credential_of row in
      let c = counter_after counter (is_signed w.gk_key handle password) moment in
      let new = after w (GkVerify handle password moment) 0 in
      let same = same_within (reach_of p (held_number w p)) w new (GkVerify handle password moment) sid (inr refl) in
      let bare = not-true (has_weaver w) (and_parts (not (has_weaver w)) (has_credential row.kind) enrolled).0 in
      asked_stands w new s v stands refl (λ name. refl) (λ name. refl) refl (changed v.users row.user (with_failures c))
      (asked_users s.rec is row here w new stands.stands.holds.files same (users_same handle password moment same) (with_record (held w p) c) c v.users
      (held_after_check w p handle password moment counter enrolled version sid there)
      (ap (λ (b : Bool). failures (record (held w p) { weaver = b; counter = Some c })) bare)
      (λ u was. record_kept row.protector (held w p) u.credential u.secret c was.seals)
      (λ u was. was.metrics) stands.stands.holds.users)

-- ---- images

device_cut : (w image : World) (s : Settled) (u v : Vault) (a : Action) → StandsDurably w s u → StandsDurably (after w a 0) s v
    → (mid : World) → DeviceWithin w a mid → Leaves mid image → StandsDurably image s u ⊎ StandsDurably image s v
device_cut w image s u v a was is mid within left =
    ⊎_elim (λ e. inl (durably_left mid image s u (subst (λ (x : World). StandsDurably x s u) (sym e) was) left))
    (λ e. inr (durably_left mid image s v (subst (λ (x : World). StandsDurably x s v) (sym e) is) left)) within

pub asked_cut : (w image : World) (s : Settled) (u v : Vault) (a : Action) → IsAsking a → StandsDurably w s u → StandsDurably (after w a 0) s v → LeavesWithin w a image
    → StandsDurably image s u ⊎ StandsDurably image s v
asked_cut w image s u v (WeaverRead slot key moment) asks was is left = device_cut w image s u v (WeaverRead slot key moment) was is left.0 left.1 left.2
asked_cut w image s u v (GkVerify handle password moment) asks was is left = device_cut w image s u v (GkVerify handle password moment) was is left.0 left.1 left.2
asked_cut w image s u v a asks was is left = absurd asks
