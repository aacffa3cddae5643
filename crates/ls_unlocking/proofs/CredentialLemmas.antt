-- A credential is tried in a world that stands for a vault: which device is asked, and the vault behind it.
use Rattle.std.proofs.Common.{◌≡◌, ◌≢◌, ◌<◌, ◌^◌, ◌⊎◌, inl, inr, not, ℕ, Bool, true, false, cond, List, Option, None, Some, Result, Ok, refl, sym, ◌∙◌, ap, subst}
use Rattle.std.specs.Prelude.{is_some, nat_lt, bytes_eq, slice_get, IsSome, IsSomeAnd, MatchBool, MatchOption, map}
use Rattle.std.specs.List.{Contains}
use Rattle.std.specs.Option.{option_and_then}
use Rattle.std.proofs.lemmas.Slice.Eq.{bytes_eq-Decides}
use Rattle.ls_board.specs.declared.action.Action.{Action}
use Rattle.ls_board.specs.declared.action.Action.TheVariants.{WeaverRead, GkVerify}
use Rattle.ls_board.specs.declared.devices.Counter.{Counter}
use Rattle.ls_board.specs.declared.world.World.{World}
use Rattle.ls_board.specs.Effect.{after, file_at}
use Rattle.ls_board.specs.Gatekeeper.{is_signed, no_fails, record_at, counter_after}
use Rattle.ls_chain.specs.declared.fault.Spot.{Spot}
use Rattle.ls_chain.specs.declared.offered.Offered.{Offered}
use Rattle.ls_chain.specs.Attempting.{attempt_asked, device_asked, handle_asked}
use Rattle.ls_chain.specs.Linked.{stored_handle, offered_to}
use Rattle.ls_chain.specs.Links.{Links, links_at}
use Rattle.ls_chain.specs.Offers.{offer_chain}
use Rattle.ls_chain.specs.Trying.{asked_of}
use Rattle.ls_chain.proofs.HeldLinkLemmas.{offer_linked}
use Rattle.ls_chain.proofs.OfferSealLemmas.{offered_text}
use Rattle.ls_chain.proofs.SealedEndLemmas.{same_test}
use Rattle.ls_credential.specs.declared.kind.Kind.{Kind}
use Rattle.ls_credential.specs.declared.kind.Kind.TheVariants.{Empty, Pattern, Pin, Password}
use Rattle.ls_credential.specs.Rules.{KindAndText}
use Rattle.ls_formats.specs.declared.part.FilePart.TheVariants.{Pwd, Weaver}
use Rattle.ls_formats.specs.Contents.{pwd_of}
use Rattle.ls_naming.specs.Current.{Settled}
use Rattle.ls_naming.specs.Named.{NamesEnrolled}
use Rattle.ls_record.specs.declared.row.UserRow.{UserRow}
use Rattle.ls_record.specs.Rows.{IsRecord}
use Rattle.ls_sealing.specs.Apart.{IsApart}
use Rattle.ls_sealing.specs.Chain.{stretched, weaver_key, gatekeeper_password}
use Rattle.ls_sealing.specs.Protectors.{Protector, Held, credential, held, held_number, has_part, has_weaver, is_enrolled, where_it_has, file_name, slot_number, slot_failures, record_failures}
use Rattle.ls_sealing.specs.Seals.{Seals, IsPwdFile, IsHandleOf}
use Rattle.ls_sealing.proofs.DeviceLemmas.{slot_knows, handle_names, handle_knows}
use Rattle.ls_sealing.proofs.MatchLemmas.{equal_or}
use Rattle.ls_standing.specs.Asking.{counted, with_failures}
use Rattle.ls_standing.specs.Named.{credential_of, token_of}
use Rattle.ls_standing.specs.NamedProtectors.{row_protectors, NamesProtector}
use Rattle.ls_standing.specs.Standing.{StandsDurably}
use Rattle.ls_standing.proofs.AskingLemmas.{reading_stands, check_stands}
use Rattle.ls_standing.proofs.ContainsLemmas.{at_first, in_flat}
use Rattle.ls_standing.proofs.IdLemmas.{is_row}
use Rattle.ls_standing.proofs.NamedLemmas.{credential_enrolled}
use Rattle.ls_standing.proofs.ProtectorLemmas.{named}
use Rattle.ls_vault.specs.declared.user.User.{User}
use Rattle.ls_vault.specs.declared.vault.Vault.{Vault}
use Rattle.ls_vault.specs.Users.{changed, user_of}
use Rattle.ls_weaver.specs.declared.slot.Slot.{Slot}
use Rattle.ls_weaver.specs.Slots.{same_key, slot_after, written}
use Rattle.ls_weaver.specs.Throttle.{more_fails, rest_until}
use Rattle.ls_users.proofs.UserLemmas.{same_changed}
use Rattle.ls_attempts.specs.StandingRows.{HoldsRow, failures_of}
use Rattle.ls_attempts.proofs.RowLemmas.{protector_form}
use Rattle.ls_unlocking.proofs.LeadLemmas.{Leads, leads_none, leads_one}

-- ---- what is decided in two ways

of_some : {X : Type 0} (o : Option X) (x : X) (P : X → Type 0) → o ≡ Some x → IsSomeAnd o P → P x
of_some {X} o x P is holds = subst (λ (y : Option X). IsSomeAnd y P) is holds

of_file : {X : Type 0} (o : Option X) (x : X) (A : Type 0) (P : X → Type 0) → o ≡ Some x → MatchOption o A P → P x
of_file {X} o x A P is holds = subst (λ (y : Option X). MatchOption y A P) is holds

of_none : {X : Type 0} (o : Option X) (A : Type 0) (P : X → Type 0) → o ≡ None → MatchOption o A P → A
of_none {X} o A P is holds = subst (λ (y : Option X). MatchOption y A P) is holds

by_true : (b : Bool) (A B : Type 0) → b ≡ true → MatchBool b A B → A
by_true true A B e h = h
by_true false A B e h = absurd (let wrong : false ≡ true = e in cc)

given_by : {X : Type 0} (b : Bool) (o : Option X) (x : X) → where_it_has b o ≡ Some x → (b ≡ true) × (o ≡ Some x)
given_by true o x is = (refl, is)
given_by false o x is = absurd (cc)

no_slot_part : (kind : Kind) → has_part false (credential kind) Weaver ≡ false
no_slot_part Empty = refl
no_slot_part Pattern = refl
no_slot_part Pin = refl
no_slot_part Password = refl

either : (b : Bool) (k : Counter) → cond b k k ≡ k
either true k = refl
either false k = refl

-- ---- counts

abbrev slot_counter : Slot → Counter
slot_counter slot = record { fails = slot.fails; until = slot.until }

-- a slot counts as the Gatekeeper does
slot_count : (slot : Slot) (key : List ℕ) (moment : ℕ) → slot_counter (slot_after slot key moment) ≡ counter_after (slot_counter slot) (same_key slot.key key) moment
slot_count slot key moment = by (nat_lt moment slot.until) (same_key slot.key key)
  where
    by : (rests right : Bool)
        → slot_counter (cond rests slot (cond right (written slot.key slot.value) (record slot { fails = more_fails slot.fails; until = rest_until moment (more_fails slot.fails) })))
        ≡ cond rests (slot_counter slot) (cond right no_fails (record { fails = more_fails slot.fails; until = rest_until moment (more_fails slot.fails) }))
    by true right = refl
    by false true = refl
    by false false = refl

module _ (w : World) (s : Settled) (v : Vault) (row : UserRow) (u : User) (d : KindAndText) (moment : ℕ) (is : IsRecord s.rec) (stands : StandsDurably w s v) (here : Contains s.rec.users row)
    (holds : HoldsRow w s.rec row u) (found : user_of v.users row.user ≡ Some u) (apart_is : IsApart row.protector (held w (credential_of row)) u.credential d) (kind : d.kind ≡ row.kind) where
  -- the credential, with the kind that the row says
  abbrev c : KindAndText
  c = record { kind = row.kind; text = u.credential.text }

  abbrev p : Protector
  p = credential_of row

  abbrev h : Held
  h = held w p

  abbrev l : Links
  l = links_at w row.user row.protector

  abbrev text : List ℕ
  text = stretched (h.files Pwd) d.text

  abbrev right : Bool
  right = bytes_eq d.text u.credential.text

  -- the failures then
  abbrev pub count : Counter
  count = counter_after (failures_of u) right moment

  abbrev then : Vault
  then = counted v row.user count

  same : u.credential ≡ c
  same = λ i. record { kind = sym holds.holds.says.kind i; text = u.credential.text }

  seals : Seals row.protector h c u.secret
  seals = subst (λ (c : KindAndText). Seals row.protector h c u.secret) same holds.holds.seals

  apart : IsApart row.protector h c d
  apart = subst (λ (c : KindAndText). IsApart row.protector h c d) same apart_is

  own : Contains (row_protectors row) p
  own = at_first p (map (token_of row) row.tokens)

  is_named : NamesProtector s.rec p
  is_named = in_flat row_protectors s.rec.users row p here own

  hit : right ≡ true → d.text ≡ c.text
  hit = (bytes_eq-Decides d.text c.text).0

  hits : d.text ≡ c.text → right ≡ true
  hits = (bytes_eq-Decides d.text c.text).1

  offered : (b : Bool) → h.weaver ≡ b → offer_chain l b row.kind d.text ≡ Ok (offered_to h d.text)
  offered b weaver =
      ap (λ (b : Bool). offer_chain l b row.kind d.text) (sym weaver)
      ∙ offered_text row.protector h c u.secret l seals
      (offer_linked w row.user row.protector c u.secret seals (protector_form w s.rec row u holds p own Pwd) (protector_form w s.rec row u holds p own Weaver)) d.text

  abbrev asked : Option ℕ → Option Action
  asked o = attempt_asked row.user row.protector (is_some o) o row.kind d.text moment w

  abbrev Tries : Option Action → Type 0
  Tries a = Leads w s v then a

  -- ---- with Weaver

  module _ (weaver : h.weaver ≡ true) where
    abbrev HasKey : Option Slot → Type 0
    HasKey o = IsSomeAnd o (λ slot. slot.key ≡ weaver_key (stretched (h.files Pwd) c.text))

    accepts : HasKey h.slot
    accepts = by_true h.weaver (HasKey h.slot) _ weaver seals.accepts

    slot_asked : (n : ℕ) (slot : Slot) → Some n ≡ held_number w p → slice_get w.slots n ≡ Some slot → Tries (asked (Some n))
    slot_asked n slot number there =
        let its : h.slot ≡ Some slot = ap (option_and_then (slice_get w.slots)) (sym number) ∙ there in
        let knows = slot_knows row.protector h c d u.secret seals apart kind slot weaver its in
        let test : same_key slot.key (weaver_key text) ≡ right = same_test (same_key slot.key (weaver_key text)) right (λ e. hits (knows.0 e)) (λ e. knows.1 (hit e)) in
        let fails : slot_counter slot ≡ failures_of u =
        sym (ap (λ (b : Bool). cond b (slot_failures h.slot) (record_failures h.counter)) weaver ∙ ap slot_failures its) ∙ holds.holds.counted in
        let counts : slot_counter (slot_after slot (weaver_key text) moment) ≡ count =
        slot_count slot (weaver_key text) moment
        ∙ ap (λ (k : Counter). counter_after k (same_key slot.key (weaver_key text)) moment) fails
        ∙ ap (λ (b : Bool). counter_after (failures_of u) b moment) test in
        let a = WeaverRead n (weaver_key text) moment in
        let is_asked : Some a ≡ asked (Some n) = sym (ap (λ (x : Result Offered Spot). asked_of x (device_asked (Some n) moment)) (offered true weaver)) in
        let then_stands : StandsDurably (after w a 0) s then = subst (λ (k : Counter). StandsDurably (after w a 0) s (counted v row.user k)) counts
        (reading_stands w s v row is stands here n slot (weaver_key text) moment (sym number) there) in
        subst Tries is_asked (leads_one w s v stands then a is tt then_stands (named w s.rec p n is_named (sym number)))

    slot_there : (n : ℕ) (x : Option Slot) → Some n ≡ held_number w p → slice_get w.slots n ≡ x → Tries (asked (Some n))
    slot_there n None number none = absurd (subst HasKey (ap (option_and_then (slice_get w.slots)) (sym number) ∙ none) accepts)
    slot_there n (Some slot) number there = slot_asked n slot number there

    with_weaver : (o : Option ℕ) → o ≡ held_number w p → Tries (asked o)
    with_weaver None number = absurd (subst HasKey (ap (option_and_then (slice_get w.slots)) (sym number)) accepts)
    with_weaver (Some n) number = slot_there n (slice_get w.slots n) number refl

  -- ---- without it

  module _ (plain : h.weaver ≡ false) where
    unnumbered : held_number w p ≡ None
    unnumbered =
        ap (λ (b : Bool). option_and_then slot_number (where_it_has (has_part b (credential row.kind) Weaver) (file_at w (file_name p Weaver)))) plain
        ∙ ap (λ (b : Bool). option_and_then slot_number (where_it_has b (file_at w (file_name p Weaver)))) (no_slot_part row.kind)

    fails : record_failures h.counter ≡ failures_of u
    fails = sym (ap (λ (b : Bool). cond b (slot_failures h.slot) (record_failures h.counter)) plain) ∙ holds.holds.counted

    abbrev Stored : Option (List ℕ) → Type 0
    Stored handle = Tries (handle_asked handle text moment)

    -- no credential: no device is asked, and there are no failures
    unasked : h.files Pwd ≡ None → Stored None
    unasked none =
        let empty : row.kind ≡ Empty = of_none (h.files Pwd) (c.kind ≡ Empty) (IsPwdFile h.weaver c.kind) none seals.kind in
        let same_text : d.text ≡ c.text = equal (equal_or d.text c.text) in
        let counter : h.counter ≡ None = ap (λ (b : Bool). where_it_has (is_enrolled b (credential row.kind)) (record_at w.gk row.protector)) plain
        ∙ ap (λ (k : Kind). where_it_has (is_enrolled false (credential k)) (record_at w.gk row.protector)) empty in
        let zero : no_fails ≡ failures_of u = sym (ap record_failures counter) ∙ fails in
        let stays : count ≡ failures_of u =
        ap (λ (k : Counter). counter_after k right moment) (sym zero)
        ∙ ap (λ (b : Bool). counter_after no_fails b moment) (hits same_text)
        ∙ either (nat_lt moment 0) no_fails
        ∙ zero in
        let users : changed v.users row.user (with_failures count) ≡ v.users =
        same_changed v.users row.user u (with_failures count) found (ap (λ (k : Counter). with_failures k u) stays) in
        subst (λ (x : Vault). Leads w s v x None) (sym (ap (λ (l : List User). record v { users = l }) users)) (leads_none w s v stands)
      where
        refuses : d.text ≢ c.text → ⊥
        refuses other = of_none (h.files Pwd) ⊥ (λ file. IsSomeAnd (pwd_of file).handle (λ handle. ¬ IsHandleOf h.device row.protector text handle)) none
            (subst (λ (b : Bool). MatchBool b (IsSomeAnd h.slot (λ slot. slot.key ≢ weaver_key text)) (MatchOption (h.files Pwd) ⊥ (λ file. IsSomeAnd (pwd_of file).handle (λ handle. ¬ IsHandleOf h.device row.protector text handle)))) plain (apart kind other))

        equal : (d.text ≡ c.text) ⊎ (d.text ≢ c.text) → d.text ≡ c.text
        equal (inl e) = e
        equal (inr other) = absurd (refuses other)

    module _ (file : List ℕ) (there : h.files Pwd ≡ Some file) where
      is_file : IsPwdFile h.weaver c.kind file
      is_file = of_file (h.files Pwd) file (c.kind ≡ Empty) (IsPwdFile h.weaver c.kind) there seals.kind

      accepted : IsSome h.counter
      accepted = (of_file (h.files Pwd) file (Unit {0}) (λ f. IsSome h.counter × IsSomeAnd (pwd_of f).handle (IsHandleOf h.device row.protector (stretched (h.files Pwd) c.text))) there
          (subst (λ (b : Bool). MatchBool b (IsSomeAnd h.slot (λ slot. slot.key ≡ weaver_key (stretched (h.files Pwd) c.text))) (MatchOption (h.files Pwd) (Unit {0}) (λ f. IsSome h.counter × IsSomeAnd (pwd_of f).handle (IsHandleOf h.device row.protector (stretched (h.files Pwd) c.text))))) plain seals.accepts)).0

      handle_tried : (handle : List ℕ) → (pwd_of file).handle ≡ Some handle → (k : Counter) → h.counter ≡ Some k → Stored (Some handle)
      handle_tried handle has k its =
          let at = given_by (is_enrolled (has_weaver w) (credential row.kind)) (record_at w.gk row.protector) k its in
          let small : row.protector < 2 ^ 64 = (is_row s.rec is row here).protector.1 in
          let names = handle_names row.protector h c d u.secret seals apart kind file handle small plain there has in
          let knows = handle_knows row.protector h c d u.secret seals apart kind file handle small plain there has in
          let signs = is_signed w.gk_key handle (gatekeeper_password text) in
          let test : signs ≡ right = same_test signs right (λ e. hits (knows.0 e)) (λ e. knows.1 (hit e)) in
          let was : k ≡ failures_of u = sym (ap record_failures its) ∙ fails in
          let counts : counter_after k signs moment ≡ count =
          ap (λ (k : Counter). counter_after k signs moment) was ∙ ap (λ (b : Bool). counter_after (failures_of u) b moment) test in
          let a = GkVerify handle (gatekeeper_password text) moment in
          let then_stands : StandsDurably (after w a 0) s then = subst (λ (k : Counter). StandsDurably (after w a 0) s (counted v row.user k)) counts
          (check_stands w s v row is stands here handle (gatekeeper_password text) moment k at.0 names.0 names.1 at.1) in
          leads_one w s v stands then a is tt then_stands
          (subst (λ (n : ℕ). NamesEnrolled (has_weaver w) s.rec n) (sym names.1) (credential_enrolled (has_weaver w) s.rec row here at.0))

      by_counter : (handle : List ℕ) → (pwd_of file).handle ≡ Some handle → (o : Option Counter) → h.counter ≡ o → Stored (Some handle)
      by_counter handle has None none = absurd (let wrong : false ≡ true = subst (λ (o : Option Counter). IsSome o) none accepted in cc)
      by_counter handle has (Some k) its = handle_tried handle has k its

      by_handle : (o : Option (List ℕ)) → (pwd_of file).handle ≡ o → Stored o
      by_handle None none = absurd (let wrong : false ≡ true = sym (ap is_some none) ∙ is_file.handle ∙ ap not plain in cc)
      by_handle (Some handle) has = by_counter handle has h.counter refl

    by_file : (o : Option (List ℕ)) → h.files Pwd ≡ o → Stored (stored_handle o)
    by_file None none = unasked none
    by_file (Some file) there = by_handle file there (pwd_of file).handle refl

    without : (o : Option ℕ) → o ≡ held_number w p → Tries (asked o)
    without o number =
        subst Tries
        (sym (ap asked (number ∙ unnumbered) ∙ ap (λ (x : Result Offered Spot). asked_of x (device_asked None moment)) (offered false plain)))
        (by_file (h.files Pwd) refl)

  -- the device counts for the user
  pub credential_leads : (o : Option ℕ) → o ≡ held_number w p → Leads w s v then (asked o)
  credential_leads o number = by h.weaver refl
    where
      by : (b : Bool) → h.weaver ≡ b → Tries (asked o)
      by true weaver = with_weaver weaver o number
      by false plain = without plain o number
