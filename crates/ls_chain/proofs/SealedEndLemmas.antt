-- How an attempt ends on what is sealed, where nothing matches by chance.
use Rattle.std.proofs.Common.{◌≡◌, ◌≢◌, ◌<◌, ◌-◌, ◌^◌, ◌⊎◌, inl, inr, not, ℕ, Bool, true, false, cond, List, Option, None, Some, Result, Ok, refl, sym, ◌∙◌, ap, subst, arith}
use Rattle.std.specs.Prelude.{is_some, nat_lt, bytes_eq, slice_get, IsSome, IsSomeAnd, MatchBool, MatchOption}
use Rattle.std.specs.Option.{option_and_then}
use Rattle.std.proofs.Math.Dec.{eqb}
use Rattle.std.proofs.lemmas.Bool.{le-ltb}
use Rattle.std.proofs.lemmas.Option.{get_or_from_slice_get}
use Rattle.std.proofs.lemmas.Slice.Eq.{bytes_eq-Decides}
use Rattle.ls_credential.specs.declared.kind.Kind.{Kind}
use Rattle.ls_credential.specs.declared.kind.Kind.TheVariants.{Empty, Pattern, Pin, Password}
use Rattle.ls_credential.specs.Rules.{KindAndText}
use Rattle.ls_weaver.specs.declared.slot.Slot.{Slot}
use Rattle.ls_weaver.specs.declared.slot.SlotRead.TheVariants.{Value as SlotValue, Wrong as SlotWrong, Throttled as SlotThrottled}
use Rattle.ls_weaver.specs.Slots.{blank_slot, same_key, slot_answer}
use Rattle.ls_weaver.specs.Throttle.{timeout, more_fails}
use Rattle.ls_secret.specs.Secrets.{SecretValue}
use Rattle.ls_formats.specs.declared.part.FilePart.TheVariants.{Pwd, Secdis, Weaver}
use Rattle.ls_formats.specs.Contents.{pwd_of}
use Rattle.ls_board.specs.declared.action.Answer.TheVariants.{Accepted, Wrong as WrongAnswer, Throttled as ThrottledAnswer}
use Rattle.ls_board.specs.declared.devices.Counter.{Counter}
use Rattle.ls_board.specs.declared.world.World.{World}
use Rattle.ls_board.specs.Effect.{file_at, slot_at, read_answer}
use Rattle.ls_board.specs.Gatekeeper.{sid_of, is_signed, no_fails, record_at, counter_of, counter_answer, answer_by}
use Rattle.ls_sealing.specs.Chain.{stretched, weaver_key, gatekeeper_password}
use Rattle.ls_sealing.specs.Protectors.{Protector, Held, credential, held, held_number, has_part, has_weaver, is_enrolled, where_it_has, file_name, slot_number, failures, slot_failures, record_failures}
use Rattle.ls_sealing.specs.Seals.{Seals, IsPwdFile, IsHandleOf, slot_value}
use Rattle.ls_sealing.specs.Apart.{IsApart}
use Rattle.ls_sealing.proofs.DeviceLemmas.{slot_knows, handle_names, handle_knows}
use Rattle.ls_sealing.proofs.MatchLemmas.{equal_or}
use Rattle.ls_chain.specs.declared.fault.Spot.{Spot}
use Rattle.ls_chain.specs.declared.offered.Offered.{Offered}
use Rattle.ls_chain.specs.declared.trying.AttemptEnd.TheVariants.{Opened, Wrong, Throttled}
use Rattle.ls_chain.specs.Links.{Links, links_at, next_of}
use Rattle.ls_chain.specs.Offers.{offer_chain}
use Rattle.ls_chain.specs.Attempting.{opened_end, attempt_by, stored_end, device_end, attempt_end}
use Rattle.ls_chain.specs.Linked.{AreOfferLinks, HasForm, weaver_value, stored_handle, offered_to}
use Rattle.ls_chain.specs.SealedEnds.{protector_of, sealed_end}
use Rattle.ls_chain.proofs.HeldLinkLemmas.{offer_linked}
use Rattle.ls_chain.proofs.SealLemmas.{leads, linked}
use Rattle.ls_chain.proofs.OfferSealLemmas.{offered_text}

-- ---- what is decided in two ways

pub same_test : (a b : Bool) → (a ≡ true → b ≡ true) → (b ≡ true → a ≡ true) → a ≡ b
same_test true true f g = refl
same_test true false f g = sym (f refl)
same_test false true f g = g refl
same_test false false f g = refl

of_some : {X : Type 0} (o : Option X) (x : X) (P : X → Type 0) → o ≡ Some x → IsSomeAnd o P → P x
of_some {X} o x P is holds = subst (λ (y : Option X). IsSomeAnd y P) is holds

of_file : {X : Type 0} (o : Option X) (x : X) (A : Type 0) (P : X → Type 0) → o ≡ Some x → MatchOption o A P → P x
of_file {X} o x A P is holds = subst (λ (y : Option X). MatchOption y A P) is holds

of_none : {X : Type 0} (o : Option X) (A : Type 0) (P : X → Type 0) → o ≡ None → MatchOption o A P → A
of_none {X} o A P is holds = subst (λ (y : Option X). MatchOption y A P) is holds

by_true : (b : Bool) (A B : Type 0) → b ≡ true → MatchBool b A B → A
by_true true A B e h = h
by_true false A B e h = absurd (let wrong : false ≡ true = e in cc)

given_by : {X : Type 0} (b : Bool) (o : Option X) (x : X) → where_it_has b o ≡ Some x → o ≡ Some x
given_by true o x is = is
given_by false o x is = absurd (cc)

never_rests : (moment : ℕ) → nat_lt moment 0 ≡ false
never_rests moment = le-ltb moment 0 (omega arith)

-- ---- the answer of a device

module _ (l : Links) (text : List ℕ) (s : SecretValue) (moment : ℕ) (right : Bool) where
  slot_by : (slot : Slot) (resting right : Bool) → (right ≡ true → opened_end l text (Some slot.value) ≡ Ok (Opened s))
      → attempt_by l text (read_answer (cond resting (SlotThrottled (slot.until - moment)) (cond right (SlotValue slot.value) (SlotWrong (timeout (more_fails slot.fails))))))
      ≡ Ok (cond resting (Throttled (slot.until - moment)) (cond right (Opened s) (Wrong (timeout (more_fails slot.fails)))))
  slot_by slot true right opens = refl
  slot_by slot false true opens = opens refl
  slot_by slot false false opens = refl

  slot_ends : (slot : Slot) (key : List ℕ) → same_key slot.key key ≡ right → (right ≡ true → opened_end l text (Some slot.value) ≡ Ok (Opened s))
      → attempt_by l text (read_answer (slot_answer slot key moment)) ≡ Ok (sealed_end (slot_failures (Some slot)) s right moment)
  slot_ends slot key same opens =
      ap (λ (b : Bool). attempt_by l text (read_answer (cond (nat_lt moment slot.until) (SlotThrottled (slot.until - moment)) (cond b (SlotValue slot.value) (SlotWrong (timeout (more_fails slot.fails))))))) same
      ∙ slot_by slot (nat_lt moment slot.until) right opens

  counter_by : (k : Counter) (sid : ℕ) (resting right : Bool) → (right ≡ true → opened_end l text None ≡ Ok (Opened s))
      → attempt_by l text (cond resting (ThrottledAnswer (k.until - moment)) (cond right (Accepted sid) (WrongAnswer (timeout (more_fails k.fails)))))
      ≡ Ok (cond resting (Throttled (k.until - moment)) (cond right (Opened s) (Wrong (timeout (more_fails k.fails)))))
  counter_by k sid true right opens = refl
  counter_by k sid false true opens = opens refl
  counter_by k sid false false opens = refl

  counter_ends : (k : Counter) (sid : ℕ) (signs : Bool) → signs ≡ right → (right ≡ true → opened_end l text None ≡ Ok (Opened s))
      → attempt_by l text (counter_answer k sid signs moment) ≡ Ok (sealed_end k s right moment)
  counter_ends k sid signs same opens =
      ap (λ (b : Bool). attempt_by l text (counter_answer k sid b moment)) same
      ∙ counter_by k sid (nat_lt moment k.until) right opens

-- ---- without Weaver there is no slot

no_slot_part : (kind : Kind) → has_part false (credential kind) Weaver ≡ false
no_slot_part Empty = refl
no_slot_part Pattern = refl
no_slot_part Pin = refl
no_slot_part Password = refl

-- ---- the attempt

module _ (w : World) (user id : ℕ) (c d : KindAndText) (s : SecretValue) (moment : ℕ) where
  abbrev p : Protector
  p = record { user = user; id = id; purpose = credential c.kind }

  abbrev h : Held
  h = held w p

  abbrev l : Links
  l = links_at w user id

  abbrev text : List ℕ
  text = stretched (h.files Pwd) d.text

  abbrev right : Bool
  right = bytes_eq d.text c.text

  module _ (seals : Seals id h c s) (apart : IsApart id h c d) (kind : d.kind ≡ c.kind) (small : id < 2 ^ 64) (offer : AreOfferLinks h l) (form : h.weaver ≡ false → HasForm h Secdis) where
    hit : right ≡ true → d.text ≡ c.text
    hit = (bytes_eq-Decides d.text c.text).0

    hits : d.text ≡ c.text → right ≡ true
    hits = (bytes_eq-Decides d.text c.text).1

    opens : (value : Option (List ℕ)) → value ≡ weaver_value h → d.text ≡ c.text → opened_end l text value ≡ Ok (Opened s)
    opens value is e =
        ap (λ (v : Option (List ℕ)). opened_end l text v) is
        ∙ ap (λ (t : List ℕ). opened_end l (stretched (h.files Pwd) t) (weaver_value h)) e
        ∙ ap (λ (x : Result SecretValue Spot). next_of x (λ s. Ok (Opened s))) (leads id h c s l (weaver_value h) seals (linked w user id c.kind) form)

    abbrev Ends : Option ℕ → Type 0
    Ends o = attempt_end user id (is_some o) o c.kind d.text moment w ≡ Ok (sealed_end (failures h) s right moment)

    offered : (b : Bool) → h.weaver ≡ b → offer_chain l b c.kind d.text ≡ Ok (offered_to h d.text)
    offered b weaver = ap (λ (b : Bool). offer_chain l b c.kind d.text) (sym weaver) ∙ offered_text id h c s l seals offer d.text

    -- ---- with Weaver

    module _ (weaver : h.weaver ≡ true) where
      abbrev HasKey : Option Slot → Type 0
      HasKey o = IsSomeAnd o (λ slot. slot.key ≡ weaver_key (stretched (h.files Pwd) c.text))

      accepts : HasKey h.slot
      accepts = by_true h.weaver (HasKey h.slot) _ weaver seals.accepts

      slot_asked : (n : ℕ) (slot : Slot) → Some n ≡ held_number w p → slice_get w.slots n ≡ Some slot → Ends (Some n)
      slot_asked n slot is there =
          let its : h.slot ≡ Some slot = ap (option_and_then (slice_get w.slots)) (sym is) ∙ there in
          let was : slot_at w n ≡ slot = get_or_from_slice_get w.slots n slot blank_slot there in
          let knows = slot_knows id h c d s seals apart kind slot weaver its in
          let same : same_key slot.key (weaver_key text) ≡ right = same_test (same_key slot.key (weaver_key text)) right (λ e. hits (knows.0 e)) (λ e. knows.1 (hit e)) in
          let value : Some slot.value ≡ weaver_value h = sym (ap (λ (b : Bool). cond b (Some (slot_value h.slot)) None) weaver ∙ ap (λ (o : Option Slot). Some (slot_value o)) its) in
          let count : failures h ≡ slot_failures (Some slot) = ap (λ (b : Bool). cond b (slot_failures h.slot) (record_failures h.counter)) weaver ∙ ap slot_failures its in
          ap (λ (x : Result Offered Spot). next_of x (λ o. device_end user id (Some n) moment o w)) (offered true weaver)
          ∙ ap (λ (x : Slot). attempt_by l text (read_answer (slot_answer x (weaver_key text) moment))) was
          ∙ slot_ends l text s moment right slot (weaver_key text) same (λ e. opens (Some slot.value) value (hit e))
          ∙ ap (λ (k : Counter). Ok (sealed_end k s right moment)) (sym count)

      slot_there : (n : ℕ) (x : Option Slot) → Some n ≡ held_number w p → slice_get w.slots n ≡ x → Ends (Some n)
      slot_there n None is none = absurd (subst HasKey (ap (option_and_then (slice_get w.slots)) (sym is) ∙ none) accepts)
      slot_there n (Some slot) is there = slot_asked n slot is there

      with_weaver : (o : Option ℕ) → o ≡ held_number w p → Ends o
      with_weaver None is = absurd (subst HasKey (ap (option_and_then (slice_get w.slots)) (sym is)) accepts)
      with_weaver (Some n) is = slot_there n (slice_get w.slots n) is refl

    -- ---- without it

    module _ (plain : h.weaver ≡ false) where
      unnumbered : held_number w p ≡ None
      unnumbered =
          ap (λ (b : Bool). option_and_then slot_number (where_it_has (has_part b (credential c.kind) Weaver) (file_at w (file_name p Weaver)))) plain
          ∙ ap (λ (b : Bool). option_and_then slot_number (where_it_has b (file_at w (file_name p Weaver)))) (no_slot_part c.kind)

      valueless : None ≡ weaver_value h
      valueless = sym (ap (λ (b : Bool). cond b (Some (slot_value h.slot)) None) plain)

      counted : failures h ≡ record_failures h.counter
      counted = ap (λ (b : Bool). cond b (slot_failures h.slot) (record_failures h.counter)) plain

      abbrev Stored : Type 0
      Stored = stored_end user id (stored_handle (h.files Pwd)) text moment w ≡ Ok (sealed_end (failures h) s right moment)

      -- no credential
      unasked : h.files Pwd ≡ None → Stored
      unasked none =
          let empty : c.kind ≡ Empty = of_none (h.files Pwd) (c.kind ≡ Empty) (IsPwdFile h.weaver c.kind) none seals.kind in
          let same : d.text ≡ c.text = equal (equal_or d.text c.text) in
          let counter : h.counter ≡ None = ap (λ (b : Bool). where_it_has (is_enrolled b (credential c.kind)) (record_at w.gk id)) plain
          ∙ ap (λ (k : Kind). where_it_has (is_enrolled false (credential k)) (record_at w.gk id)) empty in
          let count : failures h ≡ no_fails = counted ∙ ap record_failures counter in
          ap (λ (x : Option (List ℕ)). stored_end user id (stored_handle x) text moment w) none
          ∙ opens None valueless same
          ∙ ap (λ (b : Bool). Ok (cond b (Throttled (0 - moment)) (Opened s))) (sym (never_rests moment))
          ∙ ap (λ (b : Bool). Ok (sealed_end no_fails s b moment)) (sym (hits same))
          ∙ ap (λ (k : Counter). Ok (sealed_end k s right moment)) (sym count)
        where
          refuses : d.text ≢ c.text → ⊥
          refuses other = of_none (h.files Pwd) ⊥ (λ file. IsSomeAnd (pwd_of file).handle (λ handle. ¬ IsHandleOf h.device id text handle)) none
              (subst (λ (b : Bool). MatchBool b (IsSomeAnd h.slot (λ slot. slot.key ≢ weaver_key text)) (MatchOption (h.files Pwd) ⊥ (λ file. IsSomeAnd (pwd_of file).handle (λ handle. ¬ IsHandleOf h.device id text handle)))) plain (apart kind other))

          equal : (d.text ≡ c.text) ⊎ (d.text ≢ c.text) → d.text ≡ c.text
          equal (inl e) = e
          equal (inr other) = absurd (refuses other)

      module _ (file : List ℕ) (there : h.files Pwd ≡ Some file) where
        is_file : IsPwdFile h.weaver c.kind file
        is_file = of_file (h.files Pwd) file (c.kind ≡ Empty) (IsPwdFile h.weaver c.kind) there seals.kind

        accepted : IsSome h.counter
        accepted = (of_file (h.files Pwd) file (Unit {0}) (λ f. IsSome h.counter × IsSomeAnd (pwd_of f).handle (IsHandleOf h.device id (stretched (h.files Pwd) c.text))) there
            (subst (λ (b : Bool). MatchBool b (IsSomeAnd h.slot (λ slot. slot.key ≡ weaver_key (stretched (h.files Pwd) c.text))) (MatchOption (h.files Pwd) (Unit {0}) (λ f. IsSome h.counter × IsSomeAnd (pwd_of f).handle (IsHandleOf h.device id (stretched (h.files Pwd) c.text))))) plain seals.accepts)).0

        handle_asked : (handle : List ℕ) → (pwd_of file).handle ≡ Some handle → (k : Counter) → h.counter ≡ Some k → Stored
        handle_asked handle has k its =
            let found : record_at w.gk id ≡ Some k = given_by (is_enrolled (has_weaver w) (credential c.kind)) (record_at w.gk id) k its in
            let names = handle_names id h c d s seals apart kind file handle small plain there has in
            let knows = handle_knows id h c d s seals apart kind file handle small plain there has in
            let signs = is_signed w.gk_key handle (gatekeeper_password text) in
            let same : signs ≡ right = same_test signs right (λ e. hits (knows.0 e)) (λ e. knows.1 (hit e)) in
            let counter : counter_of w.gk handle ≡ Some k = ap (λ (v : ℕ). cond (eqb v 1) (record_at w.gk (sid_of handle)) None) names.0 ∙ ap (record_at w.gk) names.1 ∙ found in
            let count : failures h ≡ k = counted ∙ ap record_failures its in
            ap (λ (x : Option (List ℕ)). stored_end user id (stored_handle x) text moment w) there
            ∙ ap (λ (x : Option (List ℕ)). stored_end user id x text moment w) has
            ∙ ap (λ (x : Option Counter). attempt_by l text (answer_by (sid_of handle) signs moment x)) counter
            ∙ counter_ends l text s moment right k (sid_of handle) signs same (λ e. opens None valueless (hit e))
            ∙ ap (λ (k : Counter). Ok (sealed_end k s right moment)) (sym count)

        by_counter : (handle : List ℕ) → (pwd_of file).handle ≡ Some handle → (o : Option Counter) → h.counter ≡ o → Stored
        by_counter handle has None none = absurd (let wrong : false ≡ true = subst (λ (o : Option Counter). IsSome o) none accepted in cc)
        by_counter handle has (Some k) its = handle_asked handle has k its

        by_handle : (o : Option (List ℕ)) → (pwd_of file).handle ≡ o → Stored
        by_handle None none = absurd (let wrong : false ≡ true = sym (ap is_some none) ∙ is_file.handle ∙ ap not plain in cc)
        by_handle (Some handle) has = by_counter handle has h.counter refl

      by_file : (o : Option (List ℕ)) → h.files Pwd ≡ o → Stored
      by_file None none = unasked none
      by_file (Some file) there = by_handle file there (pwd_of file).handle refl

      without : (o : Option ℕ) → o ≡ held_number w p → Ends o
      without o is =
          ap (λ (x : Option ℕ). attempt_end user id (is_some x) x c.kind d.text moment w) (is ∙ unnumbered)
          ∙ ap (λ (x : Result Offered Spot). next_of x (λ o. device_end user id None moment o w)) (offered false plain)
          ∙ by_file (h.files Pwd) refl

    pub attempt_ends : (o : Option ℕ) → o ≡ held_number w p → Ends o
    attempt_ends o is = by h.weaver refl
      where
        by : (b : Bool) → h.weaver ≡ b → Ends o
        by true weaver = with_weaver weaver o is
        by false plain = without plain o is

-- where each file that is read is in its format
pub attempt_opens : (w : World) (user id : ℕ) (c d : KindAndText) (s : SecretValue) (slot : Option ℕ) (moment : ℕ) → let h = held w (protector_of user id (credential c.kind)) in
    Seals id h c s → IsApart id h c d → d.kind ≡ c.kind → id < 2 ^ 64 → HasForm h Pwd → HasForm h Secdis → HasForm h Weaver → slot ≡ held_number w (protector_of user id (credential c.kind))
    → attempt_end user id (is_some slot) slot c.kind d.text moment w ≡ Ok (sealed_end (failures h) s (bytes_eq d.text c.text) moment)
attempt_opens w user id c d s slot moment seals apart kind small pwd secdis weaver is =
    attempt_ends w user id c d s moment seals apart kind small (offer_linked w user id c s seals pwd weaver) (λ plain. secdis) slot is
