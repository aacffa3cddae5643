-- A reading of a slot, and a check of a handle, keep what is sealed.
use Rattle.std.proofs.Common.{◌≡◌, ◌<◌, ℕ, Bool, true, false, cond, List, [], ◌++◌, length, replicate, get_or-set_same, length-set, Option, None, Some, refl, sym, ap, ◌∙◌, arith}
use Rattle.std.specs.Prelude.{slice_get, slice_set, nat_lt, IsSomeAnd, MatchOption, MatchBool, IsSome, unwrap_or}
use Rattle.std.specs.Option.{option_and_then}
use Rattle.std.proofs.lemmas.Bool.{le-ltb}
use Rattle.std.proofs.lemmas.Option.{slice_get-get_or, slice_get_within}
use Rattle.ls_weaver.specs.declared.slot.Slot.{Slot}
use Rattle.ls_weaver.specs.Slots.{blank_slot, written, same_key, slot_after}
use Rattle.ls_weaver.specs.Throttle.{more_fails, rest_until}
use Rattle.ls_credential.specs.Rules.{KindAndText}
use Rattle.ls_secret.specs.Secrets.{SecretValue}
use Rattle.ls_formats.specs.declared.part.FilePart.TheVariants.{Pwd, Secdis}
use Rattle.ls_formats.specs.Contents.{pwd_of}
use Rattle.ls_board.specs.declared.action.Action.TheVariants.{WeaverRead, GkVerify}
use Rattle.ls_board.specs.declared.devices.Counter.{Counter}
use Rattle.ls_board.specs.declared.world.World.{World}
use Rattle.ls_board.specs.Effect.{slot_at, after}
use Rattle.ls_sealing.specs.Chain.{stretched, weaver_key, value_share, discardable_share}
use Rattle.ls_sealing.specs.Protectors.{Protector, Held, is_enrolled, where_it_has, has_weaver, held_number, held}
use Rattle.std.specs.Ordering.{nat_cmp}
use Rattle.std.specs.FinMap.Entries.{put}
use Rattle.std.proofs.Math.Dec.{eqb}
use Rattle.std.proofs.lemmas.Cmp.{nat_cmp_total}
use Rattle.ls_board.specs.Gatekeeper.{version_of, sid_of, is_signed, record_at, counter_of, counter_after, with_counter, verified}
use Rattle.ls_board.proofs.LookupLemmas.{put_same}
use Rattle.ls_sealing.specs.Seals.{blob_text, slot_value, IsHandleOf, IsTokenSlot, Seals}
use Rattle.ls_sealing.specs.Readings.{after_reading, with_record}
use Rattle.ls_sealing.proofs.HeldLemmas.{held_at}

-- ---- a slot

read_keeps : (rests right : Bool) (s : Slot) (moment : ℕ)
    → let new = cond rests s (cond right (written s.key s.value) (record s { fails = more_fails s.fails; until = rest_until moment (more_fails s.fails) })) in
    (new.key ≡ s.key) × (new.value ≡ s.value)
read_keeps true right s moment = (refl, refl)
read_keeps false true s moment = (refl, refl)
read_keeps false false s moment = (refl, refl)

-- a reading changes no key and no value
pub after_keeps : (s : Slot) (key : List ℕ) (moment : ℕ) → ((slot_after s key moment).key ≡ s.key) × ((slot_after s key moment).value ≡ s.value)
after_keeps s key moment = read_keeps (nat_lt moment s.until) (same_key s.key key) s moment

-- what a world holds after it
pub held_after_reading : (w : World) (p : Protector) (n : ℕ) (slot : Slot) (key : List ℕ) (moment : ℕ) → held_number w p ≡ Some n → slice_get w.slots n ≡ Some slot
    → held (after w (WeaverRead n key moment) 0) p ≡ after_reading (held w p) slot key moment
held_after_reading w p n slot key moment number there =
    let new = slot_after (slot_at w n) key moment in
    let slots = slice_set w.slots n new in
    let lt : n < length w.slots = slice_get_within w.slots n slot there in
    let was : slot_at w n ≡ slot = let e = slice_get-get_or w.slots n blank_slot lt in cc in
    let long : n < length slots = omega (arith, length-set w.slots n new) in
    let weaver : nat_lt 0 (length slots) ≡ has_weaver w = ap (nat_lt 0) (length-set w.slots n new) in
    let got : slice_get slots n ≡ Some (slot_after slot key moment) =
    slice_get-get_or slots n blank_slot long ∙ ap Some (get_or-set_same w.slots n new blank_slot lt) ∙ ap (λ (s : Slot). Some (slot_after s key moment)) was in
    let after_it : World = record w { slots = slots } in
    let first : held after_it p ≡ record (held w p) { slot = option_and_then (slice_get slots) (held_number w p) } = ap (λ (b : Bool). held_at p b after_it) weaver in
    first ∙ ap (λ (o : Option Slot). record (held w p) { slot = o }) (ap (option_and_then (slice_get slots)) number ∙ got)

-- ---- a record of the Gatekeeper

-- what a world holds after a check of a handle of the protector
pub held_after_check : (w : World) (p : Protector) (handle password : List ℕ) (moment : ℕ) (counter : Counter) → is_enrolled (has_weaver w) p.purpose ≡ true → version_of handle ≡ 1 → sid_of handle ≡ p.id
    → record_at w.gk p.id ≡ Some counter → held (after w (GkVerify handle password moment) 0) p ≡ with_record (held w p) (counter_after counter (is_signed w.gk_key handle password) moment)
held_after_check w p handle password moment counter en version sid there =
    let right = is_signed w.gk_key handle password in
    let new = counter_after counter right moment in
    let found : counter_of w.gk handle ≡ Some counter =
    ap (λ (v : ℕ). cond (eqb v 1) (record_at w.gk (sid_of handle)) None) version ∙ ap (record_at w.gk) sid ∙ there in
    let records = verified w.gk_key w.gk handle password moment in
    let are : records ≡ put nat_cmp p.id new w.gk = ap (with_counter w.gk (sid_of handle) right moment) found ∙ ap (λ (n : ℕ). put nat_cmp n new w.gk) sid in
    let at : record_at records p.id ≡ Some new = ap (λ (l : List (ℕ × Counter)). record_at l p.id) are ∙ put_same nat_cmp nat_cmp_total w.gk p.id new in
    ap (λ (o : Option Counter). record (held w p) { counter = o })
    (ap (λ (b : Bool). where_it_has b (record_at records p.id)) en ∙ at)

-- ---- what is sealed

first_by : (b : Bool) (A B C : Type 0) → (A → C) → MatchBool b A B → MatchBool b C B
first_by true A B C f h = f h
first_by false A B C f h = h

second_by : (b : Bool) (A B C : Type 0) → (B → C) → MatchBool b A B → MatchBool b A C
second_by true A B C f h = h
second_by false A B C f h = f h

another_slot : (old : Option Slot) (slot new : Slot) (st : List ℕ) → old ≡ Some slot → new.key ≡ slot.key → IsSomeAnd old (λ x. x.key ≡ weaver_key st) → new.key ≡ weaver_key st
another_slot None slot new st is key h = absurd h
another_slot (Some s) slot new st is key h = let e : s ≡ slot = cc in key ∙ ap (λ (x : Slot). x.key) (sym e) ∙ h

-- another slot with the same key and value seals the same
pub slot_kept : (id : ℕ) (h : Held) (c : KindAndText) (s : SecretValue) (slot new : Slot) → Seals id h c s → h.slot ≡ Some slot → new.key ≡ slot.key → new.value ≡ slot.value
    → Seals id (record h { slot = Some new }) c s
slot_kept id h c s slot new sealed there key value =
    let v : new.value ≡ slot_value h.slot = value ∙ ap slot_value (sym there) in
    record {
      kind = sealed.kind;
      accepts = first_by h.weaver (IsSomeAnd h.slot (λ x. x.key ≡ weaver_key (stretched (h.files Pwd) c.text)))
          (MatchOption (h.files Pwd) (Unit {0}) (λ file. IsSome h.counter × IsSomeAnd (pwd_of file).handle (IsHandleOf h.device id (stretched (h.files Pwd) c.text))))
          (new.key ≡ weaver_key (stretched (h.files Pwd) c.text))
          (another_slot h.slot slot new (stretched (h.files Pwd) c.text) there key) sealed.accepts;
      discardable = sealed.discardable;
      blob = sealed.blob;
      opened = ap (λ (x : List ℕ). blob_text h (stretched (h.files Pwd) c.text ++ cond h.weaver (value_share x) (discardable_share (unwrap_or (h.files Secdis) [])))) v ∙ sealed.opened;
      secret = sealed.secret;
    }

pub reading_kept : (id : ℕ) (h : Held) (c : KindAndText) (s : SecretValue) (slot : Slot) (key : List ℕ) (moment : ℕ) → Seals id h c s → h.slot ≡ Some slot → Seals id (after_reading h slot key moment) c s
reading_kept id h c s slot key moment sealed there =
    let keeps = after_keeps slot key moment in
    slot_kept id h c s slot (slot_after slot key moment) sealed there keeps.0 keeps.1

record_by : (file : Option (List ℕ)) (counter : Option Counter) (new : Counter) (device : List ℕ) (id : ℕ) (st : List ℕ)
    → MatchOption file (Unit {0}) (λ f. IsSome counter × IsSomeAnd (pwd_of f).handle (IsHandleOf device id st))
    → MatchOption file (Unit {0}) (λ f. IsSome (Some new) × IsSomeAnd (pwd_of f).handle (IsHandleOf device id st))
record_by None counter new device id st h = tt
record_by (Some file) counter new device id st h = (refl, h.1)

-- whatever the counter of the Gatekeeper's record is
pub record_kept : (id : ℕ) (h : Held) (c : KindAndText) (s : SecretValue) (counter : Counter) → Seals id h c s → Seals id (with_record h counter) c s
record_kept id h c s counter sealed = record {
  kind = sealed.kind;
  accepts = second_by h.weaver _ _ _ (record_by (h.files Pwd) h.counter counter h.device id (stretched (h.files Pwd) c.text)) sealed.accepts;
  discardable = sealed.discardable;
  blob = sealed.blob;
  opened = sealed.opened;
  secret = sealed.secret;
}

-- ---- a token's slot

read_as_before : (rests right : Bool) (s t new : Slot) → rests ≡ false → right ≡ true → t ≡ s → cond rests s (cond right t new) ≡ s
read_as_before rests right s t new er eg e = rw (er, eg) e

-- a reading of a token's slot, by its key, leaves it as it was
pub token_slot_kept : (slot : Slot) (moment : ℕ) → IsTokenSlot slot → slot_after slot (replicate 16 0) moment ≡ slot
token_slot_kept slot moment is =
    let zeros : List ℕ = replicate 16 0 in
    let rests : nat_lt moment slot.until ≡ false = ap (λ (x : Slot). nat_lt moment x.until) is ∙ le-ltb moment 0 (omega arith) in
    let right : same_key slot.key zeros ≡ true = ap (λ (x : Slot). same_key x.key zeros) is in
    read_as_before (nat_lt moment slot.until) (same_key slot.key zeros) slot (written slot.key slot.value) _ rests right
    (ap (λ (x : Slot). written x.key slot.value) is ∙ sym is)
