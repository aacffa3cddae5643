-- What keeps a world bare, and what makes it so.
use Rattle.std.proofs.Common.{◌≡◌, ◌≢◌, ◌⊎◌, inl, inr, ⊎_elim, ◌<◌, ℕ, zero, suc, Bool, true, false, cond, List, [], ◌∷◌, length, length-set, get_or, set, Option, None, Some, refl, sym, ap, subst, ◌∙◌}
use Rattle.std.specs.Prelude.{nat_lt, is_some, MatchBool}
use Rattle.std.specs.List.{Contains}
use Rattle.std.specs.Ordering.{nat_cmp, eq_by_cmp}
use Rattle.std.proofs.lemmas.Cmp.{nat_cmp_total, nat_list_cmp_total}
use Rattle.std.proofs.lemmas.Map.Lookups.{exact_bytes}
use Rattle.ls_formats.specs.declared.name.FileName.TheVariants.{Settings, Protector as ProtectorName}
use Rattle.ls_formats.specs.PartNames.{PartOf, IsPartOf, part_name_text}
use Rattle.ls_arming.specs.declared.arming.Arming.{Arming}
use Rattle.ls_record.specs.Rows.{Rec, IsRecord}
use Rattle.ls_naming.specs.Named.{NamesFile, NamesSlot, NamesKey, NamesEnrolled}
use Rattle.ls_naming.proofs.NamingLemmas.{slots_follow, record_named}
use Rattle.ls_naming.proofs.MembershipLemmas.{numbers_decide}
use Rattle.std.proofs.Math.Dec.{eqb}
use Rattle.ls_weaver.specs.declared.slot.Slot.{Slot}
use Rattle.ls_weaver.specs.Slots.{blank_slot}
use Rattle.ls_board.specs.declared.action.Action.{Action}
use Rattle.ls_board.specs.declared.action.Action.TheVariants.{Make, Put, Poke, Remove, WeaverWrite, WeaverRead, GkEnroll, GkVerify, GkForget, KeyPut, KeyDrop, ResumeStore, ResumeTake, Hear}
use Rattle.ls_board.specs.declared.world.World.{World}
use Rattle.ls_board.specs.Effect.{file_at, slot_at, remove_mark, after}
use Rattle.ls_board.specs.Gatekeeper.{record_at}
use Rattle.ls_board.specs.Keys.{key_at}
use Rattle.ls_board.specs.Order.{byte_cmp}
use Rattle.ls_board.specs.Reach.{Reach, TouchesOnly, AllTouchOnly, SameBut}
use Rattle.ls_board.specs.Runs.{after_all}
use Rattle.ls_board.proofs.FileLemmas.{find_with_file, file_marked_same, file_marked_other}
use Rattle.ls_board.proofs.FrameLemmas.{same_within}
use Rattle.ls_board.proofs.LookupLemmas.{equal, same_key, find_without, without_same}
use Rattle.ls_board.proofs.StepLemmas.{whole_within}
use Rattle.ls_settings.specs.Loaded.{settings_reach}
use Rattle.ls_sealing.specs.Protectors.{has_weaver}
use Rattle.ls_standing.specs.Bare.{IsStrange, IsBare, named_by}
use Rattle.ls_standing.specs.Clearing.{TakesAway, AllTakeAway, blank_write, Clears, named_devices, AddsNothing, AllAddNothing, Retires}
use Rattle.ls_standing.specs.Quiet.{unnamed, IsQuiet}
use Rattle.ls_standing.specs.Same.{SameNamed}
use Rattle.ls_standing.proofs.ContainsLemmas.{none_in, at_first, first_or_behind}
use Rattle.ls_standing.proofs.SameLemmas.{no_settings, named_but_settings}
use Rattle.ls_standing.proofs.QuietLemmas.{plan_kept, done_kept}
use Rattle.ls_standing.proofs.TouchLemmas.{all_quiet, file_unnamed}

-- ---- a world that keeps only what is reached

-- The world keeps no file of a user or a protector, no slot that isn't blank, no Gatekeeper record, no
-- key and no key in the cell, but for what is reached; and each strange file is as at the start.
pub record KeepsOnly (start w : World) (kept : Reach) : Type 0 where
  pub files : (name : PartOf) → IsPartOf name → ¬ (kept.files (part_name_text name))
      → file_at w (part_name_text name) ≡ None
  pub strange : (n : List ℕ) → IsStrange n → file_at w n ≡ file_at start n
  pub slots : (slot : ℕ) → slot < length w.slots → ¬ (kept.slots slot) → slot_at w slot ≡ blank_slot
  pub counters : (sid : ℕ) → ¬ (kept.sids sid) → record_at w.gk sid ≡ None
  pub keys : (alias : ℕ) → ¬ (kept.aliases alias) → key_at w.keys alias ≡ None
  pub cell : ¬ kept.cell → w.cell ≡ None

-- All that is reached is kept, and no strange file is reached.
pub record StaysWithin (reach kept : Reach) : Type 0 where
  pub files : (name : PartOf) → IsPartOf name → reach.files (part_name_text name)
      → kept.files (part_name_text name)
  pub strange : (n : List ℕ) → IsStrange n → ¬ (reach.files n)
  pub slots : (slot : ℕ) → reach.slots slot → kept.slots slot
  pub sids : (sid : ℕ) → reach.sids sid → kept.sids sid
  pub aliases : (alias : ℕ) → reach.aliases alias → kept.aliases alias
  pub cell : reach.cell → kept.cell

-- As many slots, and each file that the record names is the same. So the record names the same.
pub record NamesTheSame (r : Rec) (old new : World) : Type 0 where
  pub count : length new.slots ≡ length old.slots
  pub file : (name : PartOf) → NamesFile (has_weaver old) r name
      → file_at new (part_name_text name) ≡ file_at old (part_name_text name)

-- ---- what is kept beside a reach

-- a file of a user or a protector isn't strange
pub known : (name : PartOf) → IsPartOf name → ¬ (IsStrange (part_name_text name))
known name part strange = strange (ProtectorName name) part refl

module _ (start w mid : World) (kept reach : Reach) where
  pub keeps_same : KeepsOnly start w kept → SameBut reach w mid → StaysWithin reach kept → KeepsOnly start mid kept
  keeps_same keeps same within = record {
    files = λ name part no. same.file (part_name_text name) (λ reached. no (within.files name part reached)) ∙ keeps.files name part no;
    strange = λ n strange. same.file n (within.strange n strange) ∙ keeps.strange n strange;
    slots = λ slot small no. same.slot slot (λ reached. no (within.slots slot reached)) ∙ keeps.slots slot (subst (λ (k : ℕ). slot < k) same.count small) no;
    counters = λ sid no. same.counter sid (λ reached. no (within.sids sid reached)) ∙ keeps.counters sid no;
    keys = λ alias no. same.key alias (λ reached. no (within.aliases alias reached)) ∙ keeps.keys alias no;
    cell = λ no. same.cell (λ reached. no (within.cell reached)) ∙ keeps.cell no;
  }

settings_within : (kept : Reach) → StaysWithin settings_reach kept
settings_within kept = record {
  files = λ name part is. absurd (no_settings name is);
  strange = λ n strange is. strange (Settings is.0) tt is.1;
  slots = λ slot reached. absurd reached;
  sids = λ sid reached. absurd reached;
  aliases = λ alias reached. absurd reached;
  cell = λ reached. absurd reached;
}

pub strange_kept : (w mid : World) → SameBut settings_reach w mid → (n : List ℕ) → IsStrange n → file_at mid n ≡ file_at w n
strange_kept w mid same n strange = same.file n (λ is. strange (Settings is.0) tt is.1)

pub keeps_settings : (start w mid : World) (kept : Reach) → KeepsOnly start w kept → SameBut settings_reach w mid → KeepsOnly start mid kept
keeps_settings start w mid kept keeps same = keeps_same start w mid kept settings_reach keeps same (settings_within kept)

-- ---- what a record names, by the reach

pub not_armed : (o : Option Arming) → ¬ (is_some o ≡ true) → o ≡ None
not_armed None un = refl
not_armed (Some a) un = absurd (un refl)

armed_not : (o : Option Arming) → o ≡ None → ¬ (is_some o ≡ true)
armed_not o none is = let bad : false ≡ true = sym (ap is_some none) ∙ is in absurd (cc)

pub bare_keeps : (start w : World) (r : Rec) (retired : List (List ℕ)) → IsBare start w r retired → KeepsOnly start w (named_by w r retired)
bare_keeps start w r retired bare = record {
  files = λ name part no. bare.files name part (λ named. no (inl (name, named, refl))) (λ has. no (inr has));
  strange = bare.strange;
  slots = bare.slots;
  counters = bare.counters;
  keys = bare.keys;
  cell = λ no. bare.cell (not_armed r.armed no);
}

module _ (r : Rec) (w mid : World) (same : NamesTheSame r w mid) where
  file_on : (name : PartOf) → NamesFile (has_weaver w) r name → NamesFile (has_weaver mid) r name
  file_on name named = subst (λ (b : Bool). NamesFile b r name) (ap (nat_lt 0) (sym same.count)) named

  slot_on : (slot : ℕ) → NamesSlot (has_weaver w) r (file_at w) slot → NamesSlot (has_weaver mid) r (file_at mid) slot
  slot_on slot named =
      subst (λ (b : Bool). NamesSlot b r (file_at mid) slot) (ap (nat_lt 0) (sym same.count))
      (slots_follow (has_weaver w) r (file_at w) (file_at mid) same.file slot named)

  sid_on : (sid : ℕ) → NamesEnrolled (has_weaver w) r sid → NamesEnrolled (has_weaver mid) r sid
  sid_on sid named = subst (λ (b : Bool). NamesEnrolled b r sid) (ap (nat_lt 0) (sym same.count)) named

  -- it names no other file of that name
  not_by : (retired : List (List ℕ)) → IsRecord r → (name : PartOf) → IsPartOf name → ¬ (NamesFile (has_weaver mid) r name)
      → ¬ (Contains retired (part_name_text name)) → ¬ ((named_by w r retired).files (part_name_text name))
  not_by retired is name part none kept (inl other) =
      (file_unnamed w r name is part (λ named. none (file_on name named))).named other.0 other.1 other.2
  not_by retired is name part none kept (inr has) = kept has

  pub keeps_bare : (start : World) (retired : List (List ℕ)) → IsRecord r → KeepsOnly start mid (named_by w r retired) → IsBare start mid r retired
  keeps_bare start retired is keeps = record {
    files = λ name part none kept. keeps.files name part (not_by retired is name part none kept);
    strange = keeps.strange;
    slots = λ slot small none. keeps.slots slot small (λ named. none (slot_on slot named));
    counters = λ sid none. keeps.counters sid (λ named. none (sid_on sid named));
    keys = keeps.keys;
    cell = λ none. keeps.cell (armed_not r.armed none);
  }

pub names_refl : (r : Rec) (w : World) → NamesTheSame r w w
names_refl r w = record { count = refl; file = λ name named. refl }

pub names_same : (r : Rec) (w mid : World) → SameNamed r w mid → NamesTheSame r w mid
names_same r w mid same = record { count = same.count; file = same.file }

-- ---- one action that takes away

none_by : {X : Type 0} (b : Bool) (o : Option X) → o ≡ None → cond b None o ≡ None
none_by true o none = refl
none_by false o none = none

abbrev FileGone : List ℕ → World → Type 0
FileGone n w = file_at w n ≡ None

abbrev SlotBlank : ℕ → World → Type 0
SlotBlank slot w = slot_at w slot ≡ blank_slot

abbrev CounterGone : ℕ → World → Type 0
CounterGone sid w = record_at w.gk sid ≡ None

abbrev KeyGone : ℕ → World → Type 0
KeyGone alias w = key_at w.keys alias ≡ None

abbrev CellGone : World → Type 0
CellGone w = w.cell ≡ None

file_gone : (n : List ℕ) (w : World) (a : Action) → TakesAway a → FileGone n w → FileGone n (after w a 0)
file_gone n w (Make m len) away none = absurd away
file_gone n w (Put m bytes) away none = absurd away
file_gone n w (Poke m at bytes) away none = absurd away
file_gone n w (Remove m) away none = find_with_file w.files m None n ∙ none_by (eq_by_cmp byte_cmp n m) (file_at w n) none
file_gone n w a away none = none

set_same : (slots : List Slot) (i : ℕ) (x : Slot) → get_or (set slots i x) i x ≡ x
set_same [] i x = refl
set_same (s ∷ slots) zero x = refl
set_same (s ∷ slots) (suc i) x = set_same slots i x

set_blank : (slots : List Slot) (i k : ℕ) (x : Slot) → get_or slots k x ≡ x → get_or (set slots i x) k x ≡ x
set_blank [] i k x e = e
set_blank (s ∷ slots) zero zero x e = refl
set_blank (s ∷ slots) zero (suc k) x e = e
set_blank (s ∷ slots) (suc i) zero x e = e
set_blank (s ∷ slots) (suc i) (suc k) x e = set_blank slots i k x e

slot_blank : (slot : ℕ) (w : World) (a : Action) → TakesAway a → SlotBlank slot w → SlotBlank slot (after w a 0)
slot_blank slot w (WeaverWrite s key value) away blank =
    subst (λ (x : Slot). get_or (set w.slots s x) slot blank_slot ≡ blank_slot) (sym away) (set_blank w.slots s slot blank_slot blank)
slot_blank slot w (WeaverRead s key moment) away blank = absurd away
slot_blank slot w a away blank = blank

counter_gone : (sid : ℕ) (w : World) (a : Action) → TakesAway a → CounterGone sid w → CounterGone sid (after w a 0)
counter_gone sid w (GkEnroll s) away none = absurd away
counter_gone sid w (GkVerify handle password moment) away none = absurd away
counter_gone sid w (GkForget s) away none = find_without nat_cmp nat_cmp_total w.gk s sid ∙ none_by (eq_by_cmp nat_cmp sid s) (record_at w.gk sid) none
counter_gone sid w a away none = none

key_gone : (alias : ℕ) (w : World) (a : Action) → TakesAway a → KeyGone alias w → KeyGone alias (after w a 0)
key_gone alias w (KeyPut s key) away none = absurd away
key_gone alias w (KeyDrop s) away none = find_without nat_cmp nat_cmp_total w.keys s alias ∙ none_by (eq_by_cmp nat_cmp alias s) (key_at w.keys alias) none
key_gone alias w a away none = none

cell_gone : (w : World) (a : Action) → TakesAway a → CellGone w → CellGone (after w a 0)
cell_gone w (ResumeStore key) away none = absurd away
cell_gone w ResumeTake away none = refl
cell_gone w a away none = none

slots_stay : (w : World) (a : Action) → TakesAway a → length (after w a 0).slots ≡ length w.slots
slots_stay w (WeaverWrite s key value) away = length-set w.slots s _
slots_stay w (WeaverRead s key moment) away = absurd away
slots_stay w a away = refl

strange_stay : (n : List ℕ) → IsStrange n → (w : World) (a : Action) → TakesAway a → file_at (after w a 0) n ≡ file_at w n
strange_stay n strange w (Make m len) away = absurd away
strange_stay n strange w (Put m bytes) away = absurd away
strange_stay n strange w (Poke m at bytes) away = absurd away
strange_stay n strange w (Remove m) away = file_marked_other w (remove_mark w m) n (λ is. strange (ProtectorName away.0) away.1 (is ∙ away.2))
strange_stay n strange w a away = refl

-- ---- several

module _ (P : World → Type 0) (stays : (w : World) (a : Action) → TakesAway a → P w → P (after w a 0)) where
  all_stay : (plan : List Action) (w : World) → AllTakeAway plan → P w → P (after_all w plan)
  all_stay [] w away is = is
  all_stay (a ∷ plan) w away is = all_stay plan (after w a 0) away.1 (stays w a away.0 is)

  made_by : (a : Action) → ((w : World) → P (after w a 0)) → (plan : List Action) (w : World) → AllTakeAway plan → Contains plan a → P (after_all w plan)
  made_by a makes [] w away has = absurd (none_in a has)
  made_by a makes (b ∷ plan) w away has =
      ⊎_elim (λ is. all_stay plan (after w b 0) away.1 (subst (λ (x : Action). P (after w x 0)) (sym is) (makes w)))
      (λ later. made_by a makes plan (after w b 0) away.1 later) (first_or_behind b plan a has)

  either : (a : Action) → ((w : World) → P (after w a 0)) → (plan : List Action) (w : World) → AllTakeAway plan → P w ⊎ Contains plan a → P (after_all w plan)
  either a makes plan w away (inl is) = all_stay plan w away is
  either a makes plan w away (inr has) = made_by a makes plan w away has

count_stays : (plan : List Action) (w : World) → AllTakeAway plan → length (after_all w plan).slots ≡ length w.slots
count_stays [] w away = refl
count_stays (a ∷ plan) w away = count_stays plan (after w a 0) away.1 ∙ slots_stay w a away.0

all_strange : (n : List ℕ) → IsStrange n → (plan : List Action) (w : World) → AllTakeAway plan → file_at (after_all w plan) n ≡ file_at w n
all_strange n strange [] w away = refl
all_strange n strange (a ∷ plan) w away = all_strange n strange plan (after w a 0) away.1 ∙ strange_stay n strange w a away.0

pub cleared : (start w : World) (plan : List Action) (less : Reach) → ((n : List ℕ) → IsStrange n → file_at w n ≡ file_at start n) → Clears w plan less → KeepsOnly start (after_all w plan) less
cleared start w plan less strange clears = record {
  files = λ name part no.
      let n = part_name_text name in
      either (FileGone n) (file_gone n) (Remove n) (λ v. file_marked_same v (remove_mark v n)) plan w clears.away (clears.files name part no);
  strange = λ n is. all_strange n is plan w clears.away ∙ strange n is;
  slots = λ slot small no.
      either (SlotBlank slot) (slot_blank slot) (blank_write slot) (λ v. set_same v.slots slot blank_slot) plan w clears.away
      (clears.slots slot (subst (λ (k : ℕ). slot < k) (count_stays plan w clears.away) small) no);
  counters = λ sid no. either (CounterGone sid) (counter_gone sid) (GkForget sid) (λ v. without_same nat_cmp nat_cmp_total v.gk sid) plan w clears.away (clears.counters sid no);
  keys = λ alias no. either (KeyGone alias) (key_gone alias) (KeyDrop alias) (λ v. without_same nat_cmp nat_cmp_total v.keys alias) plan w clears.away (clears.keys alias no);
  cell = λ no. either CellGone cell_gone ResumeTake (λ v. refl) plan w clears.away (clears.cell no);
}

-- ---- what is cleared of all that a record doesn't name

pub swept : (start w : World) (r : Rec) (retired : List (List ℕ)) (plan : List Action) → IsRecord r → ((n : List ℕ) → IsStrange n → file_at w n ≡ file_at start n)
    → AllTouchOnly (unnamed w r) plan → Clears w plan (named_by w r retired) → IsBare start (after_all w plan) r retired
swept start w r retired plan is strange only clears =
    keeps_bare r w (after_all w plan) (names_same r w (after_all w plan) (plan_kept r w plan (all_quiet w r plan only)).named) start retired is
    (cleared start w plan (named_by w r retired) strange clears)

-- ---- a retired file that is removed

same_text : (n m : List ℕ) → (n ≡ m) ⊎ (n ≢ m)
same_text n m = by (eq_by_cmp byte_cmp n m) refl
  where
    by : (b : Bool) → eq_by_cmp byte_cmp n m ≡ b → (n ≡ m) ⊎ (n ≢ m)
    by true is = inl (exact_bytes n m (equal _ is))
    by false is = inr (λ same. let one : true ≡ false = sym (same_key byte_cmp nat_list_cmp_total m) ∙ ap (λ (k : List ℕ). eq_by_cmp byte_cmp k m) (sym same) ∙ is in absurd (cc))

pub tidied : (start w : World) (r : Rec) (name : PartOf) (retired : List (List ℕ)) → IsRecord r → IsPartOf name → ¬ (NamesFile (has_weaver w) r name)
    → IsBare start w r (part_name_text name ∷ retired) → IsBare start (after w (Remove (part_name_text name)) 0) r retired
tidied start w r name retired is part none bare =
    let n = part_name_text name in
    swept start w r retired (Remove n ∷ []) is bare.strange ((file_unnamed w r name is part none, tt)) (record {
      away = ((name, part, refl), tt);
      files = λ other its no. ⊎_elim (λ same. inr (subst (λ (m : List ℕ). Contains (Remove n ∷ []) (Remove m)) (sym same) (at_first (Remove n) [])))
          (λ apart. inl (bare.files other its (λ named. no (inl (other, named, refl)))
          (λ has. ⊎_elim (λ first. apart (sym first)) (λ later. no (inr later)) (first_or_behind n retired (part_name_text other) has))))
          (same_text (part_name_text other) n);
      slots = λ slot small no. inl (bare.slots slot small no);
      counters = λ sid no. inl (bare.counters sid no);
      keys = λ alias no. inl (bare.keys alias no);
      cell = λ no. inl (bare.cell (not_armed r.armed no));
    })

-- ---- one action that adds nothing

-- nothing that is stored is changed
kept_beside : (start w : World) (r : Rec) (retired : List (List ℕ)) (input said moments noise : List ℕ) → IsBare start w r retired
    → IsBare start (record w { input = input; said = said; moments = moments; noise = noise }) r retired
kept_beside start w r retired input said moments noise bare = record {
  files = bare.files;
  strange = bare.strange;
  slots = bare.slots;
  counters = bare.counters;
  keys = bare.keys;
  cell = bare.cell;
}

no_files : (w : World) (r : Rec) (retired : List (List ℕ)) → StaysWithin (named_devices w r) (named_by w r retired)
no_files w r retired = record {
  files = λ name part reached. absurd reached;
  strange = λ n strange reached. reached;
  slots = λ slot reached. reached;
  sids = λ sid reached. reached;
  aliases = λ alias reached. reached;
  cell = λ reached. reached;
}

module _ (start w : World) (r : Rec) (retired : List (List ℕ)) (is : IsRecord r) (bare : IsBare start w r retired) where
  keeps : KeepsOnly start w (named_by w r retired)
  keeps = bare_keeps start w r retired bare

  pub bare_settings : (mid : World) → SameBut settings_reach w mid → IsBare start mid r retired
  bare_settings mid same =
      keeps_bare r w mid (names_same r w mid (named_but_settings w mid r same)) start retired is
      (keeps_settings start w mid (named_by w r retired) keeps same)

  met : (a : Action) → TouchesOnly (named_devices w r) a → IsBare start (after w a 0) r retired
  met a only =
      let same = same_within (named_devices w r) w (after w a 0) a only (whole_within w a) in
      keeps_bare r w (after w a 0) (record { count = same.count; file = λ name named. same.file (part_name_text name) (λ reached. reached) }) start retired is
      (keeps_same start w (after w a 0) (named_by w r retired) (named_devices w r) keeps same (no_files w r retired))

  -- what it takes away isn't named
  taken : (a : Action) → TakesAway a → IsQuiet w r a → IsBare start (after w a 0) r retired
  taken a away quiet =
      keeps_bare r w (after w a 0) (names_same r w (after w a 0) (done_kept r w a 0 quiet).named) start retired is
      (cleared start w (a ∷ []) (named_by w r retired) bare.strange (record {
        away = (away, tt);
        files = λ name part un. inl (keeps.files name part un);
        slots = λ slot small un. inl (keeps.slots slot small un);
        counters = λ sid un. inl (keeps.counters sid un);
        keys = λ alias un. inl (keeps.keys alias un);
        cell = λ un. inl (keeps.cell un);
      }))

  either_way : (a : Action) → AddsNothing w r a → IsBare start (after w a 0) r retired
  either_way a (inl away) = taken a away.0 away.1
  either_way a (inr only) = met a only

  pub bare_done : (a : Action) (count : ℕ) → AddsNothing w r a → IsBare start (after w a count) r retired
  bare_done (Hear max) count adds = kept_beside start w r retired _ _ _ _ bare
  bare_done a count adds = either_way a adds

pub bare_plan : (start w : World) (r : Rec) (retired : List (List ℕ)) (plan : List Action) → IsRecord r → IsBare start w r retired → AllAddNothing w r plan → IsBare start (after_all w plan) r retired
bare_plan start w r retired [] is bare adds = bare
bare_plan start w r retired (a ∷ plan) is bare adds = bare_plan start (after w a 0) r retired plan is (bare_done start w r retired is bare a 0 adds.0) adds.1

-- ---- a change of the record

-- what is none unless it isn't
none_stable : {X : Type 0} (o : Option X) → ¬ (¬ (o ≡ None)) → o ≡ None
none_stable None twice = refl
none_stable (Some x) twice = absurd (twice (λ is. absurd (cc)))

same_number : (a b : ℕ) → (a ≡ b) ⊎ (a ≢ b)
same_number a b = by (eqb a b) (numbers_decide a b)
  where
    by : (t : Bool) → MatchBool t (a ≡ b) (a ≢ b) → (a ≡ b) ⊎ (a ≢ b)
    by true is = inl is
    by false apart = inr apart

twice_in : {X : Type 0} (a b : X) → (a ≡ b) ⊎ (a ≢ b) → ¬ (a ≢ b) → a ≡ b
twice_in a b (inl is) twice = is
twice_in a b (inr apart) twice = absurd (twice apart)

slot_stable : (s t : Slot) → ¬ (¬ (s ≡ t)) → s ≡ t
slot_stable s t twice =
    let key = twice_in s.key t.key (same_text s.key t.key) (λ apart. twice (λ is. apart (ap (λ (x : Slot). x.key) is))) in
    let value = twice_in s.value t.value (same_text s.value t.value) (λ apart. twice (λ is. apart (ap (λ (x : Slot). x.value) is))) in
    let fails = twice_in s.fails t.fails (same_number s.fails t.fails) (λ apart. twice (λ is. apart (ap (λ (x : Slot). x.fails) is))) in
    let until = twice_in s.until t.until (same_number s.until t.until) (λ apart. twice (λ is. apart (ap (λ (x : Slot). x.until) is))) in
    λ i. record { key = key i; value = value i; fails = fails i; until = until i }

module _ (start w mid then : World) (r next : Rec) (old new : List (List ℕ)) (plan : List Action) (is : IsRecord next) (bare : IsBare start w r old)
    (same : SameBut (named_by mid next []) w mid) (settings : SameBut settings_reach mid then) (only : AllTouchOnly (unnamed then next) plan) (retires : Retires w r old then next new plan) where
  abbrev end : World
  end = after_all then plan

  on : NamesTheSame next mid then
  on = names_same next mid then (named_but_settings mid then next settings)

  file_was : (name : PartOf) → IsPartOf name → ¬ (NamesFile (has_weaver then) next name) → file_at then (part_name_text name) ≡ file_at w (part_name_text name)
  file_was name part none =
      settings.file (part_name_text name) (no_settings name) ∙ same.file (part_name_text name) (not_by next mid then on [] is name part none (none_in (part_name_text name)))

  strange_was : (n : List ℕ) → IsStrange n → file_at then n ≡ file_at start n
  strange_was n strange =
      settings.file n ((settings_within (named_by mid next [])).strange n strange)
      ∙ (same.file n (λ reached. ⊎_elim (λ named. strange (ProtectorName named.0) (record_named (has_weaver mid) next is named.0 named.1) named.2) (none_in n) reached) ∙ bare.strange n strange)

  file_none : (name : PartOf) → IsPartOf name → ¬ (NamesFile (has_weaver then) next name) → ¬ (Contains new (part_name_text name)) → FileGone (part_name_text name) end
  file_none name part none kept =
      let n = part_name_text name in
      none_stable (file_at end n) (λ there.
      let gone : NamesFile (has_weaver w) r name ⊎ Contains old n → ⊥ = λ was.
      ⊎_elim none (λ other. ⊎_elim kept (λ has. there (made_by (FileGone n) (file_gone n) (Remove n) (λ v. file_marked_same v (remove_mark v n)) plan then retires.away has)) other) (retires.files name part was) in
      there (all_stay (FileGone n) (file_gone n) plan then retires.away (file_was name part none ∙ bare.files name part (λ named. gone (inl named)) (λ has. gone (inr has)))))

  slot_none : (slot : ℕ) → slot < length end.slots → ¬ (NamesSlot (has_weaver then) next (file_at then) slot) → SlotBlank slot end
  slot_none slot small none = slot_stable (slot_at end slot) blank_slot (λ there.
      let gone : NamesSlot (has_weaver w) r (file_at w) slot → ⊥ = λ was.
      ⊎_elim none (λ has. there (made_by (SlotBlank slot) (slot_blank slot) (blank_write slot) (λ v. set_same v.slots slot blank_slot) plan then retires.away has)) (retires.slots slot was) in
      let within : slot < length w.slots = subst (λ (k : ℕ). slot < k) (count_stays plan then retires.away ∙ (settings.count ∙ same.count)) small in
      there (all_stay (SlotBlank slot) (slot_blank slot) plan then retires.away
      (settings.slot slot (λ reached. reached) ∙ (same.slot slot (λ named. none (slot_on next mid then on slot named)) ∙ bare.slots slot within gone))))

  counter_none : (sid : ℕ) → ¬ (NamesEnrolled (has_weaver then) next sid) → CounterGone sid end
  counter_none sid none = none_stable (record_at end.gk sid) (λ there.
      let gone : NamesEnrolled (has_weaver w) r sid → ⊥ = λ was.
      ⊎_elim none (λ has. there (made_by (CounterGone sid) (counter_gone sid) (GkForget sid) (λ v. without_same nat_cmp nat_cmp_total v.gk sid) plan then retires.away has)) (retires.counters sid was) in
      there (all_stay (CounterGone sid) (counter_gone sid) plan then retires.away
      (settings.counter sid (λ reached. reached) ∙ (same.counter sid (λ named. none (sid_on next mid then on sid named)) ∙ bare.counters sid gone))))

  key_none : (alias : ℕ) → ¬ (NamesKey next alias) → KeyGone alias end
  key_none alias none = none_stable (key_at end.keys alias) (λ there.
      let gone : NamesKey r alias → ⊥ = λ was.
      ⊎_elim none (λ has. there (made_by (KeyGone alias) (key_gone alias) (KeyDrop alias) (λ v. without_same nat_cmp nat_cmp_total v.keys alias) plan then retires.away has)) (retires.keys alias was) in
      there (all_stay (KeyGone alias) (key_gone alias) plan then retires.away
      (settings.key alias (λ reached. reached) ∙ (same.key alias none ∙ bare.keys alias gone))))

  cell_none : next.armed ≡ None → CellGone end
  cell_none none = none_stable end.cell (λ there.
      let was : r.armed ≡ None = none_stable r.armed (λ armed. there (made_by CellGone cell_gone ResumeTake (λ v. refl) plan then retires.away (retires.cell armed none))) in
      there (all_stay CellGone cell_gone plan then retires.away
      (settings.cell (λ reached. reached) ∙ (same.cell (armed_not next.armed none) ∙ bare.cell was))))

  kept : NamesTheSame next then end
  kept = names_same next then end (plan_kept next then plan (all_quiet then next plan only)).named

  -- what it names in the end it named before
  slot_back : (slot : ℕ) → NamesSlot (has_weaver then) next (file_at then) slot → NamesSlot (has_weaver end) next (file_at end) slot
  slot_back = slot_on next then end kept

  pub changed : IsBare start end next new
  changed = record {
    files = λ name part none. file_none name part (λ named. none (file_on next then end kept name named));
    strange = λ n strange. all_strange n strange plan then retires.away ∙ strange_was n strange;
    slots = λ slot small none. slot_none slot small (λ named. none (slot_back slot named));
    counters = λ sid none. counter_none sid (λ named. none (sid_on next then end kept sid named));
    keys = key_none;
    cell = cell_none;
  }
