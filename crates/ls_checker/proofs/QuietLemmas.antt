-- What decides whether an action is quiet.
use Rattle.std.proofs.Common.{◌≡◌, not, zero, suc, Bool, true, false, List, [], ◌∷◌, ℕ, Option, None, Some, refl, sym, ap, subst, ◌∙◌}
use Rattle.std.specs.Prelude.{◌↔◌, IsTrue, MatchBool, Result, Err, IfOk, slice_get, slice_set, slice_index_or}
use Rattle.std.specs.Ordering.{nat_cmp}
use Rattle.std.specs.FinMap.Entries.{find}
use Rattle.ls_bytes.specs.declared.memory.Memory.{Memory as NoMemory}
use Rattle.ls_formats.specs.declared.fault.FormatFault.{FormatFault}
use Rattle.ls_formats.specs.declared.fault.FormatFault.TheVariants.{Bad, Memory}
use Rattle.ls_formats.specs.declared.name.FileName.{FileName}
use Rattle.ls_formats.specs.declared.name.FileName.TheVariants.{Settings, Protector}
use Rattle.ls_formats.specs.Faults.{Parses, Spells}
use Rattle.ls_formats.specs.FileNames.{IsFileName, name_text}
use Rattle.ls_formats.specs.PartNames.{PartOf}
use Rattle.ls_record.specs.Rows.{Rec, IsRecord}
use Rattle.ls_naming.specs.Named.{NamesFile}
use Rattle.ls_naming.proofs.NamingLemmas.{record_named}
use Rattle.ls_weaver.specs.declared.slot.Slot.{Slot}
use Rattle.ls_weaver.specs.Slots.{blank_slot, slot_after}
use Rattle.ls_board.specs.declared.action.Action.{Action}
use Rattle.ls_board.specs.declared.action.Action.TheVariants.{WeaverRead}
use Rattle.ls_board.specs.declared.devices.Counter.{Counter}
use Rattle.ls_board.specs.declared.world.World.{World}
use Rattle.ls_board.specs.Effect.{slot_at, after}
use Rattle.ls_board.specs.Gatekeeper.{record_at, verified}
use Rattle.ls_sealing.specs.Protectors.{has_weaver}
use Rattle.ls_standing.specs.Quiet.{IsUnnamed, IsQuiet}
use Rattle.ls_standing.proofs.TouchLemmas.{file_unnamed}

-- ---- files

false_true : IsTrue false → ⊥
false_true h = cc

part_by : (w : World) (r : Rec) (part : PartOf) (b : Bool) → IsRecord r → IsFileName (Protector part)
    → MatchBool b (NamesFile (has_weaver w) r part) (¬ NamesFile (has_weaver w) r part)
    → IsTrue (not b) ↔ IsUnnamed w r (name_text (Protector part))
part_by w r part true is file named = (λ no_way. absurd (false_true no_way), λ unnamed. absurd (unnamed.named part named refl))
part_by w r part false is file none = (λ _. file_unnamed w r part is file none, λ _. refl)

-- a part's file is unnamed where the record doesn't name it
pub part_decided : (w : World) (r : Rec) (name : FileName) (part : PartOf) (b weaver : Bool) → IsRecord r → IsFileName name
    → name ≡ Protector part → weaver ≡ has_weaver w → MatchBool b (NamesFile weaver r part) (¬ NamesFile weaver r part)
    → IsTrue (not b) ↔ IsUnnamed w r (name_text name)
part_decided w r name part b weaver is file spelled same named =
    subst (λ (n : FileName). IsTrue (not b) ↔ IsUnnamed w r (name_text n)) (sym spelled)
    (part_by w r part b is (subst IsFileName spelled file) (subst (λ (v : Bool). MatchBool b (NamesFile v r part) (¬ NamesFile v r part)) same named))

pub not_spelled : (bytes : List ℕ) (fault : FormatFault) → Parses IsFileName name_text bytes (Err fault) → ¬ Spells IsFileName name_text bytes
not_spelled bytes (Bad at) parses = parses.outside
not_spelled bytes Memory parses = absurd parses

-- a name that isn't one of the service's is unnamed
pub other_decided : (w : World) (r : Rec) (bytes : List ℕ) (result : Result FileName FormatFault) (fault : FormatFault) → IsRecord r
    → result ≡ Err fault → Parses IsFileName name_text bytes result → IsTrue true ↔ IsUnnamed w r bytes
other_decided w r bytes result fault is failed parses =
    let none = not_spelled bytes fault (subst (Parses IsFileName name_text bytes) failed parses) in
    let unnamed : IsUnnamed w r bytes = record {
      settings = λ settings. none (Settings settings.0, tt, sym settings.1);
      named = λ name named text. none (Protector name, record_named (has_weaver w) r is name named, sym text);
    } in
    (λ _. unnamed, λ _. refl)

-- ---- slots

-- a slot that isn't there stays so
past : (slots : List Slot) (n : ℕ) (s d : Slot) → slice_get slots n ≡ None → slice_index_or (slice_set slots n s) n d ≡ slice_index_or slots n d
past [] n s d e = refl
past (x ∷ slots) zero s d e = absurd (cc)
past (x ∷ slots) (suc n) s d e = past slots n s d e

there : (slots : List Slot) (n : ℕ) (s d x : Slot) → slice_get slots n ≡ Some x
    → (slice_index_or (slice_set slots n s) n d ≡ s) × (slice_index_or slots n d ≡ x)
there [] n s d x e = absurd (cc)
there (y ∷ slots) zero s d x e = (refl, cc)
there (y ∷ slots) (suc n) s d x e = there slots n s d x e

module _ (w : World) (slot : ℕ) (key : List ℕ) (moment : ℕ) where
  abbrev pub IsLeft : Type 0
  IsLeft = slot_at (after w (WeaverRead slot key moment) 0) slot ≡ slot_at w slot

  pub reading_past : slice_get w.slots slot ≡ None → IsTrue true ↔ IsLeft
  reading_past e = (λ _. past w.slots slot (slot_after (slot_at w slot) key moment) blank_slot e, λ _. refl)

  pub reading_there : (s : Slot) (b : Bool) → slice_get w.slots slot ≡ Some s → IsTrue b ↔ (slot_after s key moment ≡ s) → IsTrue b ↔ IsLeft
  reading_there s b e decided =
      let both = there w.slots slot (slot_after (slot_at w slot) key moment) blank_slot s e in
      let is = both.0 ∙ ap (λ (x : Slot). slot_after x key moment) both.1 in
      (λ left. is ∙ decided.0 left ∙ sym both.1, λ same. decided.1 (sym is ∙ same ∙ both.1))

-- ---- the Gatekeeper's records

pub verified_same : (handle password : List ℕ) (moment : ℕ) (key device : List ℕ) (records gk : List (ℕ × Counter)) → key ≡ device → records ≡ gk
    → verified key records handle password moment ≡ verified device gk handle password moment
verified_same handle password moment key device records gk same also = λ i. verified (same i) (also i) handle password moment

-- what is found is compared with what was found before
pub record_decided : (b : Bool) (found before : Option Counter) (sid id : ℕ) (rows later old earlier : List (ℕ × Counter))
    → found ≡ find nat_cmp sid rows → rows ≡ later → before ≡ find nat_cmp sid old → old ≡ earlier → sid ≡ id
    → IsTrue b ↔ (found ≡ before) → IsTrue b ↔ (record_at later id ≡ record_at earlier id)
record_decided b found before sid id rows later old earlier is new was kept same decided =
    let now : found ≡ record_at later id = is ∙ (λ i. find nat_cmp (same i) (new i)) in
    let then : before ≡ record_at earlier id = was ∙ (λ i. find nat_cmp (same i) (kept i)) in
    (λ left. sym now ∙ decided.0 left ∙ then, λ equal. decided.1 (now ∙ equal ∙ sym then))

-- ---- all actions

-- the answer, if there is one, is whether the action is quiet
abbrev pub Decides : World → Rec → Result Bool NoMemory → Action → Type 0
Decides w r result a = IfOk result (λ quiet. IsTrue quiet ↔ IsQuiet w r a)

pub decides_as : (w : World) (r : Rec) (result : Result Bool NoMemory) (a b : Action) → a ≡ b → Decides w r result b → Decides w r result a
decides_as w r result a b same decided = subst (Decides w r result) (sym same) decided
