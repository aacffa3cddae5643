-- What decides whether a world keeps something beside its record.
use Rattle.std.proofs.Common.{◌≡◌, Bool, true, false, List, ℕ, Option, None, Some, refl, sym, ap, subst, ◌∙◌}
use Rattle.std.specs.Prelude.{◌↔◌, IsTrue, Result, Ok, Err, IfSome, slice_get}
use Rattle.std.specs.List.{Contains}
use Rattle.std.specs.Option.{unwrap_or}
use Rattle.std.proofs.lemmas.Option.{unwrap_or-slice_get, get_or_from_slice_get}
use Rattle.std.proofs.lemmas.Map.Lookups.{exact_bytes}
use Rattle.ls_formats.specs.declared.fault.FormatFault.{FormatFault}
use Rattle.ls_formats.specs.declared.name.FileName.{FileName}
use Rattle.ls_formats.specs.declared.name.FileName.TheVariants.{Settings, Protector}
use Rattle.ls_formats.specs.Faults.{Parses}
use Rattle.ls_formats.specs.FileNames.{IsFileName, name_text}
use Rattle.ls_formats.specs.PartNames.{PartOf, IsPartOf, part_name_text}
use Rattle.ls_record.specs.Rows.{Rec}
use Rattle.ls_naming.specs.Named.{NamesFile}
use Rattle.ls_weaver.specs.declared.slot.Slot.{Slot}
use Rattle.ls_weaver.specs.Slots.{blank_slot}
use Rattle.ls_board.specs.declared.world.World.{World}
use Rattle.ls_board.specs.Order.{byte_cmp}
use Rattle.ls_board.specs.Effect.{file_at, slot_at}
use Rattle.ls_sealing.specs.Protectors.{has_weaver}
use Rattle.ls_standing.specs.Bare.{IsStrange}
use Rattle.ls_checker.specs.BareRows.{HasKeyAt, IsLeftover, MayStay, IsLeft}
use Rattle.ls_checker.proofs.QuietLemmas.{not_spelled}
use Rattle.ls_checker.proofs.TableLemmas.{found_passes}

-- ---- the files of users and protectors

module _ (w : World) (r : Rec) (retired : List (List ℕ)) where
  stays_by : (name : FileName) (bytes : List ℕ) → IsFileName name → name_text name ≡ bytes → ¬ IsLeftover w r retired bytes → MayStay w r retired bytes name
  stays_by (Settings side) bytes is spelled none = tt
  stays_by (Protector part) bytes is spelled none = λ neither. none (record {
    name = part;
    part = is;
    spelled = spelled;
    unnamed = neither.0;
    current = neither.1;
  })

  -- a name of the service's is no leftover where its file may stay
  pub read_decided : (bytes : List ℕ) (result : Result FileName FormatFault) (name : FileName) (b : Bool) → result ≡ Ok name
      → Parses IsFileName name_text bytes result → IsTrue b ↔ MayStay w r retired bytes name → IsTrue b ↔ (¬ IsLeftover w r retired bytes)
  read_decided bytes result name b is parses decided =
      let read = subst (Parses IsFileName name_text bytes) is parses in (
        λ stays left. subst (MayStay w r retired bytes) (sym (read.2 (Protector left.name) left.part left.spelled)) (decided.0 stays) (left.unnamed, left.current),
        λ none. decided.1 (stays_by name bytes read.0 read.1 none),
      )

  -- and neither is another name
  pub unread_decided : (bytes : List ℕ) (result : Result FileName FormatFault) (fault : FormatFault) → result ≡ Err fault
      → Parses IsFileName name_text bytes result → IsTrue true ↔ (¬ IsLeftover w r retired bytes)
  unread_decided bytes result fault is parses =
      (λ _ left. not_spelled bytes fault (subst (Parses IsFileName name_text bytes) is parses) (Protector left.name, left.part, left.spelled), λ _. refl)

  -- no leftover is found where each part's file is named, retired or absent
  pub parts_decided : (b : Bool) → IsTrue b ↔ ((n : List ℕ) → IsLeftover w r retired n → file_at w n ≡ None)
      → IsTrue b ↔ ((name : PartOf) → IsPartOf name → (¬ NamesFile (has_weaver w) r name) → (¬ Contains retired (part_name_text name)) → file_at w (part_name_text name) ≡ None)
  parts_decided b decided = (
    λ is name part unnamed current. decided.0 is (part_name_text name) (record { name = name; part = part; spelled = refl; unnamed = unnamed; current = current }),
    λ none. decided.1 (λ n left. subst (λ (m : List ℕ). file_at w m ≡ None) left.spelled (none left.name left.part left.unnamed (λ has. left.current (subst (Contains retired) left.spelled has)))),
  )

-- ---- the files of others

-- a name that is read isn't strange
pub read_known : (bytes : List ℕ) (result : Result FileName FormatFault) (name : FileName) → result ≡ Ok name → Parses IsFileName name_text bytes result → ¬ IsStrange bytes
read_known bytes result name is parses strange =
    let read = subst (Parses IsFileName name_text bytes) is parses in
    strange name read.0 (sym read.1)

-- one that isn't read is
pub unread_strange : (bytes : List ℕ) (result : Result FileName FormatFault) (fault : FormatFault) → result ≡ Err fault → Parses IsFileName name_text bytes result → IsStrange bytes
unread_strange bytes result fault is parses name file same =
    not_spelled bytes fault (subst (Parses IsFileName name_text bytes) is parses) (name, file, sym same)

each_row : {K X : Type 0} (P : K → Type 0) → ((k : K) → P k) → (row : Option (K × X)) → IfSome row (λ x. P x.0)
each_row P all None = tt
each_row P all (Some x) = all x.0

module _ (start w : World) where
  abbrev Leaves : List (List ℕ × List ℕ) → Type 0
  Leaves rows = (at : ℕ) → HasKeyAt (IsLeft start w) rows at

  all_left : Leaves w.files → Leaves start.files → (n : List ℕ) → IsLeft start w n
  all_left now then n = elim (file_at w n) as (λ o. file_at w n ≡ o → IsLeft start w n) [
    | Some bytes ↦ λ found. found_passes byte_cmp exact_bytes (IsLeft start w) w.files now n bytes found
    | None ↦ λ none. elim (file_at start n) as (λ o. file_at start n ≡ o → IsLeft start w n) [
      | Some bytes ↦ λ found. found_passes byte_cmp exact_bytes (IsLeft start w) start.files then n bytes found
      | None ↦ λ neither strange. none ∙ sym neither
    ] refl
  ] refl

  row_left : ((n : List ℕ) → IsLeft start w n) → (rows : List (List ℕ × List ℕ)) → Leaves rows
  row_left all rows at = each_row (IsLeft start w) all (slice_get rows at)

  -- all files are left where those of both worlds are
  pub both_left : (a b : Bool) → IsTrue a ↔ Leaves w.files → IsTrue b ↔ Leaves start.files → a ≡ true → IsTrue b ↔ ((n : List ℕ) → IsLeft start w n)
  both_left a b now then is = (λ more. all_left (now.0 is) (then.0 more), λ all. then.1 (row_left all start.files))

  -- and not where one of the first isn't
  pub one_not_left : (a : Bool) → IsTrue a ↔ Leaves w.files → a ≡ false → IsTrue a ↔ ((n : List ℕ) → IsLeft start w n)
  one_not_left a now fails = (λ is. absurd (cc), λ all. now.1 (row_left all w.files))

-- ---- slots

module _ (w : World) (slot : ℕ) where
  abbrev IsBlank : Type 0
  IsBlank = slot_at w slot ≡ blank_slot

  pub past_decided : slice_get w.slots slot ≡ None → IsTrue true ↔ IsBlank
  past_decided none = (λ _. sym (unwrap_or-slice_get w.slots slot blank_slot) ∙ ap (λ (o : Option Slot). unwrap_or o blank_slot) none, λ _. refl)

  pub there_decided : (s blank : Slot) (b : Bool) → slice_get w.slots slot ≡ Some s → blank ≡ blank_slot → IsTrue b ↔ (s ≡ blank) → IsTrue b ↔ IsBlank
  there_decided s blank b found is decided =
      let there = get_or_from_slice_get w.slots slot s blank_slot found in
      (λ same. there ∙ decided.0 same ∙ is, λ same. decided.1 (sym there ∙ same ∙ sym is))
