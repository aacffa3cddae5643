-- What is no `weaver` file names no slot.
use Rattle.std.proofs.Common.{◌≡◌, ◌<◌, ◌^◌, Bool, true, false, List, ℕ, None, Some, cond, refl, sym, ap, subst, ◌∙◌, drop}
use Rattle.std.specs.Prelude.{bytes_eq, Result, Err}
use Rattle.std.proofs.lemmas.Slice.Eq.{bytes_eq-Decides}
use Rattle.byteorder.specs.Endian.{big_number}
use Rattle.byteorder.specs.Numbers.{big_from-lt}
use Rattle.ls_bytes.specs.Fields.{be32}
use Rattle.ls_formats.specs.declared.slot.SlotFile.{SlotFile}
use Rattle.ls_formats.specs.declared.fault.FormatFault.{FormatFault}
use Rattle.ls_formats.specs.declared.fault.FormatFault.TheVariants.{Bad, Memory}
use Rattle.ls_formats.specs.Contents.{IsSlot, slot_bytes}
use Rattle.ls_formats.specs.Faults.{Parses, Spells}
use Rattle.ls_formats.proofs.ContentLemmas.{big_are_bytes}
use Rattle.ls_sealing.specs.Protectors.{slot_number}

not_spelled : (file : List ℕ) (fault : FormatFault) → Parses IsSlot slot_bytes file (Err fault) → ¬ Spells IsSlot slot_bytes file
not_spelled file (Bad at) parses = parses.outside
not_spelled file Memory parses = absurd parses

-- four bytes are a number of 32 bits
small_number : (n : ℕ) → big_number 4 (be32 n) < 2 ^ 32
small_number n = big_from-lt 0 4 (be32 n) (big_are_bytes 4 n).each

no_slot_by : (file : List ℕ) (n : ℕ) (fault : FormatFault) → n ≡ big_number 4 (drop 1 file) → Parses IsSlot slot_bytes file (Err fault)
    → (b : Bool) → bytes_eq file (slot_bytes (record { slot = n })) ≡ b → cond b (Some n) None ≡ None
no_slot_by file n fault is parses true same =
    let spelled : file ≡ slot_bytes (record { slot = n }) = (bytes_eq-Decides file (slot_bytes (record { slot = n }))).0 same in
    let again : big_number 4 (be32 n) ≡ n = ap (λ (l : List ℕ). big_number 4 (drop 1 l)) (sym spelled) ∙ sym is in
    absurd (not_spelled file fault parses (record { slot = n }, subst (λ (k : ℕ). k < 2 ^ 32) again (small_number n), sym spelled))
no_slot_by file n fault is parses false other = refl

pub no_slot : (file : List ℕ) (r : Result SlotFile FormatFault) (fault : FormatFault) → r ≡ Err fault → Parses IsSlot slot_bytes file r → slot_number file ≡ None
no_slot file r fault is parses =
    no_slot_by file (big_number 4 (drop 1 file)) fault refl (subst (Parses IsSlot slot_bytes file) is parses) _ refl
