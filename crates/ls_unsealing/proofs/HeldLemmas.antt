-- The parts that are read one by one are all that a world holds of a protector.
use Rattle.std.proofs.Common.{◌≡◌, Bool, true, false, List, ℕ, Option, None, refl, sym, ap, ◌∙◌}
use Rattle.std.specs.Prelude.{◌||◌, slice_get}
use Rattle.std.specs.List.{list_any}
use Rattle.std.specs.Option.{option_and_then}
use Rattle.ls_credential.specs.declared.kind.Kind.TheVariants.{Empty, Pattern, Pin, Password}
use Rattle.ls_formats.specs.declared.part.FilePart.{FilePart}
use Rattle.ls_formats.specs.declared.part.FilePart.TheVariants.{SpBlob, Pwd, Secdis, Weaver, Metrics, Handle, E0, P1, Resume}
use Rattle.ls_naming.specs.Membership.{same_part}
use Rattle.ls_weaver.specs.declared.slot.Slot.{Slot}
use Rattle.ls_board.specs.declared.devices.Counter.{Counter}
use Rattle.ls_board.specs.declared.world.World.{World}
use Rattle.ls_board.specs.Effect.{file_at}
use Rattle.ls_board.specs.Gatekeeper.{record_at}
use Rattle.ls_board.specs.Keys.{key_at}
use Rattle.ls_sealing.specs.Protectors.{Purpose, credential, token, Protector, held, held_file, has_part, parts_for, file_name, has_weaver, is_enrolled, slot_number, where_it_has}
use Rattle.ls_unsealing.specs.declared.parts.PartFiles.{PartFiles}
use Rattle.ls_unsealing.specs.Parts.{file_of, held_by}

-- what is none of the five parts of protectors is none of any
module _ (p : FilePart → Bool) (blob : p SpBlob ≡ false) (pwd : p Pwd ≡ false) (secdis : p Secdis ≡ false) (weaver : p Weaver ≡ false) (metrics : p Metrics ≡ false) where
  none_of : (w : Bool) (purpose : Purpose) → list_any p (parts_for w purpose) ≡ false
  none_of true (credential Empty) = λ i. blob i || (weaver i || false)
  none_of false (credential Empty) = λ i. blob i || (secdis i || false)
  none_of true (credential Pattern) = λ i. blob i || (pwd i || (weaver i || (metrics i || false)))
  none_of false (credential Pattern) = λ i. blob i || (pwd i || (secdis i || (metrics i || false)))
  none_of true (credential Pin) = λ i. blob i || (pwd i || (weaver i || (metrics i || false)))
  none_of false (credential Pin) = λ i. blob i || (pwd i || (secdis i || (metrics i || false)))
  none_of true (credential Password) = λ i. blob i || (pwd i || (weaver i || (metrics i || false)))
  none_of false (credential Password) = λ i. blob i || (pwd i || (secdis i || (metrics i || false)))
  none_of true token = λ i. blob i || (secdis i || (weaver i || false))
  none_of false token = λ i. blob i || (secdis i || false)

no_part : (w : World) (p : Protector) (part : FilePart) → has_part (has_weaver w) p.purpose part ≡ false → None ≡ held_file w p part
no_part w p part none = sym (ap (λ (b : Bool). where_it_has b (file_at w (file_name p part))) none)

-- the file of each part
module _ (w : World) (p : Protector) (files : PartFiles)
    (blob : files.spblob ≡ held_file w p SpBlob) (pwd : files.pwd ≡ held_file w p Pwd) (secdis : files.secdis ≡ held_file w p Secdis)
    (weaver : files.weaver ≡ held_file w p Weaver) (metrics : files.metrics ≡ held_file w p Metrics) where
  files_held : (part : FilePart) → file_of files part ≡ held_file w p part
  files_held SpBlob = blob
  files_held Pwd = pwd
  files_held Secdis = secdis
  files_held Weaver = weaver
  files_held Metrics = metrics
  files_held Handle = no_part w p Handle (none_of (same_part Handle) refl refl refl refl refl (has_weaver w) p.purpose)
  files_held E0 = no_part w p E0 (none_of (same_part E0) refl refl refl refl refl (has_weaver w) p.purpose)
  files_held P1 = no_part w p P1 (none_of (same_part P1) refl refl refl refl refl (has_weaver w) p.purpose)
  files_held Resume = no_part w p Resume (none_of (same_part Resume) refl refl refl refl refl (has_weaver w) p.purpose)

  pub all_held : (b : Bool) (slot : Option Slot) (counter : Option Counter) (key : Option (List ℕ)) → b ≡ has_weaver w
      → slot ≡ option_and_then (slice_get w.slots) (option_and_then slot_number files.weaver)
      → counter ≡ where_it_has (is_enrolled (has_weaver w) p.purpose) (record_at w.gk p.id)
      → key ≡ key_at w.keys p.id
      → held_by (record { weaver = b; files = files; slot = slot; counter = counter; device = w.gk_key; key = key }) ≡ held w p
  all_held b slot counter key is_weaver is_slot is_counter is_key =
      let of_file = is_slot ∙ ap (λ (o : Option (List ℕ)). option_and_then (slice_get w.slots) (option_and_then slot_number o)) weaver in
      λ i. record {
        weaver = is_weaver i;
        files = λ part. files_held part i;
        slot = of_file i;
        counter = is_counter i;
        device = w.gk_key;
        key = is_key i;
      }
