-- The plan is as it was drafted and written.
use Rattle.std.proofs.Common.{◌≡◌, ◌<◌, ◌^◌, ℕ, true, IsTrue, List, length, refl}
use Rattle.std.specs.Prelude.{is_some, slice_index}
use Rattle.ls_board.specs.Acts.{Sight}
use Rattle.ls_board.specs.Gatekeeper.{signed}
use Rattle.ls_credential.specs.Rules.{KindAndText}
use Rattle.ls_protector.specs.Drafts.{drafted, IsSignedDraft, MayBeAsked}
use Rattle.ls_protector.specs.Steps.{Drafted}
use Rattle.ls_record.specs.declared.edit.Edit.TheVariants.{PutRow}
use Rattle.ls_record.specs.declared.row.UserRow.{UserRow}
use Rattle.ls_record.specs.Edits.{changed}
use Rattle.ls_sealing.specs.Building.{for_credential}
use Rattle.ls_sealing.specs.Draws.{credential_draw_size}
use Rattle.ls_secret.specs.declared.personal.Personal.TheVariants.{SpGkAuthentication}
use Rattle.ls_secret.specs.Derivation.{subkey_of}
use Rattle.ls_secret.specs.Secrets.{SecretValue}
use Rattle.ls_secret.specs.Subkeys.{subkey_bytes}
use Rattle.ls_settings.specs.Commits.{IsCommit}
use Rattle.ls_turn.specs.declared.session.Session.{Session}
use Rattle.ls_changing.specs.declared.numbers.Numbers.{Numbers}
use Rattle.ls_changing.specs.declared.planned.Planned.{Planned}
use Rattle.ls_changing.specs.declared.planned.Besides.{Besides}
use Rattle.ls_changing.specs.Planning.{IsPlan, IsChoice, chosen_by}
use Rattle.ls_changing.specs.Replacing.{row_then, comes, enrolling, forgetting}

abbrev pub plan_of : ℕ → Numbers → Drafted → Besides → Planned
plan_of gone n draft b = record { gone = gone; id = n.id; slot = n.slot; secure = n.secure; draft = draft; others = b.others; commit = b.commit; after = b.after }

pub plan_is : (b : Sight) (x : Session) (row : UserRow) (c : KindAndText) (s : SecretValue) (drawn : List ℕ) (n : Numbers) → IsChoice x row c drawn n
    → (bytes handle : List ℕ) (salt : ℕ) → salt < 2 ^ 64 → length bytes ≡ credential_draw_size (is_some n.slot) c.kind → ((i : ℕ) → slice_index bytes i < 256)
    → (draft : Drafted) → IsSignedDraft row.user n.id n.slot c s bytes draft → MayBeAsked x.slots draft.plan
    → (IsTrue b.told → draft ≡ drafted row.user n.id n.slot (for_credential c s) bytes b.world.gk_key)
    → (IsTrue b.told → comes row.secure n.secure ≡ true → handle ≡ signed b.world.gk_key n.secure salt (subkey_bytes (subkey_of s SpGkAuthentication)))
    → (z : Besides) → z.others ≡ enrolling row n.secure handle → z.after ≡ forgetting row n.secure → IsCommit x.settings z.commit.to z.commit.actions
    → z.commit.to.settled.rec ≡ changed x.settings.settled.rec (PutRow (row_then (chosen_by row c n)))
    → IsPlan b x row c s drawn (plan_of row.protector n draft z)
plan_is b x row c s drawn n choice bytes handle salt small long each draft made asked written signs z others after commit next = record {
  gone = refl;
  chosen = choice.chosen;
  place = choice.place;
  fits = choice.fits;
  secure = choice.secure;
  bytes = bytes;
  are = record { long = long; each = each };
  draft = made;
  asked = asked;
  written = written;
  handle = handle;
  salt = salt;
  small = small;
  signs = signs;
  others = others;
  after = after;
  commit = commit;
  next = next;
}
