-- The draft of a new protector: its parts, and the plan that writes it.
use Rattle.std.specs.Prelude.{◌≡◌, ℕ, List, Option, is_some, IfSome, length}
use Rattle.ls_board.specs.declared.action.Action.{Action}
use Rattle.ls_board.specs.declared.world.World.{World}
use Rattle.ls_board.specs.Runs.{AllSound, AllApply}
use Rattle.ls_credential.specs.Rules.{KindAndText}
use Rattle.ls_secret.specs.Secrets.{SecretValue}
use Rattle.ls_sealing.specs.Building.{Offer, for_credential, protector_for, protector_actions, writing_actions, credential_writing}
use Rattle.ls_sealing.specs.Draws.{credential_draw}
use Rattle.ls_sealing.specs.Protectors.{credential, is_enrolled}
use Rattle.ls_protector.specs.Parts.{parts_of}
use Rattle.ls_protector.specs.Steps.{Drafted}

-- by what is offered, the drawn bytes and the Gatekeeper's key
abbrev pub drafted : ℕ → ℕ → Option ℕ → Offer → List ℕ → List ℕ → Drafted
drafted user id slot offer drawn gk_key = record {
  parts = parts_of (is_some slot) (protector_for user id offer) slot;
  plan = protector_actions user id slot offer drawn gk_key;
}

-- the same for a credential, where this is the handle of its `pwd` file
abbrev pub signed_draft : ℕ → ℕ → Option ℕ → KindAndText → SecretValue → List ℕ → Option (List ℕ) → Drafted
signed_draft user id slot c s drawn handle =
    let p = protector_for user id (for_credential c s) in record {
      parts = parts_of (is_some slot) p slot;
      plan = writing_actions p slot (credential_writing slot c s (credential_draw c.kind drawn) handle);
    }

-- It is the draft for a credential, by a handle of 49 bytes exactly where the protector is to have a
-- record with the Gatekeeper.
pub record IsSignedDraft (user id : ℕ) (slot : Option ℕ) (c : KindAndText) (s : SecretValue)
    (drawn : List ℕ) (d : Drafted) : Type 0 where
  pub handle : Option (List ℕ)
  pub given : is_some handle ≡ is_enrolled (is_some slot) (credential c.kind)
  pub long : IfSome handle (λ h. length h ≡ 49)
  pub is : d ≡ signed_draft user id slot c s drawn handle

-- A board with so many slots that has the room may be asked for a plan, in any world.
pub record MayBeAsked (slots : ℕ) (plan : List Action) : Type 0 where
  pub sound : AllSound slots plan
  pub applies : (w : World) → AllApply w plan
