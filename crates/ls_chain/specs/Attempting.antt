-- An attempt: what is read before a device is asked, the device, and what its answer leads to.
use Rattle.std.specs.Prelude.{ℕ, Bool, List, Option, None, Some, Result, Ok, Err}
use Rattle.ls_credential.specs.declared.kind.Kind.{Kind}
use Rattle.ls_weaver.specs.Slots.{slot_answer}
use Rattle.ls_formats.specs.declared.part.FilePart.TheVariants.{Pwd}
use Rattle.ls_board.specs.declared.action.Action.{Action}
use Rattle.ls_board.specs.declared.action.Action.TheVariants.{WeaverRead, GkVerify}
use Rattle.ls_board.specs.declared.action.Answer.{Answer}
use Rattle.ls_board.specs.declared.action.Answer.TheVariants.{Value, Wrong, Throttled, Accepted}
use Rattle.ls_board.specs.declared.world.World.{World}
use Rattle.ls_board.specs.Effect.{slot_at, read_answer}
use Rattle.ls_board.specs.Gatekeeper.{verify_answer}
use Rattle.ls_sealing.specs.Chain.{weaver_key, gatekeeper_password}
use Rattle.ls_chain.specs.declared.fault.Spot.{Spot}
use Rattle.ls_chain.specs.declared.offered.Offered.{Offered}
use Rattle.ls_chain.specs.declared.trying.AttemptEnd.{AttemptEnd}
use Rattle.ls_chain.specs.declared.trying.AttemptEnd.TheVariants.{Opened, WrongKind, Wrong as Missed, Throttled as Resting}
use Rattle.ls_chain.specs.Links.{spot, next_of, Links, links_at}
use Rattle.ls_chain.specs.Credentials.{credential_chain}
use Rattle.ls_chain.specs.Offers.{offer_chain}
use Rattle.ls_chain.specs.Trying.{asked_of}

-- ---- behind the device's answer

-- the end is of the kind that is stored
abbrev pub IsOfKind : AttemptEnd → Type 0
IsOfKind (Opened s) = Unit {0}
IsOfKind (WrongKind kind) = ⊥
IsOfKind (Missed rest) = Unit {0}
IsOfKind (Resting rest) = Unit {0}

-- the chain behind an answer that accepted
abbrev pub opened_end : Links → List ℕ → Option (List ℕ) → Result AttemptEnd Spot
opened_end l stretched value =
    next_of (credential_chain l stretched value) (λ s. Ok (Opened s))

-- by the answer of the slot or of the Gatekeeper; a device gives no other to such a question
abbrev pub attempt_by : Links → List ℕ → Answer → Result AttemptEnd Spot
attempt_by l stretched (Value value) = opened_end l stretched (Some value)
attempt_by l stretched (Accepted sid) = opened_end l stretched None
attempt_by l stretched (Wrong rest) = Ok (Missed rest)
attempt_by l stretched (Throttled rest) = Ok (Resting rest)
attempt_by l stretched _ = Err (spot Pwd 21)

-- with Weaver, and without it
abbrev pub slot_end : ℕ → ℕ → ℕ → List ℕ → ℕ → World → Result AttemptEnd Spot
slot_end user id slot stretched moment w =
    attempt_by (links_at w user id) stretched
    (read_answer (slot_answer (slot_at w slot) (weaver_key stretched) moment))

abbrev pub handle_end : ℕ → ℕ → List ℕ → List ℕ → ℕ → World → Result AttemptEnd Spot
handle_end user id handle stretched moment w =
    attempt_by (links_at w user id) stretched
    (verify_answer w.gk_key w.gk handle (gatekeeper_password stretched) moment)

-- ---- which device

-- without Weaver the Gatekeeper, where there is a handle
abbrev pub handle_asked : Option (List ℕ) → List ℕ → ℕ → Option Action
handle_asked (Some handle) stretched moment = Some (GkVerify handle (gatekeeper_password stretched) moment)
handle_asked None stretched moment = None

abbrev pub device_asked : Option ℕ → ℕ → Offered → Option Action
device_asked (Some slot) moment o = Some (WeaverRead slot (weaver_key o.stretched) moment)
device_asked None moment o = handle_asked o.handle o.stretched moment

abbrev pub stored_end : ℕ → ℕ → Option (List ℕ) → List ℕ → ℕ → World → Result AttemptEnd Spot
stored_end user id (Some handle) stretched moment w = handle_end user id handle stretched moment w
stored_end user id None stretched moment w = opened_end (links_at w user id) stretched None

abbrev pub device_end : ℕ → ℕ → Option ℕ → ℕ → Offered → World → Result AttemptEnd Spot
device_end user id (Some slot) moment o w = slot_end user id slot o.stretched moment w
device_end user id None moment o w = stored_end user id o.handle o.stretched moment w

-- ---- the attempt with a text of the kind that is stored

abbrev pub attempt_asked : ℕ → ℕ → Bool → Option ℕ → Kind → List ℕ → ℕ → World → Option Action
attempt_asked user id weaver slot kind text moment w =
    asked_of (offer_chain (links_at w user id) weaver kind text) (device_asked slot moment)

abbrev pub attempt_end : ℕ → ℕ → Bool → Option ℕ → Kind → List ℕ → ℕ → World → Result AttemptEnd Spot
attempt_end user id weaver slot kind text moment w =
    next_of (offer_chain (links_at w user id) weaver kind text)
    (λ o. device_end user id slot moment o w)
