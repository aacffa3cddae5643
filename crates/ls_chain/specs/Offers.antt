-- What is offered to the device of a protector, in any world.
use Rattle.std.specs.Prelude.{◌||◌, ℕ, Bool, List, is_some, if◌then◌else◌, None, Result, Ok, Err}
use Rattle.ls_credential.specs.declared.kind.Kind.{Kind}
use Rattle.ls_naming.specs.Named.{has_credential}
use Rattle.ls_formats.specs.Contents.{Pwd as PwdValue, pwd_of}
use Rattle.ls_formats.specs.declared.part.FilePart.TheVariants.{Pwd, Weaver}
use Rattle.ls_sealing.specs.Chain.{stretched_at, stretched_default}
use Rattle.ls_chain.specs.declared.fault.Spot.{Spot}
use Rattle.ls_chain.specs.declared.offered.Offered.{Offered}
use Rattle.ls_chain.specs.Links.{spot, next_of, sound_file, Links}

-- by what a `pwd` file says; without Weaver it has a handle
abbrev pub offered_by : Bool → PwdValue → List ℕ → Result Offered Spot
offered_by weaver p text =
    if weaver || is_some p.handle
    then Ok (record {
      stretched = stretched_at p.log_n p.log_r p.log_p p.salt text;
      handle = p.handle;
    }) else Err (spot Pwd 20)

abbrev pub offered_in : Bool → List ℕ → List ℕ → Result Offered Spot
offered_in weaver text file = offered_by weaver (pwd_of file) text

-- no credential has no `pwd` file
abbrev pub pwd_offer : Links → Bool → Kind → List ℕ → Result Offered Spot
pwd_offer l weaver kind text =
    if has_credential kind then next_of (sound_file Pwd (l.files Pwd)) (offered_in weaver text)
    else Ok (record { stretched = stretched_default; handle = None })

-- with Weaver there is the file of the slot
abbrev pub slot_checked : Links → Bool → Offered → Result Offered Spot
slot_checked l weaver offered =
    if weaver then next_of (sound_file Weaver (l.files Weaver)) (λ bytes. Ok offered)
    else Ok offered

abbrev pub offer_chain : Links → Bool → Kind → List ℕ → Result Offered Spot
offer_chain l weaver kind text = next_of (pwd_offer l weaver kind text) (slot_checked l weaver)
