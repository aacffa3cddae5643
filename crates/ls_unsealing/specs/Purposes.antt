-- Protectors of the code, as protectors.
use Rattle.std.specs.Prelude.{Bool, false}
use Rattle.ls_naming.specs.Named.{has_credential}
use Rattle.ls_sealing.specs.Protectors as protectors
use Rattle.ls_unsealing.specs.declared.protector.Purpose.{Purpose}
use Rattle.ls_unsealing.specs.declared.protector.Purpose.TheVariants.{Credential, Token}
use Rattle.ls_unsealing.specs.declared.protector.Protector.{Protector}

abbrev pub purpose_of : Purpose → protectors.Purpose
purpose_of (Credential kind) = protectors.credential kind
purpose_of Token = protectors.token

abbrev pub protector_of : Protector → protectors.Protector
protector_of p = record { user = p.user; id = p.id; purpose = purpose_of p.purpose }

-- it is for a credential that isn't none
abbrev pub has_text : protectors.Purpose → Bool
has_text (protectors.credential kind) = has_credential kind
has_text protectors.token = false
