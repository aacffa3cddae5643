-- That nothing matches by chance: what is offered matches by being equal only.
use Rattle.std.specs.Prelude.{◌≡◌, ◌≢◌, ℕ, List, None, IsSomeAnd, MatchOption, MatchBool}
use Rattle.ls_credential.specs.Rules.{KindAndText}
use Rattle.ls_formats.specs.declared.part.FilePart.TheVariants.{Pwd}
use Rattle.ls_formats.specs.Contents.{pwd_of}
use Rattle.ls_sealing.specs.Chain.{stretched, weaver_key}
use Rattle.ls_sealing.specs.Protectors.{Held}
use Rattle.ls_sealing.specs.Seals.{IsHandleOf, blob_text, token_secret}

-- The devices refuse the stretched text: its Weaver key isn't the slot's, or without Weaver it gives
-- another handle than that of the `pwd` file. Where no device is asked, none refuses.
abbrev pub Refuses : ℕ → Held → List ℕ → Type 0
Refuses id h stretched =
    MatchBool h.weaver (IsSomeAnd h.slot (λ slot. slot.key ≢ weaver_key stretched))
    (MatchOption (h.files Pwd) ⊥
    (λ file. IsSomeAnd (pwd_of file).handle (λ handle. ¬ IsHandleOf h.device id stretched handle)))

-- where a text of the same kind is offered that isn't the stored one, the devices refuse it
abbrev pub IsApart : ℕ → Held → KindAndText → KindAndText → Type 0
IsApart id h stored offered =
    offered.kind ≡ stored.kind → offered.text ≢ stored.text
    → Refuses id h (stretched (h.files Pwd) offered.text)

-- where other bytes are offered than those of the token, the blob doesn't open under them
abbrev pub IsTokenApart : Held → List ℕ → List ℕ → Type 0
IsTokenApart h stored offered = offered ≢ stored → blob_text h (token_secret h offered) ≡ None
