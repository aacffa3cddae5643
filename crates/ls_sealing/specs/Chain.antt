-- How the secret of a protector derives from what is offered and from what devices and files hold.
use Rattle.std.specs.Prelude.{◌^◌, ℕ, List, take, drop, codes, Option, None, Some}
use Rattle.std.specs.Option.{option_and_then}
use Rattle.ls_hash.specs.Padding.{padded}
use Rattle.ls_hash.specs.Personal.{personalised_hash}
use Rattle.ls_scrypt.specs.Scrypt.{scrypt}
use Rattle.ls_gcm.specs.Gcm.{gcm_seal, gcm_open}
use Rattle.ls_blob.specs.Personal.{sealed_under, opened_under}
use Rattle.ls_formats.specs.Contents.{pwd_of}

-- ---- the text of a credential

-- what stands for a stretched text where there is no credential: 32 bytes
unfoldable pub stretched_default : List ℕ
stretched_default = padded 32 (codes "default-password")

-- a text, stretched with this salt, at a cost that is given by its powers of two
unfoldable pub stretched_at : ℕ → ℕ → ℕ → List ℕ → List ℕ → List ℕ
stretched_at log_n log_r log_p salt text =
    scrypt text salt (2 ^ log_n) (2 ^ log_r) (2 ^ log_p)

-- a text, stretched as the `pwd` file says; without that file there is no credential
abbrev pub stretched : Option (List ℕ) → List ℕ → List ℕ
stretched None text = stretched_default
stretched (Some file) text =
    let p = pwd_of file in stretched_at p.log_n p.log_r p.log_p p.salt text

-- the key by which a stretched text reads its Weaver slot: 16 bytes
unfoldable pub weaver_key : List ℕ → List ℕ
weaver_key stretched = take 16 (personalised_hash (codes "weaver-key") stretched)

-- the password by which a stretched text is known to the Gatekeeper
unfoldable pub gatekeeper_password : List ℕ → List ℕ
gatekeeper_password stretched = personalised_hash (codes "user-gk-authentication") stretched

-- ---- what joins it

-- what the value of a Weaver slot gives
unfoldable pub value_share : List ℕ → List ℕ
value_share value = personalised_hash (codes "weaver-pwd") value

-- what discardable bytes give
unfoldable pub discardable_share : List ℕ → List ℕ
discardable_share bytes = personalised_hash (codes "secdiscardable-transform") bytes

-- with Weaver a token's discardable bytes are sealed under the value of its slot
abbrev pub discardable_personal : List ℕ
discardable_personal = codes "weaver-token"

abbrev pub sealed_discardable : List ℕ → List ℕ → List ℕ → List ℕ
sealed_discardable value iv bytes = sealed_under value discardable_personal iv bytes

abbrev pub opened_discardable : List ℕ → List ℕ → Option (List ℕ)
opened_discardable value file = opened_under value discardable_personal file

-- ---- two layers

-- the personalisation of the inner layer
abbrev pub layer_personal : List ℕ
layer_personal = codes "application-id"

-- A text in two layers: the inner one under the protector's secret, the outer one under its key in
-- the key store. Each begins with its iv.
abbrev pub layered : List ℕ → List ℕ → List ℕ → List ℕ → List ℕ → List ℕ
layered key secret inner_iv outer_iv text =
    gcm_seal key outer_iv (sealed_under secret layer_personal inner_iv text)

-- what the outer layer opens to, by the key in the key store, if there is one
abbrev pub opened_outer : Option (List ℕ) → List ℕ → Option (List ℕ)
opened_outer key content = option_and_then (λ k. gcm_open k content) key

-- what both layers open to
abbrev pub opened_layers : Option (List ℕ) → List ℕ → List ℕ → Option (List ℕ)
opened_layers key secret content =
    option_and_then (opened_under secret layer_personal) (opened_outer key content)

-- ---- a `resume` file

-- what it opens to behind its version: its outer layer by the key of alias 0, its inner one by a key
-- that is used once
abbrev pub opened_resume : Option (List ℕ) → List ℕ → List ℕ → Option (List ℕ)
opened_resume key once file = option_and_then (gcm_open once) (opened_outer key (drop 1 file))
