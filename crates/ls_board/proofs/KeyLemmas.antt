-- What the key store's answer says of the text.
use Rattle.std.proofs.Common.{◌≡◌, ℕ, List, [], Option, None, Some, refl, sym, ◌∙◌, ap}
use Rattle.std.specs.Prelude.{MatchOption}
use Rattle.std.specs.Option.{option_and_then}
use Rattle.ls_gcm.specs.Gcm.{gcm_open}
use Rattle.ls_board.specs.declared.action.Answer.{Answer}
use Rattle.ls_board.specs.declared.action.Answer.TheVariants.{Bytes, NoKey, BadTag}
use Rattle.ls_board.specs.Keys.{IsOpening, key_at}

module _ (keys : List (ℕ × List ℕ)) (alias : ℕ) (sealed out : List ℕ) where
  abbrev IsBy : Answer → Option (List ℕ) → Type 0
  IsBy answer key =
      MatchOption key ((answer ≡ NoKey) × (out ≡ [])) (λ key.
      MatchOption (gcm_open key sealed) ((answer ≡ BadTag) × (out ≡ []))
      (λ text. (answer ≡ Bytes) × (out ≡ text)))

  abbrev opens_by : Option (List ℕ) → Option (List ℕ)
  opens_by key = option_and_then (λ k. gcm_open k sealed) key

  by_text : (answer : Answer) (text : Option (List ℕ)) → MatchOption text ((answer ≡ BadTag) × (out ≡ [])) (λ text. (answer ≡ Bytes) × (out ≡ text)) → answer ≡ Bytes → text ≡ Some out
  by_text answer None is here = absurd (let e : BadTag ≡ Bytes = sym is.0 ∙ here in cc)
  by_text answer (Some text) is here = ap Some (sym is.1)

  no_text : (answer : Answer) (text : Option (List ℕ)) → MatchOption text ((answer ≡ BadTag) × (out ≡ [])) (λ text. (answer ≡ Bytes) × (out ≡ text)) → answer ≡ BadTag → text ≡ None
  no_text answer None is here = refl
  no_text answer (Some text) is here = absurd (let e : Bytes ≡ BadTag = sym is.0 ∙ here in cc)

  open_by : (key : Option (List ℕ)) → IsBy Bytes key → opens_by key ≡ Some out
  open_by None is = absurd (let e : Bytes ≡ NoKey = is.0 in cc)
  open_by (Some key) is = by_text Bytes (gcm_open key sealed) is refl

  closed_by : (key : Option (List ℕ)) → IsBy BadTag key → opens_by key ≡ None
  closed_by None is = absurd (let e : BadTag ≡ NoKey = is.0 in cc)
  closed_by (Some key) is = no_text BadTag (gcm_open key sealed) is refl

  there_by : (key : Option (List ℕ)) → IsBy BadTag key → ¬ (key ≡ None)
  there_by None is = absurd (let e : BadTag ≡ NoKey = is.0 in cc)
  there_by (Some key) is = λ none. absurd (cc)

  none_by : (key : Option (List ℕ)) → IsBy NoKey key → key ≡ None
  none_by None is = refl
  none_by (Some key) is = by (gcm_open key sealed) is
    where
      by : (text : Option (List ℕ)) → MatchOption text ((NoKey ≡ BadTag) × (out ≡ [])) (λ text. (NoKey ≡ Bytes) × (out ≡ text)) → Some key ≡ None
      by None is = absurd (let e : NoKey ≡ BadTag = is.0 in cc)
      by (Some text) is = absurd (let e : NoKey ≡ Bytes = is.0 in cc)

  pub is_opened : IsOpening keys alias sealed Bytes out → option_and_then (λ k. gcm_open k sealed) (key_at keys alias) ≡ Some out
  is_opened is = open_by (key_at keys alias) is

  pub is_closed : IsOpening keys alias sealed BadTag out → (¬ (key_at keys alias ≡ None)) × (option_and_then (λ k. gcm_open k sealed) (key_at keys alias) ≡ None)
  is_closed is = (there_by (key_at keys alias) is, closed_by (key_at keys alias) is)

  pub is_unknown : IsOpening keys alias sealed NoKey out → key_at keys alias ≡ None
  is_unknown is = none_by (key_at keys alias) is
