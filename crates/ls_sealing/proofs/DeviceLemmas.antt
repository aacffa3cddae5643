-- The devices of a protector know the text that it was sealed for, and no other.
use Rattle.std.proofs.Common.{◌≡◌, ◌≢◌, ◌<◌, ◌^◌, ◌⊎◌, inl, inr, ℕ, Bool, true, false, List, Option, None, Some, sym, ap, subst, ◌∙◌}
use Rattle.std.specs.Prelude.{IsSomeAnd, MatchOption, MatchBool, IsSome}
use Rattle.std.proofs.lemmas.Slice.Eq.{bytes_eq-Decides}
use Rattle.ls_credential.specs.Rules.{KindAndText}
use Rattle.ls_weaver.specs.declared.slot.Slot.{Slot}
use Rattle.ls_weaver.specs.Slots.{same_key}
use Rattle.ls_secret.specs.Secrets.{SecretValue}
use Rattle.ls_formats.specs.declared.part.FilePart.TheVariants.{Pwd}
use Rattle.ls_formats.specs.Contents.{pwd_of}
use Rattle.ls_board.specs.Gatekeeper.{signed, version_of, sid_of, salt_of, is_signed}
use Rattle.ls_sealing.specs.Chain.{stretched, weaver_key, gatekeeper_password}
use Rattle.ls_sealing.specs.Protectors.{Held}
use Rattle.ls_sealing.specs.Seals.{IsHandleOf, Seals}
use Rattle.ls_sealing.specs.Apart.{IsApart}
use Rattle.ls_sealing.proofs.ByteLemmas.{signed_sid}
use Rattle.ls_sealing.proofs.MatchLemmas.{equal_or}

by_true : (b : Bool) (A B : Type 0) → b ≡ true → MatchBool b A B → A
by_true true A B e h = h
by_true false A B e h = absurd (let wrong : false ≡ true = e in cc)

by_false : (b : Bool) (A B : Type 0) → b ≡ false → MatchBool b A B → B
by_false true A B e h = absurd (let wrong : true ≡ false = e in cc)
by_false false A B e h = h

of_some : {X : Type 0} (o : Option X) (x : X) (P : X → Type 0) → o ≡ Some x → IsSomeAnd o P → P x
of_some None x P e h = absurd h
of_some (Some y) x P e h = let same : y ≡ x = cc in subst P same h

of_file : {X : Type 0} (o : Option X) (x : X) (A : Type 0) (P : X → Type 0) → o ≡ Some x → MatchOption o A P → P x
of_file None x A P e h = absurd (let wrong : None ≡ Some x = e in cc)
of_file (Some y) x A P e h = let same : y ≡ x = cc in subst P same h

module _ (id : ℕ) (h : Held) (c d : KindAndText) (s : SecretValue) (sealed : Seals id h c s) (apart : IsApart id h c d) (kind : d.kind ≡ c.kind) where
  -- ---- a slot

  abbrev offered : List ℕ
  offered = stretched (h.files Pwd) d.text

  key_is : (slot : Slot) → h.weaver ≡ true → h.slot ≡ Some slot → slot.key ≡ weaver_key (stretched (h.files Pwd) c.text)
  key_is slot weaver there = of_some h.slot slot (λ x. x.key ≡ weaver_key (stretched (h.files Pwd) c.text)) there (by_true h.weaver _ _ weaver sealed.accepts)

  pub slot_knows : (slot : Slot) → h.weaver ≡ true → h.slot ≡ Some slot → (same_key slot.key (weaver_key offered) ≡ true → d.text ≡ c.text) × (d.text ≡ c.text → same_key slot.key (weaver_key offered) ≡ true)
  slot_knows slot weaver there = (λ same. by (equal_or d.text c.text) same, λ e. (bytes_eq-Decides slot.key (weaver_key offered)).1 (key_is slot weaver there ∙ ap (λ (t : List ℕ). weaver_key (stretched (h.files Pwd) t)) (sym e)))
    where
      by : (d.text ≡ c.text) ⊎ (d.text ≢ c.text) → same_key slot.key (weaver_key offered) ≡ true → d.text ≡ c.text
      by (inl e) same = e
      by (inr other) same =
          let refuses = by_true h.weaver _ _ weaver (apart kind other) in
          absurd (of_some h.slot slot (λ x. x.key ≢ weaver_key offered) there refuses ((bytes_eq-Decides slot.key (weaver_key offered)).0 same))

  -- ---- a handle

  handle_is : (file handle : List ℕ) → h.weaver ≡ false → h.files Pwd ≡ Some file → (pwd_of file).handle ≡ Some handle → IsHandleOf h.device id (stretched (h.files Pwd) c.text) handle
  handle_is file handle plain there has =
      let accepts = by_false h.weaver _ _ plain sealed.accepts in
      let in_file = of_file (h.files Pwd) file (Unit {0}) (λ f. IsSome h.counter × IsSomeAnd (pwd_of f).handle (IsHandleOf h.device id (stretched (h.files Pwd) c.text))) there accepts in
      of_some (pwd_of file).handle handle (IsHandleOf h.device id (stretched (h.files Pwd) c.text)) has in_file.1

  pub handle_names : (file handle : List ℕ) → id < 2 ^ 64 → h.weaver ≡ false → h.files Pwd ≡ Some file → (pwd_of file).handle ≡ Some handle → (version_of handle ≡ 1) × (sid_of handle ≡ id)
  handle_names file handle small plain there has =
      let is = handle_is file handle plain there has in
      (ap version_of is, ap sid_of is ∙ signed_sid h.device id (salt_of handle) (gatekeeper_password (stretched (h.files Pwd) c.text)) small)

  pub handle_knows : (file handle : List ℕ) → id < 2 ^ 64 → h.weaver ≡ false → h.files Pwd ≡ Some file → (pwd_of file).handle ≡ Some handle
      → (is_signed h.device handle (gatekeeper_password offered) ≡ true → d.text ≡ c.text) × (d.text ≡ c.text → is_signed h.device handle (gatekeeper_password offered) ≡ true)
  handle_knows file handle small plain there has = (λ right. by (equal_or d.text c.text) right, λ e. decides.1 (is ∙ (λ i. signed h.device (sym sid i) (salt_of handle) (gatekeeper_password (stretched (h.files Pwd) (sym e i))))))
    where
      is : IsHandleOf h.device id (stretched (h.files Pwd) c.text) handle
      is = handle_is file handle plain there has

      sid : sid_of handle ≡ id
      sid = (handle_names file handle small plain there has).1

      decides : (is_signed h.device handle (gatekeeper_password offered) ≡ true → handle ≡ signed h.device (sid_of handle) (salt_of handle) (gatekeeper_password offered)) × (handle ≡ signed h.device (sid_of handle) (salt_of handle) (gatekeeper_password offered) → is_signed h.device handle (gatekeeper_password offered) ≡ true)
      decides = bytes_eq-Decides handle (signed h.device (sid_of handle) (salt_of handle) (gatekeeper_password offered))

      by : (d.text ≡ c.text) ⊎ (d.text ≢ c.text) → is_signed h.device handle (gatekeeper_password offered) ≡ true → d.text ≡ c.text
      by (inl e) right = e
      by (inr other) right =
          let refuses = by_false h.weaver _ _ plain (apart kind other) in
          let in_file = of_file (h.files Pwd) file ⊥ (λ f. IsSomeAnd (pwd_of f).handle (λ x. ¬ IsHandleOf h.device id offered x)) there refuses in
          let wrong = of_some (pwd_of file).handle handle (λ x. ¬ IsHandleOf h.device id offered x) has in_file in
          absurd (wrong (decides.0 right ∙ ap (λ (n : ℕ). signed h.device n (salt_of handle) (gatekeeper_password offered)) sid))
