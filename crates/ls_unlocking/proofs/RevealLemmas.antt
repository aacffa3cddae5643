-- What is told of a user in a world that stands for a vault, and that it leaves all as it was.
use Rattle.std.proofs.Common.{◌≡◌, ◌≢◌, ◌<◌, ◌^◌, inr, not, ℕ, Bool, true, false, cond, List, Option, None, Some, Result, Ok, Err, refl, sym, ◌∙◌, ap, subst}
use Rattle.std.specs.Prelude.{◌==◌, IsSomeAnd}
use Rattle.std.specs.List.{Contains}
use Rattle.std.proofs.Math.Dec.{eqb}
use Rattle.std.proofs.lemmas.Slice.Eq.{bytes_eq-Decides}
use Rattle.ls_board.specs.declared.action.Action.{Action}
use Rattle.ls_board.specs.declared.action.Action.TheVariants.{GkVerify}
use Rattle.ls_board.specs.declared.world.World.{World}
use Rattle.ls_board.specs.Gatekeeper.{signed, salt_of, version_of, sid_of, is_signed, no_fails, record_at, counter_of}
use Rattle.ls_chain.specs.declared.fault.Spot.{Spot}
use Rattle.ls_chain.specs.HandleFile.{handle_password, handle_checked, confirm_action}
use Rattle.ls_chain.specs.Links.{links_at, sound_file, unless_at}
use Rattle.ls_chain.specs.Trying.{asked_of}
use Rattle.ls_formats.specs.declared.part.FilePart.TheVariants.{Handle}
use Rattle.ls_naming.specs.Current.{Settled}
use Rattle.ls_naming.specs.Named.{has_secure, NamesEnrolled}
use Rattle.ls_record.specs.declared.row.UserRow.{UserRow}
use Rattle.ls_record.specs.Rows.{IsRecord}
use Rattle.ls_revealing.specs.Revealing.{secure_asked}
use Rattle.ls_sealing.specs.PartFormats.{format_fault}
use Rattle.ls_sealing.specs.Protectors.{has_weaver, where_it_has}
use Rattle.ls_sealing.proofs.ByteLemmas.{signed_sid}
use Rattle.ls_standing.specs.Named.{held_of_user, user_file, is_its_part}
use Rattle.ls_standing.specs.Standing.{StandsDurably, HoldsHandle}
use Rattle.ls_standing.proofs.IdLemmas.{is_row}
use Rattle.ls_standing.proofs.NamedLemmas.{secure_enrolled}
use Rattle.ls_vault.specs.declared.user.User.{User}
use Rattle.ls_vault.specs.declared.vault.Vault.{Vault}
use Rattle.ls_attempts.specs.StandingRows.{HoldsRow}
use Rattle.ls_unlocking.proofs.LeadLemmas.{Leads, leads_none, leads_quiet, record_stays}

given : {X : Type 0} (has : Bool) (o : Option X) (x : X) → where_it_has has o ≡ Some x → o ≡ Some x
given true o x is = is
given false o x is = absurd (cc)

module _ (w : World) (s : Settled) (v : Vault) (row : UserRow) (u : User) (is : IsRecord s.rec) (stands : StandsDurably w s v) (here : Contains s.rec.users row) (holds : HoldsRow w s.rec row u) where
  abbrev Tries : Option Action → Type 0
  Tries a = Leads w s v v a

  abbrev password : List ℕ
  password = handle_password u.secret

  module _ (some : u.secure ≢ 0) (has : has_secure row ≡ true) where
    its : HoldsHandle (held_of_user w s.rec.armed row) u
    its = holds.holds.handle some

    small : u.secure < 2 ^ 64
    small = subst (λ (n : ℕ). n < 2 ^ 64) holds.holds.says.secure (is_row s.rec is row here).secure.1

    fresh : record_at w.gk u.secure ≡ Some no_fails
    fresh = ap (record_at w.gk) (sym holds.holds.says.secure) ∙ given (has_secure row) (record_at w.gk row.secure) no_fails its.counter

    -- the Gatekeeper's record has no failures, and the handle is right
    handle_quiet : (handle : List ℕ) → handle ≡ signed w.gk_key u.secure (salt_of handle) password → Tries (Some (GkVerify handle password 0))
    handle_quiet handle made =
        let sid : sid_of handle ≡ u.secure = ap sid_of made ∙ signed_sid w.gk_key u.secure (salt_of handle) password small in
        let at : record_at w.gk (sid_of handle) ≡ Some no_fails = ap (record_at w.gk) sid ∙ fresh in
        let counter : counter_of w.gk handle ≡ Some no_fails = ap (λ (v : ℕ). cond (eqb v 1) (record_at w.gk (sid_of handle)) None) (ap version_of made) ∙ at in
        let signs : is_signed w.gk_key handle password ≡ true =
        (bytes_eq-Decides handle (signed w.gk_key (sid_of handle) (salt_of handle) password)).1 (made ∙ ap (λ (n : ℕ). signed w.gk_key n (salt_of handle) password) (sym sid)) in
        leads_quiet w s v stands (GkVerify handle password 0) is (inr (record_stays w handle password counter at signs))
        (subst (λ (n : ℕ). NamesEnrolled (has_weaver w) s.rec n) (holds.holds.says.secure ∙ sym sid) (secure_enrolled (has_weaver w) s.rec row here has))

    -- by the file that it is read from
    by_file : (has : Bool) (file : Option (List ℕ)) → IsSomeAnd (where_it_has has file) (λ handle. handle ≡ signed w.gk_key u.secure (salt_of handle) password)
        → (checked : Result (List ℕ) Spot) → ((handle : List ℕ) → checked ≡ Ok handle → file ≡ Some handle) → Tries (asked_of checked (confirm_action u.secret))
    by_file has file made (Err e) reads = leads_none w s v stands
    by_file true None made (Ok handle) reads = absurd made
    by_file true (Some bytes) made (Ok handle) reads = handle_quiet handle (subst (λ (h : List ℕ). h ≡ signed w.gk_key u.secure (salt_of h) password) (same (reads handle refl)) made)
      where
        same : {handle : List ℕ} → ◌≡◌ {A = Option (List ℕ)} (Some bytes) (Some handle) → bytes ≡ handle
        same e = cc
    by_file false file made (Ok handle) reads = absurd made

    file_read : (file : Option (List ℕ)) (handle : List ℕ) → sound_file Handle file ≡ Ok handle → file ≡ Some handle
    file_read None handle e = absurd (cc)
    file_read (Some bytes) handle e = by (format_fault Handle bytes) e
      where
        by : (at : Option ℕ) → unless_at Handle bytes at ≡ Ok handle → ◌≡◌ {A = Option (List ℕ)} (Some bytes) (Some handle)
        by None e = let same : bytes ≡ handle = cc in ap (λ (b : List ℕ). Some b) same
        by (Some at) e = absurd (cc)

    confirmed : Tries (asked_of (handle_checked (links_at w row.user 0)) (confirm_action u.secret))
    confirmed =
        by_file (is_its_part s.rec.armed row Handle) (user_file w row Handle) its.handle (handle_checked (links_at w row.user 0))
        (λ handle e. file_read (user_file w row Handle) handle e)

  -- the asking for the secure id leaves all as it was
  pub reveal_leads : Leads w s v v (secure_asked row u.secret w)
  reveal_leads = by (has_secure row) refl
    where
      zero_has : row.secure ≡ 0 → has_secure row ≡ true → ⊥
      zero_has zero has = let none : false ≡ true = sym (ap (λ (n : ℕ). not (n == 0)) zero) ∙ has in cc

      by : (has : Bool) → has_secure row ≡ has → Leads w s v v (cond has (asked_of (handle_checked (links_at w row.user 0)) (confirm_action u.secret)) None)
      by true has = confirmed (λ zero. zero_has (holds.holds.says.secure ∙ zero) has) has
      by false none = leads_none w s v stands
