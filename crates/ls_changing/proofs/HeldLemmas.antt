-- What a world holds of a user, beside another credential.
use Rattle.std.proofs.Common.{◌≡◌, ◌≢◌, not, ℕ, Bool, true, false, List, [], ◌∷◌, ◌++◌, map, Option, None, Some, refl, sym, ap, subst, ◌∙◌}
use Rattle.std.specs.Prelude.{◌==◌, ◌&&◌, IfSome, IsSomeAnd, MatchBool}
use Rattle.std.specs.List.{AllZip, list_any}
use Rattle.std.specs.Option.{option_and_then}
use Rattle.std.proofs.lemmas.Bool.{ne_eqb, eqb-false}
use Rattle.ls_board.specs.declared.world.World.{World}
use Rattle.ls_board.specs.Effect.{file_at}
use Rattle.ls_board.specs.Gatekeeper.{signed, salt_of, no_fails, record_at}
use Rattle.ls_formats.specs.declared.part.FilePart.{FilePart}
use Rattle.ls_formats.specs.declared.part.FilePart.TheVariants.{Handle, E0, P1, Resume}
use Rattle.ls_naming.specs.Membership.{same_part}
use Rattle.ls_naming.specs.Named.{only_if, has_secure, is_armed}
use Rattle.ls_arming.specs.declared.arming.Arming.{Arming}
use Rattle.ls_record.specs.declared.row.UserRow.{UserRow}
use Rattle.ls_secret.specs.declared.personal.Personal.TheVariants.{SpGkAuthentication}
use Rattle.ls_secret.specs.Escrow.{opened_e0}
use Rattle.ls_secret.specs.Derivation.{subkey_of}
use Rattle.ls_secret.specs.Subkeys.{subkey_bytes}
use Rattle.ls_secret.specs.Secrets.{SecretValue}
use Rattle.ls_sealing.specs.Chain.{opened_resume}
use Rattle.ls_sealing.specs.Protectors.{Held, failures, held, where_it_has}
use Rattle.ls_sealing.specs.Seals.{Seals, ShowsMetrics, SealsToken, CompletesTo}
use Rattle.ls_standing.specs.Named.{UserHeld, held_of_user, held_of_row, user_file, credential_of, token_of}
use Rattle.ls_standing.specs.Standing.{HoldsUser, HoldsEscrow, HoldsHandle, HoldsResume}
use Rattle.ls_vault.specs.declared.user.User.{User}
use Rattle.ls_changing.specs.Replacing.{Chosen, row_then, with_its_credential, comes, handle_name, shown_for}
use Rattle.ls_credential.specs.Rules.{fault_of}

-- ---- the files of a user itself

-- where it has a secure id, escrow, and an arming
abbrev own_parts : Bool → Bool → Bool → List FilePart
own_parts s e a = only_if s (Handle ∷ []) ++ (only_if e (E0 ∷ P1 ∷ []) ++ only_if a (Resume ∷ []))

e0_own : (s e a : Bool) → list_any (same_part E0) (own_parts s e a) ≡ e
e0_own true true a = refl
e0_own false true a = refl
e0_own true false true = refl
e0_own true false false = refl
e0_own false false true = refl
e0_own false false false = refl

p1_own : (s e a : Bool) → list_any (same_part P1) (own_parts s e a) ≡ e
p1_own true true a = refl
p1_own false true a = refl
p1_own true false true = refl
p1_own true false false = refl
p1_own false false true = refl
p1_own false false false = refl

resume_own : (s e a : Bool) → list_any (same_part Resume) (own_parts s e a) ≡ a
resume_own true true true = refl
resume_own true true false = refl
resume_own false true true = refl
resume_own false true false = refl
resume_own true false true = refl
resume_own true false false = refl
resume_own false false true = refl
resume_own false false false = refl

pub handle_own : (s e a : Bool) → list_any (same_part Handle) (own_parts s e a) ≡ s
handle_own true e a = refl
handle_own false true true = refl
handle_own false true false = refl
handle_own false false true = refl
handle_own false false false = refl

-- ---- a user with another credential

-- the handle of a new secure id, where there is one
pub record HasHandle (w : World) (user secure : ℕ) (s : SecretValue) : Type 0 where
  pub handle : List ℕ
  pub file : file_at w (handle_name user) ≡ Some handle
  pub is : handle ≡ signed w.gk_key secure (salt_of handle) (subkey_bytes (subkey_of s SpGkAuthentication))
  pub counter : record_at w.gk secure ≡ Some no_fails

module _ (w : World) (armed : Option Arming) (n : Chosen) (u : User) where
  abbrev old : UserRow
  old = n.row

  abbrev row : UserRow
  row = row_then n

  abbrev user : User
  user = with_its_credential n.credential n.secure u

  abbrev was : UserHeld
  was = held_of_user w armed old

  abbrev now : UserHeld
  now = held_of_user w armed row

  abbrev has : Bool
  has = is_armed armed old.user

  e0_same : was.files E0 ≡ now.files E0
  e0_same = ap (λ (b : Bool). where_it_has b (user_file w old E0)) (e0_own (has_secure old) old.escrow has ∙ sym (e0_own (has_secure row) old.escrow has))

  p1_same : was.files P1 ≡ now.files P1
  p1_same = ap (λ (b : Bool). where_it_has b (user_file w old P1)) (p1_own (has_secure old) old.escrow has ∙ sym (p1_own (has_secure row) old.escrow has))

  resume_same : was.files Resume ≡ now.files Resume
  resume_same = ap (λ (b : Bool). where_it_has b (user_file w old Resume)) (resume_own (has_secure old) old.escrow has ∙ sym (resume_own (has_secure row) old.escrow has))

  abbrev tokens : List Held
  tokens = map (λ id. held w (token_of old id)) old.tokens

  escrow_then : (e : Bool) → MatchBool e (HoldsEscrow was tokens u) (u.tokens ≡ []) → MatchBool e (HoldsEscrow now tokens user) (u.tokens ≡ [])
  escrow_then true is = record {
    p0 = is.p0;
    e0 = ap (λ (o : Option (List ℕ)). option_and_then (opened_e0 u.secret) o) (sym e0_same) ∙ is.e0;
    whole = subst (λ (o : Option (List ℕ)). IsSomeAnd o (CompletesTo u.secret is.p0)) p1_same is.whole;
    tokens = subst (λ (o : Option (List ℕ)). AllZip (λ held t. SealsToken held o t.bytes u.secret is.p0) tokens u.tokens) p1_same is.tokens;
  }
  escrow_then false is = is

  resume_then : HoldsResume was u → HoldsResume now user
  resume_then is = subst (λ (o : Option (List ℕ)). IfSome was.cell (λ once. IsSomeAnd o (λ file. opened_resume was.key once file ≡ Some u.secret.sp))) resume_same is

  -- the secure id stays
  abbrev Signs : ℕ → ℕ → Type 0
  Signs mine its = IsSomeAnd (where_it_has (list_any (same_part Handle) (own_parts (not (mine == 0)) old.escrow has)) (user_file w old Handle))
      (λ handle. handle ≡ signed w.gk_key its (salt_of handle) (subkey_bytes (subkey_of u.secret SpGkAuthentication)))

  handle_stays : n.secure ≡ old.secure → old.secure ≡ u.secure → HoldsHandle was u → HoldsHandle now user
  handle_stays same says is = record {
    handle = subst (λ (m : ℕ). Signs m m) (sym same) (subst (λ (m : ℕ). Signs old.secure m) (sym says) is.handle);
    counter = ap (λ (m : ℕ). where_it_has (not (m == 0)) (record_at w.gk m)) same ∙ is.counter;
  }

  -- it is new
  handle_comes : n.secure ≢ 0 → HasHandle w old.user n.secure u.secret → HoldsHandle now user
  handle_comes some is =
      let yet : has_secure row ≡ true = ap not (ne_eqb n.secure 0 some) in
      record {
        handle = subst (λ (o : Option (List ℕ)). IsSomeAnd o (λ handle. handle ≡ signed w.gk_key n.secure (salt_of handle) (subkey_bytes (subkey_of u.secret SpGkAuthentication))))
            (sym (ap (λ (b : Bool). where_it_has b (user_file w old Handle)) (handle_own (has_secure row) old.escrow has ∙ yet) ∙ is.file)) is.is;
        counter = ap (λ (b : Bool). where_it_has b (record_at w.gk n.secure)) yet ∙ is.counter;
      }

  module _ (same : (old.secure == 0) ≡ false → (n.secure == 0) ≡ false → n.secure ≡ old.secure) (is : HoldsUser old (held_of_row w armed old) u)
      (new : comes old.secure n.secure ≡ true → HasHandle w old.user n.secure u.secret) where
    handle_then : n.secure ≢ 0 → HoldsHandle now user
    handle_then some = by (old.secure == 0) refl
      where
        by : (b : Bool) → (old.secure == 0) ≡ b → HoldsHandle now user
        by true none = handle_comes some (new (ap (λ (b : Bool). b && not (n.secure == 0)) none ∙ ap not (ne_eqb n.secure 0 some)))
        by false had = handle_stays (same had (ne_eqb n.secure 0 some)) is.says.secure (is.handle (λ e. eqb-false old.secure 0 had (is.says.secure ∙ e)))

    pub held_then : old.auto ≡ u.auto → fault_of n.credential.kind n.credential.text ≡ None → Seals n.id (held w (credential_of row)) n.credential u.secret
        → ShowsMetrics (held w (credential_of row)) n.credential u.secret → failures (held w (credential_of row)) ≡ no_fails
        → HoldsUser row (held_of_row w armed row) user
    held_then auto rule seals shows counted = record {
      says = record {
        number = is.says.number;
        kind = refl;
        rule = rule;
        escrow = is.says.escrow;
        auto = is.says.auto;
        pin = ap (λ (b : Bool). shown_for b n.credential) auto;
        secure = refl;
        tokens = is.says.tokens;
      };
      seals = seals;
      counted = counted;
      metrics = shows;
      escrow = escrow_then u.escrow is.escrow;
      handle = handle_then;
      resume = resume_then is.resume;
    }
