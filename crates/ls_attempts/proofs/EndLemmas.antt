-- What attempts end with on a user that a world holds.
use Rattle.std.proofs.Common.{◌≡◌, ◌≢◌, ◌⊎◌, inl, inr, ◌<◌, ◌^◌, ℕ, Bool, true, false, List, [], ◌∷◌, Option, None, Some, Ok, refl, sym, ◌∙◌, ap, subst}
use Rattle.std.specs.Prelude.{map, is_some, bytes_eq, IsSomeAnd, MatchBool}
use Rattle.std.specs.List.{Contains, AllZip}
use Rattle.std.specs.Option.{option_and_then}
use Rattle.ls_credential.specs.declared.kind.Kind.TheVariants.{Empty}
use Rattle.ls_credential.specs.Counts.{metrics_of}
use Rattle.ls_credential.specs.Rules.{KindAndText}
use Rattle.ls_secret.specs.Escrow.{opened_e0}
use Rattle.ls_formats.specs.declared.part.FilePart.TheVariants.{Pwd, Secdis, Weaver, Metrics, Handle, E0, P1}
use Rattle.ls_formats.specs.Contents.{metrics_bytes}
use Rattle.ls_record.specs.declared.row.UserRow.{UserRow}
use Rattle.ls_record.specs.Rows.{Rec, IsRecord}
use Rattle.ls_board.specs.declared.devices.Counter.{Counter}
use Rattle.ls_board.specs.declared.world.World.{World}
use Rattle.ls_board.specs.Effect.{file_at}
use Rattle.ls_board.specs.Gatekeeper.{signed, salt_of, no_fails, record_at}
use Rattle.ls_naming.specs.Named.{has_secure}
use Rattle.ls_sealing.specs.Apart.{IsApart, IsTokenApart}
use Rattle.ls_sealing.specs.Protectors.{Held, held, held_number, has_part, has_weaver, credential, file_name, where_it_has}
use Rattle.ls_sealing.specs.Seals.{Seals, SealsToken, CompletesTo}
use Rattle.ls_vault.specs.declared.token.Token.{Token}
use Rattle.ls_vault.specs.declared.user.User.{User}
use Rattle.ls_standing.specs.Named.{UserHeld, credential_of, token_of, held_of_user, user_file, is_its_part}
use Rattle.ls_standing.specs.NamedProtectors.{row_protectors}
use Rattle.ls_standing.specs.Standing.{HoldsEscrow, HoldsHandle}
use Rattle.ls_standing.proofs.ContainsLemmas.{none_in, in_map, at_first, behind_first, first_or_behind}
use Rattle.ls_standing.proofs.PairLemmas.{each_in}
use Rattle.ls_chain.specs.Attempting.{attempt_end}
use Rattle.ls_chain.specs.HandleFile.{handle_password, confirmed_end, check_end}
use Rattle.ls_chain.specs.Linked.{IsInForm}
use Rattle.ls_chain.specs.Links.{next_of, sound_file, links_at}
use Rattle.ls_chain.specs.MetricsFile.{metrics_chain}
use Rattle.ls_chain.specs.SealedEnds.{sealed_end, sealed_token_end}
use Rattle.ls_chain.specs.TokenAttempts.{token_end}
use Rattle.ls_chain.proofs.SealedEndLemmas.{attempt_opens}
use Rattle.ls_chain.proofs.TokenEndLemmas.{token_opens}
use Rattle.ls_attempts.specs.StandingRows.{HoldsRow, failures_of}
use Rattle.ls_attempts.proofs.CountLemmas.{counts_are_small}
use Rattle.ls_attempts.proofs.HandleLemmas.{file_confirms}
use Rattle.ls_attempts.proofs.MetricsLemmas.{file_shows}
use Rattle.ls_attempts.proofs.RowLemmas.{protector_form, own_form}

given : {X : Type 0} (has : Bool) (o : Option X) {x : X} → where_it_has has o ≡ Some x → o ≡ Some x
given true o is = is
given false o is = absurd (cc)

-- ---- a credential

module _ (w : World) (r : Rec) (row : UserRow) (u : User) (d : KindAndText) (slot : Option ℕ) (moment : ℕ) (is : HoldsRow w r row u) where
  -- the credential, with the kind that the row says
  abbrev said : KindAndText
  said = record { kind = row.kind; text = u.credential.text }

  same : u.credential ≡ said
  same = λ i. record { kind = sym is.holds.says.kind i; text = u.credential.text }

  own : Contains (row_protectors row) (credential_of row)
  own = at_first (credential_of row) (map (token_of row) row.tokens)

  pub credential_ends : IsRecord r → IsApart row.protector (held w (credential_of row)) u.credential d → d.kind ≡ row.kind → slot ≡ held_number w (credential_of row)
      → attempt_end row.user row.protector (is_some slot) slot row.kind d.text moment w ≡ Ok (sealed_end (failures_of u) u.secret (bytes_eq d.text u.credential.text) moment)
  credential_ends record_is apart kind its =
      let h = held w (credential_of row) in
      let form = protector_form w r row u is (credential_of row) own in
      attempt_opens w row.user row.protector said d u.secret slot moment (subst (λ (c : KindAndText). Seals row.protector h c u.secret) same is.holds.seals)
      (subst (λ (c : KindAndText). IsApart row.protector h c d) same apart) kind (each_in _ r.users row record_is.rows is.there).protector.1 (form Pwd) (form Secdis) (form Weaver) its
      ∙ ap (λ (k : Counter). Ok (sealed_end k u.secret (bytes_eq d.text u.credential.text) moment)) is.holds.counted

-- ---- a token

-- what holds of each at its place
pick : (f : ℕ → Held) (R : Held → Token → Type 0) (ts : List Token) → AllZip R (map f (map (λ t. t.id) ts)) ts → (t : Token) → Contains ts t → R (f t.id) t
pick f R [] all t h = absurd (none_in t h)
pick f R (x ∷ ts) all t h = by (first_or_behind x ts t h) (pick f R ts all.1 t)
  where
    by : (x ≡ t) ⊎ Contains ts t → (Contains ts t → R (f t.id) t) → R (f t.id) t
    by (inl e) later = subst (λ (y : Token). R (f y.id) y) e all.0
    by (inr k) later = later k

-- a file that opens is there, and is its own
there_opened : (f : List ℕ → Option (List ℕ)) (has : Bool) (file : Option (List ℕ)) (text : List ℕ) → option_and_then f (where_it_has has file) ≡ Some text → (has ≡ true) × (where_it_has has file ≡ file)
there_opened f true file text opens = (refl, refl)
there_opened f false file text opens = absurd (cc)

there_and : (P : List ℕ → Type 0) (has : Bool) (file : Option (List ℕ)) → IsSomeAnd (where_it_has has file) P → (has ≡ true) × (where_it_has has file ≡ file)
there_and P true file holds = (refl, refl)
there_and P false file holds = absurd holds

module _ (w : World) (r : Rec) (row : UserRow) (u : User) (t : Token) (offered : List ℕ) (slot : Option ℕ) (is : HoldsRow w r row u) (there : Contains u.tokens t) where
  abbrev its : UserHeld
  its = held_of_user w r.armed row

  abbrev sealings : List ℕ → List Held
  sealings ids = map (λ (id : ℕ). held w (token_of row id)) ids

  pub escrow : HoldsEscrow its (sealings row.tokens) u
  escrow = by u.escrow is.holds.escrow
    where
      by : (has : Bool) → MatchBool has (HoldsEscrow its (sealings row.tokens) u) (u.tokens ≡ []) → HoldsEscrow its (sealings row.tokens) u
      by true holds = holds
      by false none = absurd (none_in t (subst (λ (ts : List Token). Contains ts t) none there))

  e0 : (is_its_part r.armed row E0 ≡ true) × (its.files E0 ≡ user_file w row E0)
  e0 = there_opened (opened_e0 u.secret) (is_its_part r.armed row E0) (user_file w row E0) escrow.p0 escrow.e0

  p1 : (is_its_part r.armed row P1 ≡ true) × (its.files P1 ≡ user_file w row P1)
  p1 = there_and (CompletesTo u.secret escrow.p0) (is_its_part r.armed row P1) (user_file w row P1) escrow.whole

  pub seals : SealsToken (held w (token_of row t.id)) (user_file w row P1) t.bytes u.secret escrow.p0
  seals =
      subst (λ (file : Option (List ℕ)). SealsToken (held w (token_of row t.id)) file t.bytes u.secret escrow.p0) p1.1
      (pick (λ id. held w (token_of row id)) (λ h t. SealsToken h (its.files P1) t.bytes u.secret escrow.p0) u.tokens
      (subst (λ (ids : List ℕ). AllZip (λ h t. SealsToken h (its.files P1) t.bytes u.secret escrow.p0) (sealings ids) u.tokens) is.holds.says.tokens escrow.tokens) t there)

  pub own_token : Contains (row_protectors row) (token_of row t.id)
  own_token =
      behind_first (credential_of row) (map (token_of row) row.tokens) (token_of row t.id)
      (in_map (token_of row) row.tokens t.id (subst (λ (ids : List ℕ). Contains ids t.id) (sym is.holds.says.tokens) (in_map (λ t. t.id) u.tokens t there)))

  pub tokens_end : IsTokenApart (held w (token_of row t.id)) t.bytes offered → slot ≡ held_number w (token_of row t.id)
      → token_end row.user t.id (is_some slot) slot offered w ≡ Ok (sealed_token_end u.secret (bytes_eq offered t.bytes))
  tokens_end apart number =
      let form = protector_form w r row u is (token_of row t.id) own_token in
      token_opens w row.user t.id t.bytes offered u.secret escrow.p0 slot seals apart is.holds.seals.secret (ap (option_and_then (opened_e0 u.secret)) (sym e0.1) ∙ escrow.e0)
      (form Secdis) (form Weaver) (own_form w r row u is P1 p1.0) (own_form w r row u is E0 e0.0) number

-- ---- the handle of a user

module _ (w : World) (r : Rec) (row : UserRow) (u : User) (is : HoldsRow w r row u) where
  pub handle_ends : IsRecord r → u.secure ≢ 0 → check_end row.user u.secure u.secret w ≡ Ok u.secure
  handle_ends record_is some =
      by (is_its_part r.armed row Handle) (user_file w row Handle) its.handle (own_form w r row u is Handle)
    where
      its : HoldsHandle (held_of_user w r.armed row) u
      its = is.holds.handle some

      small : u.secure < 2 ^ 64
      small = subst (λ (n : ℕ). n < 2 ^ 64) is.holds.says.secure (each_in _ r.users row record_is.rows is.there).secure.1

      fresh : record_at w.gk u.secure ≡ Some no_fails
      fresh = ap (record_at w.gk) (sym is.holds.says.secure) ∙ given (has_secure row) (record_at w.gk row.secure) its.counter

      by : (has : Bool) (file : Option (List ℕ)) → IsSomeAnd (where_it_has has file) (λ handle. handle ≡ signed w.gk_key u.secure (salt_of handle) (handle_password u.secret)) → (has ≡ true → IsInForm Handle file)
          → next_of (sound_file Handle file) (λ h. confirmed_end u.secure u.secret h w) ≡ Ok u.secure
      by true None signs form = absurd signs
      by true (Some handle) signs form = file_confirms w u.secure u.secret handle signs small fresh (Some handle) refl (form refl)
      by false file signs form = absurd signs

-- ---- the metrics

module _ (w : World) (r : Rec) (row : UserRow) (u : User) (is : HoldsRow w r row u) where
  pub metrics_end : row.kind ≢ Empty → metrics_chain (links_at w row.user row.protector) u.secret ≡ Ok (metrics_bytes (metrics_of u.credential))
  metrics_end some =
      file_shows u.secret (metrics_of u.credential) (u.credential.kind ≡ Empty) (record { kind = never; small = counts_are_small u.credential is.holds.says.rule }) never
      (has_part (has_weaver w) (credential row.kind) Metrics) (file_at w (file_name (credential_of row) Metrics)) is.holds.metrics
      (protector_form w r row u is (credential_of row) (at_first (credential_of row) (map (token_of row) row.tokens)) Metrics)
    where
      never : u.credential.kind ≢ Empty
      never e = some (is.holds.says.kind ∙ e)
