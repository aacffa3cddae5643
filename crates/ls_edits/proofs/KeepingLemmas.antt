-- A user whose row lost parts, or shows another length.
use Rattle.std.proofs.Common.{◌≡◌, ℕ, Bool, true, false, cond, List, [], ◌∷◌, ◌++◌, map, Option, Some, refl, sym, ap, subst, ◌∙◌}
use Rattle.std.specs.Prelude.{filter, IfSome, IsSomeAnd, MatchBool}
use Rattle.std.specs.List.{AllZip, list_any}
use Rattle.ls_board.specs.declared.world.World.{World}
use Rattle.ls_board.specs.Gatekeeper.{signed, salt_of}
use Rattle.ls_formats.specs.declared.part.FilePart.TheVariants.{Handle, E0, P1, Resume}
use Rattle.ls_naming.specs.Membership.{same_part}
use Rattle.ls_naming.specs.Named.{only_if, has_secure, is_armed}
use Rattle.ls_arming.specs.declared.arming.Arming.{Arming}
use Rattle.ls_record.specs.declared.row.UserRow.{UserRow}
use Rattle.ls_secret.specs.declared.personal.Personal.TheVariants.{SpGkAuthentication}
use Rattle.ls_secret.specs.Derivation.{subkey_of}
use Rattle.ls_secret.specs.Subkeys.{subkey_bytes}
use Rattle.ls_sealing.specs.Protectors.{Held, held, where_it_has}
use Rattle.ls_sealing.specs.Seals.{SealsToken}
use Rattle.ls_standing.specs.Named.{UserHeld, RowHeld, held_of_user, held_of_row, user_file, token_of}
use Rattle.ls_standing.specs.Standing.{HoldsUser, HoldsEscrow, HoldsHandle, HoldsResume}
use Rattle.ls_sealing.specs.Chain.{opened_resume}
use Rattle.ls_vault.specs.declared.token.Token.{Token}
use Rattle.ls_vault.specs.declared.user.User.{User}
use Rattle.ls_vault.specs.Revealed.{shown_length}
use Rattle.ls_vault.specs.TokenChanges.{plain, with_tokens}
use Rattle.ls_edits.specs.Rows.{with_pin, with_tokens_of, with_its_tokens_of, with_more_tokens, without_escrow}
use Rattle.ls_edits.specs.SoundRows.{SealTheHalf}

-- ---- escrow and handle of a user that changed beside

escrow_of : (h : UserHeld) (sealings : List Held) (u : User) (auto : Bool) → HoldsEscrow h sealings u → HoldsEscrow h sealings (record u { auto = auto })
escrow_of h sealings u auto is = record { p0 = is.p0; e0 = is.e0; whole = is.whole; tokens = is.tokens }

match_of : (e : Bool) (h : UserHeld) (sealings : List Held) (u : User) (auto : Bool) (P : Type 0)
    → MatchBool e (HoldsEscrow h sealings u) P → MatchBool e (HoldsEscrow h sealings (record u { auto = auto })) P
match_of true h sealings u auto P is = escrow_of h sealings u auto is
match_of false h sealings u auto P is = is

handle_auto : (h : UserHeld) (u : User) (auto : Bool) → HoldsHandle h u → HoldsHandle h (record u { auto = auto })
handle_auto h u auto is = record { handle = is.handle; counter = is.counter }

pub pin_held : (w : World) (armed : Option Arming) (row : UserRow) (u : User) (auto : Bool) (pin : ℕ) → pin ≡ shown_length (record u { auto = auto })
    → HoldsUser row (held_of_row w armed row) u → HoldsUser (with_pin auto pin row) (held_of_row w armed (with_pin auto pin row)) (record u { auto = auto })
pin_held w armed row u auto pin shown is = record {
  says = record { number = is.says.number; kind = is.says.kind; rule = is.says.rule; escrow = is.says.escrow; auto = refl; pin = shown; secure = is.says.secure; tokens = is.says.tokens };
  seals = is.seals;
  counted = is.counted;
  metrics = is.metrics;
  escrow = match_of u.escrow (held_of_row w armed row).user (held_of_row w armed row).tokens u auto (u.tokens ≡ []) is.escrow;
  handle = λ some. handle_auto (held_of_row w armed row).user u auto (is.handle some);
  resume = is.resume;
}

-- ---- fewer tokens

module _ (keeps : ℕ → Bool) where
  abbrev its : Token → Bool
  its t = keeps t.id

  -- a list and the tokens of its elements, filtered alike
  filtered_zip : (R : Held → Token → Type 0) (f : ℕ → Held) (ids : List ℕ) (ts : List Token) → ids ≡ map (λ t. t.id) ts
      → AllZip R (map f ids) ts → AllZip R (map f (filter keeps ids)) (filter its ts)
  filtered_zip R f ids ts is all =
      subst (λ (l : List ℕ). AllZip R (map f (filter keeps l)) (filter its ts)) (sym is) (by ts (subst (λ (l : List ℕ). AllZip R (map f l) ts) is all))
    where
      by : (ts : List Token) → AllZip R (map f (map (λ t. t.id) ts)) ts → AllZip R (map f (filter keeps (map (λ t. t.id) ts))) (filter its ts)
      by [] all = tt
      by (t ∷ ts) all = one (keeps t.id) (by ts all.1)
        where
          rest : List ℕ
          rest = filter keeps (map (λ t. t.id) ts)

          one : (b : Bool) → AllZip R (map f rest) (filter its ts) → AllZip R (map f (cond b (t.id ∷ rest) rest)) (cond b (t ∷ filter its ts) (filter its ts))
          one true later = (all.0, later)
          one false later = later

  filtered_ids : (ts : List Token) → filter keeps (map (λ t. t.id) ts) ≡ map (λ t. t.id) (filter its ts)
  filtered_ids [] = refl
  filtered_ids (t ∷ ts) = by (keeps t.id) (filtered_ids ts)
    where
      by : (b : Bool) → filter keeps (map (λ t. t.id) ts) ≡ map (λ t. t.id) (filter its ts)
          → cond b (t.id ∷ filter keeps (map (λ t. t.id) ts)) (filter keeps (map (λ t. t.id) ts)) ≡ map (λ t. t.id) (cond b (t ∷ filter its ts) (filter its ts))
      by true later = ap (λ (l : List ℕ). t.id ∷ l) later
      by false later = later

  module _ (w : World) (armed : Option Arming) (row : UserRow) (u : User) where
    abbrev h : RowHeld
    h = held_of_row w armed row

    escrow_by : (e : Bool) → row.tokens ≡ map (λ t. t.id) u.tokens → MatchBool e (HoldsEscrow h.user h.tokens u) (u.tokens ≡ [])
        → MatchBool e (HoldsEscrow h.user (held_of_row w armed (with_tokens_of keeps row)).tokens (with_its_tokens_of keeps u)) (filter its u.tokens ≡ [])
    escrow_by true tokens is = record {
      p0 = is.p0;
      e0 = is.e0;
      whole = is.whole;
      tokens = filtered_zip (λ held t. SealsToken held (h.user.files P1) t.bytes u.secret is.p0) (λ id. held w (token_of row id)) row.tokens u.tokens tokens is.tokens;
    }
    escrow_by false tokens is = ap (filter its) is

    handle_tokens : HoldsHandle h.user u → HoldsHandle h.user (with_its_tokens_of keeps u)
    handle_tokens is = record { handle = is.handle; counter = is.counter }

    pub tokens_held : HoldsUser row h u → HoldsUser (with_tokens_of keeps row) (held_of_row w armed (with_tokens_of keeps row)) (with_its_tokens_of keeps u)
    tokens_held is = record {
      says = record {
        number = is.says.number;
        kind = is.says.kind;
        rule = is.says.rule;
        escrow = is.says.escrow;
        auto = is.says.auto;
        pin = is.says.pin;
        secure = is.says.secure;
        tokens = ap (filter keeps) is.says.tokens ∙ filtered_ids u.tokens;
      };
      seals = is.seals;
      counted = is.counted;
      metrics = is.metrics;
      escrow = escrow_by u.escrow is.says.tokens is.escrow;
      handle = λ some. handle_tokens (is.handle some);
      resume = is.resume;
    }

-- ---- more tokens

-- the ids of tokens behind others
ids_more : (ts more : List Token) → map (λ t. t.id) ts ++ map (λ t. t.id) more ≡ map (λ t. t.id) (ts ++ more)
ids_more [] more = refl
ids_more (t ∷ ts) more = ap (λ (l : List ℕ). t.id ∷ l) (ids_more ts more)

module _ (R : Held → Token → Type 0) (f : ℕ → Held) where
  zip_ids : (more : List Token) → AllZip R (map (λ t. f t.id) more) more → AllZip R (map f (map (λ t. t.id) more)) more
  zip_ids [] all = tt
  zip_ids (t ∷ more) all = (all.0, zip_ids more all.1)

  zip_more : (ids : List ℕ) (ts more : List Token) → AllZip R (map f ids) ts → AllZip R (map (λ t. f t.id) more) more → AllZip R (map f (ids ++ map (λ t. t.id) more)) (ts ++ more)
  zip_more [] [] more all new = zip_ids more new
  zip_more [] (t ∷ ts) more all new = absurd all
  zip_more (id ∷ ids) [] more all new = absurd all
  zip_more (id ∷ ids) (t ∷ ts) more all new = (all.0, zip_more ids ts more all.1 new)

module _ (w : World) (armed : Option Arming) (row : UserRow) (u : User) (more : List Token) (seal : SealTheHalf w armed row u more) where
  abbrev longer : UserRow
  longer = with_more_tokens (map (λ t. t.id) more) row

  abbrev its_user : UserHeld
  its_user = held_of_user w armed row

  escrow_more : (e : Bool) → e ≡ true → MatchBool e (HoldsEscrow its_user (held_of_row w armed row).tokens u) (u.tokens ≡ [])
      → MatchBool e (HoldsEscrow its_user (held_of_row w armed longer).tokens (with_tokens more u)) (u.tokens ++ more ≡ [])
  escrow_more true on is = record {
    p0 = is.p0;
    e0 = is.e0;
    whole = is.whole;
    tokens = zip_more (λ its t. SealsToken its (its_user.files P1) t.bytes u.secret is.p0) (λ id. held w (token_of row id)) row.tokens u.tokens more is.tokens (seal is.p0 is.e0);
  }
  escrow_more false on is = absurd (cc)

  handle_more : HoldsHandle its_user u → HoldsHandle its_user (with_tokens more u)
  handle_more is = record { handle = is.handle; counter = is.counter }

  pub more_held : u.escrow ≡ true → HoldsUser row (held_of_row w armed row) u → HoldsUser longer (held_of_row w armed longer) (with_tokens more u)
  more_held on is = record {
    says = record {
      number = is.says.number;
      kind = is.says.kind;
      rule = is.says.rule;
      escrow = is.says.escrow;
      auto = is.says.auto;
      pin = is.says.pin;
      secure = is.says.secure;
      tokens = ap (λ (l : List ℕ). l ++ map (λ t. t.id) more) is.says.tokens ∙ ids_more u.tokens more;
    };
    seals = is.seals;
    counted = is.counted;
    metrics = is.metrics;
    escrow = escrow_more u.escrow on is.escrow;
    handle = λ some. handle_more (is.handle some);
    resume = is.resume;
  }

-- ---- without escrow

-- neither a handle nor a `resume` file is one of escrow
handle_beside : (s e a : Bool) → list_any (same_part Handle) (only_if s (Handle ∷ []) ++ (only_if e (E0 ∷ P1 ∷ []) ++ only_if a (Resume ∷ [])))
    ≡ list_any (same_part Handle) (only_if s (Handle ∷ []) ++ ([] ++ only_if a (Resume ∷ [])))
handle_beside true e a = refl
handle_beside false true true = refl
handle_beside false true false = refl
handle_beside false false a = refl

resume_beside : (s e a : Bool) → list_any (same_part Resume) (only_if s (Handle ∷ []) ++ (only_if e (E0 ∷ P1 ∷ []) ++ only_if a (Resume ∷ [])))
    ≡ list_any (same_part Resume) (only_if s (Handle ∷ []) ++ ([] ++ only_if a (Resume ∷ [])))
resume_beside true true a = refl
resume_beside true false a = refl
resume_beside false true a = refl
resume_beside false false a = refl

module _ (w : World) (armed : Option Arming) (row : UserRow) (u : User) where
  abbrev was : UserHeld
  was = held_of_user w armed row

  abbrev now : UserHeld
  now = held_of_user w armed (without_escrow row)

  handle_same : was.files Handle ≡ now.files Handle
  handle_same = ap (λ (b : Bool). where_it_has b (user_file w row Handle)) (handle_beside (has_secure row) row.escrow (is_armed armed row.user))

  resume_same : was.files Resume ≡ now.files Resume
  resume_same = ap (λ (b : Bool). where_it_has b (user_file w row Resume)) (resume_beside (has_secure row) row.escrow (is_armed armed row.user))

  handle_plain : HoldsHandle was u → HoldsHandle now (plain u)
  handle_plain is = record {
    handle = subst (λ (o : Option (List ℕ)). IsSomeAnd o (λ handle. handle ≡ signed w.gk_key u.secure (salt_of handle) (subkey_bytes (subkey_of u.secret SpGkAuthentication)))) handle_same is.handle;
    counter = is.counter;
  }

  resume_plain : HoldsResume was u → HoldsResume now (plain u)
  resume_plain is = subst (λ (o : Option (List ℕ)). IfSome was.cell (λ once. IsSomeAnd o (λ file. opened_resume was.key once file ≡ Some u.secret.sp))) resume_same is

  pub plain_held : HoldsUser row (held_of_row w armed row) u → HoldsUser (without_escrow row) (held_of_row w armed (without_escrow row)) (plain u)
  plain_held is = record {
    says = record { number = is.says.number; kind = is.says.kind; rule = is.says.rule; escrow = refl; auto = is.says.auto; pin = is.says.pin; secure = is.says.secure; tokens = refl };
    seals = is.seals;
    counted = is.counted;
    metrics = is.metrics;
    escrow = refl;
    handle = λ some. handle_plain (is.handle some);
    resume = resume_plain is.resume;
  }
