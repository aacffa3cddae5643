-- A row is read from its one text, beside the rows before it.
use Rattle.std.proofs.Common.{◌≡◌, ◌≤◌, ◌<◌, ◌^◌, ℕ, Bool, true, false, List, [], ◌∷◌, ◌++◌, length, refl, sym, ap, subst, ◌∙◌, arith}
use Rattle.std.specs.List.{flat_map}
use Rattle.std.proofs.Math.Dec.{eqb}
use Rattle.std.proofs.lemmas.Bool.{leb-true, eqb-true}
use Rattle.std.proofs.lemmas.List.{append-nil}
use Rattle.ls_bytes.specs.Fields.{be32, be64}
use Rattle.ls_credential.specs.Codes.{code_of}
use Rattle.ls_record.specs.declared.fields.Flags.{Flags}
use Rattle.ls_record.specs.declared.row.UserRow.{UserRow}
use Rattle.ls_record.specs.Rows.{is_odd, is_protector_id, is_secure_id, is_token_count, is_new_protector, is_new_secure, is_new_token, is_last_user}
use Rattle.ls_record.specs.Spelling.{flag, token_bytes}
use Rattle.ls_record.specs.Reading.{byte, any, protector_at, secure_at, token_at, token_list_at, flags_at, row_at, next_user_at, next_row_at, repeat}
use Rattle.ls_record.proofs.ReaderLemmas.{IsReader, Nothing, Joined, done_reader, bind_reader, reader_is}
use Rattle.ls_record.proofs.StepLemmas.{Stepwise, IsRepeat, repeat_reader}
use Rattle.ls_record.proofs.FieldReaders.{IsText4, IsText8, IsByte, reader_4, reader_8, byte_reader, AreFlags, IsFlagsText, shown_if, flags_text, flags_reader}

-- ---- tokens

pub record IsGoodToken (rows : List UserRow) (user : ℕ) (before : List ℕ) (t : ℕ) : Type 0 where
  pub small : t < 2 ^ 64
  pub odd : is_odd t ≡ true
  pub new : is_new_token rows user before t ≡ true

token_reader : (rows : List UserRow) (user : ℕ) (before : List ℕ) → IsReader (λ t text. IsGoodToken rows user before t × (text ≡ be64 t)) (token_at rows user before)
token_reader rows user before =
    reader_is (IsText8 is_odd (is_new_token rows user before)) (λ t text. IsGoodToken rows user before t × (text ≡ be64 t)) (token_at rows user before)
    (λ t text h. (record { small = h.small; odd = h.good; new = h.ordered }, h.is))
    (λ t text h. record { small = h.0.small; good = h.0.odd; ordered = h.0.new; is = h.1 })
    (reader_8 is_odd (is_new_token rows user before))

pub record AreTokens (rows : List UserRow) (user : ℕ) (escrow : Bool) (tokens : List ℕ) : Type 0 where
  pub few : is_token_count escrow (length tokens) ≡ true
  pub steps : Stepwise (IsGoodToken rows user) [] tokens

abbrev IsTokensText : List UserRow → ℕ → Bool → List ℕ → List ℕ → Type 0
IsTokensText rows user escrow tokens text = AreTokens rows user escrow tokens × (text ≡ token_bytes tokens)

abbrev AreTokenFields : List UserRow → ℕ → Bool → List ℕ → List ℕ → Type 0
AreTokenFields rows user escrow = Joined (IsByte (is_token_count escrow)) (λ n. IsRepeat (IsGoodToken rows user) be64 [] n)

few_tokens : (escrow : Bool) (n : ℕ) → is_token_count escrow n ≡ true → n ≤ 8
few_tokens true n h = leb-true n 8 h
few_tokens false n h = omega (arith, eqb-true n 0 h)

token_list_reader : (rows : List UserRow) (user : ℕ) (escrow : Bool) → IsReader (IsTokensText rows user escrow) (token_list_at rows user escrow)
unfolding token_list_at
token_list_reader rows user escrow =
    reader_is (AreTokenFields rows user escrow) (IsTokensText rows user escrow) (token_list_at rows user escrow) to from
    (bind_reader (IsByte (is_token_count escrow)) (λ n. IsRepeat (IsGoodToken rows user) be64 [] n) (byte (is_token_count escrow)) (λ n. repeat (token_at rows user) [] n)
    (byte_reader (is_token_count escrow)) (λ n. repeat_reader (IsGoodToken rows user) be64 (token_at rows user) (token_reader rows user) n []))
  where
    to : (v text : List ℕ) → AreTokenFields rows user escrow v text → IsTokensText rows user escrow v text
    to v text h =
        let r = h.back_is in
        let many : length v ≡ h.first = ap length r.is ∙ r.many in (
          record {
            few = ap (is_token_count escrow) many ∙ h.front_is.good;
            steps = subst (Stepwise (IsGoodToken rows user) []) (sym r.is) r.good;
          },
          h.is ∙ (λ i. h.front_is.is i ++ r.spelled i) ∙ (λ i. sym many i ∷ flat_map be64 (sym r.is i)),
        )

    from : (v text : List ℕ) → IsTokensText rows user escrow v text → AreTokenFields rows user escrow v text
    from v text h = record {
      first = length v;
      front = length v ∷ [];
      back = flat_map be64 v;
      front_is = record { small = omega (arith, few_tokens escrow (length v) h.0.few); good = h.0.few; is = refl };
      back_is = record { new = v; is = refl; many = refl; good = h.0.steps; spelled = refl };
      is = h.1;
    }

-- ---- a row

pub record IsBeside (plain : Bool) (rows : List UserRow) (user : ℕ) (r : UserRow) : Type 0 where
  pub user_is : r.user ≡ user
  pub flags : AreFlags plain r.kind r.auto r.pin
  pub protector_small : r.protector < 2 ^ 64
  pub protector : is_protector_id r.protector ≡ true
  pub protector_new : is_new_protector rows user r.protector ≡ true
  pub secure_small : r.secure < 2 ^ 64
  pub secure : is_secure_id r.kind r.secure ≡ true
  pub secure_new : is_new_secure rows user r.secure ≡ true
  pub tokens : AreTokens rows user r.escrow r.tokens

abbrev pub row_if : Bool → UserRow → List ℕ
row_if plain r =
    flag r.escrow ∷ code_of r.kind ∷ (shown_if plain r.auto r.pin ++ (be64 r.protector ++ (be64 r.secure ++ token_bytes r.tokens)))

abbrev pub IsRowText : Bool → List UserRow → ℕ → UserRow → List ℕ → Type 0
IsRowText plain rows user r text = IsBeside plain rows user r × (text ≡ row_if plain r)

abbrev row_of : ℕ → Flags → ℕ → ℕ → List ℕ → UserRow
row_of user f protector secure tokens =
    record { user = user; escrow = f.escrow; kind = f.kind; auto = f.auto; pin = f.pin; protector = protector; secure = secure; tokens = tokens }

abbrev AreRowFields : Bool → List UserRow → ℕ → UserRow → List ℕ → Type 0
AreRowFields plain rows user = Joined (IsFlagsText plain) (λ f. Joined (IsText8 is_protector_id (is_new_protector rows user)) (λ p.
    Joined (IsText8 (is_secure_id f.kind) (is_new_secure rows user)) (λ s. Joined (IsTokensText rows user f.escrow) (λ t. Nothing (row_of user f p s t)))))

to_row : (plain : Bool) (rows : List UserRow) (user : ℕ) (r : UserRow) (text : List ℕ) → AreRowFields plain rows user r text → IsRowText plain rows user r text
to_row plain rows user r text h =
    let p = h.back_is in
    let s = p.back_is in
    let t = s.back_is in
    let f = h.first in
    let made = row_of user f p.first s.first t.first in
    let made_is : r ≡ made = t.back_is.0 in
    let beside : IsBeside plain rows user made = record {
      user_is = refl;
      flags = h.front_is.0;
      protector_small = p.front_is.small;
      protector = p.front_is.good;
      protector_new = p.front_is.ordered;
      secure_small = s.front_is.small;
      secure = s.front_is.good;
      secure_new = s.front_is.ordered;
      tokens = t.front_is.0;
    } in
    let text_is : text ≡ row_if plain made =
    h.is ∙ (λ i. h.front_is.1 i ++ p.is i) ∙ (λ i. flags_text plain f ++ (p.front_is.is i ++ s.is i)) ∙ (λ i. flags_text plain f ++ (be64 p.first ++ (s.front_is.is i ++ t.is i)))
    ∙ (λ i. flags_text plain f ++ (be64 p.first ++ (be64 s.first ++ (t.front_is.1 i ++ t.back_is.1 i)))) ∙ (λ i. flags_text plain f ++ (be64 p.first ++ (be64 s.first ++ append-nil (token_bytes t.first) i))) in
    subst (λ (x : UserRow). IsRowText plain rows user x text) (sym made_is) (beside, text_is)

flags_in : UserRow → Flags
flags_in r = record { escrow = r.escrow; kind = r.kind; auto = r.auto; pin = r.pin }

from_row : (plain : Bool) (rows : List UserRow) (user : ℕ) (r : UserRow) (text : List ℕ) → IsRowText plain rows user r text → AreRowFields plain rows user r text
unfolding flags_in
from_row plain rows user r text h =
    let b = h.0 in
    record {
      first = flags_in r;
      front = flags_text plain (flags_in r);
      back = be64 r.protector ++ (be64 r.secure ++ (token_bytes r.tokens ++ []));
      front_is = (b.flags, refl);
      back_is = record {
        first = r.protector;
        front = be64 r.protector;
        back = be64 r.secure ++ (token_bytes r.tokens ++ []);
        front_is = record { small = b.protector_small; good = b.protector; ordered = b.protector_new; is = refl };
        back_is = record {
          first = r.secure;
          front = be64 r.secure;
          back = token_bytes r.tokens ++ [];
          front_is = record { small = b.secure_small; good = b.secure; ordered = b.secure_new; is = refl };
          back_is = record {
            first = r.tokens;
            front = token_bytes r.tokens;
            back = [];
            front_is = (b.tokens, refl);
            back_is = (λ i. record r { user = b.user_is i }, refl);
            is = refl;
          };
          is = refl;
        };
        is = refl;
      };
      is = h.1 ∙ (λ i. flags_text plain (flags_in r) ++ (be64 r.protector ++ (be64 r.secure ++ sym (append-nil (token_bytes r.tokens)) i)));
    }

pub row_reader : (format : ℕ) (rows : List UserRow) (user : ℕ) → IsReader (IsRowText (eqb format 1) rows user) (row_at format rows user)
unfolding row_at
row_reader format rows user =
    let plain = eqb format 1 in
    reader_is (AreRowFields plain rows user) (IsRowText plain rows user) (row_at format rows user) (to_row plain rows user) (from_row plain rows user)
    (bind_reader _ _ (flags_at format) _ (flags_reader format) (λ f. bind_reader _ _ (protector_at rows user) _ (reader_8 is_protector_id (is_new_protector rows user)) (λ p.
    bind_reader _ _ (secure_at f.kind rows user) _ (reader_8 (is_secure_id f.kind) (is_new_secure rows user)) (λ s.
    bind_reader _ _ (token_list_at rows user f.escrow) _ (token_list_reader rows user f.escrow) (λ t. done_reader (row_of user f p s t))))))

-- ---- a row behind others

pub record IsGoodRow (plain : Bool) (before : List UserRow) (r : UserRow) : Type 0 where
  pub small : r.user < 2 ^ 32
  pub last : is_last_user before r.user ≡ true
  pub beside : IsBeside plain before r.user r

abbrev pub whole_row : Bool → UserRow → List ℕ
whole_row plain r = be32 r.user ++ row_if plain r

next_row_reader : (format : ℕ) (before : List UserRow) → IsReader (λ r text. IsGoodRow (eqb format 1) before r × (text ≡ whole_row (eqb format 1) r)) (next_row_at format before)
unfolding next_row_at
next_row_reader format before =
    reader_is (Joined (IsText4 any (is_last_user before)) (λ user. IsRowText plain before user)) (λ r text. IsGoodRow plain before r × (text ≡ whole_row plain r)) (next_row_at format before) to from
    (bind_reader (IsText4 any (is_last_user before)) (λ user. IsRowText plain before user) (next_user_at before) (λ user. row_at format before user)
    (reader_4 any (is_last_user before)) (λ user. row_reader format before user))
  where
    plain : Bool
    plain = eqb format 1

    to : (r : UserRow) (text : List ℕ) → Joined (IsText4 any (is_last_user before)) (λ user. IsRowText (eqb format 1) before user) r text → IsGoodRow (eqb format 1) before r × (text ≡ whole_row (eqb format 1) r)
    to r text h =
        let e : h.first ≡ r.user = sym h.back_is.0.user_is in (
          record {
            small = subst (λ (u : ℕ). u < 2 ^ 32) e h.front_is.small;
            last = ap (is_last_user before) (sym e) ∙ h.front_is.ordered;
            beside = subst (λ (u : ℕ). IsBeside (eqb format 1) before u r) e h.back_is.0;
          },
          h.is ∙ (λ i. h.front_is.is i ++ h.back_is.1 i) ∙ ap (λ (u : ℕ). be32 u ++ row_if (eqb format 1) r) e,
        )

    from : (r : UserRow) (text : List ℕ) → IsGoodRow (eqb format 1) before r × (text ≡ whole_row (eqb format 1) r) → Joined (IsText4 any (is_last_user before)) (λ user. IsRowText (eqb format 1) before user) r text
    from r text h = record {
      first = r.user;
      front = be32 r.user;
      back = row_if (eqb format 1) r;
      front_is = record { small = h.0.small; good = refl; ordered = h.0.last; is = refl };
      back_is = (h.0.beside, refl);
      is = h.1;
    }

pub rows_reader : (format n : ℕ) → IsReader (IsRepeat (IsGoodRow (eqb format 1)) (whole_row (eqb format 1)) [] n) (repeat (next_row_at format) [] n)
rows_reader format n = repeat_reader (IsGoodRow (eqb format 1)) (whole_row (eqb format 1)) (next_row_at format) (next_row_reader format) n []
