-- What each row is beside those before it, and what all rows are.
use Rattle.std.proofs.Common.{◌≡◌, ◌≢◌, ◌⊎◌, ◌<◌, ◌^◌, ℕ, ◌&&◌, not, Bool, true, false, List, [], ◌∷◌, refl, sym, ◌∙◌, arith, inl, inr}
use Rattle.std.specs.List.{AllByRecursion}
use Rattle.std.proofs.Math.Dec.{leb, ltb, eqb}
use Rattle.std.proofs.lemmas.Bool.{and_parts, and_from, or_cases, or_left, or_right, not-true, not_from_false, leb-true, ltb-true, lt-ltb, eqb-true, eqb-false, ne_eqb, cases_Bool}
use Rattle.ls_credential.specs.declared.kind.Kind.{Kind}
use Rattle.ls_credential.specs.declared.kind.Kind.TheVariants.{Empty, Pattern, Pin, Password}
use Rattle.ls_record.specs.declared.row.UserRow.{UserRow}
use Rattle.ls_record.specs.Rows.{Pairs, is_odd, is_shown_length, IsRow, has, AreApart, IsBefore, another, is_new_secure}
use Rattle.ls_record.proofs.StepLemmas.{Stepwise, steps_pairs, pairs_steps}
use Rattle.ls_record.proofs.TestLemmas.{none_pass, no_pass, all_pass, each_pass, all_map, all_both, all_swap, not_has, has_not}
use Rattle.ls_record.proofs.RowReaders.{IsGoodToken, IsBeside, IsGoodRow}

-- ---- tokens

-- what a token is but for those of its own row
record IsToken (rows : List UserRow) (user t : ℕ) : Type 0 where
  odd : is_odd t ≡ true
  small : t < 2 ^ 64
  elsewhere : another rows user (λ r. has r.tokens t) ≡ false

token_good : (rows : List UserRow) (user : ℕ) (before : List ℕ) (t : ℕ) → IsGoodToken rows user before t → AllByRecursion (λ s. s ≢ t) before × IsToken rows user t
token_good rows user before t h =
    let parts = and_parts (not (another rows user (λ r. has r.tokens t))) (not (has before t)) h.new in (
      not_has before t (not-true (has before t) parts.1),
      record { odd = h.odd; small = h.small; elsewhere = not-true (another rows user (λ r. has r.tokens t)) parts.0 },
    )

good_token : (rows : List UserRow) (user : ℕ) (before : List ℕ) (t : ℕ) → AllByRecursion (λ s. s ≢ t) before → IsToken rows user t → IsGoodToken rows user before t
good_token rows user before t apart h = record {
  small = h.small;
  odd = h.odd;
  new = and_from (not (another rows user (λ r. has r.tokens t))) (not (has before t)) (not_from_false (another rows user (λ r. has r.tokens t)) h.elsewhere) (not_from_false (has before t) (has_not before t apart));
}

-- ---- rows of other users

-- P of each row of another user
abbrev pub OfOthers : List UserRow → ℕ → (UserRow → Type 0) → Type 0
OfOthers rows user P = AllByRecursion (λ y. y.user ≢ user → P y) rows

others_map : (rows : List UserRow) (user : ℕ) (P Q : UserRow → Type 0) → ((y : UserRow) → P y → Q y) → OfOthers rows user P → OfOthers rows user Q
others_map rows user P Q f h = all_map (λ y. y.user ≢ user → P y) (λ y. y.user ≢ user → Q y) (λ y k n. f y (k n)) rows h

-- a test that no row of another user passes
fails : (user : ℕ) (test : UserRow → Bool) (y : UserRow) → (not (eqb y.user user) && test y) ≡ false → y.user ≢ user → test y ≡ false
fails user test y h other = let e : eqb y.user user ≡ false = ne_eqb y.user user other in rw e at h

no_other : (rows : List UserRow) (user : ℕ) (test : UserRow → Bool) → another rows user test ≡ false → OfOthers rows user (λ y. test y ≡ false)
no_other rows user test h =
    all_map (λ y. (not (eqb y.user user) && test y) ≡ false) (λ y. y.user ≢ user → test y ≡ false) (fails user test) rows
    (none_pass (λ y. not (eqb y.user user) && test y) rows h)

fails_by : (same : Bool) (user : ℕ) (test : UserRow → Bool) (y : UserRow) → eqb y.user user ≡ same → (y.user ≢ user → test y ≡ false) → (not (eqb y.user user) && test y) ≡ false
fails_by true user test y is h = rw is refl
fails_by false user test y is h = rw is (h (eqb-false y.user user is))

none_other : (rows : List UserRow) (user : ℕ) (test : UserRow → Bool) → OfOthers rows user (λ y. test y ≡ false) → another rows user test ≡ false
none_other rows user test h =
    no_pass (λ y. not (eqb y.user user) && test y) rows
    (all_map (λ y. y.user ≢ user → test y ≡ false) (λ y. (not (eqb y.user user) && test y) ≡ false) (λ y k. fails_by (eqb y.user user) user test y refl k) rows h)

all_each : {X : Type 0} (P : X → Type 0) → ((x : X) → P x) → (xs : List X) → AllByRecursion P xs
all_each P f [] = tt
all_each P f (x ∷ xs) = (f x, all_each P f xs)

-- ---- a row beside others

abbrev pub IsPlainRow : Bool → UserRow → Type 0
IsPlainRow plain r = plain ≡ true → (r.auto ≡ false) × (r.pin ≡ 0)

abbrev pub IsRowOf : Bool → UserRow → Type 0
IsRowOf plain r = IsRow r × IsPlainRow plain r

shown_small : (kind : Kind) (auto : Bool) (pin : ℕ) → is_shown_length kind auto pin ≡ true → pin < 256
shown_small Empty auto pin h = omega (arith, eqb-true pin 0 h)
shown_small Pattern auto pin h = omega (arith, eqb-true pin 0 h)
shown_small Password auto pin h = omega (arith, eqb-true pin 0 h)
shown_small Pin false pin h = omega (arith, eqb-true pin 0 h)
shown_small Pin true pin h =
    elim (or_cases (eqb pin 0) (leb 6 pin && leb pin 16) h) [
      | inl z ↦ omega (arith, eqb-true pin 0 z)
      | inr s ↦ omega (arith, leb-true pin 16 (and_parts (leb 6 pin) (leb pin 16) s).1)
    ]

module _ (plain : Bool) (rows : List UserRow) (user : ℕ) (r : UserRow) where
  protectors : IsBeside plain rows user r → OfOthers rows user (λ y. y.protector ≢ r.protector)
  protectors h =
      others_map rows user (λ y. eqb y.protector r.protector ≡ false) (λ y. y.protector ≢ r.protector) (λ y e. eqb-false y.protector r.protector e)
      (no_other rows user (λ y. eqb y.protector r.protector) (not-true (another rows user (λ y. eqb y.protector r.protector)) h.protector_new))

  secures : IsBeside plain rows user r → OfOthers rows user (λ y. y.secure ≡ r.secure → y.secure ≡ 0)
  secures h =
      elim (or_cases (eqb r.secure 0) (not (another rows user (λ y. eqb y.secure r.secure))) h.secure_new) [
        | inl z ↦ all_each (λ y. y.user ≢ user → y.secure ≡ r.secure → y.secure ≡ 0) (λ y n e. e ∙ eqb-true r.secure 0 z) rows
        | inr n ↦
            others_map rows user (λ y. eqb y.secure r.secure ≡ false) (λ y. y.secure ≡ r.secure → y.secure ≡ 0) (λ y f e. absurd (eqb-false y.secure r.secure f e))
            (no_other rows user (λ y. eqb y.secure r.secure) (not-true (another rows user (λ y. eqb y.secure r.secure)) n))
      ]

  token_rules : IsBeside plain rows user r → Pairs (λ s t. s ≢ t) r.tokens × AllByRecursion (IsToken rows user) r.tokens
  token_rules h = steps_pairs (λ s t. s ≢ t) (IsToken rows user) (IsGoodToken rows user) (token_good rows user) [] r.tokens h.tokens.steps tt

  tokens_apart : IsBeside plain rows user r → OfOthers rows user (λ y. AllByRecursion (λ t. has y.tokens t ≡ false) r.tokens)
  tokens_apart h =
      all_map (λ y. AllByRecursion (λ t. y.user ≢ user → has y.tokens t ≡ false) r.tokens) (λ y. y.user ≢ user → AllByRecursion (λ t. has y.tokens t ≡ false) r.tokens)
      (λ y k n. all_map (λ t. y.user ≢ user → has y.tokens t ≡ false) (λ t. has y.tokens t ≡ false) (λ t j. j n) r.tokens k) rows
      (all_swap (λ t y. y.user ≢ user → has y.tokens t ≡ false) r.tokens rows
      (all_map (IsToken rows user) (λ t. OfOthers rows user (λ y. has y.tokens t ≡ false)) (λ t k. no_other rows user (λ y. has y.tokens t) k.elsewhere) r.tokens (token_rules h).1))

  -- what a row that is read says, and what it repeats of others: nothing
  pub beside_apart : r.user < 2 ^ 32 → IsBeside plain rows user r → IsRowOf plain r × OfOthers rows user (λ y. AreApart y r)
  beside_apart small h = (
    (
      record {
        user = small;
        pin = h.flags.shown;
        protector = (h.protector, h.protector_small);
        secure = (h.secure, h.secure_small);
        few = h.tokens.few;
        tokens = all_map (IsToken rows user) (λ t. (is_odd t ≡ true) × (t < 2 ^ 64)) (λ t k. (k.odd, k.small)) r.tokens (token_rules h).1;
        once = (token_rules h).0;
      },
      h.flags.plainly,
    ),
    all_both (λ y. y.user ≢ user → (y.protector ≢ r.protector) × (y.secure ≡ r.secure → y.secure ≡ 0)) (λ y. y.user ≢ user → AllByRecursion (λ t. has y.tokens t ≡ false) r.tokens)
        (λ y. y.user ≢ user → AreApart y r) (λ y a b n. record { protector = (a n).0; secure = (a n).1; tokens = b n }) rows
        (all_both (λ y. y.user ≢ user → y.protector ≢ r.protector) (λ y. y.user ≢ user → y.secure ≡ r.secure → y.secure ≡ 0)
        (λ y. y.user ≢ user → (y.protector ≢ r.protector) × (y.secure ≡ r.secure → y.secure ≡ 0)) (λ y a b n. (a n, b n)) rows (protectors h) (secures h))
        (tokens_apart h),
  )

  secure_new : OfOthers rows user (λ y. AreApart y r) → is_new_secure rows user r.secure ≡ true
  secure_new all = by (cases_Bool (eqb r.secure 0))
    where
      by : (eqb r.secure 0 ≡ true) ⊎ (eqb r.secure 0 ≡ false) → is_new_secure rows user r.secure ≡ true
      by (inl z) = or_left (eqb r.secure 0) (not (another rows user (λ y. eqb y.secure r.secure))) z
      by (inr some) =
          or_right (eqb r.secure 0) (not (another rows user (λ y. eqb y.secure r.secure)))
          (not_from_false (another rows user (λ y. eqb y.secure r.secure)) (none_other rows user (λ y. eqb y.secure r.secure)
          (others_map rows user (λ y. AreApart y r) (λ y. eqb y.secure r.secure ≡ false) (λ y b. ne_eqb y.secure r.secure (λ e. eqb-false r.secure 0 some (sym e ∙ b.secure e))) all)))

  one_token : (t : ℕ) → (is_odd t ≡ true) × (t < 2 ^ 64) → OfOthers rows user (λ y. has y.tokens t ≡ false) → IsToken rows user t
  one_token t k none = record { odd = k.0; small = k.1; elsewhere = none_other rows user (λ y. has y.tokens t) none }

  tokens_good : OfOthers rows user (λ y. AreApart y r) → IsRow r → AllByRecursion (IsToken rows user) r.tokens
  tokens_good all row =
      all_both (λ t. (is_odd t ≡ true) × (t < 2 ^ 64)) (λ t. OfOthers rows user (λ y. has y.tokens t ≡ false)) (IsToken rows user) one_token r.tokens row.tokens
      (all_swap (λ y t. y.user ≢ user → has y.tokens t ≡ false) rows r.tokens
      (all_map (λ y. y.user ≢ user → AreApart y r) (λ y. AllByRecursion (λ t. y.user ≢ user → has y.tokens t ≡ false) r.tokens)
      (λ y f. all_later (y.user ≢ user) (λ t. has y.tokens t ≡ false) r.tokens (λ n. (f n).tokens)) rows all))
    where
      all_later : (P : Type 0) (Q : ℕ → Type 0) (ts : List ℕ) → (P → AllByRecursion Q ts) → AllByRecursion (λ t. P → Q t) ts
      all_later P Q [] f = tt
      all_later P Q (t ∷ ts) f = (λ p. (f p).0, all_later P Q ts (λ p. (f p).1))

  pub apart_beside : r.user ≡ user → IsRowOf plain r → OfOthers rows user (λ y. AreApart y r) → IsBeside plain rows user r
  apart_beside user_is row all = record {
    user_is = user_is;
    flags = record { shown = row.0.pin; small = shown_small r.kind r.auto r.pin row.0.pin; plainly = row.1 };
    protector_small = row.0.protector.1;
    protector = row.0.protector.0;
    protector_new = not_from_false (another rows user (λ y. eqb y.protector r.protector)) (none_other rows user (λ y. eqb y.protector r.protector)
        (others_map rows user (λ y. AreApart y r) (λ y. eqb y.protector r.protector ≡ false) (λ y b. ne_eqb y.protector r.protector b.protector) all));
    secure_small = row.0.secure.1;
    secure = row.0.secure.0;
    secure_new = secure_new all;
    tokens = record {
      few = row.0.few;
      steps = pairs_steps (λ s t. s ≢ t) (IsToken rows user) (IsGoodToken rows user) (good_token rows user) [] r.tokens row.0.once (tokens_good all row.0);
    };
  }

-- ---- a row and those before it

module _ (plain : Bool) (before : List UserRow) (r : UserRow) where
  good_row : IsGoodRow plain before r → AllByRecursion (λ y. IsBefore y r) before × IsRowOf plain r
  good_row h =
      let found = beside_apart plain before r.user r h.small h.beside in
      let lower = all_map (λ y. ltb y.user r.user ≡ true) (λ y. y.user < r.user) (λ y e. ltb-true y.user r.user e) before (all_pass (λ y. ltb y.user r.user) before h.last) in (
        all_both (λ y. y.user < r.user) (λ y. y.user ≢ r.user → AreApart y r) (λ y. IsBefore y r) (λ y lt f. record { user = lt; apart = f (λ e. omega arith) }) before lower found.1,
        found.0,
      )

  row_good : AllByRecursion (λ y. IsBefore y r) before → IsRowOf plain r → IsGoodRow plain before r
  row_good all row = record {
    small = row.0.user;
    last = each_pass (λ y. ltb y.user r.user) before (all_map (λ y. IsBefore y r) (λ y. ltb y.user r.user ≡ true) (λ y b. lt-ltb y.user r.user b.user) before all);
    beside = apart_beside plain before r.user r refl row (all_map (λ y. IsBefore y r) (λ y. y.user ≢ r.user → AreApart y r) (λ y b n. b.apart) before all);
  }

-- all rows
pub rows_good : (plain : Bool) (rows : List UserRow) → Stepwise (IsGoodRow plain) [] rows → Pairs IsBefore rows × AllByRecursion (IsRowOf plain) rows
rows_good plain rows steps = steps_pairs IsBefore (IsRowOf plain) (IsGoodRow plain) (λ before r h. good_row plain before r h) [] rows steps tt

pub good_rows : (plain : Bool) (rows : List UserRow) → Pairs IsBefore rows → AllByRecursion (IsRowOf plain) rows → Stepwise (IsGoodRow plain) [] rows
good_rows plain rows pairs all = pairs_steps IsBefore (IsRowOf plain) (IsGoodRow plain) (λ before r apart row. row_good plain before r apart row) [] rows pairs all
