-- A record is read from its texts, and nothing else is.
use Rattle.std.proofs.Common.{◌≡◌, ◌⊎◌, ◌≤◌, ◌<◌, ◌^◌, ℕ, ◌&&◌, Bool, true, false, cond, List, [], ◌∷◌, ◌++◌, length, Option, Some, None, Result, Ok, Err, refl, sym, ap, subst, ◌∙◌, arith, inl, inr}
use Rattle.std.specs.Prelude.{MatchBool, IfSome}
use Rattle.std.specs.List.{flat_map, AllByRecursion, list_all}
use Rattle.std.proofs.Math.Dec.{leb, ltb, eqb}
use Rattle.std.proofs.lemmas.Bool.{and_parts, and_from, or_cases, leb-true, le-leb, ltb-true, lt-ltb, eqb-true, eq-eqb, ne_eqb, cases_Bool, cases_eq}
use Rattle.std.proofs.lemmas.List.{append-nil, nil_from_length}
use Rattle.ls_bytes.specs.Fields.{be32}
use Rattle.ls_bytes.specs.Reading.{Reading}
use Rattle.ls_record.specs.declared.fault.RecordFault.{RecordFault}
use Rattle.ls_record.specs.declared.fault.RecordFault.TheVariants.{Short, Order, Limit, Extra, Memory}
use Rattle.ls_record.specs.declared.row.UserRow.{UserRow}
use Rattle.ls_arming.specs.declared.arming.Arming.{Arming}
use Rattle.ls_record.specs.Rows.{Rec, IsArming, IsRow, has_row, is_next_armed}
use Rattle.ls_record.specs.Spelling.{flag, row_bytes, armed_bytes, arming_bytes, record_bytes, HasFormat, IsTextOf}
use Rattle.ls_record.specs.Reading.{Reads, go_on, ◌>>=◌, done, number, byte, any, flag_at, next_row_at, repeat, armed_user_at, armed_at, some_armed, arming_at, body_at, alone, front_of, record_of}
use Rattle.ls_record.specs.Gives.{Tells}
use Rattle.ls_record.proofs.ReaderLemmas.{IsBytes, IsReader, Nothing, Joined, reading, done_reader, bind_reader, reader_is, chosen_reader}
use Rattle.ls_record.proofs.StepLemmas.{Stepwise, IsRepeat, repeat_reader, steps_pairs, pairs_steps}
use Rattle.ls_record.proofs.FieldReaders.{IsText4, IsByte, reader_4, byte_reader, flag_reader}
use Rattle.ls_record.proofs.TestLemmas.{all_pass, each_pass, all_map, all_both}
use Rattle.ls_record.proofs.RowReaders.{IsGoodRow, whole_row, rows_reader}
use Rattle.ls_record.proofs.RowRules.{IsRowOf, rows_good, good_rows}

-- ---- the users of an arming

pub record IsGoodUser (rows : List UserRow) (before : List ℕ) (u : ℕ) : Type 0 where
  pub small : u < 2 ^ 32
  pub next : is_next_armed rows before u ≡ true

record IsThere (rows : List UserRow) (u : ℕ) : Type 0 where
  small : u < 2 ^ 32
  row : has_row rows u ≡ true

user_good : (rows : List UserRow) (before : List ℕ) (u : ℕ) → IsGoodUser rows before u → AllByRecursion (λ y. y < u) before × IsThere rows u
user_good rows before u h =
    let parts = and_parts (list_all (λ y. ltb y u) before) (has_row rows u) h.next in (
      all_map (λ y. ltb y u ≡ true) (λ y. y < u) (λ y e. ltb-true y u e) before (all_pass (λ y. ltb y u) before parts.0),
      record { small = h.small; row = parts.1 },
    )

good_user : (rows : List UserRow) (before : List ℕ) (u : ℕ) → AllByRecursion (λ y. y < u) before → IsThere rows u → IsGoodUser rows before u
good_user rows before u all h = record {
  small = h.small;
  next = and_from (list_all (λ y. ltb y u) before) (has_row rows u) (each_pass (λ y. ltb y u) before (all_map (λ y. y < u) (λ y. ltb y u ≡ true) (λ y lt. lt-ltb y u lt) before all)) h.row;
}

user_reader : (rows : List UserRow) (before : List ℕ) → IsReader (λ u text. IsGoodUser rows before u × (text ≡ be32 u)) (armed_user_at rows before)
user_reader rows before =
    reader_is (IsText4 any (is_next_armed rows before)) (λ u text. IsGoodUser rows before u × (text ≡ be32 u)) (armed_user_at rows before)
    (λ u text h. (record { small = h.small; next = h.ordered }, h.is))
    (λ u text h. record { small = h.0.small; good = refl; ordered = h.0.next; is = h.1 })
    (reader_4 any (is_next_armed rows before))

-- ---- an arming

pub record IsGoodArmed (rows : List UserRow) (a : Arming) : Type 0 where
  pub boot : a.boot < 2 ^ 32
  pub many : (leb 1 (length a.users) && leb (length a.users) 16) ≡ true
  pub steps : Stepwise (IsGoodUser rows) [] a.users

abbrev IsArmedText : List UserRow → Arming → List ℕ → Type 0
IsArmedText rows a text = IsGoodArmed rows a × (text ≡ armed_bytes a)

abbrev is_many : ℕ → Bool
is_many n = leb 1 n && leb n 16

abbrev armed_of : ℕ → List ℕ → Arming
armed_of boot users = record { boot = boot; users = users }

abbrev AreArmedFields : List UserRow → Arming → List ℕ → Type 0
AreArmedFields rows = Joined (IsText4 any any) (λ boot. Joined (IsByte is_many) (λ n. Joined (IsRepeat (IsGoodUser rows) be32 [] n) (λ users. Nothing (armed_of boot users))))

to_armed : (rows : List UserRow) (a : Arming) (text : List ℕ) → AreArmedFields rows a text → IsArmedText rows a text
to_armed rows a text h =
    let n = h.back_is in
    let u = n.back_is in
    let r = u.front_is in
    let users = u.first in
    let many : length users ≡ n.first = ap length r.is ∙ r.many in
    let made = armed_of h.first users in
    let text_is : text ≡ armed_bytes made =
    h.is ∙ (λ i. h.front_is.is i ++ n.is i) ∙ (λ i. be32 h.first ++ (n.front_is.is i ++ u.is i)) ∙ (λ i. be32 h.first ++ (sym many i ∷ (r.spelled i ++ u.back_is.1 i)))
    ∙ (λ i. be32 h.first ++ (length users ∷ (flat_map be32 (sym r.is i) ++ []))) ∙ (λ i. be32 h.first ++ (length users ∷ append-nil (flat_map be32 users) i)) in
    subst (λ (x : Arming). IsArmedText rows x text) (sym u.back_is.0)
    (record { boot = h.front_is.small; many = ap is_many many ∙ n.front_is.good; steps = subst (Stepwise (IsGoodUser rows) []) (sym r.is) r.good }, text_is)

from_armed : (rows : List UserRow) (a : Arming) (text : List ℕ) → IsArmedText rows a text → AreArmedFields rows a text
from_armed rows a text h =
    let few : length a.users ≤ 16 = leb-true (length a.users) 16 (and_parts (leb 1 (length a.users)) (leb (length a.users) 16) h.0.many).1 in
    record {
      first = a.boot;
      front = be32 a.boot;
      back = length a.users ∷ (flat_map be32 a.users ++ []);
      front_is = record { small = h.0.boot; good = refl; ordered = refl; is = refl };
      back_is = record {
        first = length a.users;
        front = length a.users ∷ [];
        back = flat_map be32 a.users ++ [];
        front_is = record { small = omega arith; good = h.0.many; is = refl };
        back_is = record {
          first = a.users;
          front = flat_map be32 a.users;
          back = [];
          front_is = record { new = a.users; is = refl; many = refl; good = h.0.steps; spelled = refl };
          back_is = (refl, refl);
          is = refl;
        };
        is = refl;
      };
      is = h.1 ∙ (λ i. be32 a.boot ++ (length a.users ∷ sym (append-nil (flat_map be32 a.users)) i));
    }

pub armed_reader : (rows : List UserRow) → IsReader (IsArmedText rows) (armed_at rows)
unfolding armed_at
armed_reader rows =
    reader_is (AreArmedFields rows) (IsArmedText rows) (armed_at rows) (to_armed rows) (from_armed rows)
    (bind_reader _ _ (number 4 any any) _ (reader_4 any any) (λ boot. bind_reader _ _ (byte is_many) _ (byte_reader is_many) (λ n.
    bind_reader _ _ (repeat (armed_user_at rows) [] n) _ (repeat_reader (IsGoodUser rows) be32 (armed_user_at rows) (user_reader rows) n []) (λ users. done_reader (armed_of boot users)))))

-- ---- an arming, or none

abbrev pub IsGoodArming : List UserRow → Option Arming → Type 0
IsGoodArming rows o = IfSome o (IsGoodArmed rows)

abbrev IsArmingText : List UserRow → Option Arming → List ℕ → Type 0
IsArmingText rows o text = IsGoodArming rows o × (text ≡ arming_bytes o)

abbrev IsSomeText : List UserRow → Option Arming → List ℕ → Type 0
IsSomeText rows = Joined (IsArmedText rows) (λ a. Nothing (Some a))

abbrev none : Option Arming
none = None

abbrev AreArmingFields : List UserRow → Option Arming → List ℕ → Type 0
AreArmingFields rows = Joined (λ b text. text ≡ flag b ∷ []) (λ b o text. MatchBool b (IsSomeText rows o text) (Nothing none o text))

to_arming : (rows : List UserRow) (o : Option Arming) (text : List ℕ) → AreArmingFields rows o text → IsArmingText rows o text
to_arming rows o text h = by h.first h.front h.back h.front_is h.back_is h.is
  where
    by : (b : Bool) (front back : List ℕ) → front ≡ flag b ∷ [] → MatchBool b (IsSomeText rows o back) (Nothing none o back) → text ≡ front ++ back → IsArmingText rows o text
    by true front back front_is back_is is =
        let text_is : text ≡ 1 ∷ armed_bytes back_is.first =
        is ∙ (λ i. front_is i ++ back_is.is i) ∙ (λ i. 1 ∷ (back_is.front_is.1 i ++ back_is.back_is.1 i)) ∙ (λ i. 1 ∷ append-nil (armed_bytes back_is.first) i) in
        subst (λ (x : Option Arming). IsArmingText rows x text) (sym back_is.back_is.0) (back_is.front_is.0, text_is)
    by false front back front_is back_is is =
        subst (λ (x : Option Arming). IsArmingText rows x text) (sym back_is.0) (tt, is ∙ (λ i. front_is i ++ back_is.1 i))

from_arming : (rows : List UserRow) (o : Option Arming) (text : List ℕ) → IsArmingText rows o text → AreArmingFields rows o text
from_arming rows None text h = record { first = false; front = 0 ∷ []; back = []; front_is = refl; back_is = (refl, refl); is = h.1 }
from_arming rows (Some a) text h = record {
  first = true;
  front = 1 ∷ [];
  back = armed_bytes a ++ [];
  front_is = refl;
  back_is = record { first = a; front = armed_bytes a; back = []; front_is = (h.0, refl); back_is = (refl, refl); is = refl };
  is = h.1 ∙ (λ i. 1 ∷ sym (append-nil (armed_bytes a)) i);
}

pub arming_reader : (rows : List UserRow) → IsReader (IsArmingText rows) (arming_at rows)
arming_reader rows =
    reader_is (AreArmingFields rows) (IsArmingText rows) (arming_at rows) (to_arming rows) (from_arming rows)
    (bind_reader (λ b text. text ≡ flag b ∷ []) (λ b o text. MatchBool b (IsSomeText rows o text) (Nothing none o text)) flag_at (λ b. cond b (some_armed rows) (done none)) flag_reader
    (λ b. chosen_reader (IsSomeText rows) (Nothing none) (some_armed rows) (done none) b
    (bind_reader (IsArmedText rows) (λ a. Nothing (Some a)) (armed_at rows) (λ a. done (Some a)) (armed_reader rows) (λ a. done_reader (Some a))) (done_reader none)))

-- ---- a record

abbrev pub is_format : ℕ → Bool
is_format n = leb 1 n && leb n 2

abbrev pub is_row_count : ℕ → Bool
is_row_count n = leb 0 n && leb n 16

-- what a body of the format says
record IsGoodBody (format : ℕ) (r : Rec) : Type 0 where
  format_is : is_format format ≡ true
  many : is_row_count (length r.users) ≡ true
  rows : Stepwise (IsGoodRow (eqb format 1)) [] r.users
  armed : IsGoodArming r.users r.armed

record IsBodyText (r : Rec) (text : List ℕ) : Type 0 where
  format : ℕ
  good : IsGoodBody format r
  is : text ≡ record_bytes format r

abbrev pub rec_of : List UserRow → Option Arming → Rec
rec_of users armed = record { users = users; armed = armed }

abbrev AreBodyFields : Rec → List ℕ → Type 0
AreBodyFields = Joined (IsByte is_format) (λ format. Joined (IsByte is_row_count) (λ n. Joined (IsRepeat (IsGoodRow (eqb format 1)) (whole_row (eqb format 1)) [] n) (λ users.
    Joined (IsArmingText users) (λ armed. Nothing (rec_of users armed)))))

to_body : (r : Rec) (text : List ℕ) → AreBodyFields r text → IsBodyText r text
to_body r text h =
    let format = h.first in
    let n = h.back_is in
    let u = n.back_is in
    let p = u.front_is in
    let a = u.back_is in
    let users = u.first in
    let many : length users ≡ n.first = ap length p.is ∙ p.many in
    let text_is : text ≡ record_bytes format (rec_of users a.first) =
    h.is ∙ (λ i. h.front_is.is i ++ n.is i) ∙ (λ i. format ∷ (n.front_is.is i ++ u.is i)) ∙ (λ i. format ∷ sym many i ∷ (p.spelled i ++ a.is i))
    ∙ (λ i. format ∷ length users ∷ (flat_map (row_bytes format) (sym p.is i) ++ (a.front_is.1 i ++ a.back_is.1 i)))
    ∙ (λ i. format ∷ length users ∷ (flat_map (row_bytes format) users ++ append-nil (arming_bytes a.first) i)) in
    subst (λ (x : Rec). IsBodyText x text) (sym a.back_is.0)
    (record {
      format = format;
      good = record {
        format_is = h.front_is.good;
        many = ap is_row_count many ∙ n.front_is.good;
        rows = subst (Stepwise (IsGoodRow (eqb format 1)) []) (sym p.is) p.good;
        armed = a.front_is.0;
      };
      is = text_is;
    })

from_body : (r : Rec) (text : List ℕ) → IsBodyText r text → AreBodyFields r text
from_body r text h =
    let few : length r.users ≤ 16 = leb-true (length r.users) 16 (and_parts (leb 0 (length r.users)) (leb (length r.users) 16) h.good.many).1 in
    let low : h.format ≤ 2 = leb-true h.format 2 (and_parts (leb 1 h.format) (leb h.format 2) h.good.format_is).1 in
    record {
      first = h.format;
      front = h.format ∷ [];
      back = length r.users ∷ (flat_map (row_bytes h.format) r.users ++ (arming_bytes r.armed ++ []));
      front_is = record { small = omega arith; good = h.good.format_is; is = refl };
      back_is = record {
        first = length r.users;
        front = length r.users ∷ [];
        back = flat_map (row_bytes h.format) r.users ++ (arming_bytes r.armed ++ []);
        front_is = record { small = omega arith; good = h.good.many; is = refl };
        back_is = record {
          first = r.users;
          front = flat_map (row_bytes h.format) r.users;
          back = arming_bytes r.armed ++ [];
          front_is = record { new = r.users; is = refl; many = refl; good = h.good.rows; spelled = refl };
          back_is = record { first = r.armed; front = arming_bytes r.armed; back = []; front_is = (h.good.armed, refl); back_is = (refl, refl); is = refl };
          is = refl;
        };
        is = refl;
      };
      is = h.is ∙ (λ i. h.format ∷ length r.users ∷ (flat_map (row_bytes h.format) r.users ++ sym (append-nil (arming_bytes r.armed)) i));
    }

body_reader : IsReader IsBodyText body_at
unfolding body_at
body_reader =
    reader_is AreBodyFields IsBodyText body_at to_body from_body
    (bind_reader _ _ (byte is_format) _ (byte_reader is_format) (λ format. bind_reader _ _ (byte is_row_count) _ (byte_reader is_row_count) (λ n.
    bind_reader _ _ (repeat (next_row_at format) [] n) _ (rows_reader format n) (λ users. bind_reader _ _ (arming_at users) _ (arming_reader users) (λ armed. done_reader (rec_of users armed))))))

-- ---- the rules of a record

-- a user that has a row is a number of 32 bits
pub small_user : (rows : List UserRow) (u : ℕ) → AllByRecursion IsRow rows → has_row rows u ≡ true → u < 2 ^ 32
small_user [] u all h = absurd (let bad : false ≡ true = h in cc)
small_user (r ∷ rows) u all h =
    elim (or_cases (eqb r.user u) (has_row rows u) h) [
      | inl e ↦ subst (λ (n : ℕ). n < 2 ^ 32) (eqb-true r.user u e) all.0.user
      | inr more ↦ small_user rows u all.1 more
    ]

pub to_arming_rule : (rows : List UserRow) (o : Option Arming) → IsGoodArming rows o → IfSome o (IsArming rows)
to_arming_rule rows None h = tt
to_arming_rule rows (Some a) h =
    let steps = steps_pairs (λ u v. u < v) (IsThere rows) (IsGoodUser rows) (user_good rows) [] a.users h.steps tt in
    let parts = and_parts (leb 1 (length a.users)) (leb (length a.users) 16) h.many in
    record {
      boot = h.boot;
      some = leb-true 1 (length a.users) parts.0;
      few = leb-true (length a.users) 16 parts.1;
      ascending = steps.0;
      there = all_map (IsThere rows) (λ u. has_row rows u ≡ true) (λ u t. t.row) a.users steps.1;
    }

pub from_arming_rule : (rows : List UserRow) → AllByRecursion IsRow rows → (o : Option Arming) → IfSome o (IsArming rows) → IsGoodArming rows o
from_arming_rule rows all None h = tt
from_arming_rule rows all (Some a) h = record {
  boot = h.boot;
  many = and_from (leb 1 (length a.users)) (leb (length a.users) 16) (le-leb 1 (length a.users) h.some) (le-leb (length a.users) 16 h.few);
  steps = pairs_steps (λ u v. u < v) (IsThere rows) (IsGoodUser rows) (good_user rows) [] a.users h.ascending
      (all_map (λ u. has_row rows u ≡ true) (IsThere rows) (λ u t. record { small = small_user rows u all t; row = t }) a.users h.there);
}

two_formats : (n : ℕ) → is_format n ≡ true → (n ≡ 1) ⊎ (n ≡ 2)
two_formats n h =
    let parts = and_parts (leb 1 n) (leb n 2) h in
    let low = leb-true 1 n parts.0 in
    let high = leb-true n 2 parts.1 in
    elim (cases_eq n 1) [ inl e ↦ inl e | inr d ↦ inr (omega arith) ]

to_text : (bytes : List ℕ) (r : Rec) → IsBodyText r bytes → IsTextOf bytes r
to_text bytes r h =
    let rows = rows_good (eqb h.format 1) r.users h.good.rows in (
      record {
        few = leb-true (length r.users) 16 (and_parts (leb 0 (length r.users)) (leb (length r.users) 16) h.good.many).1;
        rows = all_map (IsRowOf (eqb h.format 1)) IsRow (λ x k. k.0) r.users rows.1;
        pairs = rows.0;
        armed = to_arming_rule r.users r.armed h.good.armed;
      },
      (
        h.format,
        elim (two_formats h.format h.good.format_is) [
          | inl one ↦ inl (one, all_map (IsRowOf (eqb h.format 1)) (λ x. (x.auto ≡ false) × (x.pin ≡ 0)) (λ x k. k.1 (eq-eqb h.format 1 one)) r.users rows.1)
          | inr two ↦ inr two
        ],
        sym h.is,
      ),
    )

plain_rows : (rows : List UserRow) → AllByRecursion IsRow rows → AllByRecursion (λ x. (x.auto ≡ false) × (x.pin ≡ 0)) rows → AllByRecursion (IsRowOf true) rows
plain_rows rows all plain = all_both IsRow (λ x. (x.auto ≡ false) × (x.pin ≡ 0)) (IsRowOf true) (λ x a b. (a, λ _. b)) rows all plain

any_rows : (rows : List UserRow) → AllByRecursion IsRow rows → AllByRecursion (IsRowOf false) rows
any_rows rows all = all_map IsRow (IsRowOf false) (λ x a. (a, λ e. absurd (let bad : false ≡ true = e in cc))) rows all

from_text : (bytes : List ℕ) (r : Rec) → IsTextOf bytes r → IsBodyText r bytes
from_text bytes r (keeps, (format, has, is)) = by has
  where
    few : is_row_count (length r.users) ≡ true
    few = and_from (leb 0 (length r.users)) (leb (length r.users) 16) (le-leb 0 (length r.users) (omega arith)) (le-leb (length r.users) 16 keeps.few)

    by : HasFormat format r → IsBodyText r bytes
    by (inl one) = record {
      format = 1;
      good = record { format_is = refl; many = few; rows = good_rows true r.users keeps.pairs (plain_rows r.users keeps.rows one.1); armed = from_arming_rule r.users keeps.rows r.armed keeps.armed };
      is = sym is ∙ ap (λ (f : ℕ). record_bytes f r) one.0;
    }
    by (inr two) = record {
      format = 2;
      good = record { format_is = refl; many = few; rows = good_rows false r.users keeps.pairs (any_rows r.users keeps.rows); armed = from_arming_rule r.users keeps.rows r.armed keeps.armed };
      is = sym is ∙ ap (λ (f : ℕ). record_bytes f r) two;
    }

-- ---- all the bytes

pub record IsAlone {A : Type 0} (p : Result (A × Reading) RecordFault) (v : A) : Type 0 where
  pub rest : Reading
  pub was : p ≡ Ok (v, rest)
  pub ended : rest.left ≡ []

pub is_alone : {A : Type 0} (p : Result (A × Reading) RecordFault) (v : A) → alone p ≡ Ok v → IsAlone p v
is_alone {A} (Ok x) v e = by (cases_Bool (eqb (length x.1.left) 0))
  where
    by : (eqb (length x.1.left) 0 ≡ true) ⊎ (eqb (length x.1.left) 0 ≡ false) → IsAlone (Ok x) v
    by (inl none) =
        let found : ◌≡◌ {A = Result A RecordFault} (Ok x.0) (Ok v) = rw none at e in
        let value : x.0 ≡ v = cc in
        record { rest = x.1; was = λ i. Ok (value i, x.1); ended = nil_from_length x.1.left (eqb-true (length x.1.left) 0 none) }
    by (inr some) = absurd (let bad : ◌≡◌ {A = Result A RecordFault} (Err (Extra x.1.at)) (Ok v) = rw some at e in cc)
is_alone {A} (Err f) v e = absurd (let bad : ◌≡◌ {A = Result A RecordFault} (Err f) (Ok v) = e in cc)

-- what is read is a record, and its text
pub record_takes : (bytes : List ℕ) (r : Rec) → IsBytes bytes → record_of bytes ≡ Ok r → IsTextOf bytes r
record_takes bytes r fits e =
    let found = is_alone (body_at (front_of bytes)) r e in
    let took = body_reader.takes (front_of bytes) found.rest r fits found.was in
    let whole : bytes ≡ took.text = took.left ∙ (λ i. took.text ++ found.ended i) ∙ append-nil took.text in
    to_text bytes r (subst (IsBodyText r) (sym whole) took.is)

-- the text of a record is read as that record
pub record_again : (bytes : List ℕ) (r : Rec) → IsTextOf bytes r → record_of bytes ≡ Ok r
record_again bytes r is =
    let read = body_reader.again r bytes (from_text bytes r is) [] 0 in
    ap (λ (b : List ℕ). alone (body_at (reading b 0))) (sym (append-nil bytes)) ∙ ap alone read

-- ---- a body that is read field by field

-- a fault of a step is one of the whole
step_tells : {A B : Type 0} (p : Result (A × Reading) RecordFault) (next : A → Reads B) (e : RecordFault) → Tells p e → Tells (alone (go_on p next)) e
step_tells p next (Short at) h = rw h refl
step_tells p next (Order at) h = rw h refl
step_tells p next (Limit at) h = rw h refl
step_tells p next (Extra at) h = rw h refl
step_tells p next Memory h = tt

abbrev from_arming_on : List UserRow → Reads Rec
from_arming_on users = arming_at users >>= λ armed. done (rec_of users armed)

abbrev from_rows_on : ℕ → ℕ → Reads Rec
from_rows_on format n = repeat (next_row_at format) [] n >>= from_arming_on

abbrev from_count_on : ℕ → Reads Rec
from_count_on format = byte is_row_count >>= from_rows_on format

module _ (bytes : List ℕ) (s : Reading) (start : s ≡ front_of bytes) where
  begun : record_of bytes ≡ alone (go_on (byte is_format s) from_count_on)
  unfolding body_at
  begun = ap (λ (x : Reading). alone (body_at x)) (sym start)

  pub format_fails : (e : RecordFault) → Tells (byte is_format s) e → Tells (record_of bytes) e
  format_fails e h = subst (λ (r : Result Rec RecordFault). Tells r e) (sym begun) (step_tells (byte is_format s) from_count_on e h)

  module _ (format : ℕ) (t : Reading) (first : byte is_format s ≡ Ok (format, t)) where
    counted : record_of bytes ≡ alone (go_on (byte is_row_count t) (from_rows_on format))
    counted = begun ∙ ap (λ (r : Result (ℕ × Reading) RecordFault). alone (go_on r from_count_on)) first

    pub count_fails : (e : RecordFault) → Tells (byte is_row_count t) e → Tells (record_of bytes) e
    count_fails e h = subst (λ (r : Result Rec RecordFault). Tells r e) (sym counted) (step_tells (byte is_row_count t) (from_rows_on format) e h)

    module _ (n : ℕ) (u : Reading) (second : byte is_row_count t ≡ Ok (n, u)) where
      listed : record_of bytes ≡ alone (go_on (repeat (next_row_at format) [] n u) from_arming_on)
      listed = counted ∙ ap (λ (r : Result (ℕ × Reading) RecordFault). alone (go_on r (from_rows_on format))) second

      pub rows_fail : (e : RecordFault) → Tells (repeat (next_row_at format) [] n u) e → Tells (record_of bytes) e
      rows_fail e h = subst (λ (r : Result Rec RecordFault). Tells r e) (sym listed) (step_tells (repeat (next_row_at format) [] n u) from_arming_on e h)

      module _ (users : List UserRow) (v : Reading) (third : repeat (next_row_at format) [] n u ≡ Ok (users, v)) where
        armed_on : record_of bytes ≡ alone (go_on (arming_at users v) (λ armed. done (rec_of users armed)))
        armed_on = listed ∙ ap (λ (r : Result (List UserRow × Reading) RecordFault). alone (go_on r from_arming_on)) third

        pub arming_fails : (e : RecordFault) → Tells (arming_at users v) e → Tells (record_of bytes) e
        arming_fails e h = subst (λ (r : Result Rec RecordFault). Tells r e) (sym armed_on) (step_tells (arming_at users v) (λ armed. done (rec_of users armed)) e h)

        module _ (armed : Option Arming) (w : Reading) (fourth : arming_at users v ≡ Ok (armed, w)) where
          whole : record_of bytes ≡ alone (Ok (rec_of users armed, w))
          whole = armed_on ∙ ap (λ (r : Result (Option Arming × Reading) RecordFault). alone (go_on r (λ o. done (rec_of users o)))) fourth

          pub body_read : w.left ≡ [] → record_of bytes ≡ Ok (rec_of users armed)
          body_read ended = whole ∙ rw ended refl

          pub more_stands : (w.left ≡ [] → ⊥) → record_of bytes ≡ Err (Extra w.at)
          more_stands more = whole ∙ rw (ne_eqb (length w.left) 0 (λ e. more (nil_from_length w.left e))) refl
