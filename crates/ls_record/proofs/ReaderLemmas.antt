-- A reader reads the texts of its values, and no others.
use Rattle.std.proofs.Common.{◌≡◌, ◌≤◌, ◌<◌, ◌^◌, ℕ, ◌+◌, Bool, true, false, cond, ltb, List, [], ◌++◌, length, take, drop, get_or, Result, Ok, Err, refl, sym, ap, subst, ◌∙◌, arith}
use Rattle.std.specs.Prelude.{MatchBool}
use Rattle.std.proofs.lemmas.Bool.{le-ltb, ltb-false}
use Rattle.std.proofs.lemmas.List.{append_assoc, take-append-drop, drop_at, length-append, get_or-drop}
use Rattle.byteorder.specs.Endian.{big_number, big_bytes}
use Rattle.byteorder.specs.Numbers.{length-bytes_high_first, big_number-reads_back, big_from-lt}
use Rattle.ls_bytes.specs.Reading.{Reading}
use Rattle.ls_record.specs.declared.fault.RecordFault.{RecordFault}
use Rattle.ls_record.specs.declared.fault.RecordFault.TheVariants.{Short, Order, Limit}
use Rattle.ls_record.specs.Reading.{Reads, go_on, ◌>>=◌, done, number, end_of, behind}

abbrev pub IsBytes : List ℕ → Type 0
IsBytes bytes = (i : ℕ) → get_or bytes i 0 < 256

-- the text of a value was read
pub record Took {A : Type 0} (IsText : A → List ℕ → Type 0) (v : A) (old new : Reading) : Type 0 where
  pub text : List ℕ
  pub is : IsText v text
  pub left : old.left ≡ text ++ new.left
  pub at : new.at ≡ old.at + length text
  pub bytes : IsBytes new.left

-- a place in some bytes
abbrev pub reading : List ℕ → ℕ → Reading
reading left at = record { left = left; at = at }

pub record IsReader {A : Type 0} (IsText : A → List ℕ → Type 0) (p : Reads A) : Type 0 where
  pub takes : (old new : Reading) (v : A) → IsBytes old.left → p old ≡ Ok (v, new) → Took IsText v old new
  pub again : (v : A) (text : List ℕ) → IsText v text → (rest : List ℕ) (at : ℕ) → p (reading (text ++ rest) at) ≡ Ok (v, reading rest (at + length text))

-- the same texts in other words
pub reader_is : {A : Type 0} (P Q : A → List ℕ → Type 0) (p : Reads A) → ((v : A) (text : List ℕ) → P v text → Q v text) → ((v : A) (text : List ℕ) → Q v text → P v text)
    → IsReader P p → IsReader Q p
reader_is P Q p there back is = record {
  takes = λ old new v bytes e. let t = is.takes old new v bytes e in record { text = t.text; is = there v t.text t.is; left = t.left; at = t.at; bytes = t.bytes };
  again = λ v text q. is.again v text (back v text q);
}

-- ---- a value, and nothing read

abbrev pub Nothing : {A : Type 0} → A → A → List ℕ → Type 0
Nothing w v text = (v ≡ w) × (text ≡ [])

abbrev ok : {A : Type 0} → A → Reading → Result (A × Reading) RecordFault
ok v r = Ok (v, r)

ok_value : {A : Type 0} (v w : A) (r s : Reading) → ok v r ≡ ok w s → v ≡ w
ok_value {A} v w r s e = let p : ◌≡◌ {A = A × Reading} (v, r) (w, s) = cc in ap (λ (q : A × Reading). q.0) p

ok_reading : {A : Type 0} (v w : A) (r s : Reading) → ok v r ≡ ok w s → r ≡ s
ok_reading {A} v w r s e = let p : ◌≡◌ {A = A × Reading} (v, r) (w, s) = cc in ap (λ (q : A × Reading). q.1) p

pub done_reader : {A : Type 0} (w : A) → IsReader (Nothing w) (done w)
done_reader {A} w = record {
  takes = λ old new v bytes e.
      let same : old ≡ new = ok_reading w v old new e in
      record {
        text = [];
        is = (sym (ok_value w v old new e), refl);
        left = ap (λ (r : Reading). r.left) same;
        at = ap (λ (r : Reading). r.at) (sym same) ∙ omega arith;
        bytes = subst (λ (r : Reading). IsBytes r.left) same bytes;
      };
  again = λ v text h rest at.
      let left : rest ≡ text ++ rest = ap (λ (t : List ℕ). t ++ rest) (sym h.1) in
      let place : at ≡ at + length text = omega (arith, ap length h.1) in
      let same : ◌≡◌ {A = A × Reading} (w, reading (text ++ rest) at) (v, reading rest (at + length text)) = λ i. (sym h.0 i, reading (sym left i) (place i)) in
      ap Ok same;
}

-- ---- one after the other

pub record Joined {A B : Type 0} (P : A → List ℕ → Type 0) (Q : A → B → List ℕ → Type 0) (v : B) (text : List ℕ) : Type 0 where
  pub first : A
  pub front : List ℕ
  pub back : List ℕ
  pub front_is : P first front
  pub back_is : Q first v back
  pub is : text ≡ front ++ back

-- a step that was read
record Stepped {A B : Type 0} (p : Result (A × Reading) RecordFault) (next : A → Reads B) (y : B × Reading) : Type 0 where
  first : A
  mid : Reading
  was : p ≡ Ok (first, mid)
  then : next first mid ≡ Ok y

stepped : {A B : Type 0} (p : Result (A × Reading) RecordFault) (next : A → Reads B) (y : B × Reading) → go_on p next ≡ Ok y → Stepped p next y
stepped (Ok x) next y e = record { first = x.0; mid = x.1; was = refl; then = e }
stepped (Err f) next y e = absurd cc

pub bind_reader : {A B : Type 0} (P : A → List ℕ → Type 0) (Q : A → B → List ℕ → Type 0) (p : Reads A) (next : A → Reads B)
    → IsReader P p → ((a : A) → IsReader (Q a) (next a)) → IsReader (Joined P Q) (p >>= next)
bind_reader {A} {B} P Q p next is each = record { takes = takes; again = again }
  where
    takes : (old new : Reading) (v : B) → IsBytes old.left → go_on (p old) next ≡ Ok (v, new) → Took (Joined P Q) v old new
    takes old new v bytes e =
        let s = stepped (p old) next (v, new) e in
        let t = is.takes old s.mid s.first bytes s.was in
        let u = (each s.first).takes s.mid new v t.bytes s.then in
        record {
          text = t.text ++ u.text;
          is = record { first = s.first; front = t.text; back = u.text; front_is = t.is; back_is = u.is; is = refl };
          left = t.left ∙ ap (λ (l : List ℕ). t.text ++ l) u.left ∙ sym (append_assoc t.text u.text new.left);
          at = omega (arith, t.at, u.at, length-append t.text u.text);
          bytes = u.bytes;
        }

    again : (v : B) (text : List ℕ) → Joined P Q v text → (rest : List ℕ) (at : ℕ) → go_on (p (reading (text ++ rest) at)) next ≡ Ok (v, reading rest (at + length text))
    again v text h rest at =
        let whole : text ++ rest ≡ h.front ++ (h.back ++ rest) = ap (λ (t : List ℕ). t ++ rest) h.is ∙ append_assoc h.front h.back rest in
        let one = is.again h.first h.front h.front_is (h.back ++ rest) at in
        let two = (each h.first).again v h.back h.back_is rest (at + length h.front) in
        let long : (at + length h.front) + length h.back ≡ at + length text = omega (arith, ap length h.is, length-append h.front h.back) in
        ap (λ (l : List ℕ). go_on (p (reading l at)) next) whole ∙ rw one two ∙ ap (λ (n : ℕ). Ok (v, reading rest n)) long

-- a choice by a test
pub chosen_reader : {A : Type 0} (P Q : A → List ℕ → Type 0) (p q : Reads A) (b : Bool) → IsReader P p → IsReader Q q
    → IsReader (λ v text. MatchBool b (P v text) (Q v text)) (cond b p q)
chosen_reader P Q p q true first second = first
chosen_reader P Q p q false first second = second

-- ---- a number

pub record IsNumberText (width : ℕ) (limit order : ℕ → Bool) (n : ℕ) (text : List ℕ) : Type 0 where
  pub small : n < 256 ^ width
  pub good : limit n ≡ true
  pub ordered : order n ≡ true
  pub is : text ≡ big_bytes width n

module _ (width : ℕ) (limit order : ℕ → Bool) where
  -- what is known of a number that was read
  record Read (old new : Reading) (n : ℕ) : Type 0 where
    long : width ≤ length old.left
    good : limit n ≡ true
    ordered : order n ≡ true
    value : n ≡ big_number width old.left
    rest : new ≡ behind width old

  by_tests : (old new : Reading) (n : ℕ) (short l o : Bool) → ltb (length old.left) width ≡ short → limit (big_number width old.left) ≡ l → order (big_number width old.left) ≡ o
      → number width limit order old ≡ Ok (n, new) → Read old new n
  unfolding number
  by_tests old new n true l o short_is l_is o_is e = absurd (let bad : ◌≡◌ {A = Result (ℕ × Reading) RecordFault} (Err (Short (end_of old))) (Ok (n, new)) = rw short_is at e in cc)
  by_tests old new n false false o short_is l_is o_is e = absurd (let bad : ◌≡◌ {A = Result (ℕ × Reading) RecordFault} (Err (Limit old.at)) (Ok (n, new)) = rw (short_is, l_is) at e in cc)
  by_tests old new n false true false short_is l_is o_is e = absurd (let bad : ◌≡◌ {A = Result (ℕ × Reading) RecordFault} (Err (Order old.at)) (Ok (n, new)) = rw (short_is, l_is, o_is) at e in cc)
  by_tests old new n false true true short_is l_is o_is e =
      let found : ok (big_number width old.left) (behind width old) ≡ ok n new = rw (short_is, l_is, o_is) at e in
      let value = ok_value (big_number width old.left) n (behind width old) new found in
      record {
        long = ltb-false (length old.left) width short_is;
        good = ap limit (sym value) ∙ l_is;
        ordered = ap order (sym value) ∙ o_is;
        value = sym value;
        rest = sym (ok_reading (big_number width old.left) n (behind width old) new found);
      }

  spelled : (n : ℕ) → n < 256 ^ width → limit n ≡ true → order n ≡ true → (rest : List ℕ) (at : ℕ)
      → number width limit order (reading (big_bytes width n ++ rest) at) ≡ Ok (n, reading rest (at + length (big_bytes width n)))
  unfolding number
  spelled n small good ordered rest at =
      let text = big_bytes width n in
      let wide : length text ≡ width = length-bytes_high_first width n in
      let long : ltb (length (text ++ rest)) width ≡ false = le-ltb (length (text ++ rest)) width (omega (arith, wide, length-append text rest)) in
      let value : big_number width (text ++ rest) ≡ n = big_number-reads_back width n rest small in
      let good_now : limit (big_number width (text ++ rest)) ≡ true = ap limit value ∙ good in
      let ordered_now : order (big_number width (text ++ rest)) ≡ true = ap order value ∙ ordered in
      let behind_now : behind width (reading (text ++ rest) at) ≡ reading rest (at + length text) = λ i. reading (drop_at text rest width wide i) (at + sym wide i) in
      rw (long, good_now, ordered_now) (λ i. Ok (value i, behind_now i))

  pub number_reader : ((bytes : List ℕ) → IsBytes bytes → width ≤ length bytes → big_bytes width (big_number width bytes) ≡ take width bytes) → IsReader (IsNumberText width limit order) (number width limit order)
  number_reader field = record { takes = takes; again = again }
    where
      takes : (old new : Reading) (n : ℕ) → IsBytes old.left → number width limit order old ≡ Ok (n, new) → Took (IsNumberText width limit order) n old new
      takes old new n bytes e =
          let r = by_tests old new n (ltb (length old.left) width) (limit (big_number width old.left)) (order (big_number width old.left)) refl refl refl e in
          let text : big_bytes width n ≡ take width old.left = ap (big_bytes width) r.value ∙ field old.left bytes r.long in
          let left : new.left ≡ drop width old.left = ap (λ (x : Reading). x.left) r.rest in
          record {
            text = big_bytes width n;
            is = record { small = subst (λ (m : ℕ). m < 256 ^ width) (sym r.value) (big_from-lt 0 width old.left bytes); good = r.good; ordered = r.ordered; is = refl };
            left = sym (take-append-drop width old.left) ∙ (λ i. sym text i ++ sym left i);
            at = ap (λ (x : Reading). x.at) r.rest ∙ ap (λ (k : ℕ). old.at + k) (sym (length-bytes_high_first width n));
            bytes = λ i. rw left (rw get_or-drop (bytes (width + i)));
          }

      again : (n : ℕ) (text : List ℕ) → IsNumberText width limit order n text → (rest : List ℕ) (at : ℕ)
          → number width limit order (reading (text ++ rest) at) ≡ Ok (n, reading rest (at + length text))
      again n text h rest at =
          ap (λ (t : List ℕ). number width limit order (reading (t ++ rest) at)) h.is ∙ spelled n h.small h.good h.ordered rest at
          ∙ ap (λ (t : List ℕ). ok n (reading rest (at + length t))) (sym h.is)
