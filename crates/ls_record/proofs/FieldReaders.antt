-- Each field is read from its one text.
use Rattle.std.proofs.Common.{◌≡◌, ◌≤◌, ◌<◌, ◌^◌, ℕ, zero, suc, ◌&&◌, Bool, true, false, cond, List, [], ◌∷◌, ◌++◌, length, take, refl, sym, ap, subst, ◌∙◌, arith, inl, inr}
use Rattle.std.specs.Prelude.{MatchBool, is_some, unwrap_or}
use Rattle.std.proofs.Math.Dec.{leb, eqb}
use Rattle.std.proofs.Math.Nat.{mod-eq_of_lt}
use Rattle.std.proofs.lemmas.Bool.{and_parts, leb-true, eqb-true, cases_Bool}
use Rattle.std.proofs.lemmas.List.{append-nil, length-take, get_or-take, get_or_past}
use Rattle.std.proofs.lemmas.Bool.{cases_lt}
use Rattle.byteorder.specs.Endian.{big_number, big_bytes}
use Rattle.byteorder.specs.Numbers.{big_from-take}
use Rattle.ls_bytes.specs.Fields.{be32, be64}
use Rattle.ls_bytes.proofs.FieldLemmas.{be32-big_number, be64-big_number}
use Rattle.ls_credential.specs.declared.kind.Kind.{Kind}
use Rattle.ls_credential.specs.declared.kind.Kind.TheVariants.{Empty, Pattern, Pin, Password}
use Rattle.ls_credential.specs.Codes.{code_of, kind_of}
use Rattle.ls_record.specs.declared.fields.Flags.{Flags}
use Rattle.ls_record.specs.Rows.{is_shown_length}
use Rattle.ls_record.specs.Spelling.{flag}
use Rattle.ls_record.specs.Reading.{◌>>=◌, done, number, byte, any, flag_at, kind_at, auto_at, pin_at, flags_at}
use Rattle.ls_record.proofs.ReaderLemmas.{IsBytes, IsReader, Nothing, Joined, IsNumberText, done_reader, bind_reader, reader_is, chosen_reader, number_reader}

-- ---- numbers of one, four and eight bytes

front_bytes : (n : ℕ) (bytes : List ℕ) → IsBytes bytes → IsBytes (take n bytes)
front_bytes n bytes h i =
    elim (cases_lt i n) [
      | inl lt ↦ rw (get_or-take n bytes i 0 lt) (h i)
      | inr le ↦ rw (get_or_past (take n bytes) i 0 (omega (arith, length-take n bytes))) (omega arith)
    ]

field_1 : (bytes : List ℕ) → IsBytes bytes → 1 ≤ length bytes → big_bytes 1 (big_number 1 bytes) ≡ take 1 bytes
field_1 [] h le = absurd (omega arith)
field_1 (b ∷ bytes) h le = let small : b < 256 = h 0 in ap (λ (n : ℕ). n ∷ []) (omega arith)

field_4 : (bytes : List ℕ) → IsBytes bytes → 4 ≤ length bytes → big_bytes 4 (big_number 4 bytes) ≡ take 4 bytes
field_4 bytes h le =
    ap (big_bytes 4) (sym (big_from-take 0 4 4 bytes (omega arith)))
    ∙ be32-big_number (take 4 bytes) (omega (arith, length-take 4 bytes)) (front_bytes 4 bytes h)

field_8 : (bytes : List ℕ) → IsBytes bytes → 8 ≤ length bytes → big_bytes 8 (big_number 8 bytes) ≡ take 8 bytes
field_8 bytes h le =
    ap (big_bytes 8) (sym (big_from-take 0 8 8 bytes (omega arith)))
    ∙ be64-big_number (take 8 bytes) (omega (arith, length-take 8 bytes)) (front_bytes 8 bytes h)

-- the text of a number of four bytes
pub record IsText4 (limit order : ℕ → Bool) (n : ℕ) (text : List ℕ) : Type 0 where
  pub small : n < 2 ^ 32
  pub good : limit n ≡ true
  pub ordered : order n ≡ true
  pub is : text ≡ be32 n

pub reader_4 : (limit order : ℕ → Bool) → IsReader (IsText4 limit order) (number 4 limit order)
reader_4 limit order =
    reader_is (IsNumberText 4 limit order) (IsText4 limit order) (number 4 limit order)
    (λ n text h. record { small = h.small; good = h.good; ordered = h.ordered; is = h.is })
    (λ n text h. record { small = h.small; good = h.good; ordered = h.ordered; is = h.is })
    (number_reader 4 limit order field_4)

-- the text of a number of eight bytes
pub record IsText8 (limit order : ℕ → Bool) (n : ℕ) (text : List ℕ) : Type 0 where
  pub small : n < 2 ^ 64
  pub good : limit n ≡ true
  pub ordered : order n ≡ true
  pub is : text ≡ be64 n

pub reader_8 : (limit order : ℕ → Bool) → IsReader (IsText8 limit order) (number 8 limit order)
reader_8 limit order =
    reader_is (IsNumberText 8 limit order) (IsText8 limit order) (number 8 limit order)
    (λ n text h. record { small = h.small; good = h.good; ordered = h.ordered; is = h.is })
    (λ n text h. record { small = h.small; good = h.good; ordered = h.ordered; is = h.is })
    (number_reader 8 limit order field_8)

-- the text of a byte
pub record IsByte (limit : ℕ → Bool) (n : ℕ) (text : List ℕ) : Type 0 where
  pub small : n < 256
  pub good : limit n ≡ true
  pub is : text ≡ n ∷ []

pub byte_reader : (limit : ℕ → Bool) → IsReader (IsByte limit) (byte limit)
byte_reader limit =
    reader_is (IsNumberText 1 limit any) (IsByte limit) (number 1 limit any)
    (λ n text h. record { small = h.small; good = h.good; is = h.is ∙ ap (λ (m : ℕ). m ∷ []) (mod-eq_of_lt h.small) })
    (λ n text h. record { small = h.small; good = h.good; ordered = refl; is = h.is ∙ ap (λ (m : ℕ). m ∷ []) (sym (mod-eq_of_lt h.small)) })
    (number_reader 1 limit any field_1)

-- a byte, and what it stands for
byte_for : {A : Type 0} (limit : ℕ → Bool) (value : ℕ → A) (code : A → ℕ) → ((n : ℕ) → limit n ≡ true → code (value n) ≡ n)
    → ((v : A) → (code v < 256) × (limit (code v) ≡ true) × (value (code v) ≡ v)) → IsReader (λ v text. text ≡ code v ∷ []) (byte limit >>= λ b. done (value b))
byte_for {A} limit value code there back =
    reader_is (Joined (IsByte limit) (λ b. Nothing (value b))) (λ v text. text ≡ code v ∷ []) (byte limit >>= λ b. done (value b)) to from
    (bind_reader (IsByte limit) (λ b. Nothing (value b)) (byte limit) (λ b. done (value b)) (byte_reader limit) (λ b. done_reader (value b)))
  where
    to : (v : A) (text : List ℕ) → Joined (IsByte limit) (λ b. Nothing (value b)) v text → text ≡ code v ∷ []
    to v text h =
        h.is ∙ (λ i. h.front_is.is i ++ h.back_is.1 i) ∙ ap (λ (n : ℕ). n ∷ []) (sym (there h.first h.front_is.good) ∙ ap code (sym h.back_is.0))

    from : (v : A) (text : List ℕ) → text ≡ code v ∷ [] → Joined (IsByte limit) (λ b. Nothing (value b)) v text
    from v text h =
        let b = back v in
        record { first = code v; front = code v ∷ []; back = []; front_is = record { small = b.0; good = b.1; is = refl }; back_is = (sym b.2, refl); is = h }

-- ---- a flag and a kind

flag_limit : ℕ → Bool
flag_limit b = leb 0 b && leb b 1

flag_is : (n : ℕ) → (leb 0 n && leb n 1) ≡ true → flag (eqb n 1) ≡ n
flag_is zero h = refl
flag_is (suc zero) h = refl
flag_is (suc (suc n)) h = let le : suc (suc n) ≤ 1 = leb-true (suc (suc n)) 1 (and_parts (leb 0 (suc (suc n))) (leb (suc (suc n)) 1) h).1 in absurd (omega arith)

flag_back : (b : Bool) → (flag b < 256) × ((leb 0 (flag b) && leb (flag b) 1) ≡ true) × (eqb (flag b) 1 ≡ b)
flag_back true = (omega arith, refl, refl)
flag_back false = (omega arith, refl, refl)

pub flag_reader : IsReader (λ b text. text ≡ flag b ∷ []) flag_at
flag_reader = byte_for (λ b. leb 0 b && leb b 1) (λ b. eqb b 1) flag flag_is flag_back

kind_is : (n : ℕ) → is_some (kind_of n) ≡ true → code_of (unwrap_or (kind_of n) Empty) ≡ n
kind_is n h =
    elim (cases_Bool (eqb n 0)) [
      | inl a ↦ rw a (sym (eqb-true n 0 a))
      | inr a ↦ elim (cases_Bool (eqb n 1)) [
        | inl b ↦ rw (a, b) (sym (eqb-true n 1 b))
        | inr b ↦ elim (cases_Bool (eqb n 3)) [
          | inl c ↦ rw (a, b, c) (sym (eqb-true n 3 c))
          | inr c ↦ elim (cases_Bool (eqb n 4)) [
            | inl d ↦ rw (a, b, c, d) (sym (eqb-true n 4 d))
            | inr d ↦ absurd (let bad : false ≡ true = rw (a, b, c, d) at h in cc)
          ]
        ]
      ]
    ]

kind_back : (k : Kind) → (code_of k < 256) × (is_some (kind_of (code_of k)) ≡ true) × (unwrap_or (kind_of (code_of k)) Empty ≡ k)
kind_back Empty = (omega arith, refl, refl)
kind_back Pattern = (omega arith, refl, refl)
kind_back Pin = (omega arith, refl, refl)
kind_back Password = (omega arith, refl, refl)

pub kind_reader : IsReader (λ k text. text ≡ code_of k ∷ []) kind_at
kind_reader = byte_for (λ b. is_some (kind_of b)) (λ b. unwrap_or (kind_of b) Empty) code_of kind_is kind_back

-- ---- the flags of a row; `plain` says that the format is 01

-- what a row of the format can say
pub record AreFlags (plain : Bool) (kind : Kind) (auto : Bool) (pin : ℕ) : Type 0 where
  pub shown : is_shown_length kind auto pin ≡ true
  pub small : pin < 256
  pub plainly : plain ≡ true → (auto ≡ false) × (pin ≡ 0)

abbrev pub shown_if : Bool → Bool → ℕ → List ℕ
shown_if plain auto pin = cond plain [] (flag auto ∷ pin ∷ [])

abbrev pub flags_text : Bool → Flags → List ℕ
flags_text plain f = flag f.escrow ∷ code_of f.kind ∷ shown_if plain f.auto f.pin

abbrev pub IsFlagsText : Bool → Flags → List ℕ → Type 0
IsFlagsText plain f text = AreFlags plain f.kind f.auto f.pin × (text ≡ flags_text plain f)

abbrev IsAuto : Bool → Bool → List ℕ → Type 0
IsAuto plain auto text = MatchBool plain (Nothing false auto text) (text ≡ flag auto ∷ [])

abbrev IsPin : Bool → Kind → Bool → ℕ → List ℕ → Type 0
IsPin plain kind auto pin text = MatchBool plain (Nothing 0 pin text) (IsByte (is_shown_length kind auto) pin text)

abbrev flags_of : Bool → Kind → Bool → ℕ → Flags
flags_of escrow kind auto pin = record { escrow = escrow; kind = kind; auto = auto; pin = pin }

-- the four fields, one after the other
abbrev AreFields : Bool → Flags → List ℕ → Type 0
AreFields plain = Joined (λ escrow text. text ≡ flag escrow ∷ []) (λ escrow. Joined (λ kind text. text ≡ code_of kind ∷ []) (λ kind.
    Joined (IsAuto plain) (λ auto. Joined (IsPin plain kind auto) (λ pin. Nothing (flags_of escrow kind auto pin)))))

shown_none : (kind : Kind) → is_shown_length kind false 0 ≡ true
shown_none Empty = refl
shown_none Pattern = refl
shown_none Pin = refl
shown_none Password = refl

auto_pin : (plain : Bool) (kind : Kind) (auto : Bool) (pin : ℕ) (a p : List ℕ) → IsAuto plain auto a → IsPin plain kind auto pin p → AreFlags plain kind auto pin × (a ++ p ≡ shown_if plain auto pin)
auto_pin true kind auto pin a p ha hp = (
  record {
    shown = (λ i. is_shown_length kind (ha.0 i) (hp.0 i)) ∙ shown_none kind;
    small = omega (arith, hp.0);
    plainly = λ _. (ha.0, hp.0);
  },
  λ i. ha.1 i ++ hp.1 i,
)
auto_pin false kind auto pin a p ha hp = (
  record { shown = hp.good; small = hp.small; plainly = λ e. absurd (let bad : false ≡ true = e in cc) },
  λ i. ha i ++ hp.is i,
)

to_flags : (plain : Bool) (f : Flags) (text : List ℕ) → AreFields plain f text → IsFlagsText plain f text
to_flags plain f text h =
    let k = h.back_is in
    let a = k.back_is in
    let p = a.back_is in
    let both = auto_pin plain k.first a.first p.first a.front p.front a.front_is p.front_is in
    let made : f ≡ flags_of h.first k.first a.first p.first = p.back_is.0 in
    let text_is : text ≡ flags_text plain (flags_of h.first k.first a.first p.first) =
    h.is ∙ (λ i. h.front_is i ++ k.is i) ∙ (λ i. flag h.first ∷ (k.front_is i ++ a.is i))
    ∙ (λ i. flag h.first ∷ code_of k.first ∷ (a.front ++ p.is i)) ∙ (λ i. flag h.first ∷ code_of k.first ∷ (a.front ++ (p.front ++ p.back_is.1 i)))
    ∙ (λ i. flag h.first ∷ code_of k.first ∷ (a.front ++ append-nil p.front i)) ∙ (λ i. flag h.first ∷ code_of k.first ∷ both.1 i) in
    subst (λ (g : Flags). IsFlagsText plain g text) (sym made) (both.0, text_is)

auto_text : (plain auto : Bool) → List ℕ
auto_text plain auto = cond plain [] (flag auto ∷ [])

pin_text : (plain : Bool) → ℕ → List ℕ
pin_text plain pin = cond plain [] (pin ∷ [])

from_auto : (plain : Bool) (kind : Kind) (auto : Bool) (pin : ℕ) → AreFlags plain kind auto pin → IsAuto plain auto (auto_text plain auto)
unfolding auto_text
from_auto true kind auto pin h = ((h.plainly refl).0, refl)
from_auto false kind auto pin h = refl

from_pin : (plain : Bool) (kind : Kind) (auto : Bool) (pin : ℕ) → AreFlags plain kind auto pin → IsPin plain kind auto pin (pin_text plain pin)
unfolding pin_text
from_pin true kind auto pin h = ((h.plainly refl).1, refl)
from_pin false kind auto pin h = record { small = h.small; good = h.shown; is = refl }

shown_parts : (plain auto : Bool) (pin : ℕ) → shown_if plain auto pin ≡ auto_text plain auto ++ (pin_text plain pin ++ [])
unfolding auto_text pin_text
shown_parts true auto pin = refl
shown_parts false auto pin = refl

from_flags : (plain : Bool) (f : Flags) (text : List ℕ) → IsFlagsText plain f text → AreFields plain f text
from_flags plain f text h = record {
  first = f.escrow;
  front = flag f.escrow ∷ [];
  back = code_of f.kind ∷ (auto_text plain f.auto ++ (pin_text plain f.pin ++ []));
  front_is = refl;
  back_is = record {
    first = f.kind;
    front = code_of f.kind ∷ [];
    back = auto_text plain f.auto ++ (pin_text plain f.pin ++ []);
    front_is = refl;
    back_is = record {
      first = f.auto;
      front = auto_text plain f.auto;
      back = pin_text plain f.pin ++ [];
      front_is = from_auto plain f.kind f.auto f.pin h.0;
      back_is = record {
        first = f.pin;
        front = pin_text plain f.pin;
        back = [];
        front_is = from_pin plain f.kind f.auto f.pin h.0;
        back_is = (refl, refl);
        is = refl;
      };
      is = refl;
    };
    is = refl;
  };
  is = h.1 ∙ ap (λ (t : List ℕ). flag f.escrow ∷ code_of f.kind ∷ t) (shown_parts plain f.auto f.pin);
}

pub flags_reader : (format : ℕ) → IsReader (IsFlagsText (eqb format 1)) (flags_at format)
unfolding flags_at
flags_reader format =
    let plain = eqb format 1 in
    reader_is (AreFields plain) (IsFlagsText plain) (flags_at format) (to_flags plain) (from_flags plain)
    (bind_reader _ _ flag_at _ flag_reader (λ escrow. bind_reader _ _ kind_at _ kind_reader (λ kind.
    bind_reader _ _ (auto_at format) _ (chosen_reader (Nothing false) (λ b text. text ≡ flag b ∷ []) (done false) flag_at plain (done_reader false) flag_reader) (λ auto.
    bind_reader _ _ (pin_at format kind auto) _ (chosen_reader (Nothing 0) (IsByte (is_shown_length kind auto)) (done 0) (byte (is_shown_length kind auto)) plain (done_reader 0) (byte_reader (is_shown_length kind auto))) (λ pin.
    done_reader (flags_of escrow kind auto pin))))))
