-- Values read one after another, each good beside those before it.
use Rattle.std.proofs.Common.{◌≡◌, ℕ, zero, suc, List, [], ◌∷◌, ◌++◌, length, refl, sym, subst, ◌∙◌, arith}
use Rattle.std.specs.List.{flat_map, AllByRecursion}
use Rattle.std.proofs.lemmas.List.{append-nil, append_assoc}
use Rattle.std.proofs.lemmas.List.Concat.{flat_map-cons}
use Rattle.ls_record.specs.Reading.{Reads, ◌>>=◌, done, repeat}
use Rattle.ls_record.specs.Rows.{Pairs}
use Rattle.ls_record.proofs.ReaderLemmas.{IsReader, Nothing, Joined, done_reader, bind_reader, reader_is}

-- each is good beside those before it
abbrev pub Stepwise : {A : Type 0} → (List A → A → Type 0) → List A → List A → Type 0
Stepwise Good before [] = Unit {0}
Stepwise Good before (x ∷ xs) = Good before x × Stepwise Good (before ++ x ∷ []) xs

-- n values behind those before, and their texts
pub record IsRepeat {A : Type 0} (Good : List A → A → Type 0) (spell : A → List ℕ) (before : List A) (n : ℕ) (v : List A) (text : List ℕ) : Type 0 where
  pub new : List A
  pub is : v ≡ before ++ new
  pub many : length new ≡ n
  pub good : Stepwise Good before new
  pub spelled : text ≡ flat_map spell new

module _ {A : Type 0} (Good : List A → A → Type 0) (spell : A → List ℕ) (item : List A → Reads A) where
  -- the text of one more
  IsItem : List A → A → List ℕ → Type 0
  IsItem before x text = Good before x × (text ≡ spell x)

  none : (before v : List A) (text : List ℕ) → Nothing before v text → IsRepeat Good spell before 0 v text
  none before v text h = record { new = []; is = h.0 ∙ sym (append-nil before); many = refl; good = tt; spelled = h.1 }

  no_more : (before v : List A) (text : List ℕ) → IsRepeat Good spell before 0 v text → Nothing before v text
  no_more before v text h = by h.new h.is h.many h.spelled
    where
      by : (new : List A) → v ≡ before ++ new → length new ≡ 0 → text ≡ flat_map spell new → Nothing before v text
      by [] is many spelled = (is ∙ append-nil before, spelled)
      by (x ∷ new) is many spelled = absurd (omega arith)

  one_more : (before : List A) (n : ℕ) (v : List A) (text : List ℕ) → Joined (λ x t. Good before x × (t ≡ spell x)) (λ x. IsRepeat Good spell (before ++ x ∷ []) n) v text
      → IsRepeat Good spell before (suc n) v text
  one_more before n v text h = record {
    new = h.first ∷ h.back_is.new;
    is = h.back_is.is ∙ append_assoc before (h.first ∷ []) h.back_is.new;
    many = omega (arith, h.back_is.many);
    good = (h.front_is.0, h.back_is.good);
    spelled = h.is ∙ (λ i. h.front_is.1 i ++ h.back_is.spelled i) ∙ sym (flat_map-cons spell h.first h.back_is.new);
  }

  one_first : (before : List A) (n : ℕ) (v : List A) (text : List ℕ) → IsRepeat Good spell before (suc n) v text
      → Joined (λ x t. Good before x × (t ≡ spell x)) (λ x. IsRepeat Good spell (before ++ x ∷ []) n) v text
  one_first before n v text h = by h.new h.is h.many h.good h.spelled
    where
      by : (new : List A) → v ≡ before ++ new → length new ≡ suc n → Stepwise Good before new → text ≡ flat_map spell new
          → Joined (λ x t. Good before x × (t ≡ spell x)) (λ x. IsRepeat Good spell (before ++ x ∷ []) n) v text
      by [] is many good spelled = absurd (omega arith)
      by (x ∷ new) is many good spelled = record {
        first = x;
        front = spell x;
        back = flat_map spell new;
        front_is = (good.0, refl);
        back_is = record { new = new; is = is ∙ sym (append_assoc before (x ∷ []) new); many = omega arith; good = good.1; spelled = refl };
        is = spelled ∙ flat_map-cons spell x new;
      }

  pub repeat_reader : ((before : List A) → IsReader (λ x text. Good before x × (text ≡ spell x)) (item before)) → (n : ℕ) (before : List A)
      → IsReader (IsRepeat Good spell before n) (repeat item before n)
  unfolding repeat
  repeat_reader each zero before = reader_is (Nothing before) (IsRepeat Good spell before 0) (done before) (none before) (no_more before) (done_reader before)
  repeat_reader each (suc n) before =
      reader_is (Joined (λ x t. Good before x × (t ≡ spell x)) (λ x. IsRepeat Good spell (before ++ x ∷ []) n)) (IsRepeat Good spell before (suc n))
      (item before >>= λ x. repeat item (before ++ x ∷ []) n) (one_more before n) (one_first before n)
      (bind_reader (λ x t. Good before x × (t ≡ spell x)) (λ x. IsRepeat Good spell (before ++ x ∷ []) n) (item before) (λ x. repeat item (before ++ x ∷ []) n)
      (each before) (λ x. repeat_reader each n (before ++ x ∷ [])))

-- ---- pairs

pub all_push : {X : Type 0} (P : X → Type 0) (xs : List X) (x : X) → AllByRecursion P xs → P x → AllByRecursion P (xs ++ x ∷ [])
all_push P [] x h p = (p, tt)
all_push P (y ∷ xs) x h p = (h.0, all_push P xs x h.1 p)

pub all_front : {X : Type 0} (P : X → Type 0) (xs ys : List X) → AllByRecursion P (xs ++ ys) → AllByRecursion P xs
all_front P [] ys h = tt
all_front P (x ∷ xs) ys h = (h.0, all_front P xs ys h.1)

pub all_back : {X : Type 0} (P : X → Type 0) (xs ys : List X) → AllByRecursion P (xs ++ ys) → AllByRecursion P ys
all_back P [] ys h = h
all_back P (x ∷ xs) ys h = all_back P xs ys h.1

pub pairs_push : {X : Type 0} (P : X → X → Type 0) (xs : List X) (x : X) → Pairs P xs → AllByRecursion (λ y. P y x) xs → Pairs P (xs ++ x ∷ [])
pairs_push P [] x h p = (tt, tt)
pairs_push P (y ∷ xs) x h p = (all_push (P y) xs x h.0 p.0, pairs_push P xs x h.1 p.1)

-- those before an element stand so to it
pub pairs_before : {X : Type 0} (P : X → X → Type 0) (xs : List X) (x : X) (ys : List X) → Pairs P (xs ++ x ∷ ys) → AllByRecursion (λ y. P y x) xs
pairs_before P [] x ys h = tt
pairs_before P (y ∷ xs) x ys h = (y_first (all_back (P y) xs (x ∷ ys) h.0), pairs_before P xs x ys h.1)
  where
    y_first : AllByRecursion (P y) (x ∷ ys) → P y x
    y_first all = all.0

module _ {X : Type 0} (P : X → X → Type 0) (Q : X → Type 0) (Good : List X → X → Type 0) where
  pub steps_pairs : ((before : List X) (x : X) → Good before x → AllByRecursion (λ y. P y x) before × Q x) → (before xs : List X) → Stepwise Good before xs → Pairs P before
      → Pairs P (before ++ xs) × AllByRecursion Q xs
  steps_pairs each before [] steps pairs = (subst (Pairs P) (sym (append-nil before)) pairs, tt)
  steps_pairs each before (x ∷ xs) steps pairs =
      let here = each before x steps.0 in
      let rest = steps_pairs each (before ++ x ∷ []) xs steps.1 (pairs_push P before x pairs here.0) in
      (subst (Pairs P) (append_assoc before (x ∷ []) xs) rest.0, (here.1, rest.1))

  pub pairs_steps : ((before : List X) (x : X) → AllByRecursion (λ y. P y x) before → Q x → Good before x) → (before xs : List X) → Pairs P (before ++ xs) → AllByRecursion Q xs
      → Stepwise Good before xs
  pairs_steps each before [] pairs all = tt
  pairs_steps each before (x ∷ xs) pairs all = (
    each before x (pairs_before P before x xs pairs) all.0,
    pairs_steps each (before ++ x ∷ []) xs (subst (Pairs P) (sym (append_assoc before (x ∷ []) xs)) pairs) all.1,
  )
