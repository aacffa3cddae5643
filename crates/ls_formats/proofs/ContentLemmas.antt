-- Each format of contents is that of its values, each spelled in one way.
use Rattle.std.proofs.Common.{◌≡◌, ◌≢◌, ◌≤◌, inl, inr, ℕ, zero, suc, ◌++◌, ◌||◌, true, cond, List, [], ◌∷◌, length, take, drop, get_or, Option, None, Some, refl, sym, ap, subst, ◌∙◌, arith}
use Rattle.std.specs.Prelude.{IfSome, unwrap_or}
use Rattle.std.proofs.Math.Dec.{leb, eqb}
use Rattle.std.proofs.lemmas.Bool.{and_parts, and_from, or_cases, leb-true, le-leb, eqb-true}
use Rattle.std.proofs.lemmas.List.{append-nil, take-append-drop, take_at, take_all, drop_at, drop-drop, get_or-drop, get_or_at, length-append}
use Rattle.byteorder.specs.Endian.{big_bytes}
use Rattle.byteorder.specs.Numbers.{big_from-lt}
use Rattle.ls_bytes.specs.Fields.{be32}
use Rattle.ls_bytes.proofs.ByteListLemmas.{bytes_big}
use Rattle.ls_bytes.proofs.FieldLemmas.{be32-big_number, big_number-be32}
use Rattle.byteorder.specs.Endian.{big_number}
use Rattle.ls_credential.specs.declared.kind.Kind.{Kind}
use Rattle.ls_credential.specs.declared.kind.Kind.TheVariants.{Empty, Pattern, Pin, Password}
use Rattle.ls_credential.specs.Codes.{code_of, kind_of}
use Rattle.ls_formats.specs.declared.part.FilePart.TheVariants as parts
use Rattle.ls_formats.specs.declared.field.Rule.TheVariants.{Any, Between, StoredKind}
use Rattle.ls_formats.specs.declared.field.Field.{Field}
use Rattle.ls_formats.specs.declared.slot.SlotFile.{SlotFile}
use Rattle.ls_formats.specs.declared.handle.HandleFile.{HandleFile}
use Rattle.ls_formats.specs.Format.{Format, IsIn}
use Rattle.ls_formats.specs.Faults.{IsFirstFault, Spells}
use Rattle.ls_formats.specs.Rules.{passes, field_then, row}
use Rattle.ls_formats.specs.Files.{format_of, field, just, pwd_head, metrics_format}
use Rattle.ls_formats.specs.Contents.{AreBytes, IsSlot, slot_bytes, IsHandle, handle_bytes, Pwd, IsPwd, handle_part, pwd_bytes, AreMetrics, metrics_bytes, pwd_of, metrics_of}
use Rattle.ls_formats.proofs.FieldLemmas.{in_field, field_in, in_plain, plain_in, any_front, bytes_front, ended_none}

-- the format is that of these values: each spelling is read as its value
pub record IsFormatOf (f : Format) {V : Type 0} (Keeps : V → Type 0) (spelling : V → List ℕ) (value_of : List ℕ → V) : Type 0 where
  pub reads : (bytes : List ℕ) → IsIn f bytes → Spells Keeps spelling bytes
  pub writes : (v : V) → Keeps v → IsIn f (spelling v)
  pub again : (v : V) → Keeps v → value_of (spelling v) ≡ v

-- so a fault of the format is one of the spellings
pub spelled_fault : {V : Type 0} (f : Format) (Keeps : V → Type 0) (spelling : V → List ℕ) (value_of : List ℕ → V) → IsFormatOf f Keeps spelling value_of
    → (bytes : List ℕ) (at : ℕ) → IsFirstFault (IsIn f) bytes at → IsFirstFault (Spells Keeps spelling) bytes at
spelled_fault f Keeps spelling value_of is bytes at fault = record {
  within = fault.within;
  before = (fault.before.0, is.reads _ fault.before.1);
  behind = λ more lt le h. fault.behind more lt le (h.0, subst (IsIn f) h.1.2 (is.writes h.1.0 h.1.1));
  outside = λ h. fault.outside (subst (IsIn f) h.2 (is.writes h.0 h.1));
}

-- what is read of bytes of the format
pub spelled_value : {V : Type 0} (f : Format) (Keeps : V → Type 0) (spelling : V → List ℕ) (value_of : List ℕ → V) → IsFormatOf f Keeps spelling value_of
    → (bytes : List ℕ) → IsIn f bytes → (v : V) → v ≡ value_of bytes
    → Keeps v × (spelling v ≡ bytes) × ((w : V) → Keeps w → spelling w ≡ bytes → w ≡ v)
spelled_value {V} f Keeps spelling value_of is bytes h v e =
    let read = is.reads bytes h in
    let same : read.0 ≡ v = sym (is.again read.0 read.1) ∙ ap value_of read.2 ∙ sym e in (
      subst Keeps same read.1,
      ap spelling (sym same) ∙ read.2,
      λ w keeps spelled. sym (is.again w keeps) ∙ ap value_of spelled ∙ sym e,
    )

-- ---- bytes of numbers

-- the bytes of a number
pub big_are_bytes : (n x : ℕ) → AreBytes n (big_bytes n x)
big_are_bytes zero x = record { long = refl; each = λ i. omega arith }
big_are_bytes (suc n) x = record { long = omega (arith, (big_are_bytes n x).long); each = bytes_big (suc n) x }

-- a byte that can be one alone
just_is : (a b : ℕ) → passes (Between a a) b ≡ true → b ≡ a
just_is a b h =
    let parts = and_parts (leb a b) (leb b a) h in
    let low : a ≤ b = leb-true a b parts.0 in
    let high : b ≤ a = leb-true b a parts.1 in
    omega arith

between_is : (low high b : ℕ) → passes (Between low high) b ≡ true → (low ≤ b) × (b ≤ high)
between_is low high b h = let parts = and_parts (leb low b) (leb b high) h in (leb-true low b parts.0, leb-true b high parts.1)

is_between : (low high b : ℕ) → low ≤ b → b ≤ high → passes (Between low high) b ≡ true
is_between low high b le ge = and_from (leb low b) (leb b high) (le-leb low b le) (le-leb b high ge)

-- ---- handles

abbrev pub handle_of : List ℕ → HandleFile
handle_of bytes = record { handle = bytes }

pub handle_format : IsFormatOf (format_of parts.Handle) IsHandle handle_bytes handle_of
handle_format = record {
  reads = λ bytes h. (record { handle = bytes }, in_plain 49 bytes h, refl);
  writes = λ v keeps. plain_in 49 v.handle keeps;
  again = λ v keeps. refl;
}

-- ---- slots

abbrev pub slot_of : List ℕ → SlotFile
slot_of bytes = record { slot = big_number 4 (drop 1 bytes) }

slot_reads : (bytes : List ℕ) → IsIn (format_of parts.Weaver) bytes → Spells IsSlot slot_bytes bytes
unfolding field_then
slot_reads [] h = absurd h
slot_reads (b ∷ bytes) h =
    let are = in_plain 4 bytes h.1 in
    let same : be32 (big_number 4 bytes) ≡ bytes = be32-big_number bytes are.long are.each in (
      record { slot = big_number 4 bytes },
      big_from-lt 0 4 bytes are.each,
      (λ i. sym (just_is 1 b h.0) i ∷ same i),
    )

pub slot_format : IsFormatOf (format_of parts.Weaver) IsSlot slot_bytes slot_of
unfolding field_then
slot_format = record {
  reads = slot_reads;
  writes = λ v keeps. (refl, plain_in 4 (be32 v.slot) (big_are_bytes 4 v.slot));
  again = λ v keeps. ap (λ (n : ℕ). record { slot = n }) (ap (big_number 4) (sym (append-nil (be32 v.slot))) ∙ big_number-be32 v.slot [] keeps);
}

-- ---- credentials

pub record HasKind (b : ℕ) : Type 0 where
  pub kind : Kind
  pub some : kind ≢ Empty
  pub is : code_of kind ≡ b

kind_is : (b : ℕ) → passes StoredKind b ≡ true → HasKind b
kind_is b h =
    elim (or_cases (eqb b 1) (eqb b 3 || eqb b 4) h) [
      | inl one ↦ record { kind = Pattern; some = λ e. cc; is = sym (eqb-true b 1 one) }
      | inr more ↦ elim (or_cases (eqb b 3) (eqb b 4) more) [
        | inl three ↦ record { kind = Pin; some = λ e. cc; is = sym (eqb-true b 3 three) }
        | inr four ↦ record { kind = Password; some = λ e. cc; is = sym (eqb-true b 4 four) }
      ]
    ]

kind_passes : (k : Kind) → k ≢ Empty → passes StoredKind (code_of k) ≡ true
kind_passes Empty none = absurd (none refl)
kind_passes Pattern none = refl
kind_passes Pin none = refl
kind_passes Password none = refl

pub kind_again : (k : Kind) → unwrap_or (kind_of (code_of k)) Empty ≡ k
kind_again Empty = refl
kind_again Pattern = refl
kind_again Pin = refl
kind_again Password = refl

-- ---- metrics

count_is : (b : ℕ) → passes (Between 0 16) b ≡ true → b ≤ 16
count_is b h = (between_is 0 16 b h).1

is_count : (b : ℕ) → b ≤ 16 → passes (Between 0 16) b ≡ true
is_count b le = is_between 0 16 b (omega arith) le

metrics_reads : (bytes : List ℕ) → IsIn metrics_format bytes → Spells AreMetrics metrics_bytes bytes
unfolding field_then
metrics_reads (k ∷ a ∷ b ∷ c ∷ d ∷ e ∷ f ∷ g ∷ h ∷ j ∷ rest) is =
    let kind = kind_is k is.0 in (
      record { kind = kind.kind; length = a; letters = b; upper = c; lower = d; numeric = e; symbols = f; non_letter = g; non_numeric = h; run = j },
      record {
        kind = kind.some;
        small = record {
          length = count_is a is.1.0;
          letters = count_is b is.1.1.0;
          upper = count_is c is.1.1.1.0;
          lower = count_is d is.1.1.1.1.0;
          numeric = count_is e is.1.1.1.1.1.0;
          symbols = count_is f is.1.1.1.1.1.1.0;
          non_letter = count_is g is.1.1.1.1.1.1.1.0;
          non_numeric = count_is h is.1.1.1.1.1.1.1.1.0;
          run = count_is j is.1.1.1.1.1.1.1.1.1.0;
        };
      },
      (λ i. kind.is i ∷ a ∷ b ∷ c ∷ d ∷ e ∷ f ∷ g ∷ h ∷ j ∷ sym (ended_none rest is.1.1.1.1.1.1.1.1.1.1) i),
    )
metrics_reads [] is = absurd is
metrics_reads (k ∷ []) is = absurd is.1
metrics_reads (k ∷ a ∷ []) is = absurd is.1.1
metrics_reads (k ∷ a ∷ b ∷ []) is = absurd is.1.1.1
metrics_reads (k ∷ a ∷ b ∷ c ∷ []) is = absurd is.1.1.1.1
metrics_reads (k ∷ a ∷ b ∷ c ∷ d ∷ []) is = absurd is.1.1.1.1.1
metrics_reads (k ∷ a ∷ b ∷ c ∷ d ∷ e ∷ []) is = absurd is.1.1.1.1.1.1
metrics_reads (k ∷ a ∷ b ∷ c ∷ d ∷ e ∷ f ∷ []) is = absurd is.1.1.1.1.1.1.1
metrics_reads (k ∷ a ∷ b ∷ c ∷ d ∷ e ∷ f ∷ g ∷ []) is = absurd is.1.1.1.1.1.1.1.1
metrics_reads (k ∷ a ∷ b ∷ c ∷ d ∷ e ∷ f ∷ g ∷ h ∷ []) is = absurd is.1.1.1.1.1.1.1.1.1

pub metrics_are : IsFormatOf metrics_format AreMetrics metrics_bytes metrics_of
unfolding field_then
metrics_are = record {
  reads = metrics_reads;
  writes = λ m keeps. (
    kind_passes m.kind keeps.kind,
    (
      is_count m.length keeps.small.length,
      (
        is_count m.letters keeps.small.letters,
        (
          is_count m.upper keeps.small.upper,
          (
            is_count m.lower keeps.small.lower,
            (
              is_count m.numeric keeps.small.numeric,
              (
                is_count m.symbols keeps.small.symbols,
                (
                  is_count m.non_letter keeps.small.non_letter,
                  (is_count m.non_numeric keeps.small.non_numeric, (is_count m.run keeps.small.run, tt)),
                ),
              ),
            ),
          ),
        ),
      ),
    ),
  );
  again = λ m keeps. ap (λ (k : Kind). record m { kind = k }) (kind_again m.kind);
}

-- what is read in each place
pub metrics_read : (bytes : List ℕ) → IsIn metrics_format bytes → (k : Kind) → k ≡ unwrap_or (kind_of (get_or bytes 0 0)) Empty → AreMetrics (record (metrics_of bytes) { kind = k })
metrics_read bytes is k same =
    (spelled_value metrics_format AreMetrics metrics_bytes metrics_of metrics_are bytes is
    _ (ap (λ (k : Kind). record (metrics_of bytes) { kind = k }) same)).0

-- ---- kind, cost, salt and handle

-- what stands behind the salt
record HasTail (bytes : List ℕ) : Type 0 where
  handle : Option (List ℕ)
  fits : IfSome handle (AreBytes 49)
  is : handle_part handle ≡ bytes

without_handle : (bytes : List ℕ) → IsIn (row (just 0 ∷ [])) bytes → HasTail bytes
unfolding field_then
without_handle [] h = absurd h
without_handle (b ∷ bytes) h = record { handle = None; fits = tt; is = λ i. sym (just_is 0 b h.0) i ∷ sym (ended_none bytes h.1) i }

with_handle : (bytes : List ℕ) → IsIn (row (just 49 ∷ field 49 Any ∷ [])) bytes → HasTail bytes
unfolding field_then
with_handle [] h = absurd h
with_handle (b ∷ bytes) h = record { handle = Some bytes; fits = in_plain 49 bytes h.1; is = λ i. sym (just_is 49 b h.0) i ∷ bytes }

head_reads : (tail : List Field) → ((bytes : List ℕ) → IsIn (row tail) bytes → HasTail bytes) → (bytes : List ℕ) → IsIn (row (pwd_head ++ tail)) bytes → Spells IsPwd pwd_bytes bytes
unfolding field_then
head_reads tail reads (k ∷ n ∷ r ∷ p ∷ bytes) h =
    let kind = kind_is k h.0 in
    let rest = in_field 16 Any (λ _. row tail) bytes h.1.1.1.1 in
    let ending = reads (drop 16 bytes) rest.1 in
    let whole : take 16 bytes ++ handle_part ending.handle ≡ bytes = ap (λ (e : List ℕ). take 16 bytes ++ e) ending.is ∙ take-append-drop 16 bytes in (
      record { kind = kind.kind; log_n = n; log_r = r; log_p = p; salt = take 16 bytes; handle = ending.handle },
      record {
        kind = kind.some;
        log_n = between_is 1 14 n h.1.0;
        log_r = (between_is 0 4 r h.1.1.0).1;
        log_p = (between_is 0 3 p h.1.1.1.0).1;
        salt = any_front 16 bytes rest.0;
        handle = ending.fits;
      },
      (λ i. kind.is i ∷ n ∷ r ∷ p ∷ whole i),
    )
head_reads tail reads [] h = absurd h
head_reads tail reads (k ∷ []) h = absurd h.1
head_reads tail reads (k ∷ n ∷ []) h = absurd h.1.1
head_reads tail reads (k ∷ n ∷ r ∷ []) h = absurd h.1.1.1

head_writes : (tail : List Field) (v : Pwd) → IsPwd v → IsIn (row tail) (handle_part v.handle) → IsIn (row (pwd_head ++ tail)) (pwd_bytes v)
unfolding field_then
head_writes tail v keeps h =
    let behind : IsIn (row tail) (drop 16 (v.salt ++ handle_part v.handle)) = subst (IsIn (row tail)) (sym (drop_at v.salt (handle_part v.handle) 16 keeps.salt.long)) h in (
      kind_passes v.kind keeps.kind,
      (
        is_between 1 14 v.log_n keeps.log_n.0 keeps.log_n.1,
        (
          is_between 0 4 v.log_r (omega arith) keeps.log_r,
          (
            is_between 0 3 v.log_p (omega arith) keeps.log_p,
            field_in 16 Any (λ _. row tail) (v.salt ++ handle_part v.handle) (bytes_front 16 v.salt (handle_part v.handle) keeps.salt) behind,
          ),
        ),
      ),
    )

pwd_reads : (bytes : List ℕ) → IsIn (format_of parts.Pwd) bytes → Spells IsPwd pwd_bytes bytes
pwd_reads bytes (inl h) = head_reads (just 0 ∷ []) without_handle bytes h
pwd_reads bytes (inr h) = head_reads (just 49 ∷ field 49 Any ∷ []) with_handle bytes h

no_handle_in : IsIn (row (just 0 ∷ [])) (0 ∷ [])
unfolding field_then
no_handle_in = (refl, tt)

handle_in : (handle : List ℕ) → AreBytes 49 handle → IsIn (row (just 49 ∷ field 49 Any ∷ [])) (49 ∷ handle)
unfolding field_then
handle_in handle are = (refl, plain_in 49 handle are)

pwd_writes : (v : Pwd) → IsPwd v → IsIn (format_of parts.Pwd) (pwd_bytes v)
pwd_writes v keeps = by v.handle refl keeps.handle
  where
    by : (o : Option (List ℕ)) → v.handle ≡ o → IfSome o (AreBytes 49) → IsIn (format_of parts.Pwd) (pwd_bytes v)
    by None is fits =
        let tail : IsIn (row (just 0 ∷ [])) (handle_part v.handle) = rw is no_handle_in in
        inl (head_writes (just 0 ∷ []) v keeps tail)
    by (Some handle) is fits =
        let tail : IsIn (row (just 49 ∷ field 49 Any ∷ [])) (handle_part v.handle) = rw is (handle_in handle fits) in
        inr (head_writes (just 49 ∷ field 49 Any ∷ []) v keeps tail)

-- a salt of 16 bytes and what follows it
tail_again : (handle : Option (List ℕ)) → IfSome handle (AreBytes 49)
    → cond (eqb (get_or (handle_part handle) 0 0) 0) None (Some (take 49 (drop 1 (handle_part handle)))) ≡ handle
tail_again None fits = refl
tail_again (Some handle) fits = ap Some (take_all 49 handle (omega (arith, fits.long)))

pwd_again : (v : Pwd) → IsPwd v → pwd_of (pwd_bytes v) ≡ v
pwd_again v keeps =
    let text = v.salt ++ handle_part v.handle in
    let salt : take 16 text ≡ v.salt = take_at v.salt (handle_part v.handle) 16 keeps.salt.long in
    let behind : drop 16 text ≡ handle_part v.handle = drop_at v.salt (handle_part v.handle) 16 keeps.salt.long in
    let mark : get_or text 16 0 ≡ get_or (handle_part v.handle) 0 0 = sym (get_or-drop 16 text 0 0) ∙ ap (λ (l : List ℕ). get_or l 0 0) behind in
    let rest : drop 17 text ≡ drop 1 (handle_part v.handle) = sym (drop-drop 1 16 text) ∙ ap (drop 1) behind in
    let handle : cond (eqb (get_or text 16 0) 0) None (Some (take 49 (drop 17 text))) ≡ v.handle = rw (mark, rest) (tail_again v.handle keeps.handle) in
    λ i. record { kind = kind_again v.kind i; log_n = v.log_n; log_r = v.log_r; log_p = v.log_p; salt = salt i; handle = handle i }

pub pwd_format : IsFormatOf (format_of parts.Pwd) IsPwd pwd_bytes pwd_of
pwd_format = record { reads = pwd_reads; writes = pwd_writes; again = pwd_again }

-- ---- how long the bytes of a format are

pub handle_long : (bytes : List ℕ) → IsIn (format_of parts.Handle) bytes → length bytes ≡ 49
handle_long bytes h = (in_plain 49 bytes h).long

pub slot_long : (bytes : List ℕ) → IsIn (format_of parts.Weaver) bytes → length bytes ≡ 5
slot_long bytes h = sym (ap length (slot_reads bytes h).2)

pub metrics_long : (bytes : List ℕ) → IsIn metrics_format bytes → length bytes ≡ 10
metrics_long bytes h = sym (ap length (metrics_reads bytes h).2)

-- the bytes with the handle, where there is one
pub record IsPwdLong (bytes : List ℕ) : Type 0 where
  pub head : 21 ≤ length bytes
  pub handle : get_or bytes 20 0 ≢ 0 → 70 ≤ length bytes

pwd_bytes_long : (v : Pwd) → IsPwd v → IsPwdLong (pwd_bytes v)
pwd_bytes_long v keeps = by v.handle refl keeps.handle
  where
    by : (o : Option (List ℕ)) → v.handle ≡ o → IfSome o (AreBytes 49) → IsPwdLong (pwd_bytes v)
    by None is fits =
        let long : length (pwd_bytes v) ≡ 21 = rw is (omega (arith, keeps.salt.long, length-append v.salt (0 ∷ []))) in
        let mark : get_or (v.salt ++ handle_part v.handle) 16 0 ≡ 0 = rw is (get_or_at v.salt 0 [] 0 16 keeps.salt.long) in
        record { head = omega (arith, long); handle = λ some. absurd (some mark) }
    by (Some handle) is fits =
        let long : length (pwd_bytes v) ≡ 70 = rw is (omega (arith, keeps.salt.long, fits.long, length-append v.salt (49 ∷ handle))) in
        record { head = omega (arith, long); handle = λ some. omega (arith, long) }

pub pwd_long : (bytes : List ℕ) → IsIn (format_of parts.Pwd) bytes → IsPwdLong bytes
pwd_long bytes h = let read = pwd_reads bytes h in subst IsPwdLong read.2 (pwd_bytes_long read.0 read.1)
