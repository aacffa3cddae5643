-- The format of names is that of the names, each spelled in one way.
use Rattle.std.proofs.Common.{◌≡◌, ◌≤◌, ◌<◌, ◌^◌, inl, inr, ℕ, ◌+◌, ◌*◌, ◌++◌, Bool, true, false, List, [], ◌∷◌, codes, length, take, drop, get_or, refl, sym, ap, subst, ◌∙◌, arith}
use Rattle.std.specs.List.{prefix_len}
use Rattle.std.proofs.Math.Dec.{eqb}
use Rattle.std.proofs.lemmas.Bool.{eqb-true, eq-eqb, both_ways}
use Rattle.std.proofs.lemmas.List.{append_assoc, append-nil, take-append-drop, drop_at, drop-drop, take_at, length-append, length-take}
use Rattle.std.proofs.lemmas.List.Sums.{prefix_len-le-length, prefix_len_passes}
use Rattle.hex.specs.Hex.{lower_digits, encode_lower}
use Rattle.hex.proofs.HexLemmas.{length-encode_with}
use Rattle.byteorder.specs.Endian.{big_number}
use Rattle.byteorder.specs.Numbers.{big_from-lt}
use Rattle.ls_bytes.specs.Fields.{be32, be64}
use Rattle.ls_bytes.proofs.FieldLemmas.{be32-big_number, be64-big_number}
use Rattle.ls_formats.specs.declared.field.Rule.TheVariants.{HexDigit}
use Rattle.ls_formats.specs.declared.part.FilePart.{FilePart}
use Rattle.ls_formats.specs.declared.part.FilePart.TheVariants.{SpBlob, Pwd, Secdis, Weaver, Metrics, Handle, E0, P1, Resume}
use Rattle.ls_formats.specs.declared.side.Side.TheVariants.{First, Second}
use Rattle.ls_formats.specs.declared.name.FileName.{FileName}
use Rattle.ls_formats.specs.declared.name.FileName.TheVariants.{Settings, Protector}
use Rattle.ls_formats.specs.Format.{Format, ended, IsIn}
use Rattle.ls_formats.specs.Faults.{IsFirstFault, Spells}
use Rattle.ls_formats.specs.Rules.{passes, field_then}
use Rattle.ls_formats.specs.PartNames.{PartOf, IsPartOf, part_text, is_of_user, part_name_text}
use Rattle.ls_formats.specs.FileNames.{IsFileName, name_text, text_then, one_of, is_zero, part_format, id_format, name_format}
use Rattle.ls_formats.proofs.FaultLemmas.{IsLive}
use Rattle.ls_formats.proofs.FileLemmas.{IsMet, field_lives}
use Rattle.ls_formats.proofs.FieldLemmas.{in_field, field_in, ended_none}
use Rattle.ls_formats.proofs.ContentLemmas.{big_are_bytes}
use Rattle.ls_formats.proofs.HexLemmas.{IsTextOf, hex_reads, cut_front, hex_front, zero_text}

-- ---- each test is met

text_lives : (text : List ℕ) (next : Format) → IsLive next → IsLive (text_then text next)
text_lives [] next live = live
text_lives (b ∷ text) next live = ((b, eq-eqb b b refl), λ _. text_lives text next live)

one_lives : (text : List ℕ) (others : List (List ℕ)) → IsLive (one_of text others)
one_lives text [] = text_lives text ended tt
one_lives text (other ∷ others) = (text_lives text ended tt, one_lives other others)

part_lives : (of_user : Bool) → IsLive (part_format of_user)
part_lives true = one_lives (codes "handle") (codes "e0" ∷ codes "p1" ∷ codes "resume" ∷ [])
part_lives false = one_lives (codes "spblob") (codes "pwd" ∷ codes "secdis" ∷ codes "weaver" ∷ codes "metrics" ∷ [])

digit_met : IsMet HexDigit
digit_met = (48, refl)

id_lives : IsLive id_format
id_lives =
    field_lives 16 HexDigit (λ id. text_then (codes ".") (part_format (is_zero id))) digit_met
    (λ id. text_lives (codes ".") (part_format (is_zero id)) (part_lives (is_zero id)))

pub name_live : IsLive name_format
name_live = (
  one_lives (codes "settings.0") (codes "settings.1" ∷ []),
  field_lives 8 HexDigit (λ user. text_then (codes ".") id_format) digit_met (λ _. text_lives (codes ".") id_format id_lives),
)

-- ---- texts

-- a text, and what is behind it
record IsBehind (text : List ℕ) (next : Format) (bytes : List ℕ) : Type 0 where
  rest : List ℕ
  is : bytes ≡ text ++ rest
  rest_in : IsIn next rest

in_text : (text : List ℕ) (next : Format) (bytes : List ℕ) → IsIn (text_then text next) bytes → IsBehind text next bytes
in_text [] next bytes h = record { rest = bytes; is = refl; rest_in = h }
in_text (b ∷ text) next [] h = absurd h
in_text (b ∷ text) next (c ∷ bytes) h =
    let more = in_text text next bytes h.1 in
    record { rest = more.rest; is = λ i. eqb-true c b h.0 i ∷ more.is i; rest_in = more.rest_in }

text_in : (text : List ℕ) (next : Format) (rest : List ℕ) → IsIn next rest → IsIn (text_then text next) (text ++ rest)
text_in [] next rest h = h
text_in (b ∷ text) next rest h = (eq-eqb b b refl, text_in text next rest h)

-- a text, and nothing behind it
in_alone : (text bytes : List ℕ) → IsIn (text_then text ended) bytes → text ≡ bytes
in_alone text bytes h =
    let found = in_text text ended bytes h in
    sym (append-nil text) ∙ ap (λ (rest : List ℕ). text ++ rest) (sym (ended_none found.rest found.rest_in)) ∙ sym found.is

alone_in : (text : List ℕ) → IsIn (text_then text ended) text
alone_in text = subst (IsIn (text_then text ended)) (append-nil text) (text_in text ended [] tt)

-- ---- parts

-- a part with this name, of a user or not
record HasPart (of_user : Bool) (bytes : List ℕ) : Type 0 where
  part : FilePart
  of : of_user ≡ is_of_user part
  is : part_text part ≡ bytes

in_part : (of_user : Bool) (bytes : List ℕ) → IsIn (part_format of_user) bytes → HasPart of_user bytes
in_part true bytes (inl h) = record { part = Handle; of = refl; is = in_alone (codes "handle") bytes h }
in_part true bytes (inr (inl h)) = record { part = E0; of = refl; is = in_alone (codes "e0") bytes h }
in_part true bytes (inr (inr (inl h))) = record { part = P1; of = refl; is = in_alone (codes "p1") bytes h }
in_part true bytes (inr (inr (inr h))) = record { part = Resume; of = refl; is = in_alone (codes "resume") bytes h }
in_part false bytes (inl h) = record { part = SpBlob; of = refl; is = in_alone (codes "spblob") bytes h }
in_part false bytes (inr (inl h)) = record { part = Pwd; of = refl; is = in_alone (codes "pwd") bytes h }
in_part false bytes (inr (inr (inl h))) = record { part = Secdis; of = refl; is = in_alone (codes "secdis") bytes h }
in_part false bytes (inr (inr (inr (inl h)))) = record { part = Weaver; of = refl; is = in_alone (codes "weaver") bytes h }
in_part false bytes (inr (inr (inr (inr h)))) = record { part = Metrics; of = refl; is = in_alone (codes "metrics") bytes h }

part_in : (part : FilePart) → IsIn (part_format (is_of_user part)) (part_text part)
part_in SpBlob = inl (alone_in (codes "spblob"))
part_in Pwd = inr (inl (alone_in (codes "pwd")))
part_in Secdis = inr (inr (inl (alone_in (codes "secdis"))))
part_in Weaver = inr (inr (inr (inl (alone_in (codes "weaver")))))
part_in Metrics = inr (inr (inr (inr (alone_in (codes "metrics")))))
part_in Handle = inl (alone_in (codes "handle"))
part_in E0 = inr (inl (alone_in (codes "e0")))
part_in P1 = inr (inr (inl (alone_in (codes "p1"))))
part_in Resume = inr (inr (inr (alone_in (codes "resume"))))

-- ---- an id and a part

digits_of : (n : ℕ) (bytes : List ℕ) → 2 * n ≤ prefix_len (passes HexDigit) bytes → IsTextOf n (take (2 * n) bytes)
digits_of n bytes le =
    let within : 2 * n ≤ length bytes = omega (arith, prefix_len-le-length (passes HexDigit) bytes) in
    let long : length (take (2 * n) bytes) ≡ 2 * n = omega (arith, length-take (2 * n) bytes) in
    hex_reads n (take (2 * n) bytes) long (λ i lt. cut_front HexDigit (2 * n) bytes le i lt (omega (arith, long)))

-- the text from an id on
abbrev id_text : ℕ → FilePart → List ℕ
id_text id part = encode_lower (be64 id) ++ (codes "." ++ part_text part)

record HasId (bytes : List ℕ) : Type 0 where
  id : ℕ
  part : FilePart
  small : id < 2 ^ 64
  of : eqb id 0 ≡ is_of_user part
  is : id_text id part ≡ bytes

in_id : (bytes : List ℕ) → IsIn id_format bytes → HasId bytes
in_id bytes h =
    let field = in_field 16 HexDigit (λ id. text_then (codes ".") (part_format (is_zero id))) bytes h in
    let digits = digits_of 8 bytes field.0 in
    let behind = in_text (codes ".") (part_format (is_zero (take 16 bytes))) (drop 16 bytes) field.1 in
    let part = in_part (is_zero (take 16 bytes)) behind.rest behind.rest_in in
    let id = big_number 8 digits.bytes in
    let small : id < 2 ^ 64 = big_from-lt 0 8 digits.bytes digits.are.each in
    let text : encode_lower (be64 id) ≡ take 16 bytes = ap encode_lower (be64-big_number digits.bytes digits.are.long digits.are.each) ∙ digits.is in
    record {
      id = id;
      part = part.part;
      small = small;
      of = sym (zero_text id small) ∙ ap is_zero text ∙ part.of;
      is = (λ i. text i ++ (codes "." ++ part.is i)) ∙ ap (λ (rest : List ℕ). take 16 bytes ++ rest) (sym behind.is) ∙ take-append-drop 16 bytes;
    }

id_in : (id : ℕ) (part : FilePart) → id < 2 ^ 64 → eqb id 0 ≡ is_of_user part → IsIn id_format (id_text id part)
id_in id part small of =
    let rest = codes "." ++ part_text part in
    let long : length (encode_lower (be64 id)) ≡ 16 = length-encode_with lower_digits (be64 id) in
    let zero_is : is_of_user part ≡ is_zero (take 16 (encode_lower (be64 id) ++ rest)) = sym of ∙ sym (zero_text id small) ∙ ap is_zero (sym (take_at (encode_lower (be64 id)) rest 16 long)) in
    let ending : IsIn (text_then (codes ".") (part_format (is_of_user part))) rest = text_in (codes ".") (part_format (is_of_user part)) (part_text part) (part_in part) in
    let moved : IsIn (text_then (codes ".") (part_format (is_zero (take 16 (encode_lower (be64 id) ++ rest))))) (drop 16 (encode_lower (be64 id) ++ rest)) =
    subst (λ (p : Bool × List ℕ). IsIn (text_then (codes ".") (part_format p.0)) p.1) (λ i. (zero_is i, sym (drop_at (encode_lower (be64 id)) rest 16 long) i)) ending in
    field_in 16 HexDigit (λ d. text_then (codes ".") (part_format (is_zero d))) (encode_lower (be64 id) ++ rest) (hex_front 8 (be64 id) rest (big_are_bytes 8 id)) moved

-- ---- names of protector files

abbrev protector_format : Format
protector_format = field_then 8 HexDigit (λ user. text_then (codes ".") id_format)

in_protector : (bytes : List ℕ) → IsIn protector_format bytes → Spells IsPartOf part_name_text bytes
in_protector bytes h =
    let field = in_field 8 HexDigit (λ user. text_then (codes ".") id_format) bytes h in
    let digits = digits_of 4 bytes field.0 in
    let behind = in_text (codes ".") id_format (drop 8 bytes) field.1 in
    let id = in_id behind.rest behind.rest_in in
    let user = big_number 4 digits.bytes in
    let text : encode_lower (be32 user) ≡ take 8 bytes = ap encode_lower (be32-big_number digits.bytes digits.are.long digits.are.each) ∙ digits.is in (
      record { user = user; id = id.id; part = id.part },
      record { user = big_from-lt 0 4 digits.bytes digits.are.each; id = id.small; part = id.of },
      (λ i. text i ++ (codes "." ++ id.is i)) ∙ ap (λ (rest : List ℕ). take 8 bytes ++ rest) (sym behind.is) ∙ take-append-drop 8 bytes,
    )

protector_in : (name : PartOf) → IsPartOf name → IsIn protector_format (part_name_text name)
protector_in name keeps =
    let rest = codes "." ++ id_text name.id name.part in
    let long : length (encode_lower (be32 name.user)) ≡ 8 = length-encode_with lower_digits (be32 name.user) in
    let ending : IsIn (text_then (codes ".") id_format) rest = text_in (codes ".") id_format (id_text name.id name.part) (id_in name.id name.part keeps.id keeps.part) in
    field_in 8 HexDigit (λ user. text_then (codes ".") id_format) (encode_lower (be32 name.user) ++ rest) (hex_front 4 (be32 name.user) rest (big_are_bytes 4 name.user))
    (subst (IsIn (text_then (codes ".") id_format)) (sym (drop_at (encode_lower (be32 name.user)) rest 8 long)) ending)

-- ---- all names

pub name_reads : (bytes : List ℕ) → IsIn name_format bytes → Spells IsFileName name_text bytes
name_reads bytes (inl (inl h)) = (Settings First, tt, in_alone (codes "settings.0") bytes h)
name_reads bytes (inl (inr h)) = (Settings Second, tt, in_alone (codes "settings.1") bytes h)
name_reads bytes (inr h) = let found = in_protector bytes h in (Protector found.0, found.1, found.2)

pub name_writes : (name : FileName) → IsFileName name → IsIn name_format (name_text name)
name_writes (Settings First) keeps = inl (inl (alone_in (codes "settings.0")))
name_writes (Settings Second) keeps = inl (inr (alone_in (codes "settings.1")))
name_writes (Protector name) keeps = inr (protector_in name keeps)

-- so a fault of the format is one of the names
pub name_spelled_fault : (bytes : List ℕ) (at : ℕ) → IsFirstFault (IsIn name_format) bytes at → IsFirstFault (Spells IsFileName name_text) bytes at
name_spelled_fault bytes at fault = record {
  within = fault.within;
  before = (fault.before.0, name_reads _ fault.before.1);
  behind = λ more lt le h. fault.behind more lt le (h.0, subst (IsIn name_format) h.1.2 (name_writes h.1.0 h.1.1));
  outside = λ h. fault.outside (subst (IsIn name_format) h.2 (name_writes h.0 h.1));
}

-- what is read of a name
pub name_spelled : (bytes : List ℕ) → IsIn name_format bytes → (v : FileName) → ((name : FileName) → IsFileName name → name_text name ≡ bytes → v ≡ name)
    → IsFileName v × (name_text v ≡ bytes) × ((w : FileName) → IsFileName w → name_text w ≡ bytes → w ≡ v)
name_spelled bytes h v again =
    let found = name_reads bytes h in
    let same : found.0 ≡ v = sym (again found.0 found.1 found.2) in (
      subst IsFileName same found.1,
      ap name_text (sym same) ∙ found.2,
      λ w keeps is. sym (again w keeps is),
    )

-- the name of a protector's file begins with a digit, and so with no letter s
no_s : (name : PartOf) (bytes : List ℕ) → get_or bytes 0 0 ≡ 115 → part_name_text name ≡ bytes → ⊥
no_s name bytes s e =
    let rest = codes "." ++ id_text name.id name.part in
    let front = hex_front 4 (be32 name.user) rest (big_are_bytes 4 name.user) in
    let digit : passes HexDigit (get_or (part_name_text name) 0 0) ≡ true = prefix_len_passes (passes HexDigit) (part_name_text name) 0 0 (omega (arith, front)) in
    let bad : passes HexDigit 115 ≡ true = ap (passes HexDigit) (sym s ∙ ap (λ (b : List ℕ). get_or b 0 0) (sym e)) ∙ digit in
    both_ways (passes HexDigit 115) refl bad

-- the settings files' names are read as these
pub first_again : (name : FileName) → name_text name ≡ codes "settings.0" → Settings First ≡ name
first_again (Settings First) e = refl
first_again (Settings Second) e = absurd (both_ways (eqb 49 48) refl (eq-eqb 49 48 (ap (λ (b : List ℕ). get_or b 9 0) e)))
first_again (Protector name) e = absurd (no_s name (codes "settings.0") refl e)

pub second_again : (name : FileName) → name_text name ≡ codes "settings.1" → Settings Second ≡ name
second_again (Settings First) e = absurd (both_ways (eqb 48 49) refl (eq-eqb 48 49 (ap (λ (b : List ℕ). get_or b 9 0) e)))
second_again (Settings Second) e = refl
second_again (Protector name) e = absurd (no_s name (codes "settings.1") refl e)

-- a name that is neither is a protector file's
pub protector_left : (bytes : List ℕ) → Spells IsFileName name_text bytes → (bytes ≡ codes "settings.0" → ⊥) → (bytes ≡ codes "settings.1" → ⊥) → Spells IsPartOf part_name_text bytes
protector_left bytes (Settings First, keeps, e) first second = absurd (first (sym e))
protector_left bytes (Settings Second, keeps, e) first second = absurd (second (sym e))
protector_left bytes (Protector name, keeps, e) first second = (name, keeps, e)

pub protector_again : (bytes : List ℕ) (v : PartOf) → (bytes ≡ codes "settings.0" → ⊥) → (bytes ≡ codes "settings.1" → ⊥)
    → ((name : PartOf) → IsPartOf name → part_name_text name ≡ bytes → v ≡ name) → (name : FileName) → IsFileName name → name_text name ≡ bytes → Protector v ≡ name
protector_again bytes v first second again (Settings First) keeps e = absurd (first (sym e))
protector_again bytes v first second again (Settings Second) keeps e = absurd (second (sym e))
protector_again bytes v first second again (Protector name) keeps e = ap Protector (again name keeps e)

-- ---- the fields of a protector file's name, by place

pub part_name_long : (name : PartOf) (bytes : List ℕ) → part_name_text name ≡ bytes → 26 ≤ length bytes
part_name_long name bytes e =
    let user_long : length (encode_lower (be32 name.user)) ≡ 8 = length-encode_with lower_digits (be32 name.user) in
    let id_long : length (encode_lower (be64 name.id)) ≡ 16 = length-encode_with lower_digits (be64 name.id) in
    let long : length (part_name_text name) ≡ 26 + length (part_text name.part) =
    omega (arith, user_long, id_long, length-append (encode_lower (be32 name.user)) (codes "." ++ id_text name.id name.part), length-append (encode_lower (be64 name.id)) (codes "." ++ part_text name.part)) in
    subst (λ (b : List ℕ). 26 ≤ length b) e (omega (arith, long))

pub user_digits : (name : PartOf) (bytes : List ℕ) → part_name_text name ≡ bytes → encode_lower (be32 name.user) ≡ take 8 bytes
user_digits name bytes e =
    sym (take_at (encode_lower (be32 name.user)) (codes "." ++ id_text name.id name.part) 8 (length-encode_with lower_digits (be32 name.user))) ∙ ap (take 8) e

behind_user : (name : PartOf) (bytes : List ℕ) → part_name_text name ≡ bytes → id_text name.id name.part ≡ drop 9 bytes
behind_user name bytes e =
    let long : length (encode_lower (be32 name.user) ++ codes ".") ≡ 9 = omega (arith, length-append (encode_lower (be32 name.user)) (codes "."), length-encode_with lower_digits (be32 name.user)) in
    sym (drop_at (encode_lower (be32 name.user) ++ codes ".") (id_text name.id name.part) 9 long) ∙ ap (drop 9) (append_assoc (encode_lower (be32 name.user)) (codes ".") (id_text name.id name.part) ∙ e)

pub id_digits : (name : PartOf) (bytes : List ℕ) → part_name_text name ≡ bytes → encode_lower (be64 name.id) ≡ take 16 (drop 9 bytes)
id_digits name bytes e =
    sym (take_at (encode_lower (be64 name.id)) (codes "." ++ part_text name.part) 16 (length-encode_with lower_digits (be64 name.id))) ∙ ap (take 16) (behind_user name bytes e)

pub part_letters : (name : PartOf) (bytes : List ℕ) → part_name_text name ≡ bytes → part_text name.part ≡ drop 26 bytes
part_letters name bytes e =
    let long : length (encode_lower (be64 name.id) ++ codes ".") ≡ 17 = omega (arith, length-append (encode_lower (be64 name.id)) (codes "."), length-encode_with lower_digits (be64 name.id)) in
    sym (drop_at (encode_lower (be64 name.id) ++ codes ".") (part_text name.part) 17 long)
    ∙ ap (drop 17) (append_assoc (encode_lower (be64 name.id)) (codes ".") (part_text name.part) ∙ behind_user name bytes e) ∙ drop-drop 17 9 bytes
