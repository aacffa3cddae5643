-- Two names with one spelling are one name.
use Rattle.std.proofs.Common.{◌≡◌, ◌<◌, ◌^◌, ℕ, ◌+◌, cond, List, [], ◌++◌, get_or, Ok, refl, sym, ap, ◌∙◌}
use Rattle.std.proofs.Math.Dec.{eqb}
use Rattle.hex.specs.Hex.{encode_lower, decode_sized}
use Rattle.hex.proofs.HexLemmas.{decode_sized-encode_lower}
use Rattle.byteorder.specs.Endian.{big_number}
use Rattle.ls_bytes.specs.Fields.{be32, be64}
use Rattle.ls_bytes.proofs.FieldLemmas.{big_number-be32, big_number-be64}
use Rattle.ls_formats.specs.declared.part.FilePart.{FilePart}
use Rattle.ls_formats.specs.declared.part.FilePart.TheVariants.{SpBlob, Pwd, Secdis, Weaver, Metrics, Handle, E0, P1, Resume}
use Rattle.ls_formats.specs.declared.side.Side.TheVariants.{First, Second}
use Rattle.ls_formats.specs.declared.name.FileName.{FileName}
use Rattle.ls_formats.specs.declared.name.FileName.TheVariants.{Settings, Protector}
use Rattle.ls_formats.specs.PartNames.{PartOf, IsPartOf, part_text, part_name_text}
use Rattle.ls_formats.specs.FileNames.{IsFileName, name_text}
use Rattle.ls_formats.proofs.ContentLemmas.{big_are_bytes}
use Rattle.ls_formats.proofs.NameLemmas.{user_digits, id_digits, part_letters, first_again, second_again}

-- ---- numbers

same_bytes : (n : ℕ) (a b : List ℕ) → decode_sized (encode_lower a) n ≡ Ok a → decode_sized (encode_lower b) n ≡ Ok b → encode_lower a ≡ encode_lower b → a ≡ b
same_bytes n a b one two e =
    let same = sym one ∙ ap (λ (t : List ℕ). decode_sized t n) e ∙ two in
    cc

user_apart : (m n : ℕ) → m < 2 ^ 32 → n < 2 ^ 32 → encode_lower (be32 m) ≡ encode_lower (be32 n) → m ≡ n
user_apart m n km kn e =
    let a = big_are_bytes 4 m in
    let b = big_are_bytes 4 n in
    let same = same_bytes 4 (be32 m) (be32 n) (decode_sized-encode_lower (be32 m) 4 a.long a.each) (decode_sized-encode_lower (be32 n) 4 b.long b.each) e in
    sym (big_number-be32 m [] km) ∙ ap (λ (t : List ℕ). big_number 4 (t ++ [])) same ∙ big_number-be32 n [] kn

id_apart : (m n : ℕ) → m < 2 ^ 64 → n < 2 ^ 64 → encode_lower (be64 m) ≡ encode_lower (be64 n) → m ≡ n
id_apart m n km kn e =
    let a = big_are_bytes 8 m in
    let b = big_are_bytes 8 n in
    let same = same_bytes 8 (be64 m) (be64 n) (decode_sized-encode_lower (be64 m) 8 a.long a.each) (decode_sized-encode_lower (be64 n) 8 b.long b.each) e in
    sym (big_number-be64 m [] km) ∙ ap (λ (t : List ℕ). big_number 8 (t ++ [])) same ∙ big_number-be64 n [] kn

-- ---- parts

-- the sum of its second letter and its third tells a part
key : List ℕ → ℕ
key text = get_or text 1 0 + get_or text 2 0

part_by : ℕ → FilePart
part_by n =
    cond (eqb n 210) SpBlob
    (cond (eqb n 219) Pwd
    (cond (eqb n 200) Secdis
    (cond (eqb n 198) Weaver
    (cond (eqb n 217) Metrics
    (cond (eqb n 207) Handle
    (cond (eqb n 48) E0
    (cond (eqb n 49) P1 Resume)))))))

part_again : (p : FilePart) → part_by (key (part_text p)) ≡ p
unfolding key part_by
part_again SpBlob = refl
part_again Pwd = refl
part_again Secdis = refl
part_again Weaver = refl
part_again Metrics = refl
part_again Handle = refl
part_again E0 = refl
part_again P1 = refl
part_again Resume = refl

part_apart : (p q : FilePart) → part_text p ≡ part_text q → p ≡ q
part_apart p q e = sym (part_again p) ∙ ap (λ (t : List ℕ). part_by (key t)) e ∙ part_again q

-- ---- names

part_name_apart : (m n : PartOf) → IsPartOf m → IsPartOf n → part_name_text m ≡ part_name_text n → m ≡ n
part_name_apart m n km kn e =
    let text = part_name_text n in
    let user = user_apart m.user n.user km.user kn.user (user_digits m text e ∙ sym (user_digits n text refl)) in
    let id = id_apart m.id n.id km.id kn.id (id_digits m text e ∙ sym (id_digits n text refl)) in
    let part = part_apart m.part n.part (part_letters m text e ∙ sym (part_letters n text refl)) in
    λ i. record { user = user i; id = id i; part = part i }

pub names_apart : (m n : FileName) → IsFileName m → IsFileName n → name_text m ≡ name_text n → m ≡ n
names_apart (Settings First) n km kn e = first_again n (sym e)
names_apart (Settings Second) n km kn e = second_again n (sym e)
names_apart (Protector m) (Settings First) km kn e = sym (first_again (Protector m) e)
names_apart (Protector m) (Settings Second) km kn e = sym (second_again (Protector m) e)
names_apart (Protector m) (Protector n) km kn e = ap Protector (part_name_apart m n km kn e)
