-- The name of a protector's file is a name of a file.
use Rattle.std.proofs.Common.{◌≡◌, ◌≤◌, ◌<◌, ◌+◌, ◌/◌, ◌%◌, ◌++◌, ℕ, suc, true, List, [], ◌∷◌, codes, length, get_or, refl, arith}
use Rattle.std.specs.List.{AllPass, list_all}
use Rattle.std.proofs.lemmas.Bool.{and_from}
use Rattle.std.proofs.lemmas.List.{length-append}
use Rattle.std.proofs.lemmas.List.Sums.{AllPass-from_list_all}
use Rattle.std.proofs.lemmas.List.Elements.{All-append}
use Rattle.hex.specs.Hex.{lower_digits, encode_with, encode_lower}
use Rattle.hex.proofs.HexLemmas.{length-encode_with}
use Rattle.ls_bytes.specs.ByteLists.{AllAreBytes}
use Rattle.ls_bytes.specs.Fields.{be32, be64}
use Rattle.ls_bytes.specs.Names.{is_name_byte, IsName}
use Rattle.ls_bytes.proofs.ByteListLemmas.{bytes_big}
use Rattle.ls_formats.specs.declared.part.FilePart.{FilePart}
use Rattle.ls_formats.specs.declared.part.FilePart.TheVariants.{SpBlob, Pwd, Secdis, Weaver, Metrics, Handle, E0, P1, Resume}
use Rattle.ls_formats.specs.PartNames.{PartOf, part_text, part_name_text}

-- a text of name bytes, which is short
record IsPiece (most : ℕ) (text : List ℕ) : Type 0 where
  short : length text ≤ most
  each : AllPass is_name_byte text

listed : (most : ℕ) (text : List ℕ) → length text ≤ most → list_all is_name_byte text ≡ true → IsPiece most text
listed most text short all = record { short = short; each = AllPass-from_list_all is_name_byte text all }

joined : (m n : ℕ) (xs ys : List ℕ) → IsPiece m xs → IsPiece n ys → IsPiece (m + n) (xs ++ ys)
joined m n xs ys front back = record {
  short = omega (arith, length-append xs ys, front.short, back.short);
  each = All-append (λ x. is_name_byte x ≡ true) xs ys front.each back.each;
}

digit_at : (d : ℕ) → d < 16 → is_name_byte (get_or lower_digits d 0) ≡ true
digit_at d lt = AllPass-from_list_all is_name_byte lower_digits refl d 0 lt

digits : (bytes : List ℕ) → AllAreBytes bytes → list_all is_name_byte (encode_lower bytes) ≡ true
unfolding encode_with
digits [] are = refl
digits (b ∷ bytes) are =
    let byte : b < 256 = are 0 in
    and_from (is_name_byte (get_or lower_digits (b / 16) 0)) _ (digit_at (b / 16) (omega arith))
    (and_from (is_name_byte (get_or lower_digits (b % 16) 0)) (list_all is_name_byte (encode_lower bytes)) (digit_at (b % 16) (omega arith))
    (digits bytes (λ i. are (suc i))))

dot : IsPiece 1 (codes ".")
dot = listed 1 (codes ".") (omega arith) refl

part_piece : (part : FilePart) → IsPiece 7 (part_text part)
part_piece SpBlob = listed 7 (codes "spblob") (omega arith) refl
part_piece Pwd = listed 7 (codes "pwd") (omega arith) refl
part_piece Secdis = listed 7 (codes "secdis") (omega arith) refl
part_piece Weaver = listed 7 (codes "weaver") (omega arith) refl
part_piece Metrics = listed 7 (codes "metrics") (omega arith) refl
part_piece Handle = listed 7 (codes "handle") (omega arith) refl
part_piece E0 = listed 7 (codes "e0") (omega arith) refl
part_piece P1 = listed 7 (codes "p1") (omega arith) refl
part_piece Resume = listed 7 (codes "resume") (omega arith) refl

pub part_name : (name : PartOf) → IsName (part_name_text name)
part_name name =
    let user = encode_lower (be32 name.user) in
    let id = encode_lower (be64 name.id) in
    let part = part_text name.part in
    let user_long : length user ≡ 8 = length-encode_with lower_digits (be32 name.user) in
    let id_long : length id ≡ 16 = length-encode_with lower_digits (be64 name.id) in
    let whole =
    joined 8 25 user (codes "." ++ (id ++ (codes "." ++ part))) (listed 8 user (omega arith) (digits (be32 name.user) (bytes_big 4 name.user)))
    (joined 1 24 (codes ".") (id ++ (codes "." ++ part)) dot
    (joined 16 8 id (codes "." ++ part) (listed 16 id (omega arith) (digits (be64 name.id) (bytes_big 8 name.id)))
    (joined 1 7 (codes ".") part dot (part_piece name.part)))) in
    record {
      some = omega (arith, user_long, length-append user (codes "." ++ (id ++ (codes "." ++ part))));
      most = omega (arith, whole.short);
      each = whole.each;
    }
