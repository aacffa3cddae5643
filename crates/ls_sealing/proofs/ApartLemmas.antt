-- Protectors with different ids share no part.
use Rattle.std.proofs.Common.{◌≡◌, ◌≢◌, ℕ, ◌++◌, codes, Option, Some, refl, sym, ap, ◌∙◌, arith}
use Rattle.std.proofs.lemmas.Bool.{ne_eqb}
use Rattle.hex.specs.Hex.{encode_lower}
use Rattle.ls_bytes.specs.Fields.{be32, be64}
use Rattle.ls_formats.specs.declared.part.FilePart.{FilePart}
use Rattle.ls_formats.specs.declared.part.FilePart.TheVariants.{SpBlob}
use Rattle.ls_formats.specs.declared.name.FileName.{FileName}
use Rattle.ls_formats.specs.declared.name.FileName.TheVariants.{Settings, Protector as ProtectorName}
use Rattle.ls_formats.specs.PartNames.{PartOf, IsPartOf}
use Rattle.ls_formats.proofs.NameLemmas.{user_digits, id_digits}
use Rattle.ls_formats.proofs.ApartLemmas.{names_apart}
use Rattle.ls_board.specs.declared.world.World.{World}
use Rattle.ls_sealing.specs.Protectors.{Protector, HasNumbers, file_name, held_number}
use Rattle.ls_sealing.specs.Sparing.{Spares, reach_of}

name_of : Protector → FilePart → PartOf
name_of p part = record { user = p.user; id = p.id; part = part }

blob_name : (p : Protector) → HasNumbers p → IsPartOf (name_of p SpBlob)
unfolding name_of
blob_name p numbers = record {
  user = numbers.user;
  id = numbers.id;
  part = let some = numbers.some in ne_eqb p.id 0 (λ zero_id. omega (arith, zero_id));
}

id_of : FileName → ℕ
id_of (Settings side) = 0
id_of (ProtectorName name) = name.id

-- a shared file is one of one id
one_id : (p q : Protector) (a b : FilePart) → HasNumbers p → HasNumbers q → file_name p a ≡ file_name q b → p.id ≡ q.id
unfolding name_of id_of
one_id p q a b np nq e =
    let text = file_name q b in
    let user : encode_lower (be32 p.user) ≡ encode_lower (be32 q.user) = user_digits (name_of p a) text e ∙ sym (user_digits (name_of q b) text refl) in
    let id : encode_lower (be64 p.id) ≡ encode_lower (be64 q.id) = id_digits (name_of p a) text e ∙ sym (id_digits (name_of q b) text refl) in
    let blobs : file_name p SpBlob ≡ file_name q SpBlob = λ i. user i ++ (codes "." ++ (id i ++ (codes "." ++ codes "spblob"))) in
    ap id_of (names_apart (ProtectorName (name_of p SpBlob)) (ProtectorName (name_of q SpBlob)) (blob_name p np) (blob_name q nq) blobs)

pub spare : (p q : Protector) (slot : Option ℕ) (w : World) → HasNumbers p → HasNumbers q → p.id ≢ q.id
    → ((n : ℕ) → held_number w q ≡ Some n → slot ≢ Some n) → Spares (reach_of p slot) w q
spare p q slot w np nq apart slots = record {
  file = λ part has shared. apart (one_id p q shared.0 part np nq (sym shared.1));
  slot = slots;
  counter = λ en same. apart (sym same);
  key = λ same. apart (sym same);
}
