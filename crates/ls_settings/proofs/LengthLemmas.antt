-- A record has its place in a settings file.
use Rattle.std.proofs.Common.{◌≡◌, ◌≤◌, ◌*◌, ℕ, Bool, true, false, List, [], ◌∷◌, length, flat_map, Option, Some, None, IfSome, refl, arith, length-append, leb-true, eqb-true}
use Rattle.std.specs.List.{AllByRecursion}
use Rattle.ls_bytes.specs.Fields.{be32, be64}
use Rattle.ls_record.specs.declared.row.UserRow.{UserRow}
use Rattle.ls_arming.specs.declared.arming.Arming.{Arming}
use Rattle.ls_record.specs.Rows.{Rec, IsRow, IsArming, IsRecord, is_token_count}
use Rattle.ls_record.specs.Spelling.{row_bytes, arming_bytes, record_bytes}

ids_length : (ids : List ℕ) → length (flat_map be64 ids) ≡ 8 * length ids
ids_length [] = refl
ids_length (id ∷ ids) = omega (arith, length-append (be64 id) (flat_map be64 ids), ids_length ids)

users_length : (users : List ℕ) → length (flat_map be32 users) ≡ 4 * length users
users_length [] = refl
users_length (user ∷ users) = omega (arith, length-append (be32 user) (flat_map be32 users), users_length users)

few_tokens : (escrow : Bool) (n : ℕ) → is_token_count escrow n ≡ true → n ≤ 8
few_tokens true n e = leb-true n 8 e
few_tokens false n e = omega (arith, eqb-true n 0 e)

row_length : (row : UserRow) → IsRow row → length (row_bytes 2 row) ≤ 89
row_length row keeps = omega (arith, few_tokens row.escrow (length row.tokens) keeps.few, ids_length row.tokens)

rows_length : (rows : List UserRow) → AllByRecursion IsRow rows → length (flat_map (row_bytes 2) rows) ≤ 89 * length rows
rows_length [] all = omega arith
rows_length (row ∷ rows) all = omega (arith, length-append (row_bytes 2 row) (flat_map (row_bytes 2) rows), row_length row all.0, rows_length rows all.1)

arming_length : (rows : List UserRow) (arming : Option Arming) → IfSome arming (IsArming rows) → length (arming_bytes arming) ≤ 70
arming_length rows None keeps = omega arith
arming_length rows (Some a) keeps = omega (arith, users_length a.users, keeps.few)

pub record_length : (r : Rec) → IsRecord r → length (record_bytes 2 r) ≤ 1496
record_length r keeps =
    omega (arith, length-append (flat_map (row_bytes 2) r.users) (arming_bytes r.armed), rows_length r.users keeps.rows, arming_length r.users r.armed keeps.armed, keeps.few)
