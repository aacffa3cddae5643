-- A change is read from its one text, and nothing else is.
use Rattle.std.proofs.Common.{◌≡◌, ◌≤◌, ◌<◌, ◌^◌, ℕ, zero, suc, ◌&&◌, Bool, true, cond, List, [], ◌∷◌, ◌++◌, length, Some, Result, Ok, Err, refl, sym, ap, subst, ◌∙◌, arith}
use Rattle.std.specs.Prelude.{MatchBool}
use Rattle.std.specs.List.{AllByRecursion}
use Rattle.std.proofs.Math.Dec.{leb, eqb}
use Rattle.std.proofs.lemmas.Bool.{and_parts, leb-true, eqb-true, eq-eqb, ne_eqb}
use Rattle.std.proofs.lemmas.List.{append-nil, nil_from_length}
use Rattle.ls_bytes.specs.Fields.{be32}
use Rattle.ls_bytes.specs.Reading.{Reading}
use Rattle.ls_record.specs.declared.fault.RecordFault.{RecordFault}
use Rattle.ls_record.specs.declared.fault.RecordFault.TheVariants.{Short, Order, Limit, Extra, Memory}
use Rattle.ls_record.specs.Gives.{Tells}
use Rattle.ls_record.specs.declared.row.UserRow.{UserRow}
use Rattle.ls_arming.specs.declared.arming.Arming.{Arming}
use Rattle.ls_record.specs.declared.edit.Edit.{Edit}
use Rattle.ls_record.specs.declared.edit.Edit.TheVariants.{PutRow, DropRow, SetArmed, ClearArmed}
use Rattle.ls_record.specs.Rows.{Rec, IsRow, has_row}
use Rattle.ls_record.specs.Spelling.{armed_bytes}
use Rattle.ls_record.specs.Edits.{has_room, IsEditText}
use Rattle.ls_record.specs.Reading.{done, number, byte, any, row_at, armed_at, alone, front_of}
use Rattle.ls_record.specs.EditReading.{put_at, drop_at, set_at, change_at, edit_at, whole_edit}
use Rattle.ls_record.proofs.ReaderLemmas.{IsBytes, IsReader, Nothing, Joined, reading, done_reader, bind_reader, reader_is, chosen_reader}
use Rattle.ls_record.proofs.FieldReaders.{IsText4, IsByte, reader_4, byte_reader}
use Rattle.ls_record.proofs.RowReaders.{IsBeside, IsRowText, row_if, row_reader}
use Rattle.ls_record.proofs.RowRules.{beside_apart, apart_beside}
use Rattle.ls_record.proofs.RecordReaders.{IsGoodArmed, armed_reader, to_arming_rule, from_arming_rule, small_user, is_alone}

-- ---- a row that is put

record IsGoodPut (plain : Bool) (rows : List UserRow) (row : UserRow) : Type 0 where
  small : row.user < 2 ^ 32
  room : has_room rows row.user ≡ true
  beside : IsBeside plain rows row.user row

abbrev IsPutText : Bool → List UserRow → Edit → List ℕ → Type 0
IsPutText plain rows e text = (row : UserRow) × (e ≡ PutRow row) × IsGoodPut plain rows row × (text ≡ be32 row.user ++ row_if plain row)

abbrev ArePutFields : Bool → List UserRow → Edit → List ℕ → Type 0
ArePutFields plain rows = Joined (IsText4 (has_room rows) any) (λ user. Joined (IsRowText plain rows user) (λ row. Nothing (PutRow row)))

to_put : (plain : Bool) (rows : List UserRow) (e : Edit) (text : List ℕ) → ArePutFields plain rows e text → IsPutText plain rows e text
to_put plain rows e text h =
    let r = h.back_is in
    let row = r.first in
    let user_is : h.first ≡ row.user = sym r.front_is.0.user_is in (
      row,
      r.back_is.0,
      record {
        small = subst (λ (u : ℕ). u < 2 ^ 32) user_is h.front_is.small;
        room = ap (has_room rows) (sym user_is) ∙ h.front_is.good;
        beside = subst (λ (u : ℕ). IsBeside plain rows u row) user_is r.front_is.0;
      },
      h.is ∙ (λ i. h.front_is.is i ++ r.is i) ∙ (λ i. be32 (user_is i) ++ (r.front_is.1 i ++ r.back_is.1 i)) ∙ (λ i. be32 row.user ++ append-nil (row_if plain row) i),
    )

from_put : (plain : Bool) (rows : List UserRow) (e : Edit) (text : List ℕ) → IsPutText plain rows e text → ArePutFields plain rows e text
from_put plain rows e text (row, e_is, good, is) = record {
  first = row.user;
  front = be32 row.user;
  back = row_if plain row ++ [];
  front_is = record { small = good.small; good = good.room; ordered = refl; is = refl };
  back_is = record { first = row; front = row_if plain row; back = []; front_is = (good.beside, refl); back_is = (e_is, refl); is = refl };
  is = is ∙ (λ i. be32 row.user ++ sym (append-nil (row_if plain row)) i);
}

put_reader : (format : ℕ) (rows : List UserRow) → IsReader (IsPutText (eqb format 1) rows) (put_at format rows)
unfolding put_at
put_reader format rows =
    reader_is (ArePutFields (eqb format 1) rows) (IsPutText (eqb format 1) rows) (put_at format rows) (to_put (eqb format 1) rows) (from_put (eqb format 1) rows)
    (bind_reader _ _ (number 4 (has_room rows) any) _ (reader_4 (has_room rows) any) (λ user. bind_reader _ _ (row_at format rows user) _ (row_reader format rows user) (λ row. done_reader (PutRow row))))

-- ---- a row that is dropped, and an arming that is set

abbrev IsDropText : List UserRow → Edit → List ℕ → Type 0
IsDropText rows = Joined (IsText4 any (has_row rows)) (λ user. Nothing (DropRow user))

drop_reader : (rows : List UserRow) → IsReader (IsDropText rows) (drop_at rows)
drop_reader rows = bind_reader (IsText4 any (has_row rows)) (λ user. Nothing (DropRow user)) (number 4 any (has_row rows)) (λ user. done (DropRow user)) (reader_4 any (has_row rows)) (λ user. done_reader (DropRow user))

abbrev IsSetText : List UserRow → Edit → List ℕ → Type 0
IsSetText rows = Joined (λ a text. IsGoodArmed rows a × (text ≡ armed_bytes a)) (λ a. Nothing (SetArmed a))

set_reader : (rows : List UserRow) → IsReader (IsSetText rows) (set_at rows)
set_reader rows = bind_reader (λ a text. IsGoodArmed rows a × (text ≡ armed_bytes a)) (λ a. Nothing (SetArmed a)) (armed_at rows) (λ a. done (SetArmed a)) (armed_reader rows) (λ a. done_reader (SetArmed a))

-- ---- a change

abbrev clear : Edit
clear = ClearArmed

abbrev IsChangeText : ℕ → ℕ → List UserRow → Edit → List ℕ → Type 0
IsChangeText kind format rows e text =
    MatchBool (eqb kind 1) (IsPutText (eqb format 1) rows e text)
    (MatchBool (eqb kind 2) (IsDropText rows e text) (MatchBool (eqb kind 3) (IsSetText rows e text) (Nothing clear e text)))

change_reader : (kind format : ℕ) (rows : List UserRow) → IsReader (IsChangeText kind format rows) (change_at kind format rows)
change_reader kind format rows =
    chosen_reader (IsPutText (eqb format 1) rows) (λ e text. MatchBool (eqb kind 2) (IsDropText rows e text) (MatchBool (eqb kind 3) (IsSetText rows e text) (Nothing clear e text)))
    (put_at format rows) (cond (eqb kind 2) (drop_at rows) (cond (eqb kind 3) (set_at rows) (done clear))) (eqb kind 1) (put_reader format rows)
    (chosen_reader (IsDropText rows) (λ e text. MatchBool (eqb kind 3) (IsSetText rows e text) (Nothing clear e text))
    (drop_at rows) (cond (eqb kind 3) (set_at rows) (done clear)) (eqb kind 2) (drop_reader rows)
    (chosen_reader (IsSetText rows) (Nothing clear) (set_at rows) (done clear) (eqb kind 3) (set_reader rows) (done_reader clear)))

abbrev is_kind : ℕ → Bool
is_kind n = leb 1 n && leb n 4

abbrev IsAnyText : ℕ → List UserRow → Edit → List ℕ → Type 0
IsAnyText format rows = Joined (IsByte is_kind) (λ kind. IsChangeText kind format rows)

any_reader : (format : ℕ) (rows : List UserRow) → IsReader (IsAnyText format rows) (edit_at format rows)
unfolding edit_at
any_reader format rows =
    bind_reader (IsByte is_kind) (λ kind. IsChangeText kind format rows) (byte is_kind) (λ kind. change_at kind format rows) (byte_reader is_kind) (λ kind. change_reader kind format rows)

module _ (format : ℕ) (r : Rec) (rows_are : AllByRecursion IsRow r.users) where
  plain : Bool
  plain = eqb format 1

  put_text : (text : List ℕ) (row : UserRow) → IsGoodPut (eqb format 1) r.users row → text ≡ 1 ∷ (be32 row.user ++ row_if (eqb format 1) row) → IsEditText format r text (PutRow row)
  put_text text row good is =
      let found = beside_apart (eqb format 1) r.users row.user row good.small good.beside in
      record { may = (found.0.0, good.room, found.1); fits = λ e. found.0.1 (eq-eqb format 1 e); is = sym is }

  drop_text : (text : List ℕ) (user : ℕ) → has_row r.users user ≡ true → text ≡ 2 ∷ be32 user → IsEditText format r text (DropRow user)
  drop_text text user row is = record { may = row; fits = tt; is = sym is }

  set_text : (text : List ℕ) (a : Arming) → IsGoodArmed r.users a → text ≡ 3 ∷ armed_bytes a → IsEditText format r text (SetArmed a)
  set_text text a good is = record { may = to_arming_rule r.users (Some a) good; fits = tt; is = sym is }

  clear_text : (text : List ℕ) → text ≡ 4 ∷ [] → IsEditText format r text ClearArmed
  clear_text text is = record { may = tt; fits = tt; is = sym is }

  -- what stands behind each kind
  by_kind : (kind : ℕ) → is_kind kind ≡ true → (e : Edit) (front back text : List ℕ) → front ≡ kind ∷ [] → IsChangeText kind format r.users e back → text ≡ front ++ back → IsEditText format r text e
  by_kind zero h e front back text front_is back_is is = absurd (let bad : 1 ≤ 0 = leb-true 1 0 (and_parts (leb 1 0) (leb 0 4) h).0 in omega arith)
  by_kind (suc zero) h e front back text front_is (row, e_is, good, back_text) is =
      subst (IsEditText format r text) (sym e_is) (put_text text row good (is ∙ (λ i. front_is i ++ back_text i)))
  by_kind (suc (suc zero)) h e front back text front_is back_is is =
      subst (IsEditText format r text) (sym back_is.back_is.0)
      (drop_text text back_is.first back_is.front_is.ordered
      (is ∙ (λ i. front_is i ++ back_is.is i) ∙ (λ i. 2 ∷ (back_is.front_is.is i ++ back_is.back_is.1 i)) ∙ (λ i. 2 ∷ append-nil (be32 back_is.first) i)))
  by_kind (suc (suc (suc zero))) h e front back text front_is back_is is =
      subst (IsEditText format r text) (sym back_is.back_is.0)
      (set_text text back_is.first back_is.front_is.0
      (is ∙ (λ i. front_is i ++ back_is.is i) ∙ (λ i. 3 ∷ (back_is.front_is.1 i ++ back_is.back_is.1 i)) ∙ (λ i. 3 ∷ append-nil (armed_bytes back_is.first) i)))
  by_kind (suc (suc (suc (suc zero)))) h e front back text front_is back_is is =
      subst (IsEditText format r text) (sym back_is.0) (clear_text text (is ∙ (λ i. front_is i ++ back_is.1 i)))
  by_kind (suc (suc (suc (suc (suc n))))) h e front back text front_is back_is is =
      absurd (let bad : suc (suc (suc (suc (suc n)))) ≤ 4 = leb-true (suc (suc (suc (suc (suc n))))) 4 (and_parts (leb 1 (suc (suc (suc (suc (suc n)))))) (leb (suc (suc (suc (suc (suc n))))) 4) h).1 in omega arith)

  to_edit : (e : Edit) (text : List ℕ) → IsAnyText format r.users e text → IsEditText format r text e
  to_edit e text h = by_kind h.first h.front_is.good e h.front h.back text h.front_is.is h.back_is h.is

  from_edit : (e : Edit) (text : List ℕ) → IsEditText format r text e → IsAnyText format r.users e text
  from_edit (PutRow row) text h = record {
    first = 1;
    front = 1 ∷ [];
    back = be32 row.user ++ row_if (eqb format 1) row;
    front_is = record { small = omega arith; good = refl; is = refl };
    back_is = (
      row,
      refl,
      record {
        small = h.may.0.user;
        room = h.may.1;
        beside = apart_beside (eqb format 1) r.users row.user row refl (h.may.0, λ t. h.fits (eqb-true format 1 t)) h.may.2;
      },
      refl,
    );
    is = sym h.is;
  }
  from_edit (DropRow user) text h = record {
    first = 2;
    front = 2 ∷ [];
    back = be32 user ++ [];
    front_is = record { small = omega arith; good = refl; is = refl };
    back_is = record {
      first = user;
      front = be32 user;
      back = [];
      front_is = record { small = small_user r.users user rows_are h.may; good = refl; ordered = h.may; is = refl };
      back_is = (refl, refl);
      is = refl;
    };
    is = sym h.is ∙ (λ i. 2 ∷ sym (append-nil (be32 user)) i);
  }
  from_edit (SetArmed a) text h = record {
    first = 3;
    front = 3 ∷ [];
    back = armed_bytes a ++ [];
    front_is = record { small = omega arith; good = refl; is = refl };
    back_is = record {
      first = a;
      front = armed_bytes a;
      back = [];
      front_is = (from_arming_rule r.users rows_are (Some a) h.may, refl);
      back_is = (refl, refl);
      is = refl;
    };
    is = sym h.is ∙ (λ i. 3 ∷ sym (append-nil (armed_bytes a)) i);
  }
  from_edit ClearArmed text h = record {
    first = 4;
    front = 4 ∷ [];
    back = [];
    front_is = record { small = omega arith; good = refl; is = refl };
    back_is = (refl, refl);
    is = sym h.is;
  }

  edit_reader : IsReader (λ e text. IsEditText format r text e) (edit_at format r.users)
  edit_reader = reader_is (IsAnyText format r.users) (λ e text. IsEditText format r text e) (edit_at format r.users) to_edit from_edit (any_reader format r.users)

  -- what is read is a change that may be made, and its text
  pub edit_takes : (bytes : List ℕ) (e : Edit) → IsBytes bytes → whole_edit format r.users bytes ≡ Ok e → IsEditText format r bytes e
  edit_takes bytes e fits h =
      let found = is_alone (edit_at format r.users (front_of bytes)) e h in
      let took = edit_reader.takes (front_of bytes) found.rest e fits found.was in
      let whole : bytes ≡ took.text = took.left ∙ (λ i. took.text ++ found.ended i) ∙ append-nil took.text in
      subst (λ (b : List ℕ). IsEditText format r b e) (sym whole) took.is

  -- the text of a change is read as that change
  pub edit_again : (bytes : List ℕ) (e : Edit) → IsEditText format r bytes e → whole_edit format r.users bytes ≡ Ok e
  edit_again bytes e is =
      let read = edit_reader.again e bytes is [] 0 in
      ap (λ (b : List ℕ). alone (edit_at format r.users (reading b 0))) (sym (append-nil bytes)) ∙ ap alone read

-- ---- a change that is read

alone_tells : (p : Result (Edit × Reading) RecordFault) (e : RecordFault) → Tells p e → Tells (alone p) e
alone_tells p (Short at) h = rw h refl
alone_tells p (Order at) h = rw h refl
alone_tells p (Limit at) h = rw h refl
alone_tells p (Extra at) h = rw h refl
alone_tells p Memory h = tt

module _ (format : ℕ) (rows : List UserRow) (bytes : List ℕ) (s : Reading) (start : s ≡ front_of bytes) where
  begun : whole_edit format rows bytes ≡ alone (edit_at format rows s)
  begun = ap (λ (x : Reading). alone (edit_at format rows x)) (sym start)

  pub edit_fails : (e : RecordFault) → Tells (edit_at format rows s) e → Tells (whole_edit format rows bytes) e
  edit_fails e h = subst (λ (r : Result Edit RecordFault). Tells r e) (sym begun) (alone_tells (edit_at format rows s) e h)

  module _ (e : Edit) (t : Reading) (read : edit_at format rows s ≡ Ok (e, t)) where
    whole : whole_edit format rows bytes ≡ alone (Ok (e, t))
    whole = begun ∙ ap alone read

    pub edit_read : t.left ≡ [] → whole_edit format rows bytes ≡ Ok e
    edit_read ended = whole ∙ rw ended refl

    pub edit_more : (t.left ≡ [] → ⊥) → whole_edit format rows bytes ≡ Err (Extra t.at)
    edit_more more = whole ∙ rw (ne_eqb (length t.left) 0 (λ none. more (nil_from_length t.left none))) refl
