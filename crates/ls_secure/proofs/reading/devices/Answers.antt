use Rattle.std.proofs.Common.{◌≡◌, ◌∙◌, ◌++◌, sym}
use Rattle.std.proofs.lemmas.Result.{err_from_is_err_and}
use Rattle.ls_secure.specs.Secure.{slots_part, records_part, keys_part, cell_bytes}
use Rattle.ls_secure.proofs.ReadingLemmas.{inside, given, lacked, regroup_5}
use Rattle.ls_secure.proofs.reading.devices.Goals as goal

pub returns-in_err-records : goal.returns-in_err-records
returns-in_err-records c = record {
  gives = λ k rest fits is.
      let slots = given (λ x. (x ≡ k.slots) × (c.slots.new.reader.left ≡ k.gk_key ++ (records_part k.records ++ (keys_part k.keys ++ (cell_bytes k.cell ++ rest))))) c.slots.result c.in_ok-slots.slots c.in_ok-slots.was
      (c.slots.ensures.gives k.slots (k.gk_key ++ (records_part k.records ++ (keys_part k.keys ++ (cell_bytes k.cell ++ rest)))) fits.few fits.slots (is ∙ regroup_5 (slots_part k.slots) k.gk_key (records_part k.records) (keys_part k.keys) (cell_bytes k.cell) rest)) in
      let gk_key = c.array_32.ensures.gives k.gk_key (records_part k.records ++ (keys_part k.keys ++ (cell_bytes k.cell ++ rest))) fits.gk_key slots.1 in
      let records_given = c.records.ensures.gives k.records (keys_part k.keys ++ (cell_bytes k.cell ++ rest)) fits.record_table fits.records gk_key.1 in
      let lacks = lacked (λ x. (x ≡ k.records) × (c.records.new.reader.left ≡ keys_part k.keys ++ (cell_bytes k.cell ++ rest))) c.records.result c.in_err-records.field-0.0 c.in_err-records.was records_given in
      let p = err_from_is_err_and c.from_residual-in_err-records.result c.from_residual-in_err-records.ensures.1 in
      rw (p.1, p.2) lacks;
}

pub returns-in_err-keys : goal.returns-in_err-keys
returns-in_err-keys c = record {
  gives = λ k rest fits is.
      let slots = given (λ x. (x ≡ k.slots) × (c.slots.new.reader.left ≡ k.gk_key ++ (records_part k.records ++ (keys_part k.keys ++ (cell_bytes k.cell ++ rest))))) c.slots.result c.in_ok-slots.slots c.in_ok-slots.was
      (c.slots.ensures.gives k.slots (k.gk_key ++ (records_part k.records ++ (keys_part k.keys ++ (cell_bytes k.cell ++ rest)))) fits.few fits.slots (is ∙ regroup_5 (slots_part k.slots) k.gk_key (records_part k.records) (keys_part k.keys) (cell_bytes k.cell) rest)) in
      let gk_key = c.array_32.ensures.gives k.gk_key (records_part k.records ++ (keys_part k.keys ++ (cell_bytes k.cell ++ rest))) fits.gk_key slots.1 in
      let records_given = c.records.ensures.gives k.records (keys_part k.keys ++ (cell_bytes k.cell ++ rest)) fits.record_table fits.records gk_key.1 in
      let records = given (λ x. (x ≡ k.records) × (c.records.new.reader.left ≡ keys_part k.keys ++ (cell_bytes k.cell ++ rest))) c.records.result c.in_ok-records.records c.in_ok-records.was records_given in
      let keys_given = c.keys.ensures.gives k.keys (cell_bytes k.cell ++ rest) fits.key_table fits.keys records.1 in
      let lacks = lacked (λ x. (x ≡ k.keys) × (c.keys.new.reader.left ≡ cell_bytes k.cell ++ rest)) c.keys.result c.in_err-keys.field-0.0 c.in_err-keys.was keys_given in
      let p = err_from_is_err_and c.from_residual-in_err-keys.result c.from_residual-in_err-keys.ensures.1 in
      rw (p.1, p.2) lacks;
}

pub returns-in_err-cell : goal.returns-in_err-cell
returns-in_err-cell c = record {
  gives = λ k rest fits is.
      let slots = given (λ x. (x ≡ k.slots) × (c.slots.new.reader.left ≡ k.gk_key ++ (records_part k.records ++ (keys_part k.keys ++ (cell_bytes k.cell ++ rest))))) c.slots.result c.in_ok-slots.slots c.in_ok-slots.was
      (c.slots.ensures.gives k.slots (k.gk_key ++ (records_part k.records ++ (keys_part k.keys ++ (cell_bytes k.cell ++ rest)))) fits.few fits.slots (is ∙ regroup_5 (slots_part k.slots) k.gk_key (records_part k.records) (keys_part k.keys) (cell_bytes k.cell) rest)) in
      let gk_key = c.array_32.ensures.gives k.gk_key (records_part k.records ++ (keys_part k.keys ++ (cell_bytes k.cell ++ rest))) fits.gk_key slots.1 in
      let records_given = c.records.ensures.gives k.records (keys_part k.keys ++ (cell_bytes k.cell ++ rest)) fits.record_table fits.records gk_key.1 in
      let records = given (λ x. (x ≡ k.records) × (c.records.new.reader.left ≡ keys_part k.keys ++ (cell_bytes k.cell ++ rest))) c.records.result c.in_ok-records.records c.in_ok-records.was records_given in
      let keys_given = c.keys.ensures.gives k.keys (cell_bytes k.cell ++ rest) fits.key_table fits.keys records.1 in
      let keys = given (λ x. (x ≡ k.keys) × (c.keys.new.reader.left ≡ cell_bytes k.cell ++ rest)) c.keys.result c.in_ok-keys.keys c.in_ok-keys.was keys_given in
      let cell = c.cell.ensures.gives k.cell rest fits.cell keys.1 in
      absurd (cc (c.in_err-cell.was, cell.0));
}

pub returns : goal.returns
returns c = record {
  gives = λ k rest fits is.
      let slots = given (λ x. (x ≡ k.slots) × (c.slots.new.reader.left ≡ k.gk_key ++ (records_part k.records ++ (keys_part k.keys ++ (cell_bytes k.cell ++ rest))))) c.slots.result c.in_ok-slots.slots c.in_ok-slots.was
      (c.slots.ensures.gives k.slots (k.gk_key ++ (records_part k.records ++ (keys_part k.keys ++ (cell_bytes k.cell ++ rest)))) fits.few fits.slots (is ∙ regroup_5 (slots_part k.slots) k.gk_key (records_part k.records) (keys_part k.keys) (cell_bytes k.cell) rest)) in
      let gk_key = c.array_32.ensures.gives k.gk_key (records_part k.records ++ (keys_part k.keys ++ (cell_bytes k.cell ++ rest))) fits.gk_key slots.1 in
      let records_given = c.records.ensures.gives k.records (keys_part k.keys ++ (cell_bytes k.cell ++ rest)) fits.record_table fits.records gk_key.1 in
      let records = given (λ x. (x ≡ k.records) × (c.records.new.reader.left ≡ keys_part k.keys ++ (cell_bytes k.cell ++ rest))) c.records.result c.in_ok-records.records c.in_ok-records.was records_given in
      let keys_given = c.keys.ensures.gives k.keys (cell_bytes k.cell ++ rest) fits.key_table fits.keys records.1 in
      let keys = given (λ x. (x ≡ k.keys) × (c.keys.new.reader.left ≡ cell_bytes k.cell ++ rest)) c.keys.result c.in_ok-keys.keys c.in_ok-keys.was keys_given in
      let cell = c.cell.ensures.gives k.cell rest fits.cell keys.1 in
      let is_key = c.of.ensures.key ∙ inside c.array_32.result c.in_ok-gk_key.gk_key k.gk_key c.in_ok-gk_key.was gk_key.0 in
      let is_records = c.of.ensures.records ∙ records.0 in
      let is_keys = c.of-2.ensures.keys ∙ keys.0 in
      let is_cell = inside c.cell.result c.in_ok-cell.cell k.cell c.in_ok-cell.was cell.0 in
      (λ i. record { slots = slots.0 i; gk_key = is_key i; records = is_records i; keys = is_keys i; cell = is_cell i }, cell.1);
}
