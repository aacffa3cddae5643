use Rattle.std.proofs.Common.{◌≡◌, true, false, ℕ, List, Option, None, Some, sym, ◌∙◌, ap}
use Rattle.ls_record.specs.declared.row.UserRow.{UserRow}
use Rattle.ls_record.specs.Rows.{has}
use Rattle.ls_standing.specs.Named.{token_of}
use Rattle.ls_standing.proofs.ProtectorLemmas.{numbers}
use Rattle.ls_turn.proofs.RowLemmas.{row_found}
use Rattle.ls_unlocking.proofs.AttemptLemmas.{same_some, some_protector}
use Rattle.ls_unlocking.proofs.PartLemmas.{token_named}
use Rattle.ls_unlocking.proofs.TokenAttemptLemmas.{id_there, bytes_nobody_serves, bytes_nobody_refuses, no_token_serves, no_token_refuses, bytes_serves, bytes_refuses, bytes_found}
use Rattle.ls_unlocking.proofs.token_attempts.token_attempt.Goals as goal

pub returns-in_default-clause-serves : goal.returns-in_default-clause-serves
returns-in_default-clause-serves g c = bytes_nobody_serves (g.B.Board.sight c.args.board.now) c.args.x.now c.args.user c.args.id c.args.offered.now (sym c.in_default.ensures.same) c.requires.can

pub returns-in_default-clause-refuses : goal.returns-in_default-clause-refuses
returns-in_default-clause-refuses g c = bytes_nobody_refuses (g.B.Board.sight c.args.board.now) c.args.x.now c.args.user c.args.id c.args.offered.now (sym c.in_default.ensures.same)

pub returns-then-not-has-clause-serves : goal.returns-then-not-has-clause-serves
returns-then-not-has-clause-serves g c =
    let none : has c.in-Some.row.now.tokens c.args.id ≡ false = ap (λ (l : List ℕ). has l c.args.id) (sym c.as_slice.ensures.same) ∙ sym c.if-not-has.ensures.same in
    no_token_serves (g.B.Board.sight c.args.board.now) c.args.x.now c.args.user c.args.id c.args.offered.now c.in-Some.row.now (sym c.in-Some.ensures.same) none c.requires.can

pub returns-then-not-has-clause-refuses : goal.returns-then-not-has-clause-refuses
returns-then-not-has-clause-refuses g c =
    let none : has c.in-Some.row.now.tokens c.args.id ≡ false = ap (λ (l : List ℕ). has l c.args.id) (sym c.as_slice.ensures.same) ∙ sym c.if-not-has.ensures.same in
    no_token_refuses (g.B.Board.sight c.args.board.now) c.args.x.now c.args.user c.args.id c.args.offered.now c.in-Some.row.now (sym c.in-Some.ensures.same) none

pub try_bytes-end-requires : goal.try_bytes-end-requires
try_bytes-end-requires g c = record {
  can = c.requires.can;
  rules = c.in-Some.ensures.kept;
  row = (row_found c.args.user c.args.x.now.settings.settled.rec.users c.in-Some.row.now (sym c.in-Some.ensures.same)).0;
  token = ap (λ (l : List ℕ). has l c.args.id) (sym c.as_slice.ensures.same) ∙ sym c.if-not-has.ensures.same;
}

pub finish-requires-clause-credential : goal.finish-requires-clause-credential
finish-requires-clause-credential g c = some_protector c.args.x.now.settings.settled.rec c.in-Some.ensures.kept c.args.user c.in-Some.row.now (sym c.in-Some.ensures.same)

pub finish-requires-clause-tried : goal.finish-requires-clause-tried
finish-requires-clause-tried g c =
    let here = (row_found c.args.user c.args.x.now.settings.settled.rec.users c.in-Some.row.now (sym c.in-Some.ensures.same)).0 in
    let there : has c.in-Some.row.now.tokens c.args.id ≡ true = ap (λ (l : List ℕ). has l c.args.id) (sym c.as_slice.ensures.same) ∙ sym c.if-not-has.ensures.same in
    (numbers c.args.x.now.settings.settled.rec c.in-Some.ensures.kept (token_of c.in-Some.row.now c.args.id)
    (token_named c.args.x.now.settings.settled.rec c.in-Some.row.now here c.args.id (id_there c.in-Some.row.now.tokens c.args.id there))).some

pub returns-clause-serves : goal.returns-clause-serves
returns-clause-serves g c =
    let un = c.try_bytes-end.ensures.unlocks in
    let there : has c.in-Some.row.now.tokens c.args.id ≡ true = ap (λ (l : List ℕ). has l c.args.id) (sym c.as_slice.ensures.same) ∙ sym c.if-not-has.ensures.same in
    bytes_serves (g.B.Board.sight c.args.board.now) c.args.x.now c.args.user c.args.id c.args.offered.now c.in-Some.row.now (sym c.in-Some.ensures.same) there
    c.requires.can c.in-Some.ensures.kept un.0 un.1 un.2 c.try_bytes-end.result (g.B.Board.sight c.try_bytes-end.new.board) un.3
    (g.met.B.Board.tables_are_sorted c.try_bytes-end.new.board) un.4 c.finish.new.x c.finish.result c.finish.ensures.finishes

pub returns-clause-refuses : goal.returns-clause-refuses
returns-clause-refuses g c =
    let there : has c.in-Some.row.now.tokens c.args.id ≡ true = ap (λ (l : List ℕ). has l c.args.id) (sym c.as_slice.ensures.same) ∙ sym c.if-not-has.ensures.same in
    bytes_refuses (g.B.Board.sight c.args.board.now) c.args.x.now c.args.user c.args.id c.args.offered.now c.in-Some.row.now (sym c.in-Some.ensures.same) there
    c.try_bytes-end.result c.try_bytes-end.ensures.late c.finish.result c.finish.new.x (g.B.Board.sight c.try_bytes-end.new.board) c.finish.ensures.finishes

pub returns-in_default-clause-found : goal.returns-in_default-clause-found
returns-in_default-clause-found g c = λ told row p its there has id. absurd (none_some (c.in_default.ensures.same ∙ its))
  where
    none_some : {T : Type 0} {a : T} → ◌≡◌ {A = Option T} None (Some a) → ⊥
    none_some e = cc

pub returns-then-not-has-clause-found : goal.returns-then-not-has-clause-found
returns-then-not-has-clause-found g c = λ told row p its there has_p id.
    let same : c.in-Some.row.now ≡ row = same_some (c.in-Some.ensures.same ∙ its) in
    let none : has c.in-Some.row.now.tokens c.args.id ≡ false = ap (λ (l : List ℕ). has l c.args.id) (sym c.as_slice.ensures.same) ∙ sym c.if-not-has.ensures.same in
    absurd (true_false (sym there ∙ (sym (ap (λ (r : UserRow). has r.tokens c.args.id) same) ∙ none)))
  where
    true_false : true ≡ false → ⊥
    true_false e = cc

pub returns-clause-found : goal.returns-clause-found
returns-clause-found g c = λ told row p its yes_there has_p id.
    let un = c.try_bytes-end.ensures.unlocks in
    let there : has c.in-Some.row.now.tokens c.args.id ≡ true = ap (λ (l : List ℕ). has l c.args.id) (sym c.as_slice.ensures.same) ∙ sym c.if-not-has.ensures.same in
    bytes_found (g.B.Board.sight c.args.board.now) c.args.x.now c.args.user c.args.id c.args.offered.now c.in-Some.row.now (sym c.in-Some.ensures.same) there
    c.requires.can c.in-Some.ensures.kept un.0 un.1 un.2 c.try_bytes-end.result (g.B.Board.sight c.try_bytes-end.new.board) un.3
    (g.met.B.Board.tables_are_sorted c.try_bytes-end.new.board) un.4 c.finish.new.x c.finish.result c.finish.ensures.finishes told row p its has_p id
