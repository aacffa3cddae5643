use Rattle.std.proofs.Common.{subst}
use Rattle.std.specs.List.{AllByRecursion}
use Rattle.ls_record.specs.Rows.{Rec}
use Rattle.ls_protector.specs.Clear.{NamesParts}
use Rattle.ls_session.proofs.KnownLemmas.{all_named, known_err, known_ok, known_lacks, settled_there}
use Rattle.ls_session.proofs.checking.known.Goals as goal

pub returns-in-Err-clause-checks : goal.returns-in-Err-clause-checks
returns-in-Err-clause-checks g c = known_err c.args.settings.now.settled.rec c.record-holder.result.now c.record-holder.ensures.same (g.B.Board.sight c.args.board.now) (g.B.Board.sight c.check_files.new.board) (g.B.Board.sight c.keep_all.new.board) c.in_ok-check_files.field-0 c.in-Err.refusal c.in_ok-check_files.ensures.checks c.in-Err.ensures.checks

pub find_all-requires-clause-named : goal.find_all-requires-clause-named
find_all-requires-clause-named g c = subst (λ (r : Rec). AllByRecursion (NamesParts r) c.in-Ok.parts) c.record-holder.ensures.same
    (all_named c.record-holder.result.now (g.B.Board.sight c.check_files.new.board).slots c.in-Ok.parts c.in-Ok.ensures.kept)

pub find_all-requires-clause-settled : goal.find_all-requires-clause-settled
find_all-requires-clause-settled g c = settled_there c.args.settings.now.settled.rec c.record-holder.result.now c.record-holder.ensures.same (g.B.Board.sight c.args.board.now) (g.B.Board.sight c.check_files.new.board) (g.B.Board.sight c.keep_all.new.board) c.in_ok-check_files.field-0 c.in-Ok.parts c.in-Ok.parts c.in_ok-check_files.ensures.checks c.in-Ok.ensures.checks
    c.requires.untouched c.in-Ok.ensures.named

pub returns-in-Ok-find_all-clause-checks : goal.returns-in-Ok-find_all-clause-checks
returns-in-Ok-find_all-clause-checks g c = known_ok c.args.settings.now.settled.rec c.record-holder.result.now c.record-holder.ensures.same (g.B.Board.sight c.args.board.now) (g.B.Board.sight c.check_files.new.board) (g.B.Board.sight c.keep_all.new.board) c.in_ok-check_files.field-0 c.in-Ok.parts c.in-Ok-find_all.named c.in_ok-check_files.ensures.checks c.in-Ok.ensures.checks

pub returns-in-Err-find_all-clause-checks : goal.returns-in-Err-find_all-clause-checks
returns-in-Err-find_all-clause-checks g c = known_lacks c.args.settings.now.settled.rec c.record-holder.result.now c.record-holder.ensures.same (g.B.Board.sight c.args.board.now) (g.B.Board.sight c.check_files.new.board) (g.B.Board.sight c.keep_all.new.board) c.in_ok-check_files.field-0 c.in-Ok.parts c.in_ok-check_files.ensures.checks c.in-Ok.ensures.checks
