use Rattle.std.proofs.Common.{List, sym, subst}
use Rattle.std.specs.List.{Contains}
use Rattle.ls_formats.specs.declared.parts.Parts.{Parts}
use Rattle.ls_standing.specs.Named.{credential_of}
use Rattle.ls_unlocking.proofs.PartLemmas.{credential_named, there, its_slot}
use Rattle.ls_unlocking.proofs.attempts.try_user.Goals as goal

pub parts_of-parts-requires : goal.parts_of-parts-requires
parts_of-parts-requires g c =
    let kept = there (g.B.Board.sight c.args.board.now) c.args.x.now c.requires.can c.requires.rules (credential_of c.args.row.now)
    (credential_named c.args.x.now.settings.settled.rec c.args.row.now c.requires.row) in
    record { there = (kept.0, subst (λ (l : List Parts). Contains l kept.0) (sym c.deref.ensures.value) kept.1, kept.2) }

pub try_credential-tried-requires-clause-slot : goal.try_credential-tried-requires-clause-slot
try_credential-tried-requires-clause-slot g c =
    its_slot (g.B.Board.sight c.args.board.now) c.args.x.now c.requires.can c.requires.rules c.parts_of-parts.result.now
    (subst (λ (l : List Parts). Contains l c.parts_of-parts.result.now) c.deref.ensures.value c.parts_of-parts.ensures.kept)
