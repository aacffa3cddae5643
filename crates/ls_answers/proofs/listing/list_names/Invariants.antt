use Rattle.std.proofs.Common.{take}
use Rattle.ls_bytes.specs.Names.{IsName}
use Rattle.ls_board.specs.Listing.{line_of}
use Rattle.ls_answers.proofs.ListingLemmas.{Listed}
use Rattle.ls_answers.proofs.listing.list_names.Given as goal

abbrev pub invariant-loop-at : goal.invariant-loop-at
invariant-loop-at l = Listed line_of IsName (take l.at l.files) l.out.items
