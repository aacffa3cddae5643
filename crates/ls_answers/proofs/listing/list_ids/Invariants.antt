use Rattle.std.proofs.Common.{◌<◌, ◌^◌, take}
use Rattle.ls_bytes.specs.Fields.{be64}
use Rattle.ls_answers.proofs.ListingLemmas.{Listed}
use Rattle.ls_answers.proofs.listing.list_ids.Given as goal

abbrev pub invariant-loop-at : goal.invariant-loop-at
invariant-loop-at g l = Listed be64 (λ number. number < 2 ^ 64) (take l.at l.rows.rows) l.out.items
