use Rattle.std.proofs.Common.{◌∙◌, arith, refl, rules}
use Rattle.std.proofs.lemmas.Slice.{overwrites}
use Rattle.ls_gcm.proofs.ExpansionLemmas.{begun, expanded_more, finished}
use Rattle.ls_gcm.proofs.expansion.expanded.Goals as goal

pub words-init : goal.words-init
words-init c = begun c.args.key.now _ _ c.copy_from_slice.ensures.after (omega arith) refl

pub words-preserved : goal.words-preserved
words-preserved c = (
  search (rules, overwrites),
  expanded_more c.args.key.now c.words.w _ c.words.n _ c.words.invariant.1 (omega arith) (omega arith)
      (c.copy_from_slice-in-words.ensures.after ∙ c.next_word-next.ensures),
)

pub returns : goal.returns
returns c = finished c.args.key.now c.words.w c.words.n c.words.invariant.0 c.words.invariant.1 (omega arith)
