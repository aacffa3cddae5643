use Rattle.std.proofs.Common.{◌≡◌, ◌∙◌, ℕ, sym, ap}
use Rattle.ls_secure.specs.Held.{image_of}
use Rattle.ls_secure.specs.Secure.{front}
use Rattle.ls_dirboard.proofs.KeptLemmas.{whenever}
use Rattle.ls_dirboard.proofs.secure.Secure.write.Goals as goal

pub returns : goal.returns
returns c = record {
  kept = whenever c.sync.result
      (c.in_ok-print.ensures.kept ∙ (c.in_ok-print_front-2.ensures.printed ∙ ap (λ (n : ℕ). front (image_of n c.args.devices.now)) (sym c.in_ok-print.ensures.sequence)));
}
