use Rattle.std.proofs.Common.{◌≡◌, ◌∙◌, sym, ap}
use Rattle.std.proofs.lemmas.Slice.Eq.{slice_eq-Decides}
use Rattle.std.proofs.lemmas.Bool.Decides.{Decides-eqb}
use Rattle.ls_secure.specs.Secure.{closed}
use Rattle.ls_secure.proofs.reading.is_file_of.Goals as goal

pub returns-clause-same : goal.returns-clause-same
returns-clause-same c =
    let printed = c.as_slice.ensures.value ∙ (c.in_ok-digest_into.ensures.put ∙ ap closed c.in_ok-print_front.ensures.printed) in
    let decides = slice_eq-Decides Decides-eqb c.as_slice.result.now c.args.bytes.now c.eq.result c.eq.ensures in
    (λ yes. sym (decides.0 yes) ∙ printed, λ is. decides.1 (printed ∙ sym is))
