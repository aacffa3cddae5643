use Rattle.std.proofs.Common.{◌≡◌, ◌∙◌, arith, refl}
use Rattle.ls_gcm.specs.Aes.{encrypted, rounds}
use Rattle.ls_gcm.proofs.aes.encrypted.Goals as goal

pub returns : goal.returns
unfolding encrypted
returns c =
    let done : c.rounds.n ≡ 13 = omega arith in
    let before : c.column_bytes.result ≡ rounds c.args.w.now c.args.b.now c.rounds.n = c.column_bytes.ensures ∙ c.rounds.invariant in
    rw (c.last_round.ensures, before, c.round_key-2.ensures.value, done) refl
