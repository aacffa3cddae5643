use Rattle.ls_sealing.specs.Protectors.{credential}
use Rattle.ls_standing.specs.Named.{credential_of}
use Rattle.ls_session.proofs.ZipLemmas.{kept_last, at_place}
use Rattle.ls_session.proofs.keeping.keep_credential.Goals as goal

pub returns-clause-zip : goal.returns-clause-zip
returns-clause-zip g c = λ done all. kept_last c.args.slots c.args.kept c.in-Ok.parts c.push.new.self (credential_of c.args.row.now) c.in_ok-one.one done
    c.in-Ok.is c.in_ok-push.ensures.put
    (at_place c.args.slots c.args.row.now.user c.args.row.now.protector (credential c.args.row.now.kind) c.in_ok-place.field-0 c.in-Some.place c.in_ok-one.one
    c.in-Some.is c.in_ok-place.ensures.fits c.in_ok-one.ensures.same) all
