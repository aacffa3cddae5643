use Rattle.ls_unsealing.proofs.StoredLemmas.{read_pwd, is_pwd_file}
use Rattle.ls_unsealing.proofs.credential.stored_pwd.Goals as goal

pub returns-clause-found : goal.returns-clause-found
returns-clause-found c =
    let read = c.in-Ok.ensures.exact in
    let says = c.says.ensures.same.0 c.if-not-says.false in (
      read_pwd c.args.file.now c.in-Ok.pwd read.0 read.1,
      is_pwd_file c.args.weaver c.args.kind c.args.file.now c.in-Ok.pwd read.0 read.1 says.0 says.1,
    )
