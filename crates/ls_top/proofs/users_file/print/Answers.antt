use Rattle.std.proofs.Common.{rules, ◌≡◌, length, ap, ◌∙◌}
use Rattle.ls_top.specs.UsersFile.{file_of}
use Rattle.ls_top.proofs.FileLemmas.{length-file}
use Rattle.ls_top.proofs.users_file.print.Goals as goal

pub returns-clause-long : goal.returns-clause-long
returns-clause-long c =
    let same : c.put_zeros.new.to ≡ file_of c.args.users.now = search rules in
    ap length same ∙ length-file c.args.users.now c.as_slice-items.ensures.vault
