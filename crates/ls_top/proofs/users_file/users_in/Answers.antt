use Rattle.std.proofs.Common.{ap, length, ◌∙◌, sym, subst, List, ℕ, Some}
use Rattle.ls_top.specs.Vault.{IsVault}
use Rattle.ls_top.proofs.FileLemmas.{length-file, fields_of}
use Rattle.ls_top.proofs.users_file.users_in.Goals as goal

pub returns-then-bytes-ne-FILE_LEN : goal.returns-then-bytes-ne-FILE_LEN
returns-then-bytes-ne-FILE_LEN c = record { only = λ users vault is. absurd (c.if-bytes-ne-FILE_LEN.true (ap length is ∙ length-file users vault)) }

pub returns : goal.returns
returns c = record {
  only = λ users vault is.
      let same = c.in_ok-numbers.ensures.numbers users vault.numbers (fields_of users vault c.args.bytes.now is) in
      c.of.ensures.only (subst IsVault (sym same) vault) ∙ ap (λ (l : List ℕ). Some l) same;
}
