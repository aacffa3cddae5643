use Rattle.std.proofs.Common.{arith, rules}
use Rattle.ls_top.proofs.VaultLemmas.{added_vault, added_step}
use Rattle.ls_top.proofs.vault.add.Goals as goal

pub returns-in-Ok-clause-step : goal.returns-in-Ok-clause-step
returns-in-Ok-clause-step c =
    added_step c.args.users.now.items c.insert.new.self.items c.args.user c.requires.vault (search rules) (search rules) (omega arith)

pub returns-in-Ok-clause-vault : goal.returns-in-Ok-clause-vault
returns-in-Ok-clause-vault c =
    added_vault c.args.users.now.items c.insert.new.self.items c.args.user c.requires.vault (search rules) (search rules) (omega arith) (omega arith)
