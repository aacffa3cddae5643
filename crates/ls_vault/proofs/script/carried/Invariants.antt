use Rattle.std.proofs.Common.{◌≡◌, ◌++◌, drop}
use Rattle.std.specs.Prelude.{map}
use Rattle.ls_vault.specs.Script.{carried}
use Rattle.ls_vault.proofs.script.carried.Given as goal

abbrev pub invariant-loop-command : goal.invariant-loop-command
invariant-loop-command l =
    (l.replies ++ map (λ e. e.reply) (carried l.slots l.stage (drop l.command-index l.commands)).entries ≡ map (λ e. e.reply) (carried l.slots l.fn.stage l.commands).entries)
    × ((carried l.slots l.stage (drop l.command-index l.commands)).stage ≡ (carried l.slots l.fn.stage l.commands).stage)
