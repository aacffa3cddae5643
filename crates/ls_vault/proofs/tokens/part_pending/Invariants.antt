use Rattle.std.proofs.Common.{◌≡◌, ◌++◌, map, take, drop}
use Rattle.ls_vault.specs.Tokens.{pending_of, without_first, activated}
use Rattle.ls_vault.proofs.tokens.part_pending.Given as goal

-- what is done and what is left are all
abbrev pub invariant-loop-p : goal.invariant-loop-p
invariant-loop-p l = record {
  active : l.active ++ map activated (take l.left (pending_of (drop l.p-index l.pending) l.user)) ≡ map activated (take l.k (pending_of l.pending l.user));
  pending : l.others ++ without_first l.left (drop l.p-index l.pending) l.user ≡ without_first l.k l.pending l.user;
}
