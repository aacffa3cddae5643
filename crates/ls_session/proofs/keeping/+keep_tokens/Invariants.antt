use Rattle.std.specs.Prelude.{length}
use Rattle.ls_session.proofs.keeping.+keep_tokens.Given as goal

abbrev pub decreases-keep_tokens : goal.decreases-keep_tokens
decreases-keep_tokens g l = length l.tokens.now
