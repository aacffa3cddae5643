use Rattle.std.proofs.Common.{length}
use Rattle.ls_naming.proofs.files.+add_all_token_files.Given as goal

abbrev pub decreases-add_all_token_files : goal.decreases-add_all_token_files
decreases-add_all_token_files l = length l.ids.now
