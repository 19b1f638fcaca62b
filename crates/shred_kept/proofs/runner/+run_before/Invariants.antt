use Rattle.std.proofs.Common.{length}
use Rattle.shred_kept.proofs.runner.+run_before.Given as goal

abbrev pub decreases-run_before : goal.decreases-run_before
decreases-run_before g l = length l.left.now
