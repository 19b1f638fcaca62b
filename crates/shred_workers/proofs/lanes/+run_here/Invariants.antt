use Rattle.std.proofs.Common.{length}
use Rattle.shred_workers.proofs.lanes.+run_here.Given as goal

abbrev pub decreases-run_here : goal.decreases-run_here
decreases-run_here g l = length l.lanes.now
