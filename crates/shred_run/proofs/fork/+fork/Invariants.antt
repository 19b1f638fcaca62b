use Rattle.std.proofs.Common.{◌+◌, ◌*◌, length}
use Rattle.shred_run.proofs.fork.+fork.Given as goal

abbrev pub decreases-join_mut+arg2 : goal.decreases-join_mut+arg2
decreases-join_mut+arg2 g l = 4 * length l.front.now + 2

abbrev pub decreases-join_mut+arg3 : goal.decreases-join_mut+arg3
decreases-join_mut+arg3 g l = 4 * length l.back.now + 2

abbrev pub decreases-run_lanes : goal.decreases-run_lanes
decreases-run_lanes g l = 4 * length l.lanes.now + 1
