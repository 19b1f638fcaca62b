use Rattle.std.proofs.Common.{length}
use Rattle.shred_workers.proofs.lanes.+run_lanes.Given as goal

abbrev pub decreases-run_lanes : goal.decreases-run_lanes
decreases-run_lanes g l = length l.places.now
