use Rattle.std.proofs.Common.{◌≡◌, take}
use Rattle.std.specs.List.{sum_by}
use Rattle.plan_engine.specs.Lanes.{time_of}
use Rattle.plan_engine.proofs.lanes.lane_time.Given as goal

abbrev pub invariant-loop-id : goal.invariant-loop-id
invariant-loop-id l = l.time ≡ sum_by (time_of l.entries) (take l.id-index l.lane)
