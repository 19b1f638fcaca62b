use Rattle.std.proofs.Common.{◌≡◌, take}
use Rattle.plan_engine.specs.Lanes.{lane_times}
use Rattle.plan_engine.proofs.lanes.lane_times.Given as goal

abbrev pub invariant-loop-lane : goal.invariant-loop-lane
invariant-loop-lane l = l.times.items ≡ lane_times l.entries (take l.lane-index l.lanes)
