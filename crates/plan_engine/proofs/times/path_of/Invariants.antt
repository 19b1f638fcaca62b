use Rattle.std.proofs.Common.{◌≡◌, take}
use Rattle.plan_engine.specs.Times.{longest_lanes}
use Rattle.plan_engine.proofs.times.path_of.Given as goal

abbrev pub invariant-loop-stage : goal.invariant-loop-stage
invariant-loop-stage l = l.path.items ≡ longest_lanes (take l.stage-index l.stages)
