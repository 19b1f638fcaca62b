use Rattle.std.proofs.Common.{take}
use Rattle.std.specs.List.{AllZip}
use Rattle.plan_engine.specs.Times.{AreStageTimes}
use Rattle.plan_engine.proofs.times.all_stage_times.Given as goal

abbrev pub invariant-loop-lanes : goal.invariant-loop-lanes
invariant-loop-lanes l = AllZip (AreStageTimes l.entries) (take l.lanes-index l.stages) l.all.items
