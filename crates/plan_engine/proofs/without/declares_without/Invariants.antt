use Rattle.std.proofs.Common.{◌≡◌, take}
use Rattle.std.specs.List.{flat_map}
use Rattle.plan_engine.specs.Without.{declared_without}
use Rattle.plan_engine.proofs.without.declares_without.Given as goal

abbrev pub invariant-loop-step : goal.invariant-loop-step
invariant-loop-step l = l.declares.items ≡ flat_map (declared_without l.left_out) (take l.step-index l.steps)
