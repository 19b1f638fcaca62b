use Rattle.std.proofs.Common.{take}
use Rattle.std.specs.List.{AllZip}
use Rattle.plan_engine.specs.Attempts.{HasPathTime}
use Rattle.plan_engine.proofs.attempts.path_times.Given as goal

abbrev pub invariant-loop-plan : goal.invariant-loop-plan
invariant-loop-plan l = AllZip HasPathTime (take l.plan-index l.plans) l.times.items
