use Rattle.std.proofs.Common.{◌≡◌, ◌++◌, take}
use Rattle.plan_engine.specs.Plans.{stage_order}
use Rattle.plan_engine.proofs.plans.append_stage.Given as goal

abbrev pub invariant-loop-group : goal.invariant-loop-group
invariant-loop-group l = l.ids.items ≡ l.initial.ids.items ++ stage_order (take l.group-index l.groups)
