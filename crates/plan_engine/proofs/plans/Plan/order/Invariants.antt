use Rattle.std.proofs.Common.{◌≡◌, take}
use Rattle.std.specs.List.{flat_map}
use Rattle.plan_engine.specs.Plans.{stage_order}
use Rattle.plan_engine.proofs.plans.Plan.order.Given as goal

abbrev pub invariant-loop-groups : goal.invariant-loop-groups
invariant-loop-groups l = l.ids.items ≡ flat_map (λ stage. stage_order stage.items) (take l.groups-index l.self.stages.items)
