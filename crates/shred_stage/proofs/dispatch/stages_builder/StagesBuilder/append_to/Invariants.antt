use Rattle.std.proofs.Common.{◌≡◌, ◌++◌, take}
use Rattle.std.specs.List.{flat_map}
use Rattle.shred_run.specs.Sides.{stage_side}
use Rattle.shred_stage.specs.StagePlan.{plan_of}
use Rattle.shred_stage.proofs.dispatch.stages_builder.StagesBuilder.append_to.Given as goal

abbrev pub invariant-loop-place : goal.invariant-loop-place
invariant-loop-place g l = l.ids.items ≡ l.initial.ids.items ++ flat_map (stage_side l.side) (plan_of (take l.place l.self.stages.items))
