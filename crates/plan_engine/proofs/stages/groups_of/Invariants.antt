use Rattle.std.proofs.Common.{◌≡◌, take}
use Rattle.shred_stage.specs.StagePlan.{stage_plan}
use Rattle.plan_engine.specs.Stages.{groups_in, ids_of_stage}
use Rattle.plan_engine.proofs.stages.groups_of.Given as goal

abbrev pub invariant-loop-group : goal.invariant-loop-group
invariant-loop-group l = groups_in l.groups ≡ ids_of_stage (take l.group (stage_plan l.stage))
