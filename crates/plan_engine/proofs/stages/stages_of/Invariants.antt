use Rattle.std.proofs.Common.{◌≡◌, take}
use Rattle.shred_stage.specs.StagePlan.{plan_of}
use Rattle.plan_engine.specs.Stages.{ids_of_plan, stages_in}
use Rattle.plan_engine.proofs.stages.stages_of.Given as goal

abbrev pub invariant-loop-stage : goal.invariant-loop-stage
invariant-loop-stage l = stages_in l.all ≡ ids_of_plan (plan_of (take l.stage-index l.stages))
