use Rattle.std.proofs.Common.{◌≡◌, map, take}
use Rattle.shred_stage.specs.StagePlan.{stage_plan, widest}
use Rattle.shred_stage.proofs.dispatch.plan.Plan.max_threads.Given as goal

abbrev pub invariant-loop-place : goal.invariant-loop-place
invariant-loop-place g l = l.most ≡ widest (take l.place (map stage_plan l.self.stages.items))
