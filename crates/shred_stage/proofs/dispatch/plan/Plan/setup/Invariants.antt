use Rattle.std.proofs.Common.{◌≡◌, map}
use Rattle.shred_model.proofs.Joined.InTurn.{TurnsSoFar}
use Rattle.shred_world.specs.Worlds.{world_held}
use Rattle.shred_stage.specs.StagePlan.{stage_plan}
use Rattle.shred_stage.specs.Setups.{StageSetupAt}
use Rattle.shred_run.specs.WorkSetups.{setups_of}
use Rattle.shred_stage.proofs.dispatch.plan.Plan.setup.Given as goal

abbrev pub invariant-loop-place : goal.invariant-loop-place
invariant-loop-place g l = record {
  plan : map stage_plan l.self.stages.items ≡ map stage_plan l.initial.self.stages.items;
  turns : TurnsSoFar (StageSetupAt (setups_of g.S.System g.C.BatchController)) l.place l.initial.self.stages.items (world_held g.V.ResourceValue.kind_of l.initial.world) l.self.stages.items (world_held g.V.ResourceValue.kind_of l.world);
}
