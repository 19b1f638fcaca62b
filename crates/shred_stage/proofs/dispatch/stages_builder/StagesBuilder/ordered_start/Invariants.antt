use Rattle.shred_run.specs.PlanOf.{entry_access}
use Rattle.shred_stage.specs.BuilderPlan.{planned}
use Rattle.shred_stage.proofs.Planner.SearchStart.{IsStartSoFar}
use Rattle.shred_stage.proofs.dispatch.stages_builder.StagesBuilder.ordered_start.Given as goal

abbrev pub invariant-loop-stage : goal.invariant-loop-stage
invariant-loop-stage g l = IsStartSoFar (planned l.self) l.self.barrier (entry_access l.entry) l.start l.stage
