use Rattle.std.proofs.Common.{◌≡◌}
use Rattle.shred_stage.specs.BuilderPlan.{planned}
use Rattle.shred_stage.specs.Placement.{dependencies_left, NoneAdmits}
use Rattle.shred_run.specs.PlanOf.{entry_plan, numbers_of}
use Rattle.shred_stage.proofs.dispatch.stages_builder.StagesBuilder.find.Given as goal

abbrev pub invariant-loop-place : goal.invariant-loop-place
invariant-loop-place g l = record {
  none_before : NoneAdmits (planned l.self) l.self.barrier l.start (numbers_of l.initial.left.items) (entry_plan l.entry) l.place;
  left_there : numbers_of l.left.items ≡ dependencies_left (planned l.self) l.self.barrier (numbers_of l.initial.left.items) l.place;
}
