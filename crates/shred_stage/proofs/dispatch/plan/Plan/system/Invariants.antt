use Rattle.std.proofs.Common.{◌≡◌, drop}
use Rattle.shred_stage.specs.Lookups.{first_given, stage_system}
use Rattle.shred_stage.proofs.dispatch.plan.Plan.system.Given as goal

abbrev pub invariant-loop-stage : goal.invariant-loop-stage
invariant-loop-stage g l = first_given (stage_system l.id.0) l.self.stages.items ≡ first_given (stage_system l.id.0) (drop l.stage-index l.self.stages.items)
