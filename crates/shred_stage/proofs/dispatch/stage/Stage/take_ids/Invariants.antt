use Rattle.std.proofs.Common.{◌≡◌, take}
use Rattle.shred_model.specs.Plan.{stage_ids}
use Rattle.shred_run.specs.Left.{difference}
use Rattle.shred_run.specs.PlanOf.{groups_plan, numbers_of}
use Rattle.shred_stage.proofs.dispatch.stage.Stage.take_ids.Given as goal

abbrev pub invariant-loop-group : goal.invariant-loop-group
invariant-loop-group g l = numbers_of l.left.items ≡ difference (numbers_of l.initial.left.items) (stage_ids (groups_plan (take l.group-index l.self.groups.items)))
