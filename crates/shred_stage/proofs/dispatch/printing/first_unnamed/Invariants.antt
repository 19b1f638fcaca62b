use Rattle.std.proofs.Common.{◌≡◌, drop}
use Rattle.std.specs.List.{flat_map}
use Rattle.shred_model.specs.Plan.{plan_ids, stage_ids}
use Rattle.shred_stage.specs.Names.{first_unnamed, named_ids}
use Rattle.shred_stage.specs.StagePlan.{plan_of}
use Rattle.shred_stage.proofs.dispatch.printing.first_unnamed.Given as goal

abbrev pub invariant-loop-place : goal.invariant-loop-place
invariant-loop-place g l = first_unnamed (named_ids l.names) (flat_map stage_ids (drop l.place (plan_of l.stages.items))) ≡ first_unnamed (named_ids l.names) (plan_ids (plan_of l.stages.items))
