use Rattle.std.proofs.Common.{◌≡◌, drop}
use Rattle.std.specs.List.{flat_map}
use Rattle.shred_model.specs.Plan.{group_ids, stage_ids}
use Rattle.shred_stage.specs.Names.{first_unnamed, named_ids}
use Rattle.shred_stage.specs.StagePlan.{stage_plan}
use Rattle.shred_stage.proofs.dispatch.printing.first_unnamed_in.Given as goal

abbrev pub invariant-loop-place : goal.invariant-loop-place
invariant-loop-place g l = first_unnamed (named_ids l.names) (flat_map group_ids (drop l.place (stage_plan l.stage))) ≡ first_unnamed (named_ids l.names) (stage_ids (stage_plan l.stage))
