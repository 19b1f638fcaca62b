use Rattle.std.proofs.Common.{take}
use Rattle.shred_table.specs.Id.{same_id}
use Rattle.shred_run.specs.PlanOf.{entry_access, groups_plan, numbers_of}
use Rattle.shred_stage.specs.Search.{TouchedIs}
use Rattle.shred_run.specs.Touching.{is_touched}
use Rattle.shred_stage.proofs.dispatch.stage.Stage.touched.Given as goal

abbrev pub invariant-loop-place : goal.invariant-loop-place
invariant-loop-place g l = TouchedIs (is_touched same_id (numbers_of l.left) (entry_access l.entry)) (groups_plan (take l.place l.self.groups.items)) l.touched
