use Rattle.std.proofs.Common.{◌<◌, ◌≤◌, length, arith}
use Rattle.std.proofs.lemmas.List.{length-map}
use Rattle.shred_model.specs.Plan.{group_time}
use Rattle.shred_stage.specs.Placement.{greatest_time}
use Rattle.shred_run.specs.PlanOf.{group_plan, groups_plan}
use Rattle.shred_stage.proofs.Planner.Spots.{group_read, group_time-le-greatest}
use Rattle.shred_stage.proofs.dispatch.stage.Stage.may_end.Goals as goal

pub overflow_sub-result : goal.overflow_sub-result
overflow_sub-result g c =
    let within : c.args.group < length c.args.self.now.groups.items = rw (length-map c.args.self.now.groups.items group_plan) at c.requires in
    let here = group_read c.args.self.now.groups.items c.args.group c.index-group.result.now within c.index-group.ensures in
    let below : group_time (group_plan c.index-group.result.now) ≤ greatest_time (groups_plan c.args.self.now.groups.items) = rw here at (group_time-le-greatest (groups_plan c.args.self.now.groups.items) c.args.group c.requires) in
    omega (arith, below, c.time.ensures.value, c.greatest_time.ensures.value)
