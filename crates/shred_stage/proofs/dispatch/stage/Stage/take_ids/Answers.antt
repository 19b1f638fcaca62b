use Rattle.std.proofs.Common.{◌≡◌, ◌<◌, [], length, rules}
use Rattle.shred_model.specs.Plan.{group_ids}
use Rattle.shred_run.specs.PlanOf.{group_plan, numbers_of}
use Rattle.shred_run.proofs.Groups.{numbers_of-none}
use Rattle.shred_stage.proofs.Planner.Spots.{left_more, left_none}
use Rattle.shred_stage.proofs.dispatch.stage.Stage.take_ids.Goals as goal

pub returns-then-is_empty : goal.returns-then-is_empty
returns-then-is_empty g c =
    let none : numbers_of c.loop-group.left.items ≡ [] = numbers_of-none c.loop-group.left.items (search rules) in
    left_none group_plan group_ids c.args.self.now.groups.items c.loop-group.group-index (numbers_of c.args.left.now.items) (numbers_of c.loop-group.left.items) c.loop-group.invariant none

pub loop-group-preserved : goal.loop-group-preserved
loop-group-preserved g c =
    let within : c.loop-group.group-index < length c.args.self.now.groups.items = search rules in
    left_more group_plan group_ids c.args.self.now.groups.items c.loop-group.group-index c.group-item.result (numbers_of c.args.left.now.items) (numbers_of c.loop-group.left.items) (numbers_of c.take_ids.new.left.items)
    within (search rules) c.loop-group.invariant c.take_ids.ensures
