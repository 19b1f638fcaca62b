use Rattle.std.proofs.Common.{◌∙◌}
use Rattle.shred_table.specs.Id.{same_id}
use Rattle.shred_run.specs.PlanOf.{entry_plan, numbers_of}
use Rattle.shred_stage.specs.StagePlan.{stage_plan}
use Rattle.shred_run.proofs.Groups.{same_id-Agrees, length-numbers_of}
use Rattle.shred_stage.proofs.Planner.Spots.{spot_when_nothing, spot_when_one, admits_not_between}
use Rattle.shred_stage.proofs.dispatch.stage.Stage.spot_for.Goals as goal

pub returns-in-Nothing : goal.returns-in-Nothing
returns-in-Nothing g c =
    spot_when_nothing same_id same_id-Agrees (numbers_of c.args.left.now) (entry_plan c.args.entry.now) (stage_plan c.args.self.now) c.in-Nothing.ensures
    c.is_empty.result (c.is_empty.ensures ∙ length-numbers_of c.args.left.now) c.then_some.result c.then_some.ensures

pub returns-in-One : goal.returns-in-One
returns-in-One g c =
    spot_when_one same_id same_id-Agrees (numbers_of c.args.left.now) (entry_plan c.args.entry.now) (stage_plan c.args.self.now) c.in-One.group c.in-One.ensures
    c.may_end.result c.may_end.ensures c.then_some-in-One.result c.then_some-in-One.ensures

pub returns-in-Several : goal.returns-in-Several
returns-in-Several g c = admits_not_between same_id same_id-Agrees (numbers_of c.args.left.now) (entry_plan c.args.entry.now) (stage_plan c.args.self.now) c.in-Several.ensures
