use Rattle.std.proofs.Common.{◌<◌, ◌≤◌, ◌∙◌, sym, length, rules, arith}
use Rattle.std.proofs.lemmas.List.{length-map}
use Rattle.shred_table.specs.Id.{same_id}
use Rattle.shred_run.specs.PlanOf.{entry_access}
use Rattle.shred_run.proofs.Groups.{same_id-Agrees}
use Rattle.shred_stage.specs.BuilderPlan.{planned}
use Rattle.shred_stage.specs.StagePlan.{stage_plan}
use Rattle.shred_stage.proofs.Planner.SearchStart.{start_here, start_stays, start-all}
use Rattle.shred_stage.proofs.Planner.Spots.{mapped_read}
use Rattle.shred_stage.proofs.dispatch.stages_builder.StagesBuilder.ordered_start.Goals as goal
use Rattle.shred_stage.proofs.dispatch.stages_builder.StagesBuilder.ordered_start.Goals.{then-conflicts, else-conflicts}

pub loop-stage-preserved : goal.loop-stage-preserved
loop-stage-preserved g c =
    let within : c.loop-stage.stage < length c.args.self.now.stages.items = search rules in
    let at = mapped_read stage_plan c.args.self.now.stages.items c.loop-stage.stage c.index.result.now within c.index.ensures in
    elim c.if-conflicts.branch [
      | then-conflicts w ↦ rw w.start-is (start_here same_id same_id-Agrees (planned c.args.self.now) c.args.self.now.barrier (entry_access c.args.entry.now) c.loop-stage.start c.loop-stage.stage (stage_plan c.index.result.now) c.loop-stage.auto.stage at c.loop-stage.invariant (sym c.conflicts.ensures ∙ w.if-conflicts.true))
      | else-conflicts w ↦ rw w.start-is (start_stays same_id same_id-Agrees (planned c.args.self.now) c.args.self.now.barrier (entry_access c.args.entry.now) c.loop-stage.start c.loop-stage.stage (stage_plan c.index.result.now) c.loop-stage.auto.stage at c.loop-stage.invariant (sym c.conflicts.ensures ∙ w.if-conflicts.false))
    ]

pub returns : goal.returns
returns g c =
    let e = length-map c.args.self.now.stages.items stage_plan in
    let all : length (planned c.args.self.now) ≤ c.loop-stage.stage = omega (arith, e, c.loop-stage-test.false, c.len-stage-end.ensures) in
    start-all (planned c.args.self.now) c.args.self.now.barrier (entry_access c.args.entry.now) c.loop-stage.start c.loop-stage.stage all c.loop-stage.invariant
