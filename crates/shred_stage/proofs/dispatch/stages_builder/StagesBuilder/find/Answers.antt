use Rattle.std.proofs.Common.{◌<◌, ◌∙◌, ap, length, rules, arith}
use Rattle.shred_stage.specs.BuilderPlan.{planned}
use Rattle.shred_run.specs.PlanOf.{entry_plan, numbers_of}
use Rattle.shred_stage.specs.StagePlan.{stage_plan}
use Rattle.shred_stage.proofs.Planner.Spots.{found_place, none_yet, left_then, mapped_read}
use Rattle.shred_stage.proofs.dispatch.stages_builder.StagesBuilder.find.Goals as goal
use Rattle.shred_stage.proofs.dispatch.stages_builder.StagesBuilder.find.Goals.{then-start-place+in_default, else-start-place}

pub returns-in-Some : goal.returns-in-Some
returns-in-Some g c =
    let within : c.loop-place.place < length c.args.self.now.stages.items = search rules in
    let at = mapped_read stage_plan c.args.self.now.stages.items c.loop-place.place c.index-stage.result.now within c.index-stage.ensures in
    found_place (planned c.args.self.now) c.args.self.now.barrier c.args.start (numbers_of c.args.left.items) (numbers_of c.as_slice.result.now) (entry_plan c.args.entry.now) c.loop-place.place (stage_plan c.index-stage.result.now) c.in-Some.spot
    c.if-start-place.true c.loop-place.invariant.none_before at (ap numbers_of c.as_slice.ensures ∙ c.loop-place.invariant.left_there) c.in-Some.ensures

pub loop-place-preserved : goal.loop-place-preserved
loop-place-preserved g c =
    let within : c.loop-place.place < length c.args.self.now.stages.items = search rules in
    let at = mapped_read stage_plan c.args.self.now.stages.items c.loop-place.place c.index-stage.result.now within c.index-stage.ensures in
    record {
      none_before = elim c.if-start-place.branch [
        | then-start-place+in_default w ↦
            none_yet (planned c.args.self.now) c.args.self.now.barrier c.args.start (numbers_of c.args.left.items) (numbers_of w.as_slice.result.now) (entry_plan c.args.entry.now) c.loop-place.place (stage_plan c.index-stage.result.now)
            c.loop-place.invariant.none_before at (ap numbers_of w.as_slice.ensures ∙ c.loop-place.invariant.left_there) (λ le. w.in_default.ensures)
        | else-start-place w ↦
            none_yet (planned c.args.self.now) c.args.self.now.barrier c.args.start (numbers_of c.args.left.items) (numbers_of c.loop-place.left.items) (entry_plan c.args.entry.now) c.loop-place.place (stage_plan c.index-stage.result.now)
            c.loop-place.invariant.none_before at c.loop-place.invariant.left_there (λ le. absurd (omega (arith, le, w.if-start-place.false)))
      ];
      left_there = left_then (planned c.args.self.now) c.args.self.now.barrier (numbers_of c.args.left.items) (numbers_of c.loop-place.left.items) (numbers_of c.take_ids.new.left.items) c.loop-place.place (stage_plan c.index-stage.result.now)
          c.loop-place.auto.place at c.loop-place.invariant.left_there c.take_ids.ensures;
    }
