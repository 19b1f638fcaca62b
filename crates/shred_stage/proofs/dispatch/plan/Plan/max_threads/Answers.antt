use Rattle.std.proofs.Common.{arith}
use Rattle.shred_stage.specs.StagePlan.{stage_plan}
use Rattle.shred_stage.proofs.Planner.Widest.{widest-more}
use Rattle.shred_stage.proofs.dispatch.plan.Plan.max_threads.Goals as goal

pub loop-place-preserved : goal.loop-place-preserved
loop-place-preserved g c =
    widest-more stage_plan c.args.self.now.stages.items c.loop-place.place c.index.result.now c.loop-place.most c.max-most.result (omega (arith, c.loop-place-test.true)) c.index.ensures c.loop-place.invariant
    (rw c.max_threads.ensures at c.max-most.ensures)
