use Rattle.std.proofs.Common.{◌<◌, length, arith}
use Rattle.shred_stage.specs.StagePlan.{stage_plan}
use Rattle.shred_stage.proofs.Planner.Spots.{mapped_read}
use Rattle.shred_stage.proofs.Names.Sinks.{put-step, put-stop}
use Rattle.shred_stage.proofs.dispatch.printing.put_stages.Goals as goal

pub returns-in-Err : goal.returns-in-Err
returns-in-Err g c =
    let within : c.loop-place.place < length c.args.stages.now.items = omega (arith, c.loop-place-test.true) in
    put-stop c.loop-place.invariant (mapped_read stage_plan c.args.stages.now.items c.loop-place.place c.index.result.now within c.index.ensures) c.put_stage.new.sink c.in-Err.e c.in-Err.e c.in-Err.ensures

pub loop-place-preserved : goal.loop-place-preserved
loop-place-preserved g c =
    let within : c.loop-place.place < length c.args.stages.now.items = omega (arith, c.loop-place-test.true) in
    put-step c.loop-place.invariant (mapped_read stage_plan c.args.stages.now.items c.loop-place.place c.index.result.now within c.index.ensures) c.put_stage.new.sink c.in_default.ensures.0 c.in_default.ensures.1
