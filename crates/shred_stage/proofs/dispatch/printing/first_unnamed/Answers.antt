use Rattle.std.proofs.Common.{◌<◌, length, arith}
use Rattle.shred_model.specs.Plan.{stage_ids, plan_ids}
use Rattle.shred_stage.specs.Names.{first_unnamed, named_ids}
use Rattle.shred_stage.specs.StagePlan.{plan_of, stage_plan}
use Rattle.shred_stage.proofs.Planner.Spots.{mapped_read}
use Rattle.shred_stage.proofs.Names.Known.{unnamed-next, unnamed-found}
use Rattle.shred_stage.proofs.dispatch.printing.first_unnamed.Goals as goal

pub returns-in-Some : goal.returns-in-Some
returns-in-Some g c =
    let stages = c.args.stages.now.items in
    let place = c.loop-place.place in
    let names = named_ids c.args.names.now in
    let within : place < length stages = omega (arith, c.loop-place-test.true, c.len-place-end.ensures) in
    unnamed-found names stage_ids (plan_of stages) place (stage_plan c.index.result.now) (first_unnamed names (plan_ids (plan_of stages))) c.in-Some.id.0 (mapped_read stage_plan stages place c.index.result.now within c.index.ensures) c.loop-place.invariant
    c.in-Some.ensures

pub loop-place-preserved : goal.loop-place-preserved
loop-place-preserved g c =
    let stages = c.args.stages.now.items in
    let place = c.loop-place.place in
    let names = named_ids c.args.names.now in
    let within : place < length stages = omega (arith, c.loop-place-test.true, c.len-place-end.ensures) in
    unnamed-next names stage_ids (plan_of stages) place (stage_plan c.index.result.now) (first_unnamed names (plan_ids (plan_of stages))) (mapped_read stage_plan stages place c.index.result.now within c.index.ensures) c.loop-place.invariant
    c.in_default.ensures
