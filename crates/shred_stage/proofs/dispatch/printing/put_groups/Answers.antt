use Rattle.std.proofs.Common.{◌≡◌, ◌<◌, [], length, Some, arith}
use Rattle.std.specs.List.{slice_get}
use Rattle.std.specs.Prelude.{slice_index_or}
use Rattle.std.proofs.lemmas.Option.{slice_get-get_or}
use Rattle.shred_stage.specs.Names.{named_ids}
use Rattle.shred_stage.specs.Printed.{group_text}
use Rattle.shred_stage.specs.StagePlan.{stage_plan}
use Rattle.shred_stage.proofs.Names.Sinks.{HasPut, put-stop}
use Rattle.shred_stage.proofs.dispatch.printing.put_groups.Goals as goal

pub returns-in-Err : goal.returns-in-Err
returns-in-Err g c =
    let stage = stage_plan c.args.stage.now in
    let place = c.loop-place.place in
    let within : place < length stage = omega (arith, c.loop-place-test.true, c.max_threads-place-end.ensures) in
    let at : slice_get stage place ≡ Some (slice_index_or stage place []) = slice_get-get_or stage place [] within in
    let so_far : HasPut g.W.PlanSink.told g.W.PlanSink.failures (group_text (named_ids c.args.names.now)) stage place c.args.sink.now c.loop-place.sink = record { so_far = c.loop-place.invariant.so_far; no_failure = c.loop-place.invariant.no_failure } in
    put-stop so_far at c.put_group.new.sink c.in-Err.e c.in-Err.e (rw c.in-Some.ensures.ids at c.in-Err.ensures)
