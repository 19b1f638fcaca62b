use Rattle.shred_run.specs.declared.entry.SystemId.{SystemId}
use Rattle.shred_stage.proofs.Planner.Spots.{mapped_at}
use Rattle.shred_stage.proofs.Names.Sinks.{put-step, put-stop}
use Rattle.shred_stage.proofs.dispatch.printing.put_ids.Goals as goal

pub returns-in-Err : goal.returns-in-Err
returns-in-Err g c = put-stop c.loop-id.invariant (mapped_at (λ (id : SystemId). id.0) c.args.ids.now c.loop-id.id-index (record { 0 = 0 }) c.loop-id-test.true) c.put_system.new.sink c.in-Err.e c.in-Err.e c.in-Err.ensures

pub loop-id-preserved : goal.loop-id-preserved
loop-id-preserved g c = put-step c.loop-id.invariant (mapped_at (λ (id : SystemId). id.0) c.args.ids.now c.loop-id.id-index (record { 0 = 0 }) c.loop-id-test.true) c.put_system.new.sink c.in_default.ensures.0 c.in_default.ensures.1
