use Rattle.shred_stage.specs.Names.{named_ids}
use Rattle.shred_stage.specs.Printed.{plan_text}
use Rattle.shred_stage.specs.StagePlan.{plan_of}
use Rattle.shred_stage.proofs.Names.Sinks.{put-stops, put-then}
use Rattle.shred_stage.proofs.dispatch.printing.put_with_end.Goals as goal

pub returns-in-Err : goal.returns-in-Err
returns-in-Err g c =
    put-stops (g.W.PlanSink.told c.args.sink.now) (g.W.PlanSink.told c.put_plan.new.sink) (g.W.PlanSink.failures c.args.sink.now) (g.W.PlanSink.failures c.put_plan.new.sink) (plan_text (named_ids c.args.names.now) (plan_of c.args.stages.now.items)) c.args.end.now
    c.in-Err.e c.in-Err.e c.in-Err.ensures

pub returns : goal.returns
returns g c =
    put-then (g.W.PlanSink.told c.args.sink.now) (g.W.PlanSink.told c.put_plan.new.sink) (g.W.PlanSink.told c.put_all.new.sink) (g.W.PlanSink.failures c.args.sink.now) (g.W.PlanSink.failures c.put_plan.new.sink) (g.W.PlanSink.failures c.put_all.new.sink)
    (plan_text (named_ids c.args.names.now) (plan_of c.args.stages.now.items)) c.args.end.now c.put_all.result c.in_default.ensures.0 c.in_default.ensures.1 c.put_all.ensures
