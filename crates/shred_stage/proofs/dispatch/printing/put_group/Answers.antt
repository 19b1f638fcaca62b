use Rattle.std.proofs.Common.{◌++◌}
use Rattle.std.specs.List.{flat_map}
use Rattle.std.specs.Prelude.{codes}
use Rattle.shred_stage.specs.Names.{named_ids}
use Rattle.shred_run.specs.PlanOf.{numbers_of}
use Rattle.shred_stage.specs.Printed.{tab, line_feed, system_line}
use Rattle.shred_stage.proofs.Names.Sinks.{put-stops, put-stops-within, put-three}
use Rattle.shred_stage.proofs.dispatch.printing.put_group.Goals as goal

pub returns-in-Err : goal.returns-in-Err
returns-in-Err g c = put-stops (g.W.PlanSink.told c.args.sink.now) (g.W.PlanSink.told c.put_all.new.sink) (g.W.PlanSink.failures c.args.sink.now) (g.W.PlanSink.failures c.put_all.new.sink) (tab ++ tab ++ codes "seq![" ++ line_feed) (flat_map (system_line (named_ids c.args.names.now)) (numbers_of c.args.ids.now) ++ (tab ++ tab ++ codes "]," ++ line_feed)) c.in-Err.e c.in-Err.e c.in-Err.ensures

pub returns-in-Err-put_ids : goal.returns-in-Err-put_ids
returns-in-Err-put_ids g c =
    put-stops-within (g.W.PlanSink.told c.args.sink.now) (g.W.PlanSink.told c.put_all.new.sink) (g.W.PlanSink.told c.put_ids.new.sink) (g.W.PlanSink.failures c.args.sink.now) (g.W.PlanSink.failures c.put_all.new.sink) (g.W.PlanSink.failures c.put_ids.new.sink) (tab ++ tab ++ codes "seq![" ++ line_feed) (flat_map (system_line (named_ids c.args.names.now)) (numbers_of c.args.ids.now)) (tab ++ tab ++ codes "]," ++ line_feed)
    c.in-Err-put_ids.e c.in-Err-put_ids.e c.in_default.ensures.0 c.in_default.ensures.1 c.in-Err-put_ids.ensures

pub returns : goal.returns
returns g c =
    put-three (g.W.PlanSink.told c.args.sink.now) (g.W.PlanSink.told c.put_all.new.sink) (g.W.PlanSink.told c.put_ids.new.sink) (g.W.PlanSink.told c.put_all-2.new.sink) (g.W.PlanSink.failures c.args.sink.now) (g.W.PlanSink.failures c.put_all.new.sink) (g.W.PlanSink.failures c.put_ids.new.sink) (g.W.PlanSink.failures c.put_all-2.new.sink) (tab ++ tab ++ codes "seq![" ++ line_feed) (flat_map (system_line (named_ids c.args.names.now)) (numbers_of c.args.ids.now)) (tab ++ tab ++ codes "]," ++ line_feed)
    c.put_all-2.result c.in_default.ensures c.in_default-put_ids.ensures c.put_all-2.ensures
