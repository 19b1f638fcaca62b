use Rattle.shred_stage.specs.Names.{named_ids}
use Rattle.shred_stage.specs.StagePlan.{plan_of}
use Rattle.shred_stage.specs.Printed.{stage_text}
use Rattle.shred_stage.proofs.Names.Sinks.{HasPut}
use Rattle.shred_stage.proofs.dispatch.printing.put_stages.Given as goal

abbrev pub invariant-loop-place : goal.invariant-loop-place
invariant-loop-place g l = HasPut g.W.PlanSink.told g.W.PlanSink.failures (stage_text (named_ids l.names)) (plan_of l.stages.items) l.place l.initial.sink l.sink
