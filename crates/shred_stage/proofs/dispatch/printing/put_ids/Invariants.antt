use Rattle.shred_stage.specs.Names.{named_ids}
use Rattle.shred_run.specs.PlanOf.{numbers_of}
use Rattle.shred_stage.specs.Printed.{system_line}
use Rattle.shred_stage.proofs.Names.Sinks.{HasPut}
use Rattle.shred_stage.proofs.dispatch.printing.put_ids.Given as goal

abbrev pub invariant-loop-id : goal.invariant-loop-id
invariant-loop-id g l = HasPut g.W.PlanSink.told g.W.PlanSink.failures (system_line (named_ids l.names)) (numbers_of l.ids) l.id-index l.initial.sink l.sink
