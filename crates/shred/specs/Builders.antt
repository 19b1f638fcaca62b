-- Builders of dispatchers, and what they have come to.
use Rattle.shred_run.specs.declared.work.Nested.{Nested}
use Rattle.shred_run.specs.declared.work.Work.{Work}
use Rattle.std.specs.Prelude.{List}
use Rattle.shred_stage.specs.BuilderPlan.{planned, barrier_of, rule_of, builder_states}
use Rattle.shred.specs.ThreadLocals.{systems_of}
use Rattle.shred.specs.Built.{Built}
use Rattle.shred_stage.specs.Names.{NamedId, names_of, named_ids}
use Rattle.shred.specs.declared.dispatch.builder.DispatcherBuilder.{DispatcherBuilder}

-- what a builder has come to
abbrev pub built : {V S C L N A M B : Type 0} {vd : _} {sd : _} {ad : _} {cd : _} {bd : _} → DispatcherBuilder V S C L N A M B vd sd ad cd bd → Built (Work S (Nested V S C)) L
built builder = record {
  plan = planned builder.stages;
  states = builder_states builder.stages;
  known = names_of builder.names;
  barrier = barrier_of builder.stages;
  rule = rule_of builder.stages;
  next = builder.next;
  locals = systems_of builder.thread_local;
  workers = builder.workers;
}

-- its names, with what they stand for
abbrev pub builder_pairs : {V S C L N A M B : Type 0} {vd : _} {sd : _} {ad : _} {cd : _} {bd : _} → DispatcherBuilder V S C L N A M B vd sd ad cd bd → List NamedId
builder_pairs builder = named_ids builder.names
