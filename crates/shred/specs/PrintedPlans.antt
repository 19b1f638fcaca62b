-- The plan of a builder, and that of a dispatcher, printed to a sink.
use Rattle.std.specs.Prelude.{◌++◌, Result}
use Rattle.shred_model.specs.Plan.{plan_ids}
use Rattle.shred_stage.specs.Names.{first_unnamed}
use Rattle.shred_stage.specs.Printed.{line_feed, plan_text}
use Rattle.shred_stage.specs.Prints.{PrintsPlan}
use Rattle.shred_stage.specs.declared.dispatch.printing.PrintError.{PrintError}
use Rattle.shred_stage.specs.declared.dispatch.sink.PlanSink as sinks
use Rattle.shred.specs.Builders.{builder_pairs, built}
use Rattle.shred.specs.Dispatchers.{dispatcher_plan}
use Rattle.shred.specs.SystemNames.{names_pairs}
use Rattle.shred.specs.declared.dispatch.builder.DispatcherBuilder.{DispatcherBuilder}
use Rattle.shred.specs.declared.dispatch.dispatcher.Dispatcher.{Dispatcher}
use Rattle.shred.specs.declared.dispatch.names.SystemNames.{SystemNames}

module _ {W V S C L N A M B : Type 0} {vd : _} {sd : _} {ad : _} {cd : _} {bd : _} (sink : sinks.Ghosts W) where
  -- the first id of the builder's plan without a name is answered, and the sink stays; where all have names, the plan's text and a line feed are put
  abbrev pub PrintsBuilder : DispatcherBuilder V S C L N A M B vd sd ad cd bd → (old new : W) → Result (Unit {0}) PrintError → Type 0
  PrintsBuilder builder old new answer = PrintsPlan sink.told sink.failures old new (first_unnamed (builder_pairs builder) (plan_ids (built builder).plan)) (plan_text (builder_pairs builder) (built builder).plan ++ line_feed) answer

  -- so it is of a dispatcher's plan with these names
  abbrev pub PrintsDispatcher : Dispatcher V S C L N A M B vd sd ad cd bd → SystemNames → (old new : W) → Result (Unit {0}) PrintError → Type 0
  PrintsDispatcher dispatcher names old new answer = PrintsPlan sink.told sink.failures old new (first_unnamed (names_pairs names) (plan_ids (dispatcher_plan dispatcher))) (plan_text (names_pairs names) (dispatcher_plan dispatcher) ++ line_feed) answer
