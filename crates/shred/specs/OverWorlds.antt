-- What dispatchers do over worlds, of which the systems and controllers tell how.
use Rattle.std.specs.Prelude.{ℕ}
use Rattle.shred_model.specs.Runs.{Answer}
use Rattle.shred_table.specs.declared.resource.ResourceValue as values
use Rattle.shred_world.specs.declared.world.World.{World}
use Rattle.shred_world.specs.Worked.{Held}
use Rattle.shred_world.specs.Worlds.{world_held}
use Rattle.shred_world.specs.declared.world.local.LocalWorld.{LocalWorld}
use Rattle.shred_run.specs.Depths.{steps_of}
use Rattle.shred_run.specs.Dispatched.{Dispatched}
use Rattle.shred_run.specs.Steps.{Outcome, Step}
use Rattle.shred_run.specs.WorkSetups.{setups_of}
use Rattle.shred_run.specs.declared.controller.BatchController as controllers
use Rattle.shred_run.specs.declared.system.System as systems
use Rattle.shred_stage.specs.Situations.{dispatch_answer}
use Rattle.shred_stage.specs.declared.dispatch.dispatch_error.DispatchError.{DispatchError}
use Rattle.shred_stage.specs.declared.dispatch.plan.Plan.{Plan}
use Rattle.shred.specs.declared.dispatch.dispatcher.Dispatcher.{Dispatcher}
use Rattle.shred.specs.declared.dispatch.kept_dispatcher.KeptDispatcher.{KeptDispatcher}
use Rattle.shred.specs.declared.thread_local.ThreadLocal.{ThreadLocal}
use Rattle.shred.specs.Dispatchers.{dispatcher_locals, dispatcher_over, dispatcher_over_local}
use Rattle.shred.specs.FullRuns.{FullyDispatched, RunsNow, whole_of, whole_over, whole_over_local}
use Rattle.shred.specs.LocalRuns.{LocalsRun}
use Rattle.shred.specs.Setups.{IsDisposedOf, IsSetUp}

module _ {V S C L E A B : Type 0} {vd : values.Ghosts V} {sd : systems.Ghosts S V E A} {ad : _} {cd : controllers.Ghosts C V E B} {bd : _} where
  -- the staged systems were dispatched over the world
  abbrev pub StagesDispatched : Dispatcher V S C L E A E B vd sd ad cd bd → World V → Answer (DispatchError E) → Dispatcher V S C L E A E B vd sd ad cd bd → World V → Type 0
  StagesDispatched old before answer new after = Dispatched vd.kind_of (steps_of sd cd) dispatch_answer (dispatcher_over vd.kind_of old before) answer (dispatcher_over vd.kind_of new after)

  -- the same over a local world
  abbrev pub StagesDispatchedLocally : Dispatcher V S C L E A E B vd sd ad cd bd → LocalWorld V → Answer (DispatchError E) → Dispatcher V S C L E A E B vd sd ad cd bd → LocalWorld V → Type 0
  StagesDispatchedLocally old before answer new after = Dispatched vd.kind_of (steps_of sd cd) dispatch_answer (dispatcher_over_local vd.kind_of old before) answer (dispatcher_over_local vd.kind_of new after)

  -- the whole dispatcher was dispatched over the world, its thread-local systems by their own relation
  abbrev pub AllDispatched : Step V L E → Dispatcher V S C L E A E B vd sd ad cd bd → World V → Answer (DispatchError E) → Dispatcher V S C L E A E B vd sd ad cd bd → World V → Type 0
  AllDispatched runs old before answer new after = FullyDispatched vd.kind_of (steps_of sd cd) runs (whole_over vd.kind_of old before) answer (whole_over vd.kind_of new after)

  -- the same over a local world
  abbrev pub AllDispatchedLocally : Step V L E → Dispatcher V S C L E A E B vd sd ad cd bd → LocalWorld V → Answer (DispatchError E) → Dispatcher V S C L E A E B vd sd ad cd bd → LocalWorld V → Type 0
  AllDispatchedLocally runs old before answer new after = FullyDispatched vd.kind_of (steps_of sd cd) runs (whole_over_local vd.kind_of old before) answer (whole_over_local vd.kind_of new after)

  -- the dispatcher ran over the local world, as a system that is told by outcomes
  abbrev pub DispatcherRan : Step V L E → Dispatcher V S C L E A E B vd sd ad cd bd → LocalWorld V → Outcome (DispatchError E) → Dispatcher V S C L E A E B vd sd ad cd bd → LocalWorld V → Type 0
  DispatcherRan runs old before outcome new after = RunsNow vd.kind_of (steps_of sd cd) runs (whole_over_local vd.kind_of old before) outcome (whole_over_local vd.kind_of new after)

  -- the dispatcher was set up over the world, its thread-local systems by their own relation
  abbrev pub DispatcherSetUp : Step V L E → Dispatcher V S C L E A E B vd sd ad cd bd → World V → Answer (DispatchError E) → Dispatcher V S C L E A E B vd sd ad cd bd → World V → Type 0
  DispatcherSetUp local old before answer new after = IsSetUp (setups_of sd cd) local (whole_over vd.kind_of old before) answer (whole_over vd.kind_of new after)

  -- the dispatcher was disposed of over the world, its thread-local systems by their own relation
  abbrev pub DispatcherDisposed : (L → Held V → Outcome E → Held V → Type 0) → Dispatcher V S C L E A E B vd sd ad cd bd → World V → Answer (DispatchError E) → World V → Type 0
  DispatcherDisposed local old before answer after = IsDisposedOf sd.disposes local (whole_over vd.kind_of old before) answer (world_held vd.kind_of after)

  -- the plan was set up over the world, and then the thread-local systems, whatever the number of threads
  abbrev pub BothSetUp : Step V L E → Plan V S C E A E B vd sd ad cd bd → ThreadLocal L → World V → Answer (DispatchError E) → Plan V S C E A E B vd sd ad cd bd → ThreadLocal L → World V → Type 0
  BothSetUp local plan locals before answer left others after = (workers : ℕ) → IsSetUp (setups_of sd cd) local (whole_of plan locals workers (world_held vd.kind_of before)) answer (whole_of left others workers (world_held vd.kind_of after))

module _ {V S C L E N A M B : Type 0} {vd : values.Ghosts V} {sd : _} {ad : _} {cd : _} {bd : _} where
  -- the thread-local systems ran over the world
  abbrev pub LocalsDispatched : Step V L E → Dispatcher V S C L N A M B vd sd ad cd bd → World V → Answer (DispatchError E) → Dispatcher V S C L N A M B vd sd ad cd bd → World V → Type 0
  LocalsDispatched runs old before answer new after = LocalsRun vd.kind_of runs (dispatcher_locals old) (world_held vd.kind_of before) answer (dispatcher_locals new) (world_held vd.kind_of after)

module _ {R V S C L E A B : Type 0} {vd : values.Ghosts V} {sd : systems.Ghosts S V E A} {ad : _} {cd : controllers.Ghosts C V E B} {bd : _} where
  -- the staged systems of a dispatcher with kept workers were dispatched over the world
  abbrev pub KeptStagesDispatched : KeptDispatcher R V S C L E A B vd sd ad cd bd → World V → Answer (DispatchError E) → KeptDispatcher R V S C L E A B vd sd ad cd bd → World V → Type 0
  KeptStagesDispatched old before answer new after = StagesDispatched old.dispatcher before answer new.dispatcher after

  -- all of it was
  abbrev pub AllKeptDispatched : Step V L E → KeptDispatcher R V S C L E A B vd sd ad cd bd → World V → Answer (DispatchError E) → KeptDispatcher R V S C L E A B vd sd ad cd bd → World V → Type 0
  AllKeptDispatched runs old before answer new after = AllDispatched runs old.dispatcher before answer new.dispatcher after

  -- the same over a local world
  abbrev pub AllKeptDispatchedLocally : Step V L E → KeptDispatcher R V S C L E A B vd sd ad cd bd → LocalWorld V → Answer (DispatchError E) → KeptDispatcher R V S C L E A B vd sd ad cd bd → LocalWorld V → Type 0
  AllKeptDispatchedLocally runs old before answer new after = AllDispatchedLocally runs old.dispatcher before answer new.dispatcher after

  -- it was set up over the world
  abbrev pub KeptSetUp : Step V L E → KeptDispatcher R V S C L E A B vd sd ad cd bd → World V → Answer (DispatchError E) → KeptDispatcher R V S C L E A B vd sd ad cd bd → World V → Type 0
  KeptSetUp local old before answer new after = DispatcherSetUp local old.dispatcher before answer new.dispatcher after
