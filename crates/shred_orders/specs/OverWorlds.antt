-- Dispatches over worlds, told by the orders in which their steps may come, and two of them side by side.
use Rattle.shred_model.specs.Runs.{Answer}
use Rattle.shred_table.specs.declared.resource.ResourceValue as values
use Rattle.shred_world.specs.declared.world.World.{World}
use Rattle.shred_run.specs.Depths.{lists_of, steps_of}
use Rattle.shred_run.specs.Steps.{Step}
use Rattle.shred_run.specs.declared.controller.BatchController as controllers
use Rattle.shred_run.specs.declared.system.System as systems
use Rattle.shred_stage.specs.Situations.{dispatch_answer}
use Rattle.shred_stage.specs.declared.dispatch.dispatch_error.DispatchError.{DispatchError}
use Rattle.shred.specs.Dispatchers.{dispatcher_over}
use Rattle.shred.specs.FullRuns.{whole_over}
use Rattle.shred.specs.declared.dispatch.dispatcher.Dispatcher.{Dispatcher}
use Rattle.shred_orders.specs.Interleavings.{LeadsInterleaved}
use Rattle.shred_orders.specs.OneEnd.{EndAlike}

module _ {V S C L E A B : Type 0} {vd : values.Ghosts V} {sd : systems.Ghosts S V E A} {ad : _} {cd : controllers.Ghosts C V E B} {bd : _} where
  -- the staged systems were dispatched over the world, and each order in which its groups are interleaved leads to the same end
  abbrev pub DispatchedInterleaved : Dispatcher V S C L E A E B vd sd ad cd bd → World V → Answer (DispatchError E) → Dispatcher V S C L E A E B vd sd ad cd bd → World V → Type 0
  DispatchedInterleaved old before answer new after = LeadsInterleaved vd.kind_of (steps_of sd cd) dispatch_answer (dispatcher_over vd.kind_of old before) answer (dispatcher_over vd.kind_of new after)

  -- both dispatchers were dispatched, each over its world, and where they began the same they ended the same
  abbrev pub DispatchedAlike : Step V L E → (first : Dispatcher V S C L E A E B vd sd ad cd bd) → World V → (second : Dispatcher V S C L E A E B vd sd ad cd bd) → World V → Answer (DispatchError E) × Answer (DispatchError E)
      → (first_after : Dispatcher V S C L E A E B vd sd ad cd bd) → World V → (second_after : Dispatcher V S C L E A E B vd sd ad cd bd) → World V → Type 0
  DispatchedAlike runs first world second other answers first_after left second_after its_left = EndAlike vd.kind_of (steps_of sd cd) (lists_of sd cd) runs
      (whole_over vd.kind_of first world) (whole_over vd.kind_of second other) answers.0 answers.1 (whole_over vd.kind_of first_after left) (whole_over vd.kind_of second_after its_left)
