-- What an asynchronous dispatcher has at home, and what its runs and its setup make of that.
use Rattle.std.specs.Prelude.{◌≡◌}
use Rattle.shred_model.specs.Runs.{Answer}
use Rattle.shred_table.specs.declared.id.Kind.{Kind}
use Rattle.shred_world.specs.Worked.{Held}
use Rattle.shred_run.specs.Alone.{KeepsKinds}
use Rattle.shred_run.specs.Depths.{Related}
use Rattle.shred_run.specs.Dispatched.{Dispatched}
use Rattle.shred_run.specs.Steps.{Step}
use Rattle.shred_run.specs.WorkSetups.{Setups}
use Rattle.shred_stage.specs.Situations.{dispatch_answer}
use Rattle.shred_stage.specs.declared.dispatch.dispatch_error.DispatchError.{DispatchError}
use Rattle.shred.specs.Dispatchers.{dispatcher_locals, dispatcher_with, dispatcher_workers}
use Rattle.shred.specs.FullRuns.{whole_with}
use Rattle.shred.specs.LocalRuns.{LocalsRun}
use Rattle.shred.specs.Setups.{IsSetUp}
use Rattle.shred.specs.declared.dispatch.dispatcher.Dispatcher.{Dispatcher}

-- A dispatcher, with all that stands in its plan and its thread-local systems, over the values that a world holds.
pub record Over (V D : Type 0) : Type 0 where
  pub dispatcher : D
  pub values : Held V

module _ {V S C L E N A M B : Type 0} {vd : _} {sd : _} {ad : _} {cd : _} {bd : _} where
  -- The plan was dispatched over the values; the thread-local systems stay, and the number of threads.
  pub record PlanRan (kind : V → Kind) (related : Related V S C E) (before : Over V (Dispatcher V S C L N A M B vd sd ad cd bd)) (answer : Answer (DispatchError E)) (after : Over V (Dispatcher V S C L N A M B vd sd ad cd bd)) : Type 0 where
    pub dispatched : Dispatched kind related dispatch_answer (dispatcher_with before.dispatcher before.values) answer (dispatcher_with after.dispatcher after.values)
    pub locals : dispatcher_locals after.dispatcher ≡ dispatcher_locals before.dispatcher
    pub workers : dispatcher_workers after.dispatcher ≡ dispatcher_workers before.dispatcher

  -- The thread-local systems ran over the values, one after the other, up to the first that is not Done, and kept the ids and the kinds; the plan stays with all that stands in it, and the number of threads.
  pub record LocalsRan (kind : V → Kind) (runs : Step V L E) (before : Over V (Dispatcher V S C L N A M B vd sd ad cd bd)) (answer : Answer (DispatchError E)) (after : Over V (Dispatcher V S C L N A M B vd sd ad cd bd)) : Type 0 where
    pub run : LocalsRun kind runs (dispatcher_locals before.dispatcher) before.values answer (dispatcher_locals after.dispatcher) after.values
    pub kinds : KeepsKinds kind before.values after.values
    pub plan : after.dispatcher.plan ≡ before.dispatcher.plan
    pub workers : dispatcher_workers after.dispatcher ≡ dispatcher_workers before.dispatcher

  -- the dispatcher was set up over the values
  abbrev pub SetUpOver : Setups V S C E → Step V L E → Over V (Dispatcher V S C L N A M B vd sd ad cd bd) → Answer (DispatchError E) → Over V (Dispatcher V S C L N A M B vd sd ad cd bd) → Type 0
  SetUpOver setups local before answer after = IsSetUp setups local (whole_with before.dispatcher before.values) answer (whole_with after.dispatcher after.values)
