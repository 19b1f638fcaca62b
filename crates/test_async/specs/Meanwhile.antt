-- Asynchronous dispatchers whose plan sets the count.
use Rattle.std.specs.Prelude.{◌≡◌, [], ◌∷◌, Some, Ok, Err, pos}
use Rattle.shred.specs.Dispatchers.{dispatcher_locals}
use Rattle.shred.specs.declared.dispatch.dispatcher.Dispatcher.{Dispatcher}
use Rattle.shred.specs.AsyncState.{AsyncState, home, lost, out}
use Rattle.shred.specs.AsyncRuns.{Over, PlanRan}
use Rattle.shred_run.specs.declared.no_batch.NoBatch.{NoBatch}
use Rattle.shred_table.specs.declared.id.Kind.{Kind}
use Rattle.shred_world.specs.declared.world.view.DataError.{DataError}
use Rattle.example_systems.specs.OneSystem.{SetsToSeven, count_at}
use Rattle.example_systems.specs.WithoutBatches.{without_batches}
use Rattle.example_systems.specs.declared.one_system.SetToSeven.{SetToSeven}
use Rattle.example_systems.specs.declared.one_system.Value.{Value}
use Rattle.example_systems.specs.declared.one_system.Value.TheVariants.{Count}

-- the kind of every value
abbrev pub kind_of : Value → Kind
kind_of value = record { 0 = 0 }

module _ {L A M B : Type 0} {vd : _} {sd : _} {ad : _} {cd : _} {bd : _} where
  -- It is home with nothing untold and without thread-local systems, and each run of its plan that is Done leaves 7 as the count.
  abbrev pub LeavesSeven : AsyncState (Over Value (Dispatcher Value SetToSeven (NoBatch DataError) L DataError A M B vd sd ad cd bd)) DataError → Type 0
  LeavesSeven (home x (Ok none)) = (dispatcher_locals x.dispatcher ≡ [])
      × ((y : Over Value (Dispatcher Value SetToSeven (NoBatch DataError) L DataError A M B vd sd ad cd bd)) → PlanRan kind_of (without_batches (λ system. []) (λ system. count_at ∷ []) SetsToSeven) x (Ok tt) y → y.values count_at ≡ Some (Count (record { 0 = pos 7 })))
  LeavesSeven (home x (Err refusal)) = ⊥
  LeavesSeven (out x) = ⊥
  LeavesSeven lost = ⊥
