-- The thread-local systems of a dispatcher.
use Rattle.std.specs.Prelude.{List}
use Rattle.shred_model.specs.Runs.{Answer}
use Rattle.shred_table.specs.declared.id.Kind.{Kind}
use Rattle.shred_world.specs.declared.world.World.{World}
use Rattle.shred_world.specs.declared.world.local.LocalWorld.{LocalWorld}
use Rattle.shred_run.specs.Steps.{Step}
use Rattle.shred_stage.specs.declared.dispatch.dispatch_error.DispatchError.{DispatchError}
use Rattle.shred.specs.LocalRuns.{LocalsRanOver, LocalsSetUpOver}
use Rattle.shred.specs.declared.thread_local.ThreadLocal.{ThreadLocal}

-- the systems, in order
abbrev pub systems_of : {L : Type 0} → ThreadLocal L → List L
systems_of locals = locals.systems.items

module _ {V L E : Type 0} (kind : V → Kind) where
  -- the systems ran over what the local world holds
  abbrev pub ThreadLocalRan : Step V L E → ThreadLocal L → LocalWorld V → Answer (DispatchError E) → ThreadLocal L → LocalWorld V → Type 0
  ThreadLocalRan runs old before answer new after = LocalsRanOver kind runs (systems_of old) before answer (systems_of new) after

  -- they were set up over what the world holds
  abbrev pub ThreadLocalSetUp : Step V L E → ThreadLocal L → World V → Answer (DispatchError E) → ThreadLocal L → World V → Type 0
  ThreadLocalSetUp sets_up old before answer new after = LocalsSetUpOver kind sets_up (systems_of old) before answer (systems_of new) after
