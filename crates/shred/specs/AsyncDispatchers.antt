-- The asynchronous state of an asynchronous dispatcher.
use Rattle.std.specs.Prelude.{ℕ}
use Rattle.shred_table.specs.declared.id.Kind.{Kind}
use Rattle.shred_world.specs.Worlds.{world_held}
use Rattle.shred_world.specs.declared.world.World.{World}
use Rattle.shred_stage.specs.declared.dispatch.plan.Plan.{Plan}
use Rattle.shred.specs.declared.dispatch.dispatcher.Dispatcher.{Dispatcher}
use Rattle.shred.specs.declared.thread_local.ThreadLocal.{ThreadLocal}
use Rattle.shred.specs.AsyncState.{AsyncState, home, lost, out}
use Rattle.shred.specs.AsyncRuns.{Over}
use Rattle.shred.specs.declared.dispatch.async_dispatcher.AsyncDispatcher.{AsyncDispatcher}
use Rattle.shred.specs.declared.dispatch.async_place.Place.{Place}
use Rattle.shred.specs.declared.dispatch.async_place.Place.TheVariants.{Home, Lost, Out}

module _ {V S C L N A B : Type 0} {vd : _} {sd : _} {ad : _} {cd : _} {bd : _} (kind : V → Kind) where
  -- the dispatcher of this plan, thread-local systems and number of threads, over what the world holds
  abbrev pub over : Plan V S C N A N B vd sd ad cd bd → ThreadLocal L → ℕ → World V → Over V (Dispatcher V S C L N A N B vd sd ad cd bd)
  over plan locals workers world = record { dispatcher = record { plan = plan; thread_local = locals; workers = workers }; values = world_held kind world }

  -- the state where the world and the plan are at this place
  abbrev pub state_at : ThreadLocal L → ℕ → Place V S C N A B vd sd ad cd bd → AsyncState (Over V (Dispatcher V S C L N A N B vd sd ad cd bd)) N
  state_at locals workers (Home h) = home (over h.plan locals workers h.world) h.untold
  state_at locals workers (Out run) = out (over run.handle.promise.plan.value locals workers run.handle.promise.world.value)
  state_at locals workers Lost = lost

  -- the state of the dispatcher: out, what is there is what the run that goes on was begun over
  abbrev pub state_of : AsyncDispatcher V S C L N A B vd sd ad cd bd → AsyncState (Over V (Dispatcher V S C L N A N B vd sd ad cd bd)) N
  state_of d = state_at d.thread_local d.workers d.place
