-- What the calls of an asynchronous dispatcher do, of which its systems and controllers tell how.
use Rattle.std.specs.Borrow.{Bor, MutBor}
use Rattle.std.specs.Prelude.{Result}
use Rattle.shred_table.specs.declared.resource.ResourceValue as values
use Rattle.shred_world.specs.declared.world.World.{World}
use Rattle.shred_world.specs.Worlds.{world_held}
use Rattle.shred_run.specs.Depths.{steps_of}
use Rattle.shred_run.specs.Steps.{Step}
use Rattle.shred_run.specs.WorkSetups.{setups_of}
use Rattle.shred_run.specs.declared.controller.BatchController as controllers
use Rattle.shred_run.specs.declared.system.System as systems
use Rattle.shred.specs.AsyncAnswers.{AsyncAnswer}
use Rattle.shred.specs.AsyncDispatchers.{state_of}
use Rattle.shred.specs.AsyncRuns.{LocalsRan, Over, PlanRan, SetUpOver}
use Rattle.shred.specs.AsyncShown.{JoinsAndShows}
use Rattle.shred.specs.AsyncState.{AsyncState, Joins, OnceJoined}
use Rattle.shred.specs.AsyncSteps.{Dispatches, RunsThen, SetsUp, TellsOr, Waits, WaitsWithoutLocals}
use Rattle.shred.specs.declared.dispatch.async_dispatcher.AsyncDispatcher.{AsyncDispatcher}
use Rattle.shred.specs.declared.dispatch.async_error.AsyncError.{AsyncError}
use Rattle.shred.specs.declared.dispatch.dispatcher.Dispatcher.{Dispatcher}

module _ {V S C L E A B : Type 0} {vd : values.Ghosts V} {sd : systems.Ghosts S V E A} {ad : _} {cd : controllers.Ghosts C V E B} {bd : _} where
  -- it joins the run that is out
  abbrev pub AsyncJoins : AsyncDispatcher V S C L E A B vd sd ad cd bd → AsyncDispatcher V S C L E A B vd sd ad cd bd → Type 0
  AsyncJoins old new = Joins (PlanRan vd.kind_of (steps_of sd cd)) (state_of vd.kind_of old) (state_of vd.kind_of new)

  -- it dispatches the plan
  abbrev pub AsyncDispatches : AsyncDispatcher V S C L E A B vd sd ad cd bd → AsyncAnswer E → AsyncDispatcher V S C L E A B vd sd ad cd bd → Type 0
  AsyncDispatches old answer new = Dispatches (PlanRan vd.kind_of (steps_of sd cd)) (state_of vd.kind_of old) answer (state_of vd.kind_of new)

  -- it waits for the plan alone
  abbrev pub AsyncWaitsWithoutLocals : AsyncDispatcher V S C L E A B vd sd ad cd bd → AsyncAnswer E → AsyncDispatcher V S C L E A B vd sd ad cd bd → Type 0
  AsyncWaitsWithoutLocals old answer new = WaitsWithoutLocals (PlanRan vd.kind_of (steps_of sd cd)) (state_of vd.kind_of old) answer (state_of vd.kind_of new)

  -- it waits for the plan, and runs the thread-local systems by their own relation
  abbrev pub AsyncWaits : Step V L E → AsyncDispatcher V S C L E A B vd sd ad cd bd → AsyncAnswer E → AsyncDispatcher V S C L E A B vd sd ad cd bd → Type 0
  AsyncWaits runs old answer new = Waits (PlanRan vd.kind_of (steps_of sd cd)) (LocalsRan vd.kind_of runs) (state_of vd.kind_of old) answer (state_of vd.kind_of new)

  -- joined, it tells what is untold, or runs the thread-local systems
  abbrev pub AsyncRunsLocals : Step V L E → AsyncDispatcher V S C L E A B vd sd ad cd bd → AsyncAnswer E → AsyncDispatcher V S C L E A B vd sd ad cd bd → Type 0
  AsyncRunsLocals runs old answer new = OnceJoined (TellsOr (RunsThen (LocalsRan vd.kind_of runs))) (state_of vd.kind_of old) answer (state_of vd.kind_of new)

  -- it joins, and sets up what is there, the thread-local systems by their own relation
  abbrev pub AsyncSetsUp : Step V L E → AsyncDispatcher V S C L E A B vd sd ad cd bd → AsyncAnswer E → AsyncDispatcher V S C L E A B vd sd ad cd bd → Type 0
  AsyncSetsUp local old answer new = SetsUp (PlanRan vd.kind_of (steps_of sd cd)) (SetUpOver (setups_of sd cd) local) (state_of vd.kind_of old) answer (state_of vd.kind_of new)

  -- it joins, and shows the world of where it then is
  abbrev pub AsyncShows : {F : Type 0} → AsyncDispatcher V S C L E A B vd sd ad cd bd → Result (Bor (World V)) (AsyncError F) → Type 0
  AsyncShows old answer = (joined : AsyncState (Over V (Dispatcher V S C L E A E B vd sd ad cd bd)) E) × JoinsAndShows (λ world. world_held vd.kind_of world.now) (PlanRan vd.kind_of (steps_of sd cd)) (state_of vd.kind_of old) answer joined

  -- it joins, and lends the world of where it then is
  abbrev pub AsyncLends : {F : Type 0} → AsyncDispatcher V S C L E A B vd sd ad cd bd → Result (MutBor (World V)) (AsyncError F) → Type 0
  AsyncLends old answer = (joined : AsyncState (Over V (Dispatcher V S C L E A E B vd sd ad cd bd)) E) × JoinsAndShows (λ world. world_held vd.kind_of world.now) (PlanRan vd.kind_of (steps_of sd cd)) (state_of vd.kind_of old) answer joined
