-- What an asynchronous dispatcher ends as where its world is shown or lent to be written.
use Rattle.std.specs.Prelude.{◌≡◌, Result, ⊤}
use Rattle.std.specs.Borrow.{Bor, Fml, LendsSoOk, MutBor, RattleType, follows_so}
use Rattle.std.specs.declared.convert.Infallible.{Infallible}
use mathlib.Core.Option.{none}
use Rattle.shred_table.specs.declared.accessor.Accessor as of_accessor
use Rattle.shred_table.specs.declared.resource.ResourceValue as of_value
use Rattle.shred_run.specs.Depths.{steps_of}
use Rattle.shred_run.specs.declared.controller.BatchController as of_controller
use Rattle.shred_run.specs.declared.system.System as of_system
use Rattle.shred_world.specs.Worlds.{world_held}
use Rattle.shred_world.specs.contracts.world.World.{the_row as world_row}
use Rattle.shred_world.specs.declared.world.World.{World}
use Rattle.shred.specs.declared.dispatch.dispatcher.Dispatcher.{Dispatcher}
use Rattle.shred.specs.AsyncState.{AsyncState}
use Rattle.shred.specs.AsyncRuns.{Over, PlanRan}
use Rattle.shred.specs.AsyncShown.{JoinsAndShows, with_values}
use Rattle.shred.specs.AsyncDispatchers.{state_of}
use Rattle.shred.specs.contracts.dispatch.async_dispatcher.AsyncDispatcher.{the_row as async_row}
use Rattle.shred.specs.declared.dispatch.async_error.AsyncError.{AsyncError}

module _ (V S C L N A B : RattleType) (vd : of_value.Ghosts V.Denot) (sd : of_system.Ghosts S.Denot V.Denot N.Denot A.Denot) (ad : of_accessor.Ghosts A.Denot) (cd : of_controller.Ghosts C.Denot V.Denot N.Denot B.Denot) (bd : of_accessor.Ghosts B.Denot) where
  -- the row of an asynchronous dispatcher
  abbrev pub row_of : RattleType
  row_of = async_row V S C L N A B vd sd ad cd bd

  -- the dispatcher ends joined
  abbrev pub LendsShown : MutBor row_of.Denot → Result (Bor (World V.Denot)) (AsyncError Infallible) → Fml
  LendsShown s r = follows_so row_of row_of s.ghost_name none (λ _ _. ⊤)
      (λ n. JoinsAndShows (λ world. world_held vd.kind_of world.now) (PlanRan vd.kind_of (steps_of sd cd)) (state_of vd.kind_of s.now) r (state_of vd.kind_of n))

  -- the dispatcher ends joined, over what the world last written holds
  abbrev pub LendsJoined : MutBor row_of.Denot → Result (MutBor (World V.Denot)) (AsyncError N.Denot) → Fml
  LendsJoined s r = LendsSoOk row_of (world_row V) s r
      (λ n w. (joined : AsyncState (Over V.Denot (Dispatcher V.Denot S.Denot C.Denot L.Denot N.Denot A.Denot N.Denot B.Denot vd sd ad cd bd)) N.Denot) × JoinsAndShows (λ world. world_held vd.kind_of world.now) (PlanRan vd.kind_of (steps_of sd cd)) (state_of vd.kind_of s.now) r joined × (state_of vd.kind_of n ≡ with_values joined (world_held vd.kind_of w)))
      (λ n. JoinsAndShows (λ world. world_held vd.kind_of world.now) (PlanRan vd.kind_of (steps_of sd cd)) (state_of vd.kind_of s.now) r (state_of vd.kind_of n))
