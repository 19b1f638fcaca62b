-- What a place ends as where the world that is home is lent to be written.
use Rattle.std.specs.Prelude.{◌≡◌, Option, Some, None, OnSome}
use Rattle.std.specs.Borrow.{Fml, LendsSo, MutBor, RattleType}
use Rattle.shred_table.specs.declared.accessor.Accessor as of_accessor
use Rattle.shred_table.specs.declared.resource.ResourceValue as of_value
use Rattle.shred_run.specs.declared.controller.BatchController as of_controller
use Rattle.shred_run.specs.declared.system.System as of_system
use Rattle.shred_world.specs.contracts.world.World.{the_row as world_row}
use Rattle.shred_world.specs.declared.world.World.{World}
use Rattle.shred.specs.contracts.dispatch.async_place.Place.{the_row as place_row}
use Rattle.shred.specs.declared.dispatch.async_place.Place.{Place}
use Rattle.shred.specs.declared.dispatch.async_place.Place.TheVariants.{Home, Lost, Out}

module _ {V S C N A B : Type 0} {vd : _} {sd : _} {ad : _} {cd : _} {bd : _} where
  -- the same place, with another world where one is home
  abbrev pub with_world : Place V S C N A B vd sd ad cd bd → World V → Place V S C N A B vd sd ad cd bd
  with_world (Home h) world = Home (record h { world = world })
  with_world (Out run) world = Out run
  with_world Lost world = Lost

  -- the world that is home is lent, and none where nothing is home
  abbrev pub ShowsHome : Place V S C N A B vd sd ad cd bd → Option (MutBor (World V)) → Type 0
  ShowsHome (Home h) (Some world) = world.now ≡ h.world
  ShowsHome (Home h) None = ⊥
  ShowsHome (Out run) lent = lent ≡ None
  ShowsHome Lost lent = lent ≡ None

module _ (V S C N A B : RattleType) (vd : of_value.Ghosts V.Denot) (sd : of_system.Ghosts S.Denot V.Denot N.Denot A.Denot) (ad : of_accessor.Ghosts A.Denot) (cd : of_controller.Ghosts C.Denot V.Denot N.Denot B.Denot) (bd : of_accessor.Ghosts B.Denot) where
  -- the place ends with the world last written; or as it was, where none is lent
  abbrev pub LendsPlaced : MutBor (place_row V S C N A B vd sd ad cd bd).Denot → Option (MutBor (World V.Denot)) → Fml
  LendsPlaced s r = LendsSo (place_row V S C N A B vd sd ad cd bd) (world_row V) s r
      (λ n w. OnSome r (n ≡ with_world s.now w))
      (λ n. n ≡ s.now)
