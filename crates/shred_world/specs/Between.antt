-- Relations on what is held, as relations on the views and worlds that hold it.
use Rattle.shred_table.specs.declared.id.Kind.{Kind}
use Rattle.shred_world.specs.declared.world.World.{World}
use Rattle.shred_world.specs.declared.world.local.LocalWorld.{LocalWorld}
use Rattle.shred_world.specs.declared.world.view.View.{View}
use Rattle.shred_world.specs.Views.{declared_held}
use Rattle.shred_world.specs.Worked.{Held}
use Rattle.shred_world.specs.Worlds.{local_held, world_held}

module _ {V X A : Type 0} (kind : V → Kind) (relation : X → Held V → A → X → Held V → Type 0) where
  -- the relation leads from what the view shows of the declared ids to what it shows after
  abbrev pub OverView : X → View V → A → X → View V → Type 0
  OverView before old answer after new = relation before (declared_held kind old) answer after (declared_held kind new)

  -- the relation leads from what the world holds to what it holds after
  abbrev pub OverWorld : X → World V → A → X → World V → Type 0
  OverWorld before old answer after new = relation before (world_held kind old) answer after (world_held kind new)

  -- the same of a local world
  abbrev pub OverLocal : X → LocalWorld V → A → X → LocalWorld V → Type 0
  OverLocal before old answer after new = relation before (local_held kind old) answer after (local_held kind new)

-- the relation leads from what the world holds to what it holds after
abbrev pub LeavesWorld : {V A : Type 0} → (V → Kind) → (Held V → A → Held V → Type 0) → World V → A → World V → Type 0
LeavesWorld kind relation old answer new = relation (world_held kind old) answer (world_held kind new)
