use Rattle.shred_world.specs.Bundles.{SetupBoth}
use Rattle.shred_world.specs.Worlds.{world_held}
use Rattle.shred_world.proofs.Bundles.Both.{setup_both}
use Rattle.shred_world.proofs.world.tuples.Tuple5SystemData.setup.Goals as goal

pub returns : goal.returns
returns g c =
    let kind = g.V.ResourceValue.kind_of in
    setup_both (SetupBoth (SetupBoth g.A.SystemData.sets_up g.B.SystemData.sets_up) g.C.SystemData.sets_up) (SetupBoth g.D.SystemData.sets_up g.E.SystemData.sets_up) (world_held kind c.args.world.now) (world_held kind c.setup.new.world) _ _ _ c.in_default.is c.setup.ensures c.setup-2.ensures
