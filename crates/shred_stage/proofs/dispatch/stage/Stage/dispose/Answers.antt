use Rattle.shred_run.proofs.Inner.{groups-nest}
use Rattle.shred_world.specs.Worlds.{world_held}
use Rattle.shred_stage.proofs.Runs.Setups.{stage-disposed}
use Rattle.shred_stage.proofs.dispatch.stage.Stage.dispose.Goals as goal
use Rattle.shred_run.specs.Depths.{lists_of}

pub dispose_of_groups-requires : goal.dispose_of_groups-requires
dispose_of_groups-requires g c = groups-nest (lists_of g.S.System g.C.BatchController) c.args.self.groups.items c.args.self.own_lists

pub returns : goal.returns
returns g c = stage-disposed g.S.System.disposes c.args.self (world_held g.V.ResourceValue.kind_of c.args.world.now) (world_held g.V.ResourceValue.kind_of c.dispose_of_groups.new.world) c.dispose_of_groups.result c.dispose_of_groups.ensures
