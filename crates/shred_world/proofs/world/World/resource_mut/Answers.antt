use Rattle.std.proofs.Common.{rules}
use Rattle.shred_world.proofs.world.World.resource_mut.Goals as goal

pub returns : goal.returns
returns g c = search rules
