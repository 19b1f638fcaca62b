use Rattle.std.proofs.Common.{rules}
use Rattle.shred_world.proofs.world.World.remove_by_id.Goals as goal

pub returns-clause-ok : goal.returns-clause-ok
returns-clause-ok g c = search rules

pub returns-clause-after : goal.returns-clause-after
returns-clause-after g c = search rules
