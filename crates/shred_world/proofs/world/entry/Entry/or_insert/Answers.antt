use Rattle.std.proofs.Common.{rules}
use Rattle.shred_world.proofs.world.entry.Entry.or_insert.Goals as goal

pub returns : goal.returns
returns g c = search rules
